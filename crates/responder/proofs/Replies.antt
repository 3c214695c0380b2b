-- The reply in the buffer: two pieces, one behind the other; and what a response leaves.
use Prim.Native.Nat.{ℕ, ◌+◌, ◌≤◌, ◌<◌}
use native.Mathlib.Omega.{arith}
use mathlib.Core.Bool.{Bool, true, false, cond}
use mathlib.Core.Path.{◌≡◌, refl, sym, ◌∙◌, ap, ap₂, subst}
use mathlib.Core.Logic.{◌≢◌}
use mathlib.Core.List.{List, ◌++◌}
use borrow.Author.Tests.{le-leb, lt-leb, eqb-true, eqb-false, eq-eqb, ne_eqb}
use lib.Dec.{leb, eqb}
use lib.ListN.{length, get_or, drop, length-append, length-drop}
use lib.Seq.{take-append_seam, drop-append-add, drop-drop}
use Rattle.bench.specs.Responder as bench
use Rattle.bench.specs.Responder.{Responded, refuses, grants, keeps_silent, decision, reply_to, place, stored, response_to, answering, respond}
use Rattle.bench.specs.Stores.{store_of, put}
use Rattle.wire.specs.Buffers.{with}
use Rattle.responder.specs.declared.Decision.{Decision}
use Rattle.responder.specs.declared.Decision.TheVariants.{Refuse, KeepSilent, Session, Reset, Present, Count, ReadRecord, WriteRecord, ReadMemory}
use Rattle.std.specs.Prelude.{Some, None, Ok, Err}
use Rattle.wire.specs.declared.refusal.Refusal.TheVariants.{ReplyRoom}
use Rattle.wire.specs.Refusing.{numbered}
use Rattle.responder.specs.Decided.{meaning, Unwritten, Decides}
use Rattle.responder.specs.Responding.{Response, answer_to, Puts, Responds}

pub no_room : (bs before : List ℕ) → length before < length bs → Puts bs before (Err ReplyRoom) before
no_room bs before h = record { answer = rw (lt-leb (length bs) (length before) h) refl; buffer = rw (lt-leb (length bs) (length before) h) refl }

-- A piece at the front, and one behind it.
module _ (head rest before : List ℕ) (fits : length head + length rest ≤ length before) where
  abbrev tail : List ℕ
  tail = drop (length head) before

  first : {m : List ℕ} → m ≡ with before 0 head → m ≡ head ++ tail
  unfolding with
  first e =
      let low : 0 + length head ≤ length before = omega arith in
      let at : 0 + length head ≡ length head = omega arith in
      e ∙ rw (le-leb (0 + length head) (length before) low) (ap (λ (k : ℕ). head ++ drop k before) at)

  long : length (head ++ tail) ≡ length before
  long = let a = length-append head tail in let b = length-drop (length head) before in omega arith

  second : {after : List ℕ} → after ≡ with (head ++ tail) (length head) rest → after ≡ head ++ rest ++ drop (length head + length rest) before
  unfolding with
  second e =
      let room : length head + length rest ≤ length (head ++ tail) = omega (arith, long) in
      e ∙
      rw (le-leb (length head + length rest) (length (head ++ tail)) room)
      (ap₂ (λ (x y : List ℕ). x ++ rest ++ y) (take-append_seam head tail) (drop-append-add head tail (length rest) ∙ drop-drop (length rest) (length head) before))

  pub put_two : {m after : List ℕ} → m ≡ with before 0 head → after ≡ with m (length head) rest → Puts (head ++ rest) before (Ok (Some (length head + length rest))) after
  put_two {m} {after} e k =
      let many = length-append head rest in
      let yes = le-leb (length (head ++ rest)) (length before) (omega arith) in
      let stands = second (k ∙ ap (λ (x : List ℕ). with x (length head) rest) (first e)) in
      record {
        answer = rw yes (ap (λ (n : ℕ). Ok (Some n)) (sym many));
        buffer = rw yes (stands ∙ ap (λ (n : ℕ). head ++ rest ++ drop n before) (sym many));
      }

module _ (l q before : List ℕ) where
  -- What is decided, with what it leaves, is the response.
  responds : {r : Response} {area after : List ℕ} (y : bench.Decision) → y ≡ decision (store_of l) q → response_to q y ≡ bench.replied (reply_to q y)
      → Puts (reply_to q y) before r after → area ≡ cond (leb (length (reply_to q y)) (length before)) (stored l q y) l → Responds l q before r area after
  unfolding respond
  responds {r} {area} {after} y e said p s =
      let x = go (leb (length (reply_to q y)) (length before)) p.answer p.buffer s in
      record {
        answer = x.0 ∙ ap (λ (d : bench.Decision). answer_to (answering l q before d).response) e;
        store = x.1 ∙ ap (λ (d : bench.Decision). (answering l q before d).store) e;
        buffer = x.2 ∙ ap (λ (d : bench.Decision). (answering l q before d).buffer) e;
      }
    where
      wrote : Responded
      wrote = bench.responded (response_to q y) (reply_to q y ++ drop (length (reply_to q y)) before) (stored l q y)

      go : (b : Bool) → numbered r ≡ cond b (Ok (Some (length (reply_to q y)))) (Err 13) → after ≡ cond b (reply_to q y ++ drop (length (reply_to q y)) before) before → area ≡ cond b (stored l q y) l →
          let z = cond b wrote (bench.responded (bench.refused 13) before l) in
          (numbered r ≡ answer_to z.response) × (area ≡ z.store) × (after ≡ z.buffer)
      go true h k m = (h ∙ sym (ap answer_to said), m, k)
      go false h k m = (h, m, k)

  -- Everything but a write leaves the store.
  unchanged : get_or q 0 0 ≢ 0x2e → cond (eqb (get_or q 0 0) 0x2e) (put l (place l q) (drop 3 q)) l ≡ l
  unchanged n = rw (ne_eqb (get_or q 0 0) 0x2e n) refl

  left : (d : Decision) → Decides l q d → Unwritten d → stored l q (meaning l q d) ≡ l
  left (Refuse code) D u = refl
  left KeepSilent D u = refl
  left Session D u = unchanged D.writes
  left Reset D u = unchanged D.writes
  left Present D u = unchanged D.writes
  left Count D u = unchanged D.writes
  left (ReadRecord p) D u = unchanged D.writes
  left (WriteRecord at) D u = absurd u
  left (ReadMemory p) D u = unchanged D.writes

  either : (b : Bool) {x : List ℕ} → x ≡ l → l ≡ cond b x l
  either true e = sym e
  either false e = refl

  -- A reply that is no write.
  pub replies : (d : Decision) {bs : List ℕ} {r : Response} {after : List ℕ} → Decides l q d → Unwritten d → response_to q (meaning l q d) ≡ bench.replied (reply_to q (meaning l q d))
      → bs ≡ reply_to q (meaning l q d) → Puts bs before r after → Responds l q before r l after
  replies d {r = r} {after = after} D u said is p =
      responds (meaning l q d) D.means said (subst (λ (b : List ℕ). Puts b before r after) is p)
      (either (leb (length (reply_to q (meaning l q d))) (length before)) (left d D u))

  pub silent : Decides l q KeepSilent → Responds l q before (Ok None) l before
  unfolding respond
  silent D =
      let none : 0 ≤ length before = omega arith in
      let yes = le-leb 0 (length before) none in
      record {
        answer = rw (← D.means, yes) refl;
        store = rw (← D.means, yes) refl;
        buffer = rw (← D.means, yes) refl;
      }

  -- A write: the store has the request's bytes where its positive stands.
  module _ (at : ℕ) (D : Decides l q (WriteRecord at)) where
    abbrev says : List ℕ
    says = reply_to q (meaning l q (WriteRecord at))

    is-write : get_or q 0 0 ≡ 0x2e
    is-write = go (eqb (get_or q 0 0) 0x2e) refl
      where
        go : (b : Bool) → eqb (get_or q 0 0) 0x2e ≡ b → get_or q 0 0 ≡ 0x2e
        go true e = eqb-true (get_or q 0 0) 0x2e e
        go false e = absurd (D.reads (eqb-false (get_or q 0 0) 0x2e e))

    writes-there : {area : List ℕ} → area ≡ with l at (drop 3 q) → area ≡ stored l q (meaning l q (WriteRecord at))
    unfolding with
    writes-there e =
        let w = D.writes is-write in
        e ∙ rw (le-leb (at + length (drop 3 q)) (length l) w.1, eq-eqb (get_or q 0 0) 0x2e is-write) (ap (λ (i : ℕ). put l i (drop 3 q)) w.0)

    -- Its positive has three bytes: there is room for them, or there is not.
    pub written : {r : Response} {area after : List ℕ} → 3 ≤ length before → Puts says before r after → area ≡ with l at (drop 3 q) → Responds l q before r area after
    written room p e = responds (meaning l q (WriteRecord at)) D.means refl p (writes-there e ∙ rw (le-leb 3 (length before) room) refl)

    pub unwritten : length before < 3 → Responds l q before (Err ReplyRoom) l before
    unwritten short = responds (meaning l q (WriteRecord at)) D.means refl (no_room says before short) (rw (lt-leb 3 (length before) short) refl)
