-- From a response to its line; and a line's tests, one by one.
use Rattle.std.specs.Prelude as code
use Rattle.std.specs.Prelude.{Some, None}
use Prim.Native.Nat.{ℕ, zero, suc, ◌+◌, ◌%◌, ◌≤◌}
use native.Mathlib.Omega.{arith}
use mathlib.Core.Bool.{Bool, true, false, cond, true≢false}
use mathlib.Core.Path.{◌≡◌, refl, sym, ◌∙◌, ap, subst}
use mathlib.Core.List.{List, [], ◌∷◌, ◌++◌}
use borrow.Author.Tests.{le-leb, leb-true, leb-false, eq-eqb}
use lib.Dec.{leb}
use lib.ListN.{length, get_or, take, drop, replicate, drop_of_length-le}
use Rattle.rules.specs.Bytes.{every}
use Rattle.rules.specs.Lines.{ascii, decimal_to}
use Rattle.rules.specs.Logs.{all}
use Rattle.rules.specs.Refusals.{between}
use Rattle.rules.proofs.Judging.{both}
use Rattle.bench.specs.Responder as bench
use Rattle.bench.specs.Responder.{Responded}
use Rattle.bench.specs.Talk.{is_digit, number_from, digits, number, numbered, line_tests, room_in, space_at, shown, newline, answered, to_line, unended, talk}
use Rattle.std.specs.Prelude.{Ok, Err}
use Rattle.responder.specs.Responding.{Response, Responds}
use Rattle.responder.proofs.Promises.{promises}
use Rattle.text.specs.Written.{put, Put}
use Rattle.bench_line.specs.Answered.{room_of, room_behind, told, Reads, Asks, Answers, Wrote}
use Rattle.bench_line.proofs.Reading.{turn}

-- What is told of an answer is its line: every refusal is 13.
told_is : {l q before : List ℕ} {r : Response} {area after : List ℕ} → Responds l q before r area after → told r after ≡ shown (bench.respond l q before).response ++ newline
unfolding decimal_to
told_is {l} {q} {before} {r} {area} {after} h = go r h
  where
    go : (x : Response) → Responds l q before x area after → told x after ≡ shown (bench.respond l q before).response ++ newline
    go (Ok (Some n)) k = ap (λ (y : bench.Response). shown y ++ newline) (promises.stands k)
    go (Ok None) k = ap (λ (y : bench.Response). shown y ++ newline) (promises.stands k)
    go (Err e) k =
        let thirteen = (promises.refused-keeps k).0 in
        ap (λ (y : bench.Response). shown y ++ newline) (sym (ap bench.refused thirteen) ∙ promises.stands k)

take-zeros : (k n a : ℕ) → k ≤ n → take k (replicate n a) ≡ replicate k a
take-zeros zero n a h = refl
take-zeros (suc k) zero a h = absurd (omega arith)
take-zeros (suc k) (suc n) a h = ap (λ (l : List ℕ). a ∷ l) (take-zeros k n a (omega arith))

pub served : {l q z : List ℕ} {room : ℕ} {r : Response} {area b before after : List ℕ} {n : ℕ} → z ≡ replicate 4095 0 → room ≤ 4095 → Responds l q (take room z) r area b
    → Put before 0 (told r b) after n → Answers (answered (bench.respond l q (replicate room 0))) before n area after
served {l} {q} {room = room} {before = before} {after = after} {n = n} is h R t =
    let zeros = ap (λ (x : List ℕ). take room x) is ∙ take-zeros room 4095 0 h in
    let x = ap (λ (k : List ℕ). bench.respond l q k) zeros in
    record {
      line = subst (λ (text : List ℕ). Put before 0 text after n) (told_is R ∙ ap (λ (y : Responded). shown y.response ++ newline) x) t;
      store = R.store ∙ ap (λ (y : Responded). y.store) x;
    }

-- A line of which one test fails is no request.
some-fails : (bs : List Bool) (k : ℕ) → get_or bs k true ≡ false → all bs ≡ false
some-fails [] k e = absurd (true≢false e)
some-fails (b ∷ bs) zero e = rw e refl
some-fails (true ∷ bs) (suc k) e = some-fails bs k e
some-fails (false ∷ bs) (suc k) e = refl

module _ (line : List ℕ) where
  -- The number behind the space.
  abbrev numbers : List Bool
  numbers = between 1 4 (length (number line)) ∷ every is_digit (number line) ∷ leb (number_from 0 (number line)) 4095 ∷ []

  behind-is : room_behind (drop (space_at line) line) ≡ cond (numbered line) (cond (all numbers) (Some (number_from 0 (number line))) None) (Some 4095)
  unfolding room_of
  behind-is = go (numbered line) refl
    where
      go : (t : Bool) → numbered line ≡ t → room_behind (drop (space_at line) line) ≡ cond t (cond (all numbers) (Some (number_from 0 (number line))) None) (Some 4095)
      go true e = rw (turn line (space_at line) (omega (arith, leb-true (space_at line + 1) (length line) e)))
      go false e = let none : length line ≤ space_at line = omega (arith, leb-false (space_at line + 1) (length line) e) in rw (drop_of_length-le line none)

  pub no_room : None ≡ room_behind (drop (space_at line) line) → all (line_tests line) ≡ false
  no_room e = some-fails (line_tests line) 3 (go (numbered line) (all numbers) (e ∙ behind-is))
    where
      go : (a b : Bool) → None ≡ cond a (cond b (Some (number_from 0 (number line))) None) (Some 4095) → cond a b true ≡ false
      go true true h = cc
      go true false h = refl
      go false b h = cc

  record Roomed (room : ℕ) : Type 0 where
    pub passes : cond (numbered line) (all numbers) true ≡ true
    pub is : room ≡ room_in line
    pub most : room ≤ 4095

  roomed : {room : ℕ} → Some room ≡ room_behind (drop (space_at line) line) → Roomed room
  roomed {room} e = go (numbered line) refl (all numbers) refl (e ∙ behind-is)
    where
      go : (a : Bool) → numbered line ≡ a → (b : Bool) → all numbers ≡ b → Some room ≡ cond a (cond b (Some (number_from 0 (number line))) None) (Some 4095) → Roomed room
      go true p true q h =
          let same : room ≡ number_from 0 (number line) = cc in
          let few = (both (between 1 4 (length (number line))) _ q).1 in
          let low = (both (leb (number_from 0 (number line)) 4095) true (both (every is_digit (number line)) _ few).1).0 in
          record { passes = rw p q; is = rw p same; most = omega (arith, same, leb-true (number_from 0 (number line)) 4095 low) }
      go true p false q h = cc
      go false p b q h =
          let same : room ≡ 4095 = cc in
          record { passes = rw p refl; is = rw p same; most = omega (arith, same) }

  pub asks : (size : ℕ) (request : List ℕ) {room : ℕ} → length (digits line) % 2 ≡ 0 → length (digits line) ≤ 8190 → Reads (digits line) (Some size) request
      → Some room ≡ room_behind (drop (space_at line) line) → Asks line (Some (record { size = size; room = room })) request
  asks size request even short read e =
      let m = roomed e in
      (rw (eq-eqb _ _ even, le-leb _ _ short, read.0, m.passes), read.1, m.is, m.most)

pub unreadable : (l line : List ℕ) {before after : List ℕ} {n : ℕ} → all (line_tests line) ≡ false → Put before 0 (ascii "badrequest" ++ newline) after n → Answers (to_line l line) before n l after
unreadable l line none p = rw none (record { line = p; store = refl })

-- The whole line, in a buffer that is long enough for every one; and nothing in a shorter one.
module _ (l asked before : List ℕ) where
  pub whole : {u area after : List ℕ} {n : ℕ} → 8191 ≤ length before → u ≡ unended asked → Answers (to_line l u) before n area after → Wrote l asked before (Some n) area after
  unfolding talk put
  whole {area = area} {after = after} {n = n} h is x =
      let yes = le-leb 8191 (length before) h in
      let y = subst (λ (k : List ℕ). Answers (to_line l k) before n area after) is x in
      let text = (to_line l (unended asked)).text in
      let at : 0 + length text ≡ length text = omega arith in
      record {
        answer = rw yes (ap Some (y.line.next ∙ at));
        store = rw yes y.store;
        line = rw yes (y.line.line ∙ ap (λ (k : ℕ). text ++ drop k before) at);
      }

  -- At most one answer fits.
  pub unique : {r r' : code.Option ℕ} {area area' after after' : List ℕ} → Wrote l asked before r area after → Wrote l asked before r' area' after' → (r ≡ r') × (area ≡ area') × (after ≡ after')
  unique h k = (h.answer ∙ sym k.answer, h.store ∙ sym k.store, h.line ∙ sym k.line)
