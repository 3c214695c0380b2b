-- The promise, proved.
use Prim.Native.Nat.{ℕ, ◌+◌, ◌≤◌, ◌<◌}
use native.Mathlib.Omega.{arith}
use mathlib.Core.Bool.{Bool, true, false, cond, not, ◌&&◌, false≢true}
use mathlib.Core.Path.{◌≡◌, refl, sym, ◌∙◌, ap, subst, subst⁻¹}
use mathlib.Core.Logic.{◌≢◌}
use mathlib.Core.List.{List, [], ◌∷◌, ◌++◌}
use mathlib.Core.Option.{Option, none, some}
use lib.Dec.{leb, eqb}
use lib.ListN.{length, get_or, take, drop}
use lib.Seq.{take-append_seam}
use borrow.Author.Tests.{leb-true, le-leb, ltb-true, eqb-false, not-true}
use Rattle.rules.specs.After.{after}
use Rattle.rules.specs.Answers.{nowhere, Outcome, positive, suppressed, negative, timeout, pending_limit, disconnected, transport, fault, refused}
use Rattle.rules.specs.Answers.{Answer, answer}
use Rattle.rules.specs.Bytes.{u16_at, every, is_byte}
use Rattle.rules.specs.Calls.{Call, request, session, reset, security, tester_present, read_memory, write_memory, read_identifier, write_identifier, fault_count, routine, download, upload, transfer, transfer_exit, fault_list, sid_of, request_of}
use Rattle.rules.specs.Client.{Result, call, asked, events_in, refuse, answered}
use Rattle.rules.specs.Conversations.{Conversation}
use Rattle.rules.specs.Demand1.{among}
use Rattle.rules.specs.Demand3.{Named, Refused, Answers}
use Rattle.rules.specs.Events.{Form, Event, up_to}
use Rattle.rules.specs.Exchange.{Settled, counted, under, settle, exchange, start}
use Rattle.rules.specs.Iso as Iso
use Rattle.rules.specs.Layouts.{InRange, service}
use Rattle.rules.specs.Lenient.{Deviates}
use Rattle.rules.specs.Refusals.{arguments, refusals}
use Rattle.rules.specs.Settings.{Setting, Lent, Within}
use Rattle.rules.specs.Writing.{Sayable}
use Rattle.rules.proofs.Demand3.{accepted, complete}
use Rattle.rules.proofs.Judging.{Pass, both, judge-pass, judge-inv, judge-ind, pass-append, append-pass}
use Rattle.rules.proofs.Layouts.{layouts}
use Rattle.rules.proofs.Limits.{limits}
use Rattle.rules.proofs.Opened.{byte_at}
use Rattle.bench.specs.Promise.{Served, Taken, sends, decides, responds, Roomy, at_once, lent_by, expected, holds, Asks, InTime, Promise}
use Rattle.bench.specs.Responder.{Row, row_of, checks, Decision, refuses, grants, keeps_silent, judged, decision, reply_to, stored, Response, replied, silent, refused, response_to, Responded, responded, answering, respond}
use Rattle.bench.specs.Stores.{Store, store_of, store_tests, store_ok, SoundStore}
use Rattle.bench.proofs.Bytes.{byte-cons, every-area, part_length}
use Rattle.bench.proofs.Closings.{some-room, Converses, judged-converses}
use Rattle.bench.proofs.Lent.{Good, Sayings, lent-heard, lent-within}
use Rattle.bench.proofs.Shows.{Sound, Shown, shows}
use Rattle.bench.proofs.Tests.{all_hold, every-pass, pass-every, judge-tested}

pub sound : (l : List ℕ) → SoundStore l → Sound (store_of l)
unfolding store_of store_ok
sound l h =
    let long = leb-true 36 (length l) (all_hold (store_tests l) h.laid).0 in
    record {
      mask = byte_at l h.bytes 2;
      format = byte_at l h.bytes 3;
      session = every-area l 4 4 h.bytes;
      four = part_length l 4 4 (omega arith);
      power_down = byte_at l h.bytes 8;
      records = every-area l (u16_at l 24) (u16_at l 22) h.bytes;
      memory = every-area l (u16_at l 28) (u16_at l 26) h.bytes;
    }

-- With room for the reply, the response is what was decided.
pub room-decided : (l q room : List ℕ) → Roomy (respond l q room).response → (respond l q room).response ≡ response_to q (decision (store_of l) q)
unfolding respond
room-decided l q room h = go (leb (length (reply_to q x)) (length room)) h
  where
    x : Decision
    x = decision (store_of l) q

    wrote : Responded
    wrote = responded (response_to q x) (reply_to q x ++ drop (length (reply_to q x)) room) (stored l q x)

    go : (b : Bool) → Roomy (cond b wrote (responded (refused 13) room l)).response → (cond b wrote (responded (refused 13) room l)).response ≡ response_to q x
    go true h = refl
    go false h = absurd h

-- The seven are among the fifteen, and their SIDs are bytes.
named : (c : Call) → Served c → Named c
named c v e = false≢true (subst (λ (n : ℕ). among (1 ∷ 2 ∷ 4 ∷ 5 ∷ 7 ∷ 8 ∷ 9 ∷ []) n ≡ true) e v)

small : (c : Call) → Served c → sid_of c < 256
small (request sid sub d) v = absurd (false≢true v)
small (session sub) v = omega arith
small (reset sub) v = omega arith
small (security sub d) v = omega arith
small tester_present v = omega arith
small (read_memory a z) v = omega arith
small (write_memory a z d) v = omega arith
small (read_identifier id) v = omega arith
small (write_identifier id d) v = omega arith
small (fault_count mask) v = omega arith
small (routine sub id d) v = omega arith
small (download c e a z) v = omega arith
small (upload c e a z) v = omega arith
small (transfer counter d) v = omega arith
small (transfer_exit d) v = omega arith
small (fault_list mask) v = omega arith

-- What is decided of a request that the client builds.
module _ (w : Setting) (c : Call) (l : List ℕ) (v : Served c) (t : Taken c) (ok : SoundStore l) where
  abbrev row : Row
  row = row_of (store_of l) (sends w c)

  shown : Shown (store_of l) w.quiet c row
  shown = shows (store_of l) (sound l ok) w.quiet c v (every-pass (arguments c) t)

  converses-decided : Converses w c (decides w c l)
  unfolding decision
  converses-decided = judged-converses w c row (length (sends w c)) shown.hushes (λ p. shown.positive p.1.1.1.1.0)

  converses : (room : List ℕ) → Roomy (responds w c l room) → Conversation w c (at_once (responds w c l room)) (expected w c (decides w c l))
  converses room h =
      subst⁻¹ (λ (r : Response). Conversation w c (at_once r) (expected w c (decides w c l))) (room-decided l (sends w c) room h) converses-decided

  granted : (head d : List ℕ) → decides w c l ≡ grants head d → Pass (checks row (length (sends w c))) × (grants row.head row.payload ≡ grants head d)
  unfolding decision
  granted head d e =
      let k = judge-inv refuses (checks row (length (sends w c))) (λ f z. no_code f z) e in (k.0, go row.hushed k.1)
    where
      no_code : (f : ℕ) → refuses f ≡ grants head d → ⊥
      no_code f z = let a : ◌≡◌ {A = ℕ} 0 1 = cc in omega arith

      go : (b : Bool) → cond b keeps_silent (grants row.head row.payload) ≡ grants head d → grants row.head row.payload ≡ grants head d
      go true z = let a : ◌≡◌ {A = ℕ} 0 1 = cc in absurd (omega arith)
      go false z = z

  gives : (head d : List ℕ) → decides w c l ≡ grants head d → d ≡ holds (store_of l) c
  gives head d e =
      let k = (granted head d e).1 in
      let same : row.payload ≡ d = cc in
      sym same ∙ shown.held

  positives : (head d : List ℕ) → InRange c → decides w c l ≡ grants head d → Iso.Response (service w c) (head ++ d) d
  positives head d n e =
      let k = granted head d e in
      let h : row.head ≡ head = cc in
      let p : row.payload ≡ d = cc in
      let is_row = shown.positive k.0.1.1.1.1.0 in
      subst (λ (x : List ℕ). Iso.Response (service w c) (x ++ d) d) h
      (subst (λ (x : List ℕ). Iso.Response (service w c) (row.head ++ x) x) p
      ((layouts.positives w c n (row.head ++ row.payload) row.payload (shown.of-bytes n)).0 (row.head, is_row, refl)).0)

  -- What is said is of bytes and at most 4,095 of them.
  good : InRange c → Good (reply_to (sends w c) (decides w c l))
  unfolding decision
  good n =
      judge-tested is_byte (λ x. Good (reply_to (sends w c) x)) refuses (checks row (length (sends w c))) _ refl
      (λ code k. (omega arith, byte-cons (sid_of c) (code ∷ []) (small c v) (byte-cons code [] (ltb-true code 256 k) refl)))
      (λ p. go row.hushed (leb-true (length (row.head ++ row.payload)) 4095 p.1.1.1.1.1.0, shown.of-bytes n))
    where
      go : (b : Bool) → Good (row.head ++ row.payload) → Good (reply_to (sends w c) (cond b keeps_silent (grants row.head row.payload)))
      go true k = (omega arith, refl)
      go false k = k

said-good : (q : List ℕ) (x : Decision) → Good (reply_to q x) → Sayings (response_to q x)
said-good q (refuses code) h = h
said-good q (grants head d) h = h
said-good q keeps_silent h = tt

-- A T that is not earlier changes nothing.
not-cut : (o : Option ℕ) (s : Settled) → Within o s.time → under o s ≡ counted s
not-cut none s h = refl
not-cut (some overall) s h = rw (le-leb s.time overall h) refl

no-deviation : (o : Outcome) → Answers o → ¬ Deviates o
no-deviation (positive p) h z = z
no-deviation suppressed h z = z
no-deviation (negative n) h z = z
no-deviation timeout h z = z
no-deviation pending_limit h z = z
no-deviation disconnected h z = z
no-deviation (transport n) h z = z
no-deviation (fault f) h z = h
no-deviation (refused n) h z = z

-- A list that is within the limits is answered by the conversation that it says.
module _ (w : Setting) (c : Call) (lent : Lent) (n : Named c) (p : Pass (refusals c (sends w c) lent.buffer lent.form lent.events lent.replies)) where
  abbrev ran : Settled
  ran = settle true (asked w c) (events_in lent) (start (asked w c))

  abbrev result : Result
  result = answered w c lent (sends w c) (after true c (exchange true (asked w c) w.overall (events_in lent)))

  run : call true w c lent ≡ result
  unfolding call
  run = judge-pass (refuse w lent) (refusals c (sends w c) lent.buffer lent.form lent.events lent.replies) result p

  stands : take (call true w c lent).sent (call true w c lent).buffer ≡ sends w c
  stands =
      ap (λ (r : Result). take r.sent r.buffer) run ∙ take-append_seam (sends w c) (drop (length (sends w c)) lent.buffer)

  told : (x : Answer) → Conversation w c (events_in lent) x → InTime w x → ((call true w c lent).answer ≡ x) × Answers (call true w c lent).answer.outcome
  unfolding exchange
  told x k t =
      let s = limits lent.form lent.listens lent.events lent.replies (pass-append (arguments c) _ p).1.1.1.0 in
      let r = complete w c n (events_in lent) s.rising' s.of-bytes x k in
      let time : ran.time ≡ x.time = ap (λ (y : Answer). y.time) r.0 in
      let same =
      ap (λ (y : Result). y.answer) run ∙
      ap (λ (y : Answer). after true c y) (not-cut w.overall ran (subst⁻¹ (λ (u : ℕ). Within w.overall u) time t)) ∙
      r.0
      in
      (same, subst⁻¹ (λ (y : Answer). Answers y.outcome) same r.1)

  -- Under any T.
  uncut : (o : Option ℕ) (s : Settled) → Answers (after true c (counted s)).outcome → ¬ Deviates (after true c (under o s)).outcome
  uncut none s h = no-deviation (after true c (counted s)).outcome h
  uncut (some overall) s h = go (leb s.time overall)
    where
      cut_off : Answer
      cut_off = answer timeout overall (up_to overall s.read) (up_to overall s.notices) nowhere

      go : (b : Bool) → ¬ Deviates (after true c (cond b (counted s) cut_off)).outcome
      go true = no-deviation (after true c (counted s)).outcome h
      go false = λ z. z

  told-cut : (x : Answer) → Conversation w c (events_in lent) x → ¬ Deviates (call true w c lent).answer.outcome
  unfolding exchange
  told-cut x k =
      let s = limits lent.form lent.listens lent.events lent.replies (pass-append (arguments c) _ p).1.1.1.0 in
      let r = complete w c n (events_in lent) s.rising' s.of-bytes x k in
      subst⁻¹ (λ (y : Result). ¬ Deviates y.answer.outcome) run
      (uncut w.overall ran (subst⁻¹ (λ (y : Answer). Answers y.outcome) r.0 r.1))

answers : (w : Setting) (c : Call) (l room : List ℕ) → Served c → SoundStore l → Roomy (responds w c l room) → InTime w (expected w c (decides w c l))
    → (lent : Lent) → ¬ Refused (call true w c lent).answer.outcome → events_in lent ≡ at_once (responds w c l room)
    → ((call true w c lent).answer ≡ expected w c (decides w c l)) × Answers (call true w c lent).answer.outcome
answers w c l room v ok h t lent n e =
    let p = (accepted true w c lent n).pass in
    let x = expected w c (decides w c l) in
    let taken = pass-every (arguments c) (pass-append (arguments c) _ p).0 in
    told w c lent (named c v) p x (subst⁻¹ (λ (es : List Event). Conversation w c es x) e (converses w c l v taken ok room h)) t

undeviating : (w : Setting) (c : Call) (l room : List ℕ) → Served c → SoundStore l → Roomy (responds w c l room)
    → (lent : Lent) → ¬ Refused (call true w c lent).answer.outcome → events_in lent ≡ at_once (responds w c l room)
    → ¬ Deviates (call true w c lent).answer.outcome
undeviating w c l room v ok h lent n e =
    let p = (accepted true w c lent n).pass in
    let x = expected w c (decides w c l) in
    let taken = pass-every (arguments c) (pass-append (arguments c) _ p).0 in
    told-cut w c lent (named c v) p x (subst⁻¹ (λ (es : List Event). Conversation w c es x) e (converses w c l v taken ok room h))

meets : (w : Setting) (c : Call) (l room buffer : List ℕ) (form : Form) (listens : ℕ) → Asks w c buffer → SoundStore l → Roomy (responds w c l room)
    → Sayable form 0 listens → InTime w (expected w c (decides w c l)) →
    let lent = lent_by (responds w c l room) buffer form listens in
    let r = call true w c lent in
    (take r.sent r.buffer ≡ sends w c) × (events_in lent ≡ at_once (responds w c l room)) × (r.answer ≡ expected w c (decides w c l)) × Answers r.answer.outcome
meets w c l room buffer form listens a ok h says t =
    let q = sends w c in
    let r = responds w c l room in
    let x = expected w c (decides w c l) in
    let lent = lent_by r buffer form listens in
    let good-reply = subst⁻¹ Sayings (room-decided l q room h) (said-good q (decides w c l) (good w c l a.served a.taken ok a.in-range)) in
    let p : Pass (refusals c q buffer form lent.events lent.replies) =
    append-pass (arguments c) _ (every-pass (arguments c) a.taken)
    (le-leb (length q) 4095 a.short, (le-leb (length q) (length buffer) a.fits, (lent-within buffer form listens says r good-reply, tt)))
    in
    let e = lent-heard buffer form listens says r in
    let n = named c a.served in
    let k = told w c lent n p x (subst⁻¹ (λ (es : List Event). Conversation w c es x) e (converses w c l a.served a.taken ok room h)) t in
    (stands w c lent n p, e, k.0, k.1)

-- No reply is longer than 4,095 bytes.
short-reply : (s : Store) (q : List ℕ) → length (reply_to q (decision s q)) ≤ 4095
unfolding decision
short-reply s [] = omega arith
short-reply s (sid ∷ bs) =
    let q : List ℕ = sid ∷ bs in
    judge-ind (λ x. length (reply_to q x) ≤ 4095) refuses (checks (row_of s q) (length q)) _ (λ code. omega arith)
    (λ p. go (row_of s q).hushed (leb-true (length ((row_of s q).head ++ (row_of s q).payload)) 4095 p.1.1.1.1.1.0))
  where
    go : (b : Bool) → length ((row_of s (sid ∷ bs)).head ++ (row_of s (sid ∷ bs)).payload) ≤ 4095
        → length (reply_to (sid ∷ bs) (cond b keeps_silent (grants (row_of s (sid ∷ bs)).head (row_of s (sid ∷ bs)).payload))) ≤ 4095
    go true h = omega arith
    go false h = h

suffices : (l q room : List ℕ) → 4095 ≤ length room → Roomy (respond l q room).response
unfolding respond
suffices l q room long =
    let x = decision (store_of l) q in
    rw (le-leb (length (reply_to q x)) (length room) (omega (arith, short-reply (store_of l) q))) (some-room q x)

-- A code of the checks: one of the standard's, and none that says wait.
codes : (s : Store) (q : List ℕ) (code : ℕ) → decision s q ≡ refuses code → (code < 256) × (code ≢ 0x78)
unfolding decision
codes s [] code e = let a : ◌≡◌ {A = ℕ} 0 1 = cc in absurd (omega arith)
codes s (sid ∷ bs) code e =
    let q : List ℕ = sid ∷ bs in
    judge-tested (λ k. is_byte k && not (eqb k 0x78)) (λ x. x ≡ refuses code → (code < 256) × (code ≢ 0x78)) refuses (checks (row_of s q) (length q)) _ refl
    (λ k h z. of k h z)
    (λ p z. absurd (go (row_of s q).hushed z))
    e
  where
    of : (k : ℕ) → (is_byte k && not (eqb k 0x78)) ≡ true → refuses k ≡ refuses code → (code < 256) × (code ≢ 0x78)
    of k h e =
        let j = both (is_byte k) (not (eqb k 0x78)) h in
        let same : k ≡ code = cc in
        subst (λ (n : ℕ). (n < 256) × (n ≢ 0x78)) same (ltb-true k 256 j.0, eqb-false k 0x78 (not-true (eqb k 0x78) j.1))

    go : (b : Bool) → cond b keeps_silent (grants (row_of s (sid ∷ bs)).head (row_of s (sid ∷ bs)).payload) ≡ refuses code → ⊥
    go true e = let a : ◌≡◌ {A = ℕ} 0 1 = cc in omega arith
    go false e = let a : ◌≡◌ {A = ℕ} 0 1 = cc in omega arith

negatives : (w : Setting) (c : Call) (l : List ℕ) (code : ℕ) → Served c → decides w c l ≡ refuses code
    → Iso.NegativeResponse (sends w c) code (reply_to (sends w c) (refuses code)) × (code ≢ Iso.response_pending)
negatives w c l code v e =
    let k = codes (store_of l) (sends w c) code e in
    ((byte-cons (sid_of c) (code ∷ []) (small c v) (byte-cons code [] k.0 refl), refl), k.1)

pub promise : Promise
promise = record {
  converses = λ w c l room v t ok h. converses w c l v t ok room h;
  meets = meets;
  answers = answers;
  undeviating = undeviating;
  suffices = suffices;
  gives = λ w c l head d v t ok e. gives w c l v t ok head d e;
  positives = λ w c l head d v n t ok e. positives w c l v t ok head d n e;
  negatives = negatives;
}
