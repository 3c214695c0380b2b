-- What the crates above cite, beside `Refusals`: what a prepared call is, and what is written of it. `prepare` and `row` answer by a plain equation.
use Rattle.std.specs.Prelude.{Ok, Err}
use Prim.Native.Nat.{ℕ}
use native.Mathlib.Omega.{arith}
use mathlib.Core.Bool.{Bool, true, false, cond}
use mathlib.Core.List.{List, ◌++◌}
use mathlib.Core.Option.{none, some}
use mathlib.Core.Path.{◌≡◌, refl, sym, ap, ◌∙◌}
use lib.Dec.{eqb}
use lib.ListN.{length}
use borrow.Author.Tests.{eqb-true, eqb-false}
use Rattle.rules.specs.Calls as rules
use Rattle.rules.specs.Calls.{request_of}
use Rattle.rules.specs.InOrder.{judge}
use Rattle.rules.specs.Refusals.{arguments}
use Rattle.rules.proofs.Judging.{Pass, judge-pass, judge-inv, pass-append}
use Rattle.requests.specs.declared.Call.{Call}
use Rattle.requests.specs.declared.Prepared.{Prepared}
use Rattle.requests.specs.Meaning.{call_of}
use Rattle.requests.specs.Prepared.{first, sizes, before10, refusal_of, ready_of, prepared_of, over, pieces_of, Written}
use Rattle.requests.proofs.Judging.{by_number, non-zero-append}
use Rattle.requests.proofs.Refusals.{non-zero-arguments}
use Rattle.requests.proofs.Requests.{pieces}

-- `write`: one answer fits.
pub unique : {bytes before : List ℕ} {done done' : Bool} {after after' : List ℕ} → Written bytes before done after → Written bytes before done' after' → (done ≡ done') × (after ≡ after')
unique x y =
    let same = x.told ∙ sym y.told in
    (same, x.buffer ∙ rw same (sym y.buffer))

module _ (k : Call) (quiet : Bool) (a s d : List ℕ) (room : ℕ) where
  abbrev none-of : ℕ
  none-of = refusal_of quiet (call_of k a s d) room

  by-refusal : prepared_of k quiet a s d room ≡ cond (eqb none-of 0) (Ok (ready_of k quiet a s d)) (Err none-of)
  unfolding prepared_of refusal_of
  by-refusal =
      let c = call_of k a s d in
      by_number Err (before10 quiet c room) _ (non-zero-append (arguments c) (sizes (length (request_of quiet c)) room) (non-zero-arguments c) (refl, (refl, tt)))

  -- The refusal of a prepared call is the call's.
  pub refusal_is : {n : ℕ} → Err n ≡ prepared_of k quiet a s d room → (n ≡ none-of) × (n ≡ 0 → ⊥)
  refusal_is {n} e = go (eqb none-of 0) refl (e ∙ by-refusal)
    where
      go : (b : Bool) → eqb none-of 0 ≡ b → Err n ≡ cond b (Ok (ready_of k quiet a s d)) (Err none-of) → (n ≡ none-of) × (n ≡ 0 → ⊥)
      go true t h = absurd (let z : ◌≡◌ {A = ℕ} 0 1 = cc in omega arith)
      go false t h = let same : n ≡ none-of = cc in (same, λ z. eqb-false none-of 0 t (sym same ∙ z))

  -- Where there is none it is ready.
  pub ready-is : {p : Prepared} → Ok p ≡ prepared_of k quiet a s d room → (none-of ≡ 0) × (p ≡ ready_of k quiet a s d)
  ready-is {p} e = go (eqb none-of 0) refl (e ∙ by-refusal)
    where
      go : (b : Bool) → eqb none-of 0 ≡ b → Ok p ≡ cond b (Ok (ready_of k quiet a s d)) (Err none-of) → (none-of ≡ 0) × (p ≡ ready_of k quiet a s d)
      go true t h = (eqb-true none-of 0 t, cc)
      go false t h = absurd (let z : ◌≡◌ {A = ℕ} 0 1 = cc in omega arith)

  -- A call that nothing refuses is ready.
  pub is-prepared : none-of ≡ 0 → Ok (ready_of k quiet a s d) ≡ prepared_of k quiet a s d room
  is-prepared e = sym (by-refusal ∙ rw e)

-- What no refusal of 1 to 9 gives: the arguments passed, and the request is neither too long nor too long for the buffer.
pub passes : (quiet : Bool) (c : rules.Call) (room : ℕ) → refusal_of quiet c room ≡ 0 → Pass (arguments c) × Pass (sizes (length (request_of quiet c)) room)
unfolding refusal_of
passes quiet c room e =
    let size = sizes (length (request_of quiet c)) room in
    let checks = arguments c ++ size in
    let none_of : judge some checks none ≡ none = by_number some checks none (non-zero-append (arguments c) size (non-zero-arguments c) (refl, (refl, tt))) ∙ rw e in
    pass-append (arguments c) size (judge-inv some checks (λ f z. let y : ◌≡◌ {A = ℕ} 0 1 = cc in omega arith) none_of).0

-- Then what is written is the request.
module _ (k : Call) (quiet : Bool) (a s d before : List ℕ) {p : Prepared} (is : Ok p ≡ prepared_of k quiet a s d (length before)) where
  abbrev c : rules.Call
  c = call_of k a s d

  pub none-of-nine : refusal_of quiet c (length before) ≡ 0
  none-of-nine = (ready-is k quiet a s d (length before) is).0

  pub is-ready : p ≡ ready_of k quiet a s d
  is-ready = (ready-is k quiet a s d (length before) is).1

  pub sends : p.length ≡ length (request_of quiet c)
  sends = ap (λ (q : Prepared). q.length) is-ready

  spelt : pieces_of p a s d ≡ request_of quiet c
  spelt = ap (λ (q : Prepared). pieces_of q a s d) is-ready ∙ pieces k quiet a s d

  fits : first (sizes (length (request_of quiet c)) (length before)) ≡ 0
  fits = judge-pass (λ n. n) (sizes (length (request_of quiet c)) (length before)) 0 (passes quiet c (length before) none-of-nine).1

  pub stands : {done : Bool} {after : List ℕ} → Written (pieces_of p a s d) before done after → after ≡ over (request_of quiet c) before
  stands {done} {after} w = let yes : done ≡ true = w.told ∙ rw (spelt, fits) in w.buffer ∙ rw (yes, spelt)

  pub writes : Written (pieces_of p a s d) before true (over (request_of quiet c) before)
  writes = record { told = rw (spelt, fits); buffer = rw spelt }
