-- One reply, judged: what `look` gives on each way through the code.
use Rattle.std.specs.Prelude.{Ok, Err}
use Prim.Native.Nat.{ℕ, ◌+◌, ◌-◌, ◌≤◌}
use native.Mathlib.Omega.{arith}
use mathlib.Core.Bool.{Bool, cond}
use mathlib.Core.Logic.{◌≢◌}
use mathlib.Core.Path.{◌≡◌, sym, ap, ◌∙◌}
use mathlib.Core.List.{List}
use mathlib.Core.Option.{none}
use borrow.Author.Tests.{lt-ltb, le-ltb, eq-eqb, ne_eqb}
use lib.Dec.{ltb}
use lib.ListN.{length, get_or, take, drop}
use Rattle.rules.specs.Answers.{part, length_error, positive, behind}
use Rattle.rules.specs.Calls.{head}
use Rattle.rules.specs.Exchange.{Asked, settles, wrong, negative_checks, positive_checks, coded, by_first, look}
use Rattle.exchange.specs.declared.error.Fault.{Fault}
use Rattle.exchange.specs.declared.types.Place.{Place}
use Rattle.exchange.specs.declared.types.Outcome.TheVariants as outcome
use Rattle.exchange.specs.declared.types.Outcome.TheVariants.{PositiveResponse, NegativeResponse}
use Rattle.exchange.specs.declared.types.Step.TheVariants.{Pending, Settles}
use Rattle.exchange.specs.Meaning.{fault_of, verdict_of, first_of, part_of}
use Rattle.exchange.specs.Places.{Looked}
use Rattle.exchange.proofs.Verdicts.{decided, judged, granted-head}
use Rattle.exchange.proofs.Placing.{behind-place, part-inside}

-- r: the bytes at the place, which are judged.
pub record Read (strict : Bool) (a : Asked) (hush : Bool) (l : List ℕ) (place : Place) (r : List ℕ) : Type 0 where
  pub here : r ≡ take place.len (drop place.at l)

module _ {strict : Bool} {a : Asked} {hush : Bool} {l : List ℕ} {place : Place} {r : List ℕ} (reply : Read strict a hush l place r) where
  opened : look strict a hush (part_of l place) ≡ cond (ltb 0 (length r)) (by_first strict a hush (part place.at r) r) (wrong (length_error strict 1 none))
  unfolding look
  opened = rw reply.here

  settled-wrong : (f : Fault) → look strict a hush (part_of l place) ≡ wrong (fault_of f) → Looked l (Settles (outcome.Fault f)) (look strict a hush (part_of l place))
  settled-wrong f e = record { means = sym e; inside = tt }

  pub looked-empty : (f : Fault) → length r ≡ 0 → fault_of f ≡ length_error strict 1 none → Looked l (Settles (outcome.Fault f)) (look strict a hush (part_of l place))
  looked-empty f h e = settled-wrong f (opened ∙ rw (le-ltb 0 (length r) (omega arith), e))

  module _ (some_bytes : length r ≢ 0) where
    by_first_lem : look strict a hush (part_of l place) ≡ by_first strict a hush (part place.at r) r
    by_first_lem = opened ∙ rw (lt-ltb 0 (length r) (omega arith))

    module _ (first : get_or r 0 0 ≡ 0x7f) where
      refused : look strict a hush (part_of l place) ≡ decided wrong (first_of (negative_checks strict a r)) (coded (get_or r 2 0))
      refused = by_first_lem ∙ rw (eq-eqb (get_or r 0 0) 0x7f first) (judged wrong (negative_checks strict a r) (coded (get_or r 2 0)))

      pub looked-refused : (f : Fault) → verdict_of (Err f) ≡ first_of (negative_checks strict a r)
          → Looked l (Settles (outcome.Fault f)) (look strict a hush (part_of l place))
      looked-refused f e = settled-wrong f (refused ∙ rw (← e))

      coded-step : verdict_of (Ok tt) ≡ first_of (negative_checks strict a r) → look strict a hush (part_of l place) ≡ coded (get_or r 2 0)
      coded-step e = refused ∙ rw (← e)

      pub looked-pending : verdict_of (Ok tt) ≡ first_of (negative_checks strict a r) → get_or r 2 0 ≡ 0x78 → Looked l Pending (look strict a hush (part_of l place))
      looked-pending e h = record { means = sym (coded-step e ∙ rw (eq-eqb (get_or r 2 0) 0x78 h)); inside = tt }

      pub looked-negative : {code : ℕ} → verdict_of (Ok tt) ≡ first_of (negative_checks strict a r) → code ≡ get_or r 2 0 → code ≢ 0x78
          → Looked l (Settles (NegativeResponse code)) (look strict a hush (part_of l place))
      looked-negative {code} e h k = record { means = sym (coded-step e ∙ rw (← h, ne_eqb code 0x78 k)); inside = tt }

    module _ (first : get_or r 0 0 ≢ 0x7f) where
      grants : look strict a hush (part_of l place) ≡ decided wrong (first_of (positive_checks strict a hush r))
          (settles (positive (behind (head a.sub) (part place.at r))))
      grants = by_first_lem ∙
          rw (ne_eqb (get_or r 0 0) 0x7f first) (judged wrong (positive_checks strict a hush r) (settles (positive (behind (head a.sub) (part place.at r)))))

      pub looked-wrong : (f : Fault) → verdict_of (Err f) ≡ first_of (positive_checks strict a hush r)
          → Looked l (Settles (outcome.Fault f)) (look strict a hush (part_of l place))
      looked-wrong f e = settled-wrong f (grants ∙ rw (← e))

      module _ {h : ℕ} (all : verdict_of (Ok tt) ≡ first_of (positive_checks strict a hush r)) (before : h ≡ head a.sub) where
        pub head-fits : (h ≤ length r) × (place.at + length r ≤ length l)
        head-fits =
            (rw before (granted-head strict a hush r (omega arith) (sym all)), part-inside l place.at place.len r reply.here (omega arith))

        pub looked-positive : Looked l (Settles (PositiveResponse (record { at = place.at + h; len = length r - h })))
            (look strict a hush (part_of l place))
        looked-positive =
            let bytes = behind-place l place.at place.len h r reply.here head-fits.0 in
            record {
              means = ap (λ (bs : List ℕ). settles (positive (part (place.at + h) bs))) bytes ∙ sym (grants ∙ rw (← all, ← before));
              inside = omega (arith, head-fits);
            }
