-- What a verdict makes of a reply.
use Rattle.std.specs.Prelude.{Ok, Err, Result}
use Prim.Native.Nat.{ℕ}
use mathlib.Core.Bool.{Bool}
use mathlib.Core.List.{List, []}
use mathlib.Core.Path.{◌≡◌, ap, ◌∙◌}
use lib.ListN.{take, drop}
use Rattle.rules.specs.After.{service_checks, checked, handed}
use Rattle.rules.specs.Answers.{part, positive, fault}
use Rattle.exchange.specs.declared.error.Fault.{Fault}
use Rattle.exchange.specs.declared.types.Place.{Place}
use Rattle.exchange.specs.declared.types.Outcome.TheVariants as outcome
use Rattle.exchange.specs.Meaning.{first_of, verdict_of}
use Rattle.exchange.proofs.Verdicts.{judged}
use Rattle.requests.specs.declared.Call.{Call}
use Rattle.checks.specs.Answered.{asked, lent, Checked, Handed}
use Rattle.checks.proofs.Handing.{handed-beside}

-- r: the bytes at the place; v: what its checks say.
module _ (strict : Bool) (call : Call) (a s l : List ℕ) (place : Place) (r : List ℕ) (here : r ≡ take place.len (drop place.at l))
    (v : (Result (Unit {0}) Fault)) (told : verdict_of v ≡ first_of (service_checks strict (asked call a s) r)) where
  pub check-failed : (f : Fault) → v ≡ Err f → Checked strict call a s l place (outcome.Fault f)
  unfolding checked
  check-failed f e = record {
    means = rw (← here, judged fault (service_checks strict (asked call a s) r) (positive (handed (asked call a s) (part place.at r))), ← told, e);
    inside = tt;
  }

  pub check-passed : v ≡ (Ok tt) → (p : Place) → Handed call l place p → Checked strict call a s l place (outcome.PositiveResponse p)
  unfolding checked
  check-passed e p h = record {
    means =
        ap positive (h.means ∙ ap (lent l) (handed-beside call (take 15 a) (take 15 s) [] _)) ∙
        rw (← here, judged fault (service_checks strict (asked call a s) r) (positive (handed (asked call a s) (part place.at r))), ← told, e);
    inside = h.inside;
  }
