-- At most one answer fits each public contract. Those of `data`, `number`, `lengths::block_length` and `lengths::record_length_is` are equations for the answer itself.
use Prim.Native.Nat.{ℕ}
use mathlib.Core.Bool.{Bool}
use mathlib.Core.List.{List}
use mathlib.Core.Path.{◌≡◌, ap}
use Rattle.rules.specs.After.{checked}
use Rattle.rules.specs.Exchange.{settles}
use Rattle.rules.specs.Settings as settings
use Rattle.exchange.specs.declared.types.Place.{Place}
use Rattle.exchange.specs.declared.types.Outcome.{Outcome}
use Rattle.exchange.specs.declared.types.Step.TheVariants.{Settles}
use Rattle.exchange.specs.declared.types.Timing.{Timing}
use Rattle.exchange.specs.Meaning.{part_of, timed}
use Rattle.exchange.proofs.Unique.{looked-unique}
use Rattle.requests.specs.declared.Call.{Call}
use Rattle.checks.specs.Answered.{asked, answered, Checked}

-- `check`
pub unique : {strict : Bool} {call : Call} {a s l : List ℕ} {place : Place} {r q : Outcome} → Checked strict call a s l place r → Checked strict call a s l place q → r ≡ q
unique {strict} {call} {a} {s} {l} {place} {r} {q} x y =
    let one : Settles r ≡ Settles q = looked-unique l {x = settles (answered l (checked strict (asked call a s) (part_of l place)))}
    (record { means = ap settles x.means; inside = x.inside }) (record { means = ap settles y.means; inside = y.inside }) in
    cc

-- `timing`
pub timing-unique : (r q : Timing) → timed r ≡ timed q → r ≡ q
timing-unique r q e = ap (λ (t : settings.Timing). record { p2 = t.p2; star = t.star }) e
