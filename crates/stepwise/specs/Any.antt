-- Whatever the engine is handed, in order or not, valid or not: it means what the steps that it took mean.
use Rattle.std.specs.Prelude.{ℕ, Bool, ◌≡◌, List, [], ◌∷◌}
use Rattle.std.proofs.Math.Option.{Option, none, some}
use Rattle.rules.specs.Events.{Event}
use Rattle.rules.specs.Exchange.{Asked, start}
use Rattle.stepwise.specs.Driven.{clock, Means}
use Rattle.stepwise.specs.Engine.{Input, event, tick, Engine, waiting, step, run}

-- The steps that are not refused.
unfoldable pub taken : (ℕ → Event → Bool) → Bool → Asked → Option ℕ → Engine → List Input → List Input
taken fits strict a overall z [] = []
taken fits strict a overall z (i ∷ is) =
    elim (step fits strict a overall z i).refusal [
      | none ↦ i ∷ taken fits strict a overall (step fits strict a overall z i).engine is
      | some n ↦ taken fits strict a overall z is
    ]

-- The events among these.
abbrev pub events_among : List Input → List Event
events_among [] = []
events_among (event e ∷ is) = e ∷ events_among is
events_among (tick t ∷ is) = events_among is

abbrev pub Any : Type 0
Any =
    (fits : ℕ → Event → Bool) (strict : Bool) (a : Asked) (overall : Option ℕ) (is : List Input) →
    let z = waiting 0 (start a) in
    let js = taken fits strict a overall z is in
    (run fits strict a overall z is ≡ run fits strict a overall z js) ×
    Means strict a overall (start a) (events_among js) (clock 0 js) (run fits strict a overall z is)
