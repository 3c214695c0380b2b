-- A run of the engine: what it is handed, step by step, each with its contract.
use Rattle.std.specs.Prelude.{ℕ, true, ◌≡◌, List, [], ◌∷◌}
use Rattle.stepwise.specs.Handed.{Handed, lent, now}
use Rattle.steps.specs.declared.Engine.{Engine}
use Rattle.steps.specs.declared.Phase.{Phase}
use Rattle.steps.specs.declared.Phase.TheVariants.{Waiting, Settled}
use Rattle.steps.specs.Stepping.{Stepped, overall_in, past_of, tick_of, Hands}

-- Behind these, lent with this address and size.
abbrev pub Steps : List ℕ → List ℕ → List Handed → Engine → Engine → Type 0
Steps a s [] e e' = e ≡ e'
Steps a s (lent replies x ∷ hs) e e' = (r : Stepped) × Hands e a s x replies r × Steps a s hs r.engine e'
Steps a s (now t ∷ hs) e e' = Steps a s hs (tick_of e t).engine e'

-- A tick past the deadline, or past T; where the engine has settled any will do.
abbrev pub DueIn : Engine → ℕ → Phase → Type 0
DueIn e t (Waiting s) = past_of (overall_in e) s.deadline t ≡ true
DueIn e t (Settled x) = Unit {0}

abbrev pub Due : Engine → ℕ → Type 0
Due e t = DueIn e t e.phase
