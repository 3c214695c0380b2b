-- The story of an exchange: "a line for each event read and each deadline", each with the state before it and what it did, by the exchange's own turn.
use Rattle.std.specs.Prelude.{ℕ, Bool, true, false, cond, ◌&&◌, List, [], ◌∷◌, ◌++◌, map, leb}
use Rattle.std.proofs.Math.Option.{Option, none, some}
use Rattle.rules.specs.Events.{Entry, event_of}
use Rattle.rules.specs.Exchange.{Asked, State, Settled, Turn, on, ends, turn}

-- An event that was read; the deadline that passed in silence; T, before that; an event that was never read.
pub data Line : Type 0 where
  read : Entry → State → Turn → Line
  late : State → Line
  over : ℕ → Line
  unread : Entry → Line

-- "Under a timeout at T these count only events at times up to T": a later one is not read.
abbrev pub within : Option ℕ → ℕ → Bool
within none t = true
within (some overall) t = leb t overall

-- No event in time: the deadline ends the call, or T where it comes first.
abbrev pub silent : Option ℕ → State → Line
silent none s = late s
silent (some overall) s = cond (leb s.deadline overall) (late s) (over overall)

-- "If that time exceeds T, the outcome is timeout at T."
abbrev pub cut : Option ℕ → Settled → List Line
cut none x = []
cut (some overall) x = cond (leb x.time overall) [] (over overall ∷ [])

-- The events from this state on, in the order of `settle`.
unfoldable pub tell : Bool → Asked → Option ℕ → ℕ → List ℕ → List Entry → State → List Line
tell strict a overall listens replies [] s = silent overall s ∷ []
tell strict a overall listens replies (e ∷ es) s =
    elim (leb e.time s.deadline && within overall e.time) [
      | true ↦ elim (turn strict a s (event_of listens replies e)) [
        | on s' ↦ read e s (on s') ∷ tell strict a overall listens replies es s'
        | ends x ↦ read e s (ends x) ∷ (cut overall x ++ map unread es)
      ]
      | false ↦ silent overall s ∷ map unread (e ∷ es)
    ]
