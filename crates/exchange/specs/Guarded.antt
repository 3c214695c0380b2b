-- The exchange over a lent event list: refused with 10 where the list breaks a limit.
use Rattle.std.specs.Prelude.{ℕ, Bool, cond, List, map}
use Rattle.std.proofs.Math.Option.{Option}
use Rattle.rules.specs.Answers.{Answer, refusal}
use Rattle.rules.specs.Events.{Form, event_of, entries, within_limits}
use Rattle.rules.specs.Exchange.{Asked, exchange}

-- The exchange over the events that the lent bytes say.
abbrev pub over : Bool → Asked → Option ℕ → Form → ℕ → List ℕ → List ℕ → Answer
over strict a overall form listens events replies = exchange strict a overall (map (event_of listens replies) (entries form events))

unfoldable pub guarded : Bool → Asked → Option ℕ → Form → ℕ → List ℕ → List ℕ → Answer
guarded strict a overall form listens events replies = cond (within_limits form events replies) (over strict a overall form listens events replies) (refusal 10)
