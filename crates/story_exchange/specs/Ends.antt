-- The lines that end the story of an exchange.
use Rattle.std.specs.Prelude.{ℕ, ◌-◌, ◌/◌, Bool, List, [], map, length}
use Rattle.std.proofs.Math.Option.{Option}
use Rattle.rules.specs.Answers.{timeout, nowhere}
use Rattle.rules.specs.Events.{Form, event_size, entries_from}
use Rattle.rules.specs.Exchange.{state, settled}
use Rattle.telling.specs.Story.{silent, cut, unread}
use Rattle.telling.specs.Words.{said, joined}

-- What ends a call that no event settled, by the deadline and whether silence was asked for; and what T does to one that finishes at a time.
abbrev pub silent_text : Option ℕ → ℕ → Bool → List ℕ
silent_text overall deadline hush = said 0 [] (silent overall (state hush deadline [] []))

abbrev pub cut_text : Option ℕ → ℕ → List ℕ
cut_text overall finish = joined 0 [] (cut overall (settled timeout finish [] [] nowhere))

-- The lines of the events never read, from number i on.
abbrev pub rest_text : Form → ℕ → List ℕ → List ℕ → ℕ → List ℕ
rest_text form listens events replies i = joined listens replies (map unread (entries_from form events (length events / event_size form - i) i))
