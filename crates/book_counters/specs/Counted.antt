-- The counter that counts a log.
use Rattle.std.specs.Prelude as code
use Rattle.std.specs.Prelude.{Some, None}
use Rattle.std.specs.Prelude.{ℕ, true, false, List, [], ◌≡◌}
use Rattle.rules.specs.Logs.{layout_ok}
use Rattle.exchange.specs.Meaning.{outcome_of}
use Rattle.exchange.specs.declared.types.Outcome.{Outcome}
use Rattle.bookkeeping.specs.Summary as Summary
use Rattle.bookkeeping.specs.Summary.{class_in, place_of}
use Rattle.book_counters.specs.declared.Class.{Class}
use Rattle.book_counters.specs.declared.Class.TheVariants as code_class

abbrev pub meant : Class → Summary.Class
meant code_class.Positive = Summary.positive
meant (code_class.Negative code) = Summary.negative code
meant code_class.Suppressed = Summary.suppressed
meant code_class.TimedOut = Summary.timed_out
meant code_class.Deviating = Summary.deviating
meant code_class.Other = Summary.other

-- The class of an outcome. The reply bytes play no part in it.
abbrev pub class_of : Outcome → Summary.Class
class_of o = class_in (outcome_of [] o)

-- The log's layout is sound, and this is its counter; or `udslog` calls it bad.
abbrev pub CountsAt : List ℕ → code.Option ℕ → Type 0
CountsAt l (Some place) = (layout_ok l ≡ true) × (place ≡ place_of l)
CountsAt l None = layout_ok l ≡ false
