-- The rows for answers, by computing.
use mathlib.Core.Path.{refl}
use Rattle.rules.specs.After.{checked}
use Rattle.rules.specs.AnswerRows.{reply_rows, uploads, requested, cleared, AnswerRows}
use Rattle.rules.specs.Client.{call}
use Rattle.rules.specs.Events.{within_limits, entries_from}
use Rattle.rules.specs.Exchange.{look, settle, exchange}

pub answer-rows-hold : AnswerRows
unfolding reply_rows uploads requested cleared call within_limits entries_from exchange settle look checked
answer-rows-hold = (refl, refl, refl, refl, refl, refl, refl, λ old. refl, refl)
