-- The rows, by computing.
use mathlib.Core.Path.{refl}
use Rattle.rules.specs.After.{checked}
use Rattle.rules.specs.Client.{call}
use Rattle.rules.specs.Events.{within_limits, entries_from}
use Rattle.rules.specs.Exchange.{look, settle, exchange}
use Rattle.rules.specs.Lines.{decimal_to, line}
use Rattle.rules.specs.Logs.{layout_ok, line_of, answer_of}
use Rattle.log_files.specs.Files.{lines_to, lines_of}
use Rattle.log_files.specs.Said.{said_to, said_from}
use Rattle.log_files.specs.Rows.{Examples, Said, SaidOfLengths}

pub examples : Examples
unfolding lines_of lines_to line_of answer_of layout_ok line decimal_to call within_limits entries_from exchange settle look checked
examples = refl

pub said : Said
unfolding said_from said_to decimal_to
said = refl

pub said-of-lengths : SaidOfLengths
unfolding said_from said_to decimal_to
said-of-lengths = refl
