-- A header with other counts, for whoever writes a log from its parts.
use Rattle.std.specs.Prelude as code
use Rattle.std.specs.Prelude.{Some, None}
use Rattle.std.specs.Prelude.{ℕ, ◌+◌, ◌*◌, cond, leb}
use Rattle.std.proofs.Math.Option.{Option, none, some}
use Rattle.rules.specs.Events.{event_size}
use Rattle.rules.specs.Logs.{Header, header_size, form_in}
use Rattle.logs.specs.Layout.{said}
use Rattle.mending.specs.Mend.{corrected}
use Rattle.logs.specs.declared.header.Header as Code

abbrev pub header_of : code.Option Code.Header → Option Header
header_of (Some h) = some (said h)
header_of None = none

-- A total is a number of two bytes.
abbrev pub recounted : Header → ℕ → ℕ → Option Header
recounted h events replies =
    cond (leb (header_size (form_in h) + h.arguments + events * event_size (form_in h) + replies) 65535) (some (corrected h events replies)) none
