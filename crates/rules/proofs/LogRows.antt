-- The rows for the log, by computing; a list at a time, since one declaration may take only so many steps.
use mathlib.Core.Path.{refl}
use Rattle.rules.specs.After.{checked}
use Rattle.rules.specs.Client.{call}
use Rattle.rules.specs.Events.{within_limits, entries_from}
use Rattle.rules.specs.Examples.{log}
use Rattle.rules.specs.Exchange.{look, settle, exchange}
use Rattle.rules.specs.Lines.{decimal_to, line}
use Rattle.rules.specs.LogRows.{sound_logs, refused_logs, unused_fields, unused_flags, unsound_areas, Sound, AreBad, LogRows}
use Rattle.rules.specs.Logs.{layout_ok, line_of, answer_of}

sound_logs-hold : Sound sound_logs
unfolding sound_logs line_of answer_of layout_ok line decimal_to call within_limits entries_from exchange settle look checked
sound_logs-hold = refl

refused_logs-hold : Sound refused_logs
unfolding refused_logs line_of answer_of layout_ok line decimal_to call within_limits entries_from exchange settle look checked
refused_logs-hold = refl

unused_fields-bad : AreBad unused_fields
unfolding unused_fields line_of layout_ok entries_from
unused_fields-bad = refl

unused_flags-bad : AreBad unused_flags
unfolding unused_flags line_of layout_ok entries_from
unused_flags-bad = refl

unsound_areas-bad : AreBad unsound_areas
unfolding unsound_areas log line_of layout_ok entries_from
unsound_areas-bad = refl

pub log-rows-hold : LogRows
log-rows-hold = (sound_logs-hold, refused_logs-hold, unused_fields-bad, unused_flags-bad, unsound_areas-bad)
