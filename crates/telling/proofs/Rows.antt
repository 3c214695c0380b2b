-- The rows, by computing; a list at a time, since one declaration may take only so many steps.
use mathlib.Core.Path.{refl}
use Rattle.rules.specs.Addresses.{log2}
use Rattle.rules.specs.After.{checked}
use Rattle.rules.specs.Client.{call}
use Rattle.rules.specs.Events.{within_limits, entries_from}
use Rattle.rules.specs.Examples.{log}
use Rattle.rules.specs.Exchange.{look, settle, exchange}
use Rattle.rules.specs.Lines.{decimal_to}
use Rattle.rules.specs.Logs.{layout_ok, answer_of}
use Rattle.log_fields.specs.Fields.{first_off}
use Rattle.log_fields.specs.Words.{off_text, off_line}
use Rattle.telling.specs.Checks.{wanted_by, length?, told, told_of, lenient_line, lenient_text}
use Rattle.telling.specs.Rows.{waiting, judging, ending, thrown, seldom, checking, Hold, Checked, Rows}
use Rattle.telling.specs.Story.{tell}
use Rattle.telling.specs.Telling.{telling}
use Rattle.telling.specs.Words.{shown, what, on_text, breaks, judged, end_text, said, begins, concludes, declined}

waiting-hold : Hold waiting
unfolding waiting log log2 telling tell said shown what on_text breaks judged end_text begins concludes declined off_line first_off off_text answer_of layout_ok decimal_to call within_limits entries_from exchange settle look checked told told_of lenient_line lenient_text wanted_by length?
waiting-hold = refl

judging-hold : Hold judging
unfolding judging log log2 telling tell said shown what on_text breaks judged end_text begins concludes declined off_line first_off off_text answer_of layout_ok decimal_to call within_limits entries_from exchange settle look checked told told_of lenient_line lenient_text wanted_by length?
judging-hold = refl

ending-hold : Hold ending
unfolding ending log log2 telling tell said shown what on_text breaks judged end_text begins concludes declined off_line first_off off_text answer_of layout_ok decimal_to call within_limits entries_from exchange settle look checked told told_of lenient_line lenient_text wanted_by length?
ending-hold = refl

thrown-hold : Hold thrown
unfolding thrown log log2 telling tell said shown what on_text breaks judged end_text begins concludes declined off_line first_off off_text answer_of layout_ok decimal_to call within_limits entries_from exchange settle look checked told told_of lenient_line lenient_text wanted_by length?
thrown-hold = refl

seldom-hold : Hold seldom
unfolding seldom log log2 telling tell said shown what on_text breaks judged end_text begins concludes declined off_line first_off off_text answer_of layout_ok decimal_to call within_limits entries_from exchange settle look checked told told_of lenient_line lenient_text wanted_by length?
seldom-hold = refl

checking-hold : Checked checking
unfolding checking told told_of wanted_by length? decimal_to
checking-hold = refl

pub rows-hold : Rows
rows-hold = (waiting-hold, judging-hold, ending-hold, thrown-hold, seldom-hold, checking-hold)
