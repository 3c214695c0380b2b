-- The whole story of a log, as `udsexplain` writes it.
use Rattle.std.specs.Prelude.{ℕ, Bool, cond, List, ◌++◌, eqb}
use Rattle.rules.specs.Answers.{Outcome, positive, suppressed, negative, timeout, pending_limit, disconnected, transport, fault, refused, Answer}
use Rattle.rules.specs.Calls.{Call, request_of}
use Rattle.rules.specs.Client.{asked, entries_in, events_in}
use Rattle.rules.specs.Exchange.{start, exchange}
use Rattle.rules.specs.Logs.{Header, header_of, flag, call_of, setting_of, lent_of, layout_ok, answer_of, line_of}
use Rattle.rules.specs.Settings.{Setting, Lent}
use Rattle.log_fields.specs.Words.{off_line}
use Rattle.telling.specs.Story.{Line, tell}
use Rattle.telling.specs.Checks.{checks_text}
use Rattle.telling.specs.Words.{joined, begins, concludes, declined}

-- The call that a log asks: its strictness, setting, call and what is lent.
pub record Told : Type 0 where
  pub strict : Bool
  pub setting : Setting
  pub call : Call
  pub lent : Lent

abbrev pub told_by : Header → List ℕ → Told
told_by h l = record { strict = eqb (flag 1 h) 1; setting = setting_of h; call = call_of h l; lent = lent_of h l }

abbrev pub told_in : List ℕ → Told
told_in l = told_by (header_of l) l

-- "a line for each event read and each deadline", as data.
abbrev pub lines_of : Told → List Line
lines_of x =
    tell x.strict (asked x.setting x.call) x.setting.overall x.lent.listens x.lent.replies (entries_in x.lent)
    (start (asked x.setting x.call))

-- What the exchange heard, before the checks behind a positive.
abbrev pub heard_in : Told → Outcome
heard_in x = (exchange x.strict (asked x.setting x.call) x.setting.overall (events_in x.lent)).outcome

abbrev pub exchange_text : Told → List ℕ
exchange_text x =
    begins x.strict (request_of x.setting.quiet x.call) (start (asked x.setting x.call)) ++
    joined x.lent.listens x.lent.replies (lines_of x)

-- By whether the call is made.
abbrev pub by_refusal : Outcome → List ℕ → List ℕ
by_refusal (positive p) made = made
by_refusal suppressed made = made
by_refusal (negative c) made = made
by_refusal timeout made = made
by_refusal pending_limit made = made
by_refusal disconnected made = made
by_refusal (transport n) made = made
by_refusal (fault f) made = made
by_refusal (refused n) made = declined n

-- A call that is made, and its answer.
abbrev pub call_text : Told → Answer → List ℕ
call_text x y = exchange_text x ++ checks_text x.strict x.call y.reply.bytes (heard_in x) y.outcome ++ concludes y

abbrev pub sound_text : List ℕ → List ℕ
sound_text l = by_refusal (answer_of l).outcome (call_text (told_in l) (answer_of l))

-- What stands before `udslog`'s line. "For a bad log it says the first field that is off and what it should be".
unfoldable pub telling : List ℕ → List ℕ
telling l = cond (layout_ok l) (sound_text l) (off_line l)

-- "its last line is `udslog`'s line for every input"
unfoldable pub story : List ℕ → List ℕ
story l = telling l ++ line_of l
