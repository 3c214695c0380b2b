-- What `log2uds` writes.
use Rattle.std.specs.Prelude.{ℕ, Bool, cond, not, List, [], ◌∷◌, ◌++◌, ◌≡◌, eqb, get_or}
use Rattle.rules.specs.Events.{plain, entries}
use Rattle.rules.specs.Lines.{ascii}
use Rattle.text.specs.Written.{counted, item}
use Rattle.importing.specs.Import.{Item, request, reply, dropped}
use Rattle.importing.specs.Promises.{lines_from}
use Rattle.importing.specs.Kept.{Log, Written, refused_line, refused, lines}
use Rattle.captured.specs.Capture.{Captured, log, too_long, no_call, capture}

-- "`refused 14 LINE`, `refused 16 LINE`, `refused 15` or `refused 17`"
abbrev pub shown : Written → List ℕ
shown (refused_line n line) = counted (ascii "refused") n ++ item [] line []
shown (refused n) = item (ascii "refused") n []
shown (lines text left g) = text

-- How many `dropped` lines are left out.
abbrev pub left_in : Written → ℕ
left_in (refused_line n line) = 0
left_in (refused n) = 0
left_in (lines text left g) = left

-- Standard error, where some are.
abbrev pub reported : ℕ → List ℕ
reported left = cond (eqb left 0) [] (item (ascii "log2uds: 'dropped' lines left out:") left [])

-- Of the three words that a line begins with, `reply` alone has a p as its third letter.
abbrev pub is_reply : List ℕ → Bool
is_reply line = eqb (get_or line 2 0) 112

-- What is left of a line that is kept or not, and the lines behind it but the replies.
unfoldable pub kept : Bool → List ℕ → List ℕ
kept keep [] = []
kept keep (c ∷ t) = cond keep (c ∷ []) [] ++ kept (cond (eqb c 10) (not (is_reply t)) keep) t

-- The lines but those of replies: with a call these are said. That they are those of what is told but its replies is proved (`Noted`).
abbrev pub noted : List ℕ → List ℕ
noted text = kept (not (is_reply text)) text

-- What is told but the replies.
abbrev pub others : List Item → List Item
others [] = []
others (request n m ∷ is) = request n m ∷ others is
others (reply t m ∷ is) = others is
others (dropped n ∷ is) = dropped n ∷ others is

abbrev pub Noted : Type 0
Noted = (d : ℕ) (is : List Item) → noted (lines_from d is) ≡ lines_from d (others is)

-- With a call: the log, and nothing where there is none.
abbrev pub output : Captured → List ℕ
output (log l) = l
output too_long = []
output no_call = []

-- What is said beside a log. One that would be too long is refused with 17 instead: the reply bytes are then beyond what a log can hold.
abbrev pub errors : List ℕ → Captured → List ℕ
errors said (log l) = said
errors said too_long = item (ascii "refused") 17 []
errors said no_call = []

abbrev pub of_log : List ℕ → Log → Captured
of_log call g = capture call (entries plain g.events) g.replies

-- Standard output and standard error: a refusal goes to the latter.
abbrev pub log_shown : List ℕ → Written → List ℕ
log_shown call (refused_line n line) = []
log_shown call (refused n) = []
log_shown call (lines text left g) = output (of_log call g)

abbrev pub log_said : List ℕ → Written → List ℕ
log_said call (refused_line n line) = shown (refused_line n line)
log_said call (refused n) = shown (refused n)
log_said call (lines text left g) = errors (noted text ++ reported left) (of_log call g)
