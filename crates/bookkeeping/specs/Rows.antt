-- Rows: books, what is added to them and found in them, what `udsbook` writes, and the class of each outcome.
use Rattle.std.specs.Prelude.{ℕ, ◌+◌, ◌*◌, Bool, true, false, List, [], ◌∷◌, ◌++◌, map, ◌≡◌, length, get_or, take, replicate}
use Prim.Native.String.{String}
use Rattle.std.proofs.Math.Option.{none}
use Rattle.rules.specs.Addresses.{log2}
use Rattle.rules.specs.Answers as answers
use Rattle.rules.specs.Examples.{says, idles, closes, breaks, log}
use Rattle.rules.specs.Lines.{ascii}
use Rattle.rules.specs.LogRows.{log_of, changed}
use Rattle.bookkeeping.specs.Layout.{book_of, logs_in}
use Rattle.bookkeeping.specs.Summary.{Class, positive, negative, suppressed, timed_out, deviating, other, class_in, slot, class_at, place_of, afresh, more, raised_at}
use Rattle.bookkeeping.specs.Book.{is_book, Answer, refused, gives, added_to, add, find, summary}
use Rattle.bookkeeping.specs.Said.{counter_line, lines_from, refusal, out, said, summary_out, add_out, add_said}

-- "Empty book: `5542000100000014000000000000001400000014`."
abbrev pub empty : List ℕ
empty = 0x55 ∷ 0x42 ∷ 0 ∷ 1 ∷ 0 ∷ 0 ∷ 0 ∷ 0x14 ∷ 0 ∷ 0 ∷ 0 ∷ 0 ∷ 0 ∷ 0 ∷ 0 ∷ 0x14 ∷ 0 ∷ 0 ∷ 0 ∷ 0x14 ∷ []

-- "With document 01's example"
unfoldable pub one : List ℕ
one =
    0x55 ∷ 0x42 ∷ 0 ∷ 1 ∷ 0 ∷ 1 ∷ 0 ∷ 0x14 ∷ 0 ∷ 0 ∷ 0 ∷ 0x40 ∷ 0 ∷ 0 ∷ 0 ∷ 0x1c ∷ 0 ∷ 0 ∷ 0 ∷ 0x5c ∷
    7 ∷ 0 ∷ 0 ∷ 0x40 ∷ 0 ∷ 0 ∷ 0 ∷ 0x1c ∷ log

-- A tester present without an answer behind it, and a log of version 2 behind both: three entries, of calls 7, 4 and 7.
unfoldable pub quiet : List ℕ
quiet = log_of 4 3 0 0 0 0 0 [] []

unfoldable pub three : List ℕ
three =
    0x55 ∷ 0x42 ∷ 0 ∷ 1 ∷ 0 ∷ 3 ∷ 0 ∷ 0x14 ∷ 0 ∷ 0 ∷ 0 ∷ 0xb8 ∷ 0 ∷ 0 ∷ 0 ∷ 0x2c ∷ 0 ∷ 0 ∷ 0 ∷ 0xe4 ∷
    7 ∷ 0 ∷ 0 ∷ 0x40 ∷ 0 ∷ 0 ∷ 0 ∷ 0x2c ∷ 4 ∷ 0 ∷ 0 ∷ 0x24 ∷ 0 ∷ 0 ∷ 0 ∷ 0x6c ∷ 7 ∷ 0 ∷ 0 ∷ 0x54 ∷ 0 ∷ 0 ∷ 0 ∷ 0x90 ∷
    log ++ (quiet ++ log2)

abbrev pub Written : Type 0
Written = book_of [] ∷ book_of (log ∷ []) ∷ book_of (log ∷ quiet ∷ log2 ∷ []) ∷ [] ≡ empty ∷ one ∷ three ∷ []

-- Every field of the header and of an entry counts; so does a bad log, and one under another call. "An empty file is no book"
unfoldable pub books : List (List ℕ)
books = empty ∷ one ∷ three ∷ []

unfoldable pub no_books : List (List ℕ)
no_books =
    [] ∷ take 19 empty ∷ (empty ++ (0 ∷ [])) ∷ take 91 one ∷
    changed ((0, 0x54) ∷ []) one ∷ changed ((1, 0x43) ∷ []) one ∷ changed ((3, 2) ∷ []) one ∷ changed ((5, 0) ∷ []) one ∷ changed ((5, 2) ∷ []) one ∷
    changed ((7, 0x15) ∷ []) one ∷ changed ((11, 0x41) ∷ []) one ∷ changed ((15, 0x1d) ∷ []) one ∷ changed ((19, 0x5d) ∷ []) one ∷
    changed ((20, 6) ∷ []) one ∷ changed ((21, 1) ∷ []) one ∷ changed ((23, 0x3f) ∷ []) one ∷ changed ((27, 0x1b) ∷ []) one ∷
    changed ((29, 3) ∷ []) one ∷ changed ((30, 6) ∷ []) one ∷ []

abbrev pub Tested : Type 0
Tested = (map is_book books ≡ true ∷ true ∷ true ∷ []) × (map is_book no_books ≡ replicate 19 false)

-- What is added and found. Refusals in their order: a bad log to what is no book is 25.
abbrev pub Answers : Type 0
Answers =
    add empty log ∷ add [] log ∷ add one [] ∷ add [] [] ∷
    find one 7 0 ∷ find one 7 1 ∷ find one 6 0 ∷ find [] 7 0 ∷
    find three 7 0 ∷ find three 7 1 ∷ find three 4 0 ∷ find three 7 2 ∷ find three 263 0 ∷ summary [] ∷ []
    ≡
    gives one ∷ refused 25 ∷ refused 23 ∷ refused 25 ∷
    gives log ∷ refused 24 ∷ refused 24 ∷ refused 25 ∷
    gives log ∷ gives log2 ∷ gives quiet ∷ refused 24 ∷ refused 24 ∷ refused 25 ∷ []

-- The class of every outcome, and its place in a row.
abbrev pub outcomes : List answers.Outcome
outcomes =
    answers.positive answers.nowhere ∷ answers.negative 0 ∷ answers.negative 255 ∷ answers.suppressed ∷ answers.timeout ∷
    answers.fault (answers.deviation 1) ∷ answers.fault (answers.deviation8 2 none) ∷
    answers.disconnected ∷ answers.transport 5 ∷ answers.fault answers.bad_length ∷ answers.fault answers.overflow ∷ answers.refused 10 ∷ answers.pending_limit ∷ []

abbrev pub Slots : Type 0
Slots = map (λ (o : answers.Outcome). slot (class_in o)) outcomes ≡ 0 ∷ 1 ∷ 256 ∷ 257 ∷ 258 ∷ 259 ∷ 259 ∷ 260 ∷ 260 ∷ 260 ∷ 260 ∷ 260 ∷ 260 ∷ []

-- Logs, and the counter of each: 261 to a call.
unfoldable pub places : List ℕ
places =
    map place_of (
    log ∷ quiet ∷ log2 ∷
    log_of 7 3 0xf190 0 0 0 0 [] (says 10 (0x7f ∷ 0x22 ∷ 0x31 ∷ []) ∷ []) ∷
    log_of 4 7 0 0 0 0 0 [] [] ∷
    log_of 7 3 0xf190 0 0 0 0 [] (says 10 (0x63 ∷ []) ∷ []) ∷
    log_of 7 3 0xf190 0 0 0 0 [] (closes 10 ∷ []) ∷
    log_of 15 3 0x2f 0 0 0 0 [] (says 10 (0x59 ∷ 0x02 ∷ 0xff ∷ []) ∷ []) ∷ []
    )

abbrev pub Places : Type 0
Places =
    places ≡ 7 * 261 ∷ (4 * 261 + 258) ∷ 7 * 261 ∷ (7 * 261 + 1 + 0x31) ∷ (4 * 261 + 257) ∷ (7 * 261 + 259) ∷ (7 * 261 + 260) ∷ 15 * 261 ∷ []

-- "running every log in the book alone with its own timing": a session log whose answer sets P2 to 1, and a read behind it that is answered at 40. Both
-- are positive; the read would time out if its own P2 were 1.
unfoldable pub sets : List ℕ
sets = log_of 1 3 0 3 0 0 0 [] (says 10 (0x50 ∷ 0x03 ∷ 0 ∷ 1 ∷ 0x01 ∷ 0xf4 ∷ []) ∷ [])

unfoldable pub reads : List ℕ
reads = log_of 7 3 0xf190 0 0 0 0 [] (says 40 (0x62 ∷ 0xf1 ∷ 0x90 ∷ 0x31 ∷ []) ∷ [])

abbrev pub Alone : Type 0
Alone =
    (map (λ (i : ℕ). get_or (afresh (sets ∷ reads ∷ [])) i 0) (261 ∷ 7 * 261 ∷ (7 * 261 + 258) ∷ []) ≡ 1 ∷ 1 ∷ 0 ∷ []) ×
    (place_of (changed ((27, 1) ∷ []) reads) ≡ 7 * 261 + 258)

-- A counter is raised and stays at its largest number; the others stay.
abbrev pub Raised : Type 0
Raised =
    (map more (0 ∷ 1488 ∷ 65534 ∷ 65535 ∷ []) ≡ 1 ∷ 1489 ∷ 65535 ∷ 65535 ∷ []) ×
    (raised_at (5 ∷ 6 ∷ 7 ∷ []) 1 ≡ 5 ∷ 7 ∷ 7 ∷ []) ×
    (raised_at (5 ∷ 6 ∷ 7 ∷ []) 3 ≡ 5 ∷ 6 ∷ 7 ∷ [])

-- "a line for each counter that isn't 0, by call and then in this order"
abbrev pub Lines : Type 0
Lines =
    (counter_line (7 * 261) 0 ≡ []) ×
    (lines_from (6 * 261 + 259) (2 ∷ 3 ∷ 1489 ∷ 0 ∷ 4 ∷ []) ≡ ascii "6 deviation 2\n6 other 3\n7 positive 1489\n7 negative 01 4\n") ×
    (lines_from (15 * 261 + 255) (1 ∷ 1 ∷ 1 ∷ 1 ∷ 1 ∷ 1 ∷ [])
    ≡ ascii "15 negative fe 1\n15 negative ff 1\n15 suppressed 1\n15 timeout 1\n15 deviation 1\n15 other 1\n")

-- Both streams. The counters of a summary are counted in `Promises`; here they are few.
abbrev pub Streams : Type 0
Streams =
    (out (refused 24) ∷ said (refused 24) ∷ out (gives log) ∷ said (gives log) ∷ summary_out (refused 25) ∷ summary_out (gives (0 ∷ 2 ∷ [])) ∷ []
    ≡ [] ∷ ascii "refused 24\n" ∷ log ∷ [] ∷ [] ∷ ascii "0 negative 00 2\n" ∷ []) ×
    (add_out one (refused 22) ∷ add_out one (refused 23) ∷ add_out one (refused 25) ∷ add_out one (gives three) ∷ [] ≡ one ∷ one ∷ [] ∷ three ∷ [])

-- "added 7 0" and "7 positive 1"
abbrev pub Said : Type 0
Said = add_said (added_to empty log) (add empty log) ≡ ascii "added 7 0\n7 positive 1\n"

abbrev pub Rows : Type 0
Rows = Written × Tested × Answers × Slots × Places × Alone × Raised × Lines × Streams × Said
