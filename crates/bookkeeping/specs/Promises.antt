-- What request Thirteen promises of a book, as statements.
use Rattle.std.specs.Prelude.{ℕ, ◌+◌, ◌*◌, ◌≤◌, ◌<◌, true, false, List, [], ◌∷◌, ◌++◌, ◌↔◌, ◌≡◌, length}
use Rattle.rules.specs.Bytes.{every, is_byte}
use Rattle.rules.specs.Logs.{layout_ok}
use Rattle.bookkeeping.specs.Fields.{by_fields}
use Rattle.bookkeeping.specs.Layout.{call_byte, book_of, logs_in}
use Rattle.bookkeeping.specs.Book.{most, is_book, of_call, refused, gives, Added, added_to, add, find, Kept, kept, adding_all}
use Rattle.bookkeeping.specs.Summary.{slot, class_at, class_of, width, count, afresh}

-- A book's logs are read back; so a book is what is written of one list of logs, none of them bad, in 64 KiB.
abbrev pub ReadsBack : Type 0
ReadsBack = (ls : List (List ℕ)) → logs_in (book_of ls) ≡ ls

abbrev pub WhatABookIs : Type 0
WhatABookIs = (b : List ℕ) → (is_book b ≡ true) ↔ ((ls : List (List ℕ)) × (every layout_ok ls ≡ true) × (book_of ls ≡ b) × (length b ≤ most))

-- The test field by field is the same test.
abbrev pub ByFields : Type 0
ByFields = (b : List ℕ) → every is_byte b ≡ true → by_fields b ≡ is_book b

-- Adding gives a book, of the logs before and this one behind them: "no log is lost or moved".
abbrev pub AddingGivesABook : Type 0
AddingGivesABook = (b log new : List ℕ) → add b log ≡ gives new → (is_book new ≡ true) × (logs_in new ≡ logs_in b ++ (log ∷ []))

-- What was just added is found, under the call and number that are told.
abbrev pub FindsTheNew : Type 0
FindsTheNew = (b log new : List ℕ) → add b log ≡ gives new → find new (added_to b log).call (added_to b log).number ≡ gives log

-- What was found before is found as before.
abbrev pub FindsTheOld : Type 0
FindsTheOld = (b log new : List ℕ) → add b log ≡ gives new → (c k : ℕ) (x : List ℕ) → find b c k ≡ gives x → find new c k ≡ gives x

-- "gives that log and no other": it is one of the book's logs, behind k of its call.
abbrev pub FindsThatLog : Type 0
FindsThatLog =
    (b : List ℕ) (c k : ℕ) (x : List ℕ) → find b c k ≡ gives x
    → (before : List (List ℕ)) × (behind : List (List ℕ)) × (logs_in b ≡ before ++ (x ∷ behind)) × (call_byte x ≡ c) × (length (of_call c before) ≡ k)

-- "it always equals one worked out afresh": over any logs that are handed over, refused or not.
abbrev pub SummaryStays : Type 0
SummaryStays =
    (b : List ℕ) (logs : List (List ℕ)) → is_book b ≡ true →
    let x = adding_all (kept b (afresh (logs_in b))) logs in
    (is_book x.book ≡ true) × (x.summary ≡ afresh (logs_in x.book))

-- "at most 1,489 logs fit, so 16 bits do"
abbrev pub CountersFit : Type 0
CountersFit = (b : List ℕ) → is_book b ≡ true → (length (logs_in b) ≤ 1489) × ((i : ℕ) → count i (logs_in b) ≤ 1489)

-- A place of a row says the class that it counts.
abbrev pub SaysItsClass : Type 0
SaysItsClass = (i : ℕ) → i < width → slot (class_at i) ≡ i

-- A book of bytes with a log of bytes is a book of bytes: every number fits its field.
abbrev pub OfBytes : Type 0
OfBytes = (b log new : List ℕ) → every is_byte b ≡ true → every is_byte log ≡ true → add b log ≡ gives new → every is_byte new ≡ true

-- "Exactly 65,536 fits": one log of 65,508 bytes fills a book.
abbrev pub Filled : Type 0
Filled =
    (log : List ℕ) → layout_ok log ≡ true
    → (length log ≤ 65508 → add (book_of []) log ≡ gives (book_of (log ∷ []))) × (65508 < length log → add (book_of []) log ≡ refused 22)

-- "input over 65,535 bytes is a bad log too"
abbrev pub TooLongIsBad : Type 0
TooLongIsBad = (b log : List ℕ) → is_book b ≡ true → every is_byte log ≡ true → 65535 < length log → add b log ≡ refused 23
