-- What is a book, and what can be done with one. A log is bad if `udslog` would call it so.
use Rattle.std.specs.Prelude.{ℕ, ◌+◌, Bool, cond, ◌&&◌, List, [], ◌∷◌, ◌++◌, leb, ltb, eqb, length, get_or}
use Rattle.rules.specs.Bytes.{every, same}
use Rattle.rules.specs.InOrder.{Check, unless, judge}
use Rattle.rules.specs.Logs.{layout_ok}
use Rattle.bookkeeping.specs.Layout.{entry_size, call_byte, book_of, logs_in}
use Rattle.bookkeeping.specs.Summary.{place_of, afresh, raised}

-- "at most 64 KiB"
abbrev pub most : ℕ
most = 65536

-- Bytes are a book if they are what is written of the logs that they say, none of them bad.
unfoldable pub is_book : List ℕ → Bool
is_book b = every layout_ok (logs_in b) && same (book_of (logs_in b)) b && leb (length b) most

-- The logs of a call, in the order in which they were added.
abbrev pub of_call : ℕ → List (List ℕ) → List (List ℕ)
of_call c [] = []
of_call c (l ∷ ls) = cond (eqb (call_byte l) c) (l ∷ of_call c ls) (of_call c ls)

-- A book, a log or a summary; or a refusal.
pub data Answer : Type 0 where
  refused : ℕ → Answer
  gives : List ℕ → Answer

-- "22 no room for log and entry, 23 a log that `udslog` would call bad, .. 25 bytes that are no book; 25 first, 23 before 22"
abbrev pub addable : List ℕ → List ℕ → List (Check ℕ)
addable b log =
    unless (is_book b) 25 ∷
    unless (layout_ok log) 23 ∷
    unless (leb (length b + entry_size + length log) most) 22 ∷ []

unfoldable pub add : List ℕ → List ℕ → Answer
add b log = judge refused (addable b log) (gives (book_of (logs_in b ++ (log ∷ []))))

-- Under which call and number a log is found that is added to a book, and which counter of the summary counts it.
pub record Added : Type 0 where
  pub call : ℕ
  pub number : ℕ
  pub place : ℕ

abbrev pub added_to : List ℕ → List ℕ → Added
added_to b log = record { call = call_byte log; number = length (of_call (call_byte log) (logs_in b)); place = place_of log }

-- "Finding the k-th log (from 0) of a call gives that log and no other"; "24 no such log"
unfoldable pub find : List ℕ → ℕ → ℕ → Answer
find b c k =
    let ls = of_call c (logs_in b) in
    judge refused (unless (is_book b) 25 ∷ unless (ltb k (length ls)) 24 ∷ []) (gives (get_or ls k []))

-- The summary, worked out afresh.
unfoldable pub summary : List ℕ → Answer
summary b = judge refused (unless (is_book b) 25 ∷ []) (gives (afresh (logs_in b)))

-- A book and the summary beside it.
pub record Kept : Type 0 where
  pub book : List ℕ
  pub summary : List ℕ

abbrev pub kept : List ℕ → List ℕ → Kept
kept b s = record { book = b; summary = s }

-- "the book unchanged", and the summary, where refused.
abbrev pub after : Answer → Kept → List ℕ → Kept
after (refused n) x log = x
after (gives new) x log = kept new (raised x.summary log)

abbrev pub adding : Kept → List ℕ → Kept
adding x log = after (add x.book log) x log

abbrev pub adding_all : Kept → List (List ℕ) → Kept
adding_all x [] = x
adding_all x (log ∷ logs) = adding_all (adding x log) logs
