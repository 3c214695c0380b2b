-- What is answered of a book, and what then stands in the lent buffer and counters.
use Rattle.std.specs.Prelude as code
use Rattle.std.specs.Prelude.{Some, None, Result, Ok, Err}
use Rattle.std.specs.Prelude.{ℕ, zero, suc, ◌+◌, cond, List, [], ◌∷◌, ◌≡◌, leb, eqb, length}
use Rattle.rules.specs.Bytes.{u16_at}
use Rattle.rules.specs.Logs.{area}
use Rattle.wire.specs.Buffers.{with}
use Rattle.wire.specs.Refusing.{refusal_number}
use Rattle.wire.specs.declared.refusal.Refusal.{Refusal}
use Rattle.exchange.specs.declared.types.Place.{Place}
use Rattle.bookkeeping.specs.Layout.{call_byte, start, book_of, logs_in}
use Rattle.bookkeeping.specs.Summary.{counters, raised}
use Rattle.bookkeeping.specs.Book as bookkeeping
use Rattle.bookkeeping.specs.Book.{is_book, added_to}
use Rattle.book.specs.declared.BookError.{BookError}
use Rattle.book.specs.declared.BookError.TheVariants as error
use Rattle.book.specs.declared.Entry.{Entry}

-- Where the k-th log of a call stands, of logs that follow each other from index `at` on.
abbrev pub stands_at : ℕ → ℕ → ℕ → List (List ℕ) → ℕ
stands_at c k at [] = at
stands_at c zero at (l ∷ ls) = cond (eqb (call_byte l) c) at (stands_at c zero (at + length l) ls)
stands_at c (suc k) at (l ∷ ls) = stands_at c (cond (eqb (call_byte l) c) k (suc k)) (at + length l) ls

-- The log is the one that is found, byte for byte; and its place is where it stands.
abbrev pub answer_of : List ℕ → Result Place Refusal → bookkeeping.Answer
answer_of b (Ok p) = bookkeeping.gives (area b p.at p.len)
answer_of b (Err r) = bookkeeping.refused (refusal_number r)

abbrev pub Placed : List ℕ → ℕ → ℕ → Result Place Refusal → Type 0
Placed b c k (Ok p) = (p.at ≡ stands_at c k (start (u16_at b 4)) (logs_in b)) × (p.len ≡ length (area b p.at p.len))
Placed b c k (Err r) = Unit {0}

pub record Finds (b : List ℕ) (c k : ℕ) (r : Result Place Refusal) : Type 0 where
  pub answer : answer_of b r ≡ bookkeeping.find b c k
  pub place : Placed b c k r

-- A refusal by its number, or no room.
pub data Why : Type 0 where
  refused : ℕ → Why
  no_room : Why

abbrev pub why : BookError → Why
why (error.Refused r) = refused (refusal_number r)
why error.NoRoom = no_room

abbrev pub entry_of : Entry → bookkeeping.Added
entry_of e = record { call = e.call; number = e.number; place = e.place }

-- A book of so many bytes with the log's entry, or why not.
abbrev pub added_of : Result (ℕ × Entry) BookError → Result (ℕ × bookkeeping.Added) Why
added_of (Ok (n, e)) = Ok (n, entry_of e)
added_of (Err x) = Err (why x)

-- With so much room.
abbrev pub answered : bookkeeping.Answer → bookkeeping.Added → ℕ → Result (ℕ × bookkeeping.Added) Why
answered (bookkeeping.refused n) e room = Err (refused n)
answered (bookkeeping.gives new) e room = cond (leb (length new) room) (Ok (length new, e)) (Err no_room)

-- The longer book stands at the buffer's front, and the rest keeps its bytes; "the book unchanged" where refused, or without room. So the summary.
abbrev pub left : bookkeeping.Answer → List ℕ → List ℕ
left (bookkeeping.refused n) buffer = buffer
left (bookkeeping.gives new) buffer = with buffer 0 new

abbrev pub counts : bookkeeping.Answer → List ℕ → ℕ → List ℕ → List ℕ
counts (bookkeeping.refused n) log room summary = summary
counts (bookkeeping.gives new) log room summary = cond (leb (length new) room) (raised summary log) summary

pub record Adds (b log buffer summary : List ℕ) (r : Result (ℕ × Entry) BookError) (buffer' summary' : List ℕ) : Type 0 where
  pub answer : added_of r ≡ answered (bookkeeping.add b log) (added_to b log) (length buffer)
  pub book : buffer' ≡ left (bookkeeping.add b log) buffer
  pub summary-is : summary' ≡ counts (bookkeeping.add b log) log (length buffer) summary

-- The summary that is worked out afresh stands in the counters, if they are as many as it has.
abbrev pub summed_of : Result (Unit {0}) BookError → Result (Unit {0}) Why
summed_of (Ok x) = Ok x
summed_of (Err x) = Err (why x)

abbrev pub summed : bookkeeping.Answer → ℕ → Result (Unit {0}) Why
summed (bookkeeping.refused n) room = Err (refused n)
summed (bookkeeping.gives s) room = cond (eqb room counters) (Ok tt) (Err no_room)

abbrev pub counters_after : bookkeeping.Answer → List ℕ → List ℕ
counters_after (bookkeeping.refused n) before = before
counters_after (bookkeeping.gives s) before = cond (eqb (length before) counters) s before

pub record Sums (b before : List ℕ) (r : Result (Unit {0}) BookError) (after : List ℕ) : Type 0 where
  pub answer : summed_of r ≡ summed (bookkeeping.summary b) (length before)
  pub summary : after ≡ counters_after (bookkeeping.summary b) before

-- The empty book stands at the buffer's front.
pub record Begins (before : List ℕ) (r : code.Option ℕ) (after : List ℕ) : Type 0 where
  pub answer : r ≡ cond (leb 20 (length before)) (Some 20) None
  pub book : after ≡ with before 0 (book_of [])
