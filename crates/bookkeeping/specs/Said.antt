-- What `udsbook` writes to both streams.
use Rattle.std.specs.Prelude.{ℕ, suc, ◌/◌, ◌%◌, cond, List, [], ◌∷◌, ◌++◌, eqb, get_or}
use Prim.Native.String.{String}
use Rattle.rules.specs.Lines.{ascii, decimal, hex, spaced}
use Rattle.bookkeeping.specs.Layout.{logs_in}
use Rattle.bookkeeping.specs.Summary.{Class, positive, negative, suppressed, timed_out, deviating, other, width, class_at, afresh}
use Rattle.bookkeeping.specs.Book.{Answer, refused, gives, Added, added_to, add, find, summary}

-- "CODE two hex digits"
abbrev pub word : Class → List ℕ
word positive = ascii "positive"
word (negative code) = ascii "negative" ++ spaced (hex (code ∷ []))
word suppressed = ascii "suppressed"
word timed_out = ascii "timeout"
word deviating = ascii "deviation"
word other = ascii "other"

-- "CALL positive N": "a line for each counter that isn't 0", of the counter at place i.
abbrev pub counter_line : ℕ → ℕ → List ℕ
counter_line i n = cond (eqb n 0) [] (decimal (i / width) ++ spaced (word (class_at (i % width))) ++ spaced (decimal n) ++ (10 ∷ []))

-- "by call and then in this order": the counters from place i on.
unfoldable pub lines_from : ℕ → List ℕ → List ℕ
lines_from i [] = []
lines_from i (n ∷ ns) = counter_line i n ++ lines_from (suc i) ns

abbrev pub refusal : ℕ → List ℕ
refusal n = ascii "refused" ++ spaced (decimal n) ++ (10 ∷ [])

-- `find` and `summary`: "standard error is `refused N`, with nothing on standard output, or empty."
unfoldable pub out : Answer → List ℕ
out (refused n) = []
out (gives bs) = bs

unfoldable pub said : Answer → List ℕ
said (refused n) = refusal n
said (gives bs) = []

unfoldable pub summary_out : Answer → List ℕ
summary_out (refused n) = []
summary_out (gives counters) = lines_from 0 counters

-- `add`: "standard output is the book afterwards. Where refused with 22 or 23 that is the old book, byte for byte ..; with 25 nothing."
unfoldable pub add_out : List ℕ → Answer → List ℕ
add_out b (refused n) = cond (eqb n 25) [] b
add_out b (gives new) = new

-- "added CALL K" and "the summary's line that this log raised, with its new number".
unfoldable pub add_said : Added → Answer → List ℕ
add_said x (refused n) = refusal n
add_said x (gives new) =
    ascii "added" ++ spaced (decimal x.call) ++ spaced (decimal x.number) ++ (10 ∷ counter_line x.place (get_or (afresh (logs_in new)) x.place 0))
