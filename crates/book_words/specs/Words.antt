-- The words that `udsbook` is started with, and the command that they are.
use Rattle.std.specs.Prelude as code
use Rattle.std.specs.Prelude.{Some, None}
use Rattle.std.specs.Prelude.{ℕ, ◌+◌, ◌-◌, ◌*◌, Bool, cond, ◌&&◌, List, [], ◌∷◌, leb, eqb, length}
use Rattle.rules.specs.Bytes.{every, same}
use Rattle.rules.specs.Lines.{ascii}
use Rattle.book_words.specs.declared.Command.{Command}
use Rattle.book_words.specs.declared.Command.TheVariants.{New, Add, Find, Summary}

abbrev pub is_digit : ℕ → Bool
is_digit b = leb 48 b && leb b 57

-- The number that digits say, behind others that say v.
abbrev pub value_from : ℕ → List ℕ → ℕ
value_from v [] = v
value_from v (b ∷ bs) = value_from (v * 10 + (b - 48)) bs

-- "CALL and K decimal, up to 2^64 - 1"
unfoldable pub number_in : List ℕ → code.Option ℕ
number_in w = cond (leb 1 (length w) && every is_digit w && leb (value_from 0 w) 18446744073709551615) (Some (value_from 0 w)) None

-- CALL and K.
abbrev pub find_of : code.Option ℕ → code.Option ℕ → code.Option Command
find_of None k = None
find_of (Some c) None = None
find_of (Some c) (Some k) = Some (Find c k)

-- "udsbook new", "udsbook add BOOK", "udsbook find BOOK CALL K", "udsbook summary BOOK". So many words, the program's name among them; the word
-- behind the name, whether there is a file BOOK to read, and the words CALL and K. All else is wrong usage, None.
unfoldable pub command_of : ℕ → List ℕ → Bool → List ℕ → List ℕ → code.Option Command
command_of n word book call k =
    cond (eqb n 2 && same word (ascii "new")) (Some New)
    (cond (book && eqb n 3 && same word (ascii "add")) (Some Add)
    (cond (book && eqb n 5 && same word (ascii "find")) (find_of (number_in call) (number_in k))
    (cond (book && eqb n 3 && same word (ascii "summary")) (Some Summary) None)))
