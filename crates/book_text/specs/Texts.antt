-- The text of `udsbook` in a lent buffer.
use Rattle.std.specs.Prelude as code
use Rattle.std.specs.Prelude.{Some, None}
use Rattle.std.specs.Prelude.{ℕ, Bool, true, false, List, [], ◌∷◌, ◌++◌, ◌≡◌, get_or}
use Rattle.rules.specs.Lines.{ascii}
use Rattle.text.specs.Written.{counted, Put}
use Rattle.bookkeeping.specs.Said.{counter_line}

-- "added CALL K", and the line of the counter at a place.
abbrev pub added_text : ℕ → ℕ → ℕ → List ℕ → List ℕ
added_text call number place summary = counted (ascii "added") call ++ counted [] number ++ (10 ∷ counter_line place (get_or summary place 0))

-- The line of wrong usage.
unfoldable pub usage : List ℕ
usage = ascii "usage: udsbook new | add BOOK | find BOOK CALL K | summary BOOK\n"

-- With room the text stands at the buffer's front, and the answer is its length; without, the buffer is left as it was, and the answer is None.
abbrev pub Puts : Bool → List ℕ → List ℕ → List ℕ → code.Option ℕ → Type 0
Puts true before bs after (Some n) = Put before 0 bs after n
Puts true before bs after None = ⊥
Puts false before bs after r = (after ≡ before) × (r ≡ None)
