-- What the door answers where its numbers ask a call, and where they ask none.
use Rattle.std.specs.Prelude.{ℕ, Bool, cond, ◌&&◌, ◌≡◌, List, length}
use Rattle.rules.specs.Calls.{alfid}
use Rattle.rules.specs.Client.{Result}
use Rattle.rules.specs.Logs.{Header}
use Rattle.numbers.specs.Numbers.{numbers_of}
use Rattle.door.specs.Door.{asks_one, has_alfid, address_in, size_in, data_in, asked, lent_in}

-- 0 where the numbers ask a call: its request stands in the buffer by document 01's rules, and the answer has its numbers. 1 where they ask none: nothing is touched.
pub record Served (asks : Bool) (x : Result) (before told : List ℕ) (r : ℕ) (after' told' : List ℕ) : Type 0 where
  pub done : r ≡ cond asks 0 1
  pub request : after' ≡ cond asks x.buffer before
  pub answer : told' ≡ cond asks (numbers_of x) told

-- With argument bytes; in the `alfid` form with address and size as numbers v and u of widths w and w', the wide setting, and data.
abbrev pub InBytes : Header → ℕ → List ℕ → List ℕ → List ℕ → List ℕ → List ℕ → ℕ → List ℕ → List ℕ → Type 0
InBytes h k l request events replies answer r request' answer' =
    Served (asks_one h k (length l)) (asked h k (address_in h l) (size_in h l) (data_in h l) (lent_in h request events replies)) request answer r request' answer'

abbrev pub InNumbers : Header → ℕ → ℕ → ℕ → ℕ → ℕ → Bool → List ℕ → List ℕ → List ℕ → List ℕ → List ℕ → ℕ → List ℕ → List ℕ → Type 0
InNumbers h k v u w w' wide d request events replies answer r request' answer' =
    Served (has_alfid h.call && asks_one h k (length d)) (asked h k (alfid v w wide) (alfid u w' wide) d (lent_in h request events replies)) request answer r request' answer'
