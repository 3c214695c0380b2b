-- What the contracts say beside `rules`: where places lie, and what is answered where a definition's number does not fit the code's.
use Rattle.std.specs.Prelude.{ℕ, ◌^◌, Bool, cond, ◌≡◌, List, [], leb, ltb, length, take}
use Rattle.rules.specs.After.{checked, handed}
use Rattle.rules.specs.Answers as rules
use Rattle.rules.specs.Answers.{Part, nowhere, positive, if_positive}
use Rattle.rules.specs.Calls as calls
use Rattle.exchange.specs.declared.types.Place.{Place}
use Rattle.exchange.specs.declared.types.Outcome.{Outcome}
use Rattle.exchange.specs.declared.types.Outcome.TheVariants as outcome
use Rattle.exchange.specs.Meaning.{part_of, outcome_of}
use Rattle.exchange.specs.Places.{Inside, InsideOutcome}
use Rattle.requests.specs.declared.Call.{Call}
use Rattle.exchange.specs.States.{no_place}
use Rattle.requests.specs.Meaning.{call_of, bare}

-- The call that is checked. Of an address or a size the first 15 bytes count: no request has more (refusals 2 and 3).
-- Call 6's "2 + both lengths" is then a number that the code has. What the data is does not matter.
abbrev pub asked : Call → List ℕ → List ℕ → calls.Call
asked c a s = call_of c (take 15 a) (take 15 s) []

-- A part as a place can name it: what would begin past the end of the lent bytes is nowhere.
abbrev pub lent : List ℕ → Part → Part
lent replies p = cond (leb p.at (length replies)) p nowhere

-- The place that an outcome names.
abbrev pub place_of : Outcome → Place
place_of (outcome.PositiveResponse p) = p
place_of outcome.Suppressed = no_place
place_of (outcome.NegativeResponse c) = no_place
place_of outcome.Timeout = no_place
place_of outcome.Disconnected = no_place
place_of (outcome.Transport n) = no_place
place_of (outcome.Fault f) = no_place
place_of (outcome.Refused n) = no_place
place_of outcome.PendingLimit = no_place

abbrev pub answered : List ℕ → rules.Outcome → rules.Outcome
answered replies o = if_positive o (λ p. positive (lent replies p)) o

-- What `check` answers.
pub record Checked (strict : Bool) (call : Call) (a s replies : List ℕ) (place : Place) (r : Outcome) : Type 0 where
  pub means : outcome_of replies r ≡ answered replies (checked strict (asked call a s) (part_of replies place))
  pub inside : InsideOutcome replies r

-- The place of the data that a call hands out of the reply at a place.
pub record Handed (call : Call) (replies : List ℕ) (place r : Place) : Type 0 where
  pub means : part_of replies r ≡ lent replies (handed (bare call) (part_of replies place))
  pub inside : Inside replies r

-- A number of 64 bits; 0 for one above.
abbrev pub fitting : ℕ → ℕ
fitting v = cond (ltb v (2 ^ 64)) v 0
