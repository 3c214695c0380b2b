-- A request as the code takes it apart: SID, sub-function and numbers, then address and size, then data. No public contract cites these.
use Rattle.std.specs.Prelude as code
use Rattle.std.specs.Prelude.{Some, None, Ok, Err, Result}
use Rattle.std.specs.Prelude.{ℕ, ◌+◌, ◌-◌, ◌*◌, ◌%◌, Bool, true, false, List, [], ◌∷◌, ◌++◌, length, replicate}
use Rattle.exchange.specs.Meaning.{option_of}
use Rattle.rules.specs.Calls as rules
use Rattle.rules.specs.Calls.{given, byte}
use Rattle.rules.specs.InOrder.{judge}
use Rattle.rules.specs.Refusals as refusals
use Rattle.requests.specs.declared.Data.{Data}
use Rattle.requests.specs.declared.Data.TheVariants.{Absent}
use Rattle.requests.specs.declared.Head.{Head}
use Rattle.requests.specs.declared.rows.Numbers.{Numbers}
use Rattle.requests.specs.declared.rows.Numbers.TheVariants.{Empty, One, Two}
use Rattle.requests.specs.declared.rows.Takes.{Takes}
use Rattle.requests.specs.declared.rows.Takes.TheVariants.{Plain, Key, Memory, Load}
use Rattle.requests.specs.declared.parameters.Sent.{Sent}
use Rattle.requests.specs.Rows.{numbers_of, refusing, takes_memory}

-- "m = compression × 16 + encryption", or refusal 4 or 5.
abbrev pub methods : ℕ → ℕ → Result ℕ ℕ
methods c e = judge Err (refusals.methods c e) (Ok (c * 16 + e))

-- "f = size length × 16 + address length, both 1..15", or refusal 2 or 3.
abbrev pub lengths : List ℕ → List ℕ → Result ℕ ℕ
lengths a s = judge Err (refusals.lengths (given a) (given s)) (Ok (rules.format (given a) (given s)))

-- What a row sends if nothing is refused, given f: numbers, and whether the data stand behind them.
abbrev pub numbers_by : Takes → ℕ → Numbers
numbers_by (Plain ns p) f = ns
numbers_by (Key sub p) f = Empty
numbers_by (Memory p) f = One f
numbers_by (Load c e) f = Two (c * 16 + e) f

abbrev pub data_by : Takes → Data
data_by (Plain ns p) = p
data_by (Key sub p) = p
data_by (Memory p) = p
data_by (Load c e) = Absent

abbrev pub sent_by : Takes → ℕ → Sent
sent_by t f = record { numbers = numbers_by t f; memory = takes_memory t; «data» = data_by t }

-- The same of address and size, or the first refusal of 1 to 5.
abbrev pub arguments_of : Takes → List ℕ → List ℕ → Result Sent ℕ
arguments_of t a s = judge Err (refusing t (given a) (given s)) (Ok (sent_by t (rules.format (given a) (given s))))

-- The sub-function as it is sent.
abbrev pub bit7 : Bool → code.Option ℕ → code.Option ℕ
bit7 quiet None = None
bit7 true (Some s) = Some (s % 128 + 128)
bit7 false (Some s) = Some s

-- SID, sub-function and numbers.
abbrev pub opening_of : ℕ → code.Option ℕ → Numbers → List ℕ
opening_of sid s ns = sid ∷ byte (option_of s) ++ numbers_of ns

-- Up to four bytes, with zeros behind them.
abbrev pub padded : List ℕ → List ℕ
padded bs = bs ++ replicate (4 - length bs) 0

abbrev pub head_of : List ℕ → Head
head_of bs = record { 0 = length bs; 1 = padded bs }
