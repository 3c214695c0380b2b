-- The parameters in their parts are the call's.
use Prim.Native.Nat.{ℕ}
use mathlib.Core.Bool.{cond}
use mathlib.Core.List.{List, [], ◌++◌, append-nil}
use mathlib.Core.Path.{◌≡◌, refl}
use Rattle.rules.specs.Calls.{given, format}
use Rattle.requests.specs.declared.Data.TheVariants.{Absent, Present}
use Rattle.requests.specs.declared.rows.Takes.{Takes}
use Rattle.requests.specs.declared.rows.Takes.TheVariants.{Plain, Key, Memory, Load}
use Rattle.requests.specs.Meaning.{data_bytes}
use Rattle.requests.specs.Parameters.{numbers_by, data_by}
use Rattle.requests.specs.Rows.{numbers_of, taken, takes_memory}

-- The parameters of a row are its numbers with address, size and data behind them.
module _ (a s d : List ℕ) where
  pub parts : (t : Takes) → taken t (given a) (given s) d ≡ numbers_of (numbers_by t (format (given a) (given s))) ++ cond (takes_memory t) a [] ++ cond (takes_memory t) s [] ++ data_bytes (data_by t) d
  parts (Plain ns p) = rw (append-nil (numbers_of ns), append-nil (numbers_of ns))
  parts (Key sub p) = refl
  parts (Memory Absent) = rw append-nil
  parts (Memory Present) = refl
  parts (Load c e) = rw append-nil
