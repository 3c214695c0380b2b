-- Counts of events and notices, all of them and those at times up to T, for the lists of times that `rules` carries.
use Rattle.std.specs.Prelude.{ℕ, ◌+◌, min, Bool, true, cond, List, [], ◌∷◌, leb, length}
use Rattle.std.proofs.Math.Option.{Option, none, some}
use Rattle.rules.specs.Events.{up_to}
use Rattle.exchange.specs.declared.types.Count.{Count}

abbrev pub in_time : Option ℕ → ℕ → Bool
in_time none t = true
in_time (some overall) t = leb t overall

abbrev pub count_to : Option ℕ → List ℕ → ℕ
count_to none ts = length ts
count_to (some overall) ts = up_to overall ts

-- The count of these times.
abbrev pub count_of : Option ℕ → List ℕ → Count
count_of overall ts = record { all = length ts; early = count_to overall ts }

-- No event list is so long that a count stays where it is.
abbrev pub one_more : ℕ → ℕ
one_more n = min (n + 1) 18446744073709551615

-- A count with one time more, and with each of these.
abbrev pub counted : Option ℕ → ℕ → Count → Count
counted overall t k = record { all = one_more k.all; early = cond (in_time overall t) (one_more k.early) k.early }

abbrev pub plus : Option ℕ → List ℕ → Count → Count
plus overall [] k = k
plus overall (t ∷ ts) k = counted overall t (plus overall ts k)
