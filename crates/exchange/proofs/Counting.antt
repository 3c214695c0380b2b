-- Counts that stand for lists of times: one more, and how large they are; and what T leaves of a settled exchange.
use Prim.Native.Nat.{ℕ, suc, ◌+◌, ◌≤◌, ◌<◌}
use native.Mathlib.Omega.{arith}
use mathlib.Core.Bool.{Bool, true, false, cond}
use mathlib.Core.Path.{◌≡◌, refl}
use mathlib.Core.List.{List, [], ◌∷◌, ◌++◌}
use mathlib.Core.Option.{Option, none, some}
use lib.Dec.{leb}
use lib.ListN.{length, length-append}
use Rattle.rules.specs.Events.{up_to}
use Rattle.exchange.specs.Counts.{in_time, count_to, count_of, one_more, counted, plus}

pub count_most : (overall : Option ℕ) (ts : List ℕ) → count_to overall ts ≤ length ts
count_most none ts = omega arith
count_most (some overall) [] = omega arith
count_most (some overall) (t ∷ ts) = go (leb t overall) (count_most (some overall) ts)
  where
    go : (b : Bool) → up_to overall ts ≤ length ts → cond b 1 0 + up_to overall ts ≤ suc (length ts)
    go true h = omega arith
    go false h = omega arith

pub count_none : (overall : Option ℕ) → count_of overall [] ≡ record { all = 0; early = 0 }
count_none none = refl
count_none (some overall) = refl

-- One time more.
module _ (t : ℕ) (ts : List ℕ) (room : length ts < 18446744073709551615) where
  one-all : one_more (length ts) ≡ suc (length ts)
  one-all = omega arith

  one-early : (overall : Option ℕ) → cond (in_time overall t) (one_more (count_to overall ts)) (count_to overall ts) ≡ count_to overall (t ∷ ts)
  one-early none = one-all
  one-early (some overall) = go (leb t overall) (count_most (some overall) ts)
    where
      go : (b : Bool) → up_to overall ts ≤ length ts → cond b (one_more (up_to overall ts)) (up_to overall ts) ≡ cond b 1 0 + up_to overall ts
      go true h = omega (arith, room)
      go false h = omega arith

  pub counted-one : (overall : Option ℕ) → counted overall t (count_of overall ts) ≡ count_of overall (t ∷ ts)
  counted-one overall = rw (one-all, one-early overall)

-- Each of these times more.
pub plus-counts : (overall : Option ℕ) (ts us : List ℕ) → length ts + length us ≤ 18446744073709551615 → plus overall ts (count_of overall us) ≡ count_of overall (ts ++ us)
plus-counts overall [] us h = refl
plus-counts overall (t ∷ ts) us h =
    rw (plus-counts overall ts us (omega arith)) (counted-one t (ts ++ us) (omega (arith, length-append ts us)) overall)
