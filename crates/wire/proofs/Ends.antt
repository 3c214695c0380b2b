-- Reads past the end of a list give 0, and a part that starts or ends past it is cut.
use Prim.Native.Nat.{ℕ, ◌+◌, ◌-◌, ◌≤◌}
use native.Mathlib.Omega.{arith}
use mathlib.Core.Path.{◌≡◌, sym, ◌∙◌}
use mathlib.Core.List.{List, []}
use lib.ListN.{length, get_or, take, drop, length-drop, drop_of_length-le, get_or-eq_default}
use lib.Seq.{take-nil, take_all}
use Rattle.rules.specs.Bytes.{u16_at, u32_at}

-- A byte past the end, and one that lies further on.
zero-past : (l : List ℕ) (i : ℕ) → length l ≤ i → get_or l i 0 ≡ 0
zero-past l i h = get_or-eq_default l 0 h

module _ (l : List ℕ) (i : ℕ) (h : length l ≤ i) where
  pub u16-past : u16_at l i ≡ 0
  u16-past = rw (zero-past l i h, zero-past l (i + 1) (omega arith))

  pub u32-past : u32_at l i ≡ 0
  u32-past = rw (u16-past, zero-past l (i + 2) (omega arith), zero-past l (i + 2 + 1) (omega arith))

module _ (l : List ℕ) (i n : ℕ) where
  pub part-past : length l ≤ i → take n (drop i l) ≡ []
  part-past h = rw (drop_of_length-le l h, take-nil n)

  pub part-rest : length l - i ≤ n → take n (drop i l) ≡ take (length l - i) (drop i l)
  part-rest h =
      let most : length (drop i l) ≤ n = omega (arith, length-drop i l) in
      take_all n (drop i l) most ∙ sym (take_all (length l - i) (drop i l) (omega (arith, length-drop i l)))
