-- How `memory_bytes` makes a number's bytes. That they are as many as it is given and read back as itself, is in rules/proofs/Wide.
use Prim.Native.Nat.{ℕ, zero, suc, ◌+◌, ◌-◌, ◌/◌, ◌%◌, ◌^◌, ◌≤◌, ◌<◌}
use native.Mathlib.Nat.{pow-suc, one-le-pow, div-div-eq-div-mul, div-lt_iff_lt-mul, le-div_iff_mul-le, sub_self, sub-zero, zero-sub, suc-sub-suc}
use native.Mathlib.Numerals.{add-one}
use native.Mathlib.Omega.{arith}
use mathlib.Core.Bool.{Bool, true, false}
use mathlib.Core.Path.{◌≡◌}
use mathlib.Core.List.{List, ◌++◌}
use borrow.Author.Tests.{le-leb, lt-ltb, le-ltb}
use lib.ListN.{length, get_or, take, drop, set, replicate, take-append-drop}
use lib.Seq.{take-suc, append_snoc, set_at, length-take-le}
use Rattle.rules.specs.Bytes.{bytes_of}
use Rattle.rules.specs.Refusals.{widest}
use Rattle.std.specs.Prelude.{Ok, Err}
use Rattle.wire.specs.Memory.{memory_bytes}

pub widest-most : (wide : Bool) → widest wide ≤ 15
widest-most true = omega arith
widest-most false = omega arith

-- Whether what is left of v behind its last w bytes is nothing.
small : (w v : ℕ) → v / 256 ^ w ≤ 0 → v < 256 ^ w
small w v h = let z = (div-lt_iff_lt-mul {k = 256 ^ w} {x = v} {y = 1} (one-le-pow w 256 (omega arith))).0 (omega arith) in omega arith

large : (w v : ℕ) → 0 < v / 256 ^ w → 256 ^ w ≤ v
large w v h = let z = (le-div_iff_mul-le {k = 256 ^ w} {x = 1} {y = v} (one-le-pow w 256 (omega arith))).0 h in omega arith

drop-replicate : (k n a : ℕ) → drop k (replicate n a) ≡ replicate (n - k) a
drop-replicate zero n a = rw sub-zero
drop-replicate (suc k) zero a = rw zero-sub
drop-replicate (suc k) (suc n) a = rw suc-sub-suc (drop-replicate k n a)

-- The loop of `memory_bytes` writes into z from index w - 1 down. It begins with z as it is.
pub none_yet : (z : List ℕ) (w : ℕ) → z ≡ take (w - 0) z ++ drop w z
none_yet z w = rw (sub-zero, take-append-drop)

module _ (z : List ℕ) (w v j : ℕ) (fits : w ≤ length z) (more : j < w) where
  -- One byte more: the next one in front of those that stand already.
  pub byte_more : set (take (w - j) z ++ (bytes_of j v ++ drop w z)) (w - 1 - j) (v / 256 ^ j % 256) ≡ take (w - (j + 1)) z ++
      (bytes_of (j + 1) v ++ drop w z)
  byte_more =
      let k = w - suc j in
      let front : w - j ≡ suc k = omega arith in
      let at : w - 1 - j ≡ k = omega arith in
      let behind = bytes_of j v ++ drop w z in
      rw (add-one j, front, at, take-suc z k 0 (omega arith), append_snoc (take k z) (get_or z k 0) behind)
      (set_at (take k z) (get_or z k 0) behind (v / 256 ^ j % 256) k (length-take-le k z (omega arith)))

pub rest-less : (v j : ℕ) → v / 256 ^ j / 256 ≡ v / 256 ^ (j + 1)
rest-less v j = rw (add-one j, pow-suc 256 j, div-div-eq-div-mul)

-- What it has written in the end, by whether all of the value is.
module _ (w v : ℕ) (wide : Bool) (low : 1 ≤ w) (high : w ≤ widest wide) where
  pub written : (bytes : List ℕ) → v / 256 ^ w ≤ 0 → bytes ≡ take (w - w) (replicate 15 0) ++ (bytes_of w v ++ drop w (replicate 15 0))
      → Ok (record { len = w; bytes = bytes }) ≡ memory_bytes v w wide
  unfolding memory_bytes
  written bytes h e =
      rw (le-leb 1 w low, le-leb w (widest wide) high, lt-ltb v (256 ^ w) (small w v h), e, sub_self, drop-replicate w 15 0)

  pub too-narrow : 0 < v / 256 ^ w → Err 7 ≡ memory_bytes v w wide
  unfolding memory_bytes
  too-narrow h = rw (le-leb 1 w low, le-leb w (widest wide) high, le-ltb v (256 ^ w) (large w v h))
