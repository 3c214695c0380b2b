-- What the code's steps rest on.
use Rattle.std.proofs.Common.{◌≡◌, ℕ, ◌-◌, ◌*◌, ◌/◌, ◌<◌, ◌≤◌, List, length, take, drop, sym, ◌∙◌, div-lt_iff_lt-mul, le-div_iff_mul-le, arith, length-drop, take_all}
use Rattle.rules.specs.Blocks.{block, carried}

-- The test that block k begins before the end, which forms no product.
pub within : (len n k : ℕ) → 0 < n → 0 < len → k ≤ (len - 1) / n → k * n < len
within len n k h l b = omega (arith, (le-div_iff_mul-le {k = n} {x = k} {y = len - 1} h).0 b)

pub beyond : (len n k : ℕ) → 0 < n → (len - 1) / n < k → len ≤ k * n
beyond len n k h b = omega (arith, (div-lt_iff_lt-mul {k = n} {x = len - 1} {y = k} h).0 b)

-- Where no more than a block carries is left, the block is all of it.
pub rest : (bytes : List ℕ) (n k : ℕ) → length bytes - k * carried n ≤ carried n
    → take (length bytes - k * carried n) (drop (k * carried n) bytes) ≡ block bytes n k
unfolding block
rest bytes n k h =
    let l = length-drop (k * carried n) bytes in
    take_all (length bytes - k * carried n) (drop (k * carried n) bytes) (omega arith) ∙ sym (take_all (carried n) (drop (k * carried n) bytes) (omega arith))
