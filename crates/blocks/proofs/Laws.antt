-- The laws of cutting: of `rules`' block and counter, and of this crate's answer.
use Rattle.std.proofs.Common.{◌≡◌, ℕ, zero, suc, ◌+◌, ◌-◌, ◌*◌, ◌%◌, ◌<◌, ◌≤◌, Bool, true, false, ltb, leb, ◌↔◌, List, [], length, take, drop, sym, refl, ap, ◌∙◌, suc-mul, div-lt_iff_lt-mul, le-div_iff_mul-le, zero-mul, arith, length-drop, drop_of_length-le, length-take, length-take-le, take_all, take-add, ltb-false, ltb-true, le-ltb, lt-ltb, le-leb, leb-false, leb-true}
use native.Mathlib.Nat.{mod-add-mod}
use lib.Seq.{take-nil}
use borrow.Author.Tests.{lt-leb}
use Rattle.rules.specs.Blocks.{block, counter, carried}
use Rattle.rules.specs.Calls.{request_of}
use Rattle.rules.specs.Layouts.{transfer_of}
use Rattle.std.specs.Prelude.{Ok, Err}
use Rattle.blocks.specs.Cuts.{cut, number, joined}

-- "Its counter starts at 1 and steps by one modulo 256, so 0 follows 255."
pub counter-starts : counter 0 ≡ 1
counter-starts = refl

pub counter-steps : (k : ℕ) → counter (k + 1) ≡ (counter k + 1) % 256
counter-steps k = sym (mod-add-mod (k + 1) 256 1)

pub zero-follows-255 : (k : ℕ) → counter k ≡ 255 → counter (k + 1) ≡ 0
zero-follows-255 k e = counter-steps k ∙ rw e

-- The answer by cases. 11: "N below 3"; 12: "no block of that number".
module _ (bytes : List ℕ) (n k : ℕ) where
  pub accepts : 3 ≤ n → k * carried n < length bytes → cut bytes n k ≡ Ok (counter k)
  unfolding cut
  accepts h b = rw (le-leb 3 n h, lt-ltb (k * carried n) (length bytes) b)

  pub refuses-length : n < 3 → cut bytes n k ≡ Err 11
  unfolding cut
  refuses-length h = rw (lt-leb 3 n h)

  pub refuses-number : 3 ≤ n → length bytes ≤ k * carried n → cut bytes n k ≡ Err 12
  unfolding cut
  refuses-number h b = rw (le-leb 3 n h, le-ltb (k * carried n) (length bytes) b)

  -- Who has a counter has a block, and the counter is (k + 1) modulo 256.
  pub record Given (c : ℕ) : Type 0 where
    pub long : 3 ≤ n
    pub begins : k * carried n < length bytes
    pub counts : c ≡ (k + 1) % 256

  pub given : (c : ℕ) → cut bytes n k ≡ Ok c → Given c
  given c e = go (leb 3 n) (ltb (k * carried n) (length bytes)) refl refl
    where
      go : (p q : Bool) → leb 3 n ≡ p → ltb (k * carried n) (length bytes) ≡ q → Given c
      go true true ep eq =
          let h = leb-true 3 n ep in
          let b = ltb-true (k * carried n) (length bytes) eq in
          let a = accepts h b in
          record { long = h; begins = b; counts = cc }
      go true false ep eq =
          let a = refuses-number (leb-true 3 n ep) (ltb-false (k * carried n) (length bytes) eq) in
          let z : ◌≡◌ {A = ℕ} 0 1 = cc in
          absurd (omega arith)
      go false q ep eq =
          let a = refuses-length (leb-false 3 n ep) in
          let z : ◌≡◌ {A = ℕ} 0 1 = cc in
          absurd (omega arith)

  -- Whoever is not refused has a block: it begins inside the data.
  pub begins : (c : ℕ) → Ok c ≡ cut bytes n k → (cut bytes n k ≡ cut bytes n k) × (3 ≤ n) × (k * (n - 2) < length bytes)
  begins c e = let g = given c (sym e) in (refl, g.long, g.begins)

  -- Who is refused is handed no bytes.
  pub refused-empty : (r : ℕ) → cut bytes n k ≡ Err r → block bytes n k ≡ []
  unfolding block
  refused-empty r e = go (leb 3 n) (ltb (k * carried n) (length bytes)) refl refl
    where
      go : (p q : Bool) → leb 3 n ≡ p → ltb (k * carried n) (length bytes) ≡ q → take (carried n) (drop (k * carried n) bytes) ≡ []
      go true true ep eq =
          let a = accepts (leb-true 3 n ep) (ltb-true (k * carried n) (length bytes) eq) in
          let z : ◌≡◌ {A = ℕ} 0 1 = cc in
          absurd (omega arith)
      go true false ep eq = rw (drop_of_length-le bytes (ltb-false (k * carried n) (length bytes) eq), take-nil)
      go false q ep eq =
          let z : carried n ≡ 0 = omega (arith, leb-false 3 n ep) in
          ap (λ (m : ℕ). take m (drop (k * carried n) bytes)) z

module _ (bytes : List ℕ) (n : ℕ) (h : 3 ≤ n) where
  abbrev step : ℕ
  step = carried n

  -- The number of blocks: block k is one of them exactly if it begins before the data's end, and exactly if it is not refused.
  pub numbered : (k : ℕ) → (k < number bytes n) ↔ (k * step < length bytes)
  numbered k =
      let iff = le-div_iff_mul-le {k = step} {x = suc k} {y = length bytes + (step - 1)} (omega arith) in
      let next = suc-mul k step in
      (λ b. omega (arith, iff.0 b), λ b. iff.1 (omega arith))

  pub handed_out : (k : ℕ) → (k < number bytes n) ↔ (cut bytes n k ≡ Ok (counter k))
  handed_out k =
      (λ b. accepts bytes n k h ((numbered k).0 b), λ e. (numbered k).1 (given bytes n k (counter k) e).begins)

  enough : length bytes ≤ number bytes n * step
  enough =
      let m = number bytes n in
      let iff = div-lt_iff_lt-mul {k = step} {x = length bytes + (step - 1)} {y = suc m} (omega arith) in
      omega (arith, iff.0 (omega arith), suc-mul m step)

  -- "Blocks joined in order are the data": the first m blocks are the first m·(N − 2) bytes.
  joined-take : (m : ℕ) → joined bytes n m ≡ take (m * step) bytes
  unfolding block
  joined-take zero = rw zero-mul
  joined-take (suc m) = rw (joined-take m, suc-mul, take-add)

  pub joined-data : joined bytes n (number bytes n) ≡ bytes
  joined-data = joined-take (number bytes n) ∙ take_all (number bytes n * step) bytes enough

  -- Each block but the last has N − 2 bytes.
  pub full : (k : ℕ) → k + 1 < number bytes n → length (block bytes n k) ≡ step
  unfolding block
  full k b =
      let begins = (numbered (suc k)).0 (omega arith) in
      let next = suc-mul k step in
      length-take-le step (drop (k * step) bytes) (simp length-drop (omega arith))

  -- The last has what is left, at least one byte.
  pub last : (k : ℕ) → k + 1 ≡ number bytes n → (length (block bytes n k) ≡ length bytes - k * step) × (1 ≤ length (block bytes n k))
  unfolding block
  last k e =
      let b = (numbered k).0 (omega arith) in
      let rest = length-drop (k * step) bytes in
      let whole = take_all step (drop (k * step) bytes) (omega (arith, enough, suc-mul k step, ap (λ (m : ℕ). m * step) e)) in
      (rw whole rest, rw whole (omega arith))

  -- The whole request that call 13 sends for a block is at most N bytes long, and exactly N for every block but the last.
  pub request-fits : (quiet : Bool) (k : ℕ) → k < number bytes n → length (request_of quiet (transfer_of bytes n k)) ≤ n
  unfolding block
  request-fits quiet k b = omega (arith, length-take step (drop (k * step) bytes))

  pub request-full : (quiet : Bool) (k : ℕ) → k + 1 < number bytes n → length (request_of quiet (transfer_of bytes n k)) ≡ n
  request-full quiet k b = omega (arith, full k b)

-- "Empty data has no blocks."
pub empty-none : (n : ℕ) → 3 ≤ n → number [] n ≡ 0
empty-none n h = omega (arith, (div-lt_iff_lt-mul {k = carried n} {x = 0 + (carried n - 1)} {y = 1} (omega arith)).1 (omega arith))
