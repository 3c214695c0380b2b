-- Laws of what is said of a file, by how it begins.
use Prim.Native.Nat.{ℕ, zero, suc, ◌+◌, ◌≤◌, ◌<◌}
use native.Mathlib.Omega.{arith}
use mathlib.Core.Bool.{Bool, true, false, cond, ◌&&◌}
use mathlib.Core.List.{List, [], ◌++◌}
use mathlib.Core.Path.{◌≡◌, refl, ap, ◌∙◌}
use borrow.Author.Tests.{le-leb, lt-leb, lt-ltb, le-ltb, eq-eqb, ne_eqb}
use lib.Dec.{leb, ltb, eqb}
use lib.ListN.{length, length-drop}
use Rattle.log_files.specs.Files.{size, rest}
use Rattle.log_files.specs.Said.{cut_line, length_line, length_said, said_to, said_from}
use Rattle.log_files.proofs.Files.{shorter}

-- What is said of a file that begins with log n, by what is said of the rest.
abbrev step : ℕ → List ℕ → List ℕ → List ℕ
step n file more = cond (eqb (length file) 0) [] (length_said n file ++ cond (leb (4 + size file) (length file)) more (cut_line n))

-- As many logs as bytes are enough, and more change nothing.
enough : (k m n : ℕ) (file : List ℕ) → length file ≤ k → length file ≤ m → said_to k n file ≡ said_to m n file
unfolding said_to
enough zero zero n file h k = refl
enough zero (suc m) n file h k = rw (eq-eqb (length file) 0 (omega arith))
enough (suc j) zero n file h k = rw (eq-eqb (length file) 0 (omega arith))
enough (suc j) (suc m) n file h k = ap (step n file) (enough j m (suc n) (rest file) (shorter file j h) (shorter file m k))

-- One log, as the definition has it, without a number of logs.
pub said-by : (n : ℕ) (file : List ℕ) → said_from n file ≡ step n file (said_from (suc n) (rest file))
unfolding said_from said_to
said-by n file =
    enough (length file) (suc (length file)) n file (omega arith) (omega arith) ∙
    ap (step n file) (enough (length file) (length (rest file)) (suc n) (rest file) (shorter file (length file) (omega arith)) (omega arith))

module _ (n : ℕ) (file : List ℕ) where
  pub said-none : length file ≤ 0 → said_from n file ≡ []
  said-none h = said-by n file ∙ rw (eq-eqb (length file) 0 (omega arith))

  -- A length that a log can have, or that is not there yet.
  pub no_length : (4 ≤ length file → size file ≤ 65535) → length_said n file ≡ []
  no_length h = go (leb 4 (length file)) refl
    where
      go : (b : Bool) → leb 4 (length file) ≡ b → length_said n file ≡ []
      go true e = rw (e, le-ltb 65535 (size file) (h (borrow.Author.Tests.leb-true 4 (length file) e)))
      go false e = rw e

  pub off-length : 4 ≤ length file → 65535 < size file → length_said n file ≡ length_line n (size file)
  off-length h k = rw (le-leb 4 (length file) h, lt-ltb 65535 (size file) k)

  module _ (some : 0 < length file) where
    there : eqb (length file) 0 ≡ false
    there = ne_eqb (length file) 0 (λ z. absurd (omega arith))

    -- Whole, and of a length that a log can have.
    pub said-whole : 4 + size file ≤ length file → size file ≤ 65535 → said_from n file ≡ said_from (suc n) (rest file)
    said-whole h k = said-by n file ∙ rw (there, no_length (λ four. k), le-leb (4 + size file) (length file) h)

    pub said-cut : length file < 4 + size file → (4 ≤ length file → size file ≤ 65535) → said_from n file ≡ cut_line n
    said-cut h k = said-by n file ∙ rw (there, no_length k, lt-leb (4 + size file) (length file) h)

    -- Of a length that no log has: what is behind so many bytes, or that they are not all there.
    pub said-long : 4 ≤ length file → 65535 < size file →
        said_from n file ≡ length_line n (size file) ++ cond (leb (4 + size file) (length file)) (said_from (suc n) (rest file)) (cut_line n)
    said-long h k = said-by n file ∙ rw (there, off-length h k)
