-- Laws of a file's lines, by how it begins.
use Prim.Native.Nat.{ℕ, zero, suc, ◌+◌, ◌≤◌, ◌<◌}
use native.Mathlib.Omega.{arith}
use mathlib.Core.Bool.{Bool, true, false, cond}
use mathlib.Core.List.{List, [], ◌++◌, append-nil}
use mathlib.Core.Path.{◌≡◌, refl, sym, ap, ◌∙◌}
use borrow.Author.Tests.{le-leb, lt-leb, leb-true, leb-false, eq-eqb, ne_eqb}
use lib.Dec.{leb, eqb}
use lib.ListN.{length, length-drop}
use Rattle.rules.specs.Lines.{badlog}
use Rattle.rules.specs.Logs.{line_of}
use Rattle.log_files.specs.Files.{size, first, rest, lines_to, lines_of}

-- What is behind a log is shorter than a file that begins with it.
pub shorter : (file : List ℕ) (n : ℕ) → length file ≤ suc n → length (rest file) ≤ n
shorter file n h = omega (arith, length-drop (4 + size file) file)

-- As many lines as bytes are enough, and more change nothing.
enough : (n m : ℕ) (file : List ℕ) → length file ≤ n → length file ≤ m → lines_to n file ≡ lines_to m file
unfolding lines_to
enough zero zero file h k = refl
enough zero (suc m) file h k = rw (eq-eqb (length file) 0 (omega arith))
enough (suc n) zero file h k = rw (eq-eqb (length file) 0 (omega arith))
enough (suc n) (suc m) file h k =
    ap (λ (more : List ℕ). cond (eqb (length file) 0) [] (cond (leb (4 + size file) (length file)) (line_of (first file) ++ more) badlog))
    (enough n m (rest file) (shorter file n h) (shorter file m k))

-- One log, as the definition has it, without a number of logs.
pub lines-by : (file : List ℕ) → lines_of file ≡ cond (eqb (length file) 0) [] (cond (leb (4 + size file) (length file)) (line_of (first file) ++ lines_of (rest file)) badlog)
unfolding lines_of lines_to
lines-by file =
    enough (length file) (suc (length file)) file (omega arith) (omega arith) ∙
    ap (λ (more : List ℕ). cond (eqb (length file) 0) [] (cond (leb (4 + size file) (length file)) (line_of (first file) ++ more) badlog))
    (enough (length file) (length (rest file)) (rest file) (shorter file (length file) (omega arith)) (omega arith))

pub lines_none : (file : List ℕ) → length file ≤ 0 → lines_of file ≡ []
lines_none file h = lines-by file ∙ rw (eq-eqb (length file) 0 (omega arith))

module _ (file : List ℕ) where
  pub lines-first : 4 + size file ≤ length file → lines_of file ≡ line_of (first file) ++ lines_of (rest file)
  lines-first h = lines-by file ∙ rw (ne_eqb (length file) 0 (λ z. absurd (omega arith)), le-leb (4 + size file) (length file) h)

  pub lines_cut : 0 < length file → length file < 4 + size file → lines_of file ≡ badlog
  lines_cut h k = lines-by file ∙ rw (ne_eqb (length file) 0 (λ z. absurd (omega arith)), lt-leb (4 + size file) (length file) k)

  -- Where the first log is bad if it is whole, nothing hangs on where the file ends.
  pub lines-bad : 0 < length file → (4 + size file ≤ length file → line_of (first file) ≡ badlog) → lines_of file ≡ badlog ++ lines_of (rest file)
  lines-bad h bad = go (leb (4 + size file) (length file)) refl
    where
      go : (b : Bool) → leb (4 + size file) (length file) ≡ b → lines_of file ≡ badlog ++ lines_of (rest file)
      go true t =
          let whole = leb-true (4 + size file) (length file) t in
          lines-first whole ∙ ap (λ (line : List ℕ). line ++ lines_of (rest file)) (bad whole)
      go false t =
          let cut = leb-false (4 + size file) (length file) t in
          let none = lines_none (rest file) (omega (arith, length-drop (4 + size file) file)) in
          lines_cut h cut ∙ sym (append-nil badlog) ∙ ap (λ (more : List ℕ). badlog ++ more) (sym none)
