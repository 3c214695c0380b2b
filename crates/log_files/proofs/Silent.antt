-- A file of which nothing is said is made of whole logs.
use Prim.Native.Nat.{ℕ, zero, suc, ◌+◌, ◌≤◌, ◌<◌}
use native.Mathlib.Omega.{arith}
use mathlib.Core.Bool.{Bool, true, false}
use mathlib.Core.List.{List, [], ◌∷◌, ◌++◌}
use mathlib.Core.Path.{◌≡◌, refl, sym, ap, ◌∙◌}
use borrow.Author.Tests.{eqb-true, eqb-false, leb-true, leb-false, ltb-true, ltb-false, le-leb}
use lib.Dec.{leb, ltb, eqb}
use lib.ListN.{length, take, drop, length-drop, take-append-drop}
use lib.Seq.{length-take-le}
use Rattle.rules.specs.Bytes.{four, every, is_byte}
use Rattle.rules.proofs.Writing.{every_drop, four-on}
use Rattle.log_files.specs.Files.{size, first, rest, framed}
use Rattle.log_files.specs.Said.{said_from}
use Rattle.log_files.specs.Laws.{file_of, possible, Logs, OnlyOfWholeLogs}
use Rattle.log_files.proofs.Files.{shorter}
use Rattle.log_files.proofs.Said.{said-whole, said-cut, said-long}

empty : (l : List ℕ) → length l ≡ 0 → l ≡ []
empty [] e = refl
empty (x ∷ l) e = absurd (omega arith)

-- A line is not nothing.
some-line : {a : ℕ} {l : List ℕ} → a ∷ l ≡ [] → ⊥
some-line {a} {l} e = let z : suc (length l) ≡ 0 = ap length e in omega arith

positive : (n : ℕ) → (n ≡ 0 → ⊥) → 0 < n
positive zero h = absurd (h refl)
positive (suc n) h = omega arith

module _ (file : List ℕ) (bytes : every is_byte file ≡ true) where
  long : 4 + size file ≤ length file → length (first file) ≡ size file
  long whole = length-take-le (size file) (drop 4 file) (omega (arith, whole, length-drop 4 file))

  -- A file that begins with a whole log is that log, and what is behind it.
  splits : 4 + size file ≤ length file → file ≡ framed (first file) ++ rest file
  splits whole =
      let front = four-on file bytes 0 (size file) {more = first file} (omega (arith, whole)) refl in
      let four-more : suc (suc (suc (suc (size file)))) ≡ 4 + size file = omega arith in
      sym (take-append-drop (4 + size file) file) ∙
      ap (λ (l : List ℕ). l ++ rest file)
      (sym (ap (λ (m : ℕ). four m ++ first file) (long whole) ∙ front ∙ ap (λ (m : ℕ). take m file) four-more))

  -- By how it begins, where what is behind its first log is made of logs if nothing is said of that.
  module _ (n : ℕ) (e : said_from n file ≡ []) (behind : every is_byte (rest file) ≡ true → said_from (suc n) (rest file) ≡ [] → Logs (rest file)) where
    by_end : 0 < length file → (4 ≤ length file → size file ≤ 65535) → (t : Bool) → leb (4 + size file) (length file) ≡ t → Logs file
    by_end some small true p =
        let whole = leb-true (4 + size file) (length file) p in
        let short = small (omega (arith, whole)) in
        let others = behind (every_drop is_byte (4 + size file) file bytes) (sym (said-whole n file some whole short) ∙ e) in
        record {
          logs = first file ∷ others.logs;
          is = splits whole ∙ ap (λ (l : List ℕ). framed (first file) ++ l) others.is;
          each = rw (le-leb (length (first file)) 65535 (omega (arith, long whole, short))) others.each;
        }
    by_end some small false p = absurd (some-line (sym (said-cut n file some (leb-false (4 + size file) (length file) p) small) ∙ e))

    by_length : 0 < length file → (t : Bool) → leb 4 (length file) ≡ t → (s : Bool) → ltb 65535 (size file) ≡ s → Logs file
    by_length some true p true q =
        absurd (some-line (sym (said-long n file some (leb-true 4 (length file) p) (ltb-true 65535 (size file) q)) ∙ e))
    by_length some true p false q = by_end some (λ four. ltb-false 65535 (size file) q) (leb (4 + size file) (length file)) refl
    by_length some false p s q =
        by_end some (λ four. absurd (omega (arith, four, leb-false 4 (length file) p))) (leb (4 + size file) (length file)) refl

    begins : (t : Bool) → eqb (length file) 0 ≡ t → Logs file
    begins true p = record { logs = []; is = empty file (eqb-true (length file) 0 p); each = refl }
    begins false p =
        by_length (positive (length file) (eqb-false (length file) 0 p)) (leb 4 (length file)) refl (ltb 65535 (size file)) refl

silent : (k n : ℕ) (file : List ℕ) → length file ≤ k → every is_byte file ≡ true → said_from n file ≡ [] → Logs file
silent zero n file h bytes e = record { logs = []; is = empty file (omega arith); each = refl }
silent (suc k) n file h bytes e =
    begins file bytes n e (λ bytes-behind e-behind. silent k (suc n) (rest file) (shorter file k h) bytes-behind e-behind) (eqb (length file) 0) refl

pub only-of-whole-logs : OnlyOfWholeLogs
only-of-whole-logs file bytes e = silent (length file) 1 file (omega arith) bytes e
