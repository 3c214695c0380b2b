-- The lines of a file that is made of logs, and what is said of it.
use Prim.Native.Nat.{ℕ, zero, suc, ◌+◌, ◌≤◌, ◌<◌}
use native.Mathlib.Nat.{add-zero}
use native.Mathlib.Omega.{arith}
use mathlib.Core.Bool.{Bool, true, false, cond}
use mathlib.Core.List.{List, [], ◌∷◌, ◌++◌, append_assoc, append-nil}
use mathlib.Core.Path.{◌≡◌, refl, sym, ap, ◌∙◌}
use borrow.Author.Tests.{le-leb, lt-leb, leb-true, leb-false}
use lib.Dec.{leb}
use lib.ListN.{length, take, drop, length-append}
use lib.Seq.{take-append_seam, drop-append_seam, drop-drop, length-take-le}
use Rattle.rules.specs.Bytes.{every}
use Rattle.rules.proofs.Judging.{both}
use Rattle.rules.specs.Logs.{line_of}
use Rattle.log_files.specs.Files.{size, first, rest, lines_to, lines_of, framed}
use Rattle.log_files.specs.Said.{cut_line, length_line, said_to, said_from, said_of}
use Rattle.log_files.specs.Laws.{file_of, lines_of_each, EachItsLine, Joins, possible, NothingOfWholeLogs, NumbersGoOn, CutIsSaid, LengthIsSaid, BothAreSaid}
use Rattle.log_files.proofs.Files.{lines-first}
use Rattle.log_files.proofs.Said.{said-none, said-whole, said-cut, said-long}

-- A file that begins with a whole log.
module _ (log more : List ℕ) where
  abbrev begun : List ℕ
  begun = framed log ++ more

  long : size begun ≡ length log
  long = omega arith

  behind : rest begun ≡ more
  behind = sym (drop-drop (size begun) 4 begun) ∙ ap (λ (k : ℕ). drop k (log ++ more)) long ∙ drop-append_seam log more

  whole : 4 + size begun ≤ length begun
  whole = omega (arith, long, length-append log more)

  pub begins : lines_of (framed log ++ more) ≡ line_of log ++ lines_of more
  begins =
      let own : first begun ≡ log = ap (λ (k : ℕ). take k (log ++ more)) long ∙ take-append_seam log more in
      lines-first begun whole ∙ (λ i. line_of (own i) ++ lines_of (behind i))

  pub says_nothing : (n : ℕ) → length log ≤ 65535 → said_from n (framed log ++ more) ≡ said_from (suc n) more
  says_nothing n short = said-whole n begun (omega (arith, whole)) whole (omega (arith, long)) ∙ ap (said_from (suc n)) behind

  pub says-length : (n : ℕ) → 65535 < length log → said_from n (framed log ++ more) ≡ length_line n (length log) ++ said_from (suc n) more
  says-length n off =
      said-long n begun (omega (arith, whole)) (omega (arith, whole)) (omega (arith, long)) ∙
      ap (λ (t : List ℕ). length_line n (size begun) ++ t) (rw (le-leb (4 + size begun) (length begun) whole)) ∙
      (λ i. length_line n (long i) ++ said_from (suc n) (behind i))

pub joins : Joins
joins [] more = refl
joins (log ∷ logs) more =
    ap lines_of (append_assoc (framed log) (file_of logs) more) ∙
    begins log (file_of logs ++ more) ∙
    ap (λ (lines : List ℕ). line_of log ++ lines) (joins logs more) ∙
    sym (append_assoc (line_of log) (lines_of_each logs) (lines_of more))

pub each-its-line : EachItsLine
unfolding lines_of lines_to
each-its-line logs = ap lines_of (sym (append-nil (file_of logs))) ∙ joins logs [] ∙ append-nil (lines_of_each logs)

pub length-is-said : LengthIsSaid
length-is-said n log more off = says-length log more n off

pub numbers-go-on : NumbersGoOn
numbers-go-on n [] more h = ap (λ (k : ℕ). said_from k more) (sym (add-zero n))
numbers-go-on n (log ∷ logs) more h =
    let t = both (possible log) (every possible logs) h in
    ap (said_from n) (append_assoc (framed log) (file_of logs) more) ∙
    says_nothing log (file_of logs ++ more) n (leb-true (length log) 65535 t.0) ∙
    numbers-go-on (suc n) logs more t.1 ∙
    ap (λ (k : ℕ). said_from k more) (omega arith)

pub nothing-of-whole-logs : NothingOfWholeLogs
nothing-of-whole-logs logs h =
    ap said_of (sym (append-nil (file_of logs))) ∙ numbers-go-on 1 logs [] h ∙ said-none (1 + length logs) [] (omega arith)

-- A file that begins with log n and ends inside of it, or inside its length.
module _ (log : List ℕ) (k : ℕ) (some : 0 < k) (less : k < 4 + length log) where
  abbrev part : List ℕ
  part = take k (framed log)

  part-long : length part ≡ k
  part-long = length-take-le k (framed log) (omega (arith, less))

  part-size : 4 ≤ k → size part ≡ length log
  part-size four = go k four
    where
      go : (k : ℕ) → 4 ≤ k → size (take k (framed log)) ≡ length log
      go zero h = absurd (omega arith)
      go (suc zero) h = absurd (omega arith)
      go (suc (suc zero)) h = absurd (omega arith)
      go (suc (suc (suc zero))) h = absurd (omega arith)
      go (suc (suc (suc (suc j)))) h = omega arith

  not-whole : length part < 4 + size part
  not-whole = go (leb 4 k) refl
    where
      go : (b : Bool) → leb 4 k ≡ b → length part < 4 + size part
      go true e = omega (arith, part-long, part-size (leb-true 4 k e), less)
      go false e = omega (arith, part-long, leb-false 4 k e)

  pub says-cut : (n : ℕ) → length log ≤ 65535 → said_from n part ≡ cut_line n
  says-cut n short =
      said-cut n part (omega (arith, part-long, some)) not-whole (λ four. omega (arith, part-size (omega (arith, part-long, four)), short))

  pub says_both : (n : ℕ) → 65535 < length log → 4 ≤ k → said_from n part ≡ length_line n (length log) ++ cut_line n
  says_both n off four =
      said-long n part (omega (arith, part-long, some)) (omega (arith, part-long, four)) (omega (arith, part-size four, off)) ∙
      ap (λ (t : List ℕ). length_line n (size part) ++ t) (rw (lt-leb (4 + size part) (length part) not-whole)) ∙
      ap (λ (l : ℕ). length_line n l ++ cut_line n) (part-size four)

pub cut-is-said : CutIsSaid
cut-is-said logs log k h short some less =
    numbers-go-on 1 logs (take k (framed log)) h ∙ says-cut log k some less (1 + length logs) (leb-true (length log) 65535 short)

pub both-are-said : BothAreSaid
both-are-said n log k off four less = says_both log k (omega arith) less n off four
