-- Laws of checks as numbers: which words a number stands for.
use Prim.Native.Nat.{ℕ, ◌+◌, ◌-◌, ◌*◌, ◌/◌, ◌%◌}
use native.Mathlib.Omega.{arith}
use mathlib.Core.List.{◌++◌}
use mathlib.Core.Option.{Option, none, some}
use mathlib.Core.Path.{◌≡◌, refl}
use borrow.Author.Tests.{le-leb}
use Rattle.rules.specs.Answers.{deviation8}
use Rattle.rules.specs.Lines.{ascii, decimal}
use Rattle.telling.specs.Checks.{wanted_by, length?}
use Rattle.story_checks.specs.declared.Check.{Check}
use Rattle.story_checks.specs.declared.Check.TheVariants as check
use Rattle.story_checks.specs.Coded.{at_least, exactly, odd_of, coded, number, wanted_of}

-- The number of a length is 32 or more, odd where there is a most.
pub in_parts : (least : ℕ) (m : Option ℕ) → coded (deviation8 least m) ≡ least * 2 + 32 + odd_of m
in_parts least none = omega arith
in_parts least (some n) = omega arith

pub wanted-least : (n : ℕ) → wanted_of (at_least n) ≡ ascii "length " ++ decimal n ++ ascii " or more"
unfolding wanted_of length?
wanted-least n =
    let half : (at_least n - 32) / 2 ≡ n = omega arith in
    let even : at_least n % 2 ≡ 0 = omega arith in
    rw (le-leb 32 (at_least n) (omega arith), half, even)

pub wanted-exactly : (n : ℕ) → wanted_of (exactly n) ≡ ascii "length " ++ decimal n
unfolding wanted_of length?
wanted-exactly n =
    let half : (exactly n - 32) / 2 ≡ n = omega arith in
    let odd : exactly n % 2 ≡ 1 = omega arith in
    rw (le-leb 32 (exactly n) (omega arith), half, odd)

-- Of every other check by its number alone.
pub wanted-words : (k : Check) → ((n : ℕ) → k ≡ check.AtLeast n → ⊥) → ((n : ℕ) → k ≡ check.Exactly n → ⊥) → wanted_of (number k) ≡ wanted_by (number k)
unfolding wanted_of
wanted-words (check.AtLeast n) a e = absurd (a n refl)
wanted-words (check.Exactly n) a e = absurd (e n refl)
wanted-words check.WholeRecords a e = refl
wanted-words check.Identifier a e = refl
wanted-words check.Routine a e = refl
wanted-words check.Counter a e = refl
wanted-words check.LengthFormat a e = refl
wanted-words check.HalfByte a e = refl
wanted-words check.BlockLength a e = refl
wanted-words check.Overflow a e = refl
wanted-words check.Format a e = refl
wanted-words check.Address a e = refl
wanted-words check.Size a e = refl
wanted-words check.Memory a e = refl
