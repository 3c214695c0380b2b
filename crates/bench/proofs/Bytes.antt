-- Lists of bytes, and parts of lists.
use Prim.Native.Nat.{ℕ, ◌+◌, ◌/◌, ◌%◌, ◌≤◌, ◌<◌}
use native.Mathlib.Omega.{arith}
use mathlib.Core.Bool.{true}
use mathlib.Core.Path.{◌≡◌, refl}
use mathlib.Core.List.{List, [], ◌∷◌, ◌++◌}
use lib.ListN.{length, drop, length-drop}
use lib.Seq.{length-take-le}
use borrow.Author.Tests.{lt-ltb}
use Rattle.rules.specs.Bytes.{two, every, is_byte}
use Rattle.rules.specs.Logs.{area}
use Rattle.rules.proofs.Judging.{both}
use Rattle.rules.proofs.Writing.{every_drop, every_take}

pub byte-cons : (b : ℕ) (bs : List ℕ) → b < 256 → every is_byte bs ≡ true → every is_byte (b ∷ bs) ≡ true
byte-cons b bs h k = rw (lt-ltb b 256 h, k) refl

pub byte-two : (n : ℕ) (bs : List ℕ) → n < 65536 → every is_byte bs ≡ true → every is_byte (two n ++ bs) ≡ true
byte-two n bs h k = byte-cons (n / 256) (n % 256 ∷ bs) (omega arith) (byte-cons (n % 256) bs (omega arith) k)

pub every_append : (k l : List ℕ) → every is_byte k ≡ true → every is_byte l ≡ true → every is_byte (k ++ l) ≡ true
every_append [] l h i = i
every_append (b ∷ k) l h i = let j = both (is_byte b) (every is_byte k) h in rw (j.0, every_append k l j.1 i) refl

pub every-area : (l : List ℕ) (i n : ℕ) → every is_byte l ≡ true → every is_byte (area l i n) ≡ true
every-area l i n h = every_take is_byte n (drop i l) (every_drop is_byte i l h)

-- A part that lies inside is as long as it says.
pub part_length : (l : List ℕ) (i n : ℕ) → i + n ≤ length l → length (area l i n) ≡ n
part_length l i n h = let e = length-drop i l in length-take-le n (drop i l) (omega arith)
