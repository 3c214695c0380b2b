-- What is written is of bytes: a byte, a number of two or of four, or a list of bytes in front of bytes; and a part of them.
use Prim.Native.Nat.{ℕ, ◌/◌, ◌%◌, ◌<◌}
use native.Mathlib.Omega.{arith}
use mathlib.Core.Bool.{true}
use mathlib.Core.List.{List, [], ◌∷◌, ◌++◌}
use mathlib.Core.Path.{◌≡◌}
use lib.ListN.{drop}
use borrow.Author.Tests.{lt-ltb}
use Rattle.rules.specs.Bytes.{two, four, every, is_byte}
use Rattle.rules.specs.Logs.{area}
use Rattle.rules.proofs.Judging.{both}
use Rattle.rules.proofs.Writing.{every_drop, every_take}

-- A record, so that the list is found in `Bytes l`.
pub record Bytes (l : List ℕ) : Type 0 where
  pub so : every is_byte l ≡ true

pub byte-on : (x : ℕ) (l : List ℕ) → x < 256 → Bytes l → Bytes (x ∷ l)
byte-on x l h b = record { so = rw (lt-ltb x 256 h, b.so) }

pub two-on : (n : ℕ) (l : List ℕ) → n < 65536 → Bytes l → Bytes (two n ++ l)
two-on n l h b = byte-on (n / 256) (n % 256 ∷ l) (omega arith) (byte-on (n % 256) l (omega arith) b)

pub four-on : (n : ℕ) (l : List ℕ) → n < 4294967296 → Bytes l → Bytes (four n ++ l)
four-on n l h b = two-on (n / 65536) (two (n % 65536) ++ l) (omega arith) (two-on (n % 65536) l (omega arith) b)

pub list_on : (a l : List ℕ) → every is_byte a ≡ true → Bytes l → Bytes (a ++ l)
list_on [] l h b = b
list_on (x ∷ a) l h b =
    let k = both (is_byte x) (every is_byte a) h in
    record { so = rw k.0 (list_on a l k.1 b).so }

pub bytes-area : (l : List ℕ) (i n : ℕ) → every is_byte l ≡ true → every is_byte (area l i n) ≡ true
bytes-area l i n h = every_take is_byte n (drop i l) (every_drop is_byte i l h)
