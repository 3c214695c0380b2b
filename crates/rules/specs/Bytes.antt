-- Bytes, and numbers as bytes, high byte first. Nothing here is document 01's or the standard's.
use Rattle.std.specs.Prelude.{ℕ, zero, suc, ◌+◌, ◌*◌, ◌/◌, ◌%◌, ◌^◌, Bool, true, false, ◌&&◌, List, [], ◌∷◌, ◌++◌, eqb, ltb, get_or}

-- The number that bytes stand for, read on from v.
abbrev pub value_from : ℕ → List ℕ → ℕ
value_from v [] = v
value_from v (b ∷ bs) = value_from (v * 256 + b) bs

abbrev pub value : List ℕ → ℕ
value bs = value_from 0 bs

-- A number as so many bytes.
abbrev pub bytes_of : ℕ → ℕ → List ℕ
bytes_of zero v = []
bytes_of (suc w) v = v / 256 ^ w % 256 ∷ bytes_of w v

-- The number of two or of four bytes from index i on.
abbrev pub u16_at : List ℕ → ℕ → ℕ
u16_at bs i = get_or bs i 0 * 256 + get_or bs (i + 1) 0

abbrev pub u32_at : List ℕ → ℕ → ℕ
u32_at bs i = u16_at bs i * 65536 + u16_at bs (i + 2)

-- A number below 65,536 as its two bytes.
abbrev pub two : ℕ → List ℕ
two n = n / 256 ∷ n % 256 ∷ []

-- A number below 4,294,967,296 as its four bytes.
abbrev pub four : ℕ → List ℕ
four n = two (n / 65536) ++ two (n % 65536)

-- Whether two byte strings are the same.
abbrev pub same : List ℕ → List ℕ → Bool
same [] [] = true
same [] (b ∷ bs) = false
same (a ∷ l) [] = false
same (a ∷ l) (b ∷ bs) = eqb a b && same l bs

abbrev pub every : {A : Type 0} → (A → Bool) → List A → Bool
every p [] = true
every p (x ∷ xs) = p x && every p xs

abbrev pub is_byte : ℕ → Bool
is_byte b = ltb b 256
