-- Laws of the line's numerals.
use Prim.Native.Nat.{ℕ, zero, suc, ◌+◌, ◌*◌, ◌/◌, ◌%◌, ◌^◌, ◌≤◌, ◌<◌}
use native.Mathlib.Numerals.{add-one}
use native.Mathlib.Omega.{arith}
use mathlib.Core.Bool.{Bool, true, false, cond}
use mathlib.Core.List.{List, [], ◌∷◌, ◌++◌, append_assoc}
use mathlib.Core.Path.{◌≡◌, refl, sym, ◌∙◌, ap}
use lib.Dec.{leb, ltb}
use lib.ListN.{length, take, get_or, length-append}
use lib.Seq.{take-suc}
use borrow.Author.Tests.{lt-ltb, le-ltb, leb-true}
use Rattle.std.specs.Int.{to_be_bytes, w16}
use Rattle.rules.specs.Bytes.{two}
use Rattle.rules.specs.Lines.{digit, decimal_to, decimal, hex, hex_or_dash}
use Rattle.text.specs.Written.{shown, text, behind, hex_behind, item}

-- 10 ^ (k + 1): what k + 1 digits cannot say.
abbrev pub limit : ℕ → ℕ
limit zero = 10
limit (suc k) = 10 * limit k

-- A digit more changes nothing where there are enough.
more : (k v : ℕ) → v < limit k → decimal_to k v ≡ decimal_to (suc k) v
unfolding decimal_to
more zero v h = rw (lt-ltb v 10 h)
more (suc k) v h = ap (λ (w : List ℕ). cond (ltb v 10) (digit v ∷ []) (w ++ (digit (v % 10) ∷ []))) (more k (v / 10) (omega arith))

pub decimal-small : (v : ℕ) → v < 10 → decimal v ≡ digit v ∷ []
unfolding decimal_to
decimal-small v h = rw (lt-ltb v 10 h)

pub decimal-big : (v : ℕ) → 10 ≤ v → v < 2 ^ 64 → decimal v ≡ decimal (v / 10) ++ (digit (v % 10) ∷ [])
unfolding decimal_to
decimal-big v h b = more 19 v (omega arith) ∙ rw (le-ltb v 10 h)

pub decimal-longer : (v : ℕ) → 10 ≤ v → v < 2 ^ 64 → length (decimal v) ≡ length (decimal (v / 10)) + 1
decimal-longer v h b = ap length (decimal-big v h b) ∙ length-append (decimal (v / 10)) (digit (v % 10) ∷ [])

-- By two digits.
pub decimal-two : (v : ℕ) → 10 ≤ v → v < 100 → decimal v ≡ digit (v / 10) ∷ digit (v % 10) ∷ []
decimal-two v h b = decimal-big v h (omega arith) ∙ ap (λ (l : List ℕ). l ++ (digit (v % 10) ∷ [])) (decimal-small (v / 10) (omega arith))

pub decimal-hundred : (v : ℕ) → 100 ≤ v → v < 2 ^ 64 → decimal v ≡ decimal (v / 100) ++ (digit (v % 100 / 10) ∷ digit (v % 100 % 10) ∷ [])
decimal-hundred v h b =
    let tens : v / 10 / 10 ≡ v / 100 = omega arith in
    let ten : v / 10 % 10 ≡ v % 100 / 10 = omega arith in
    let unit : v % 10 ≡ v % 100 % 10 = omega arith in
    decimal-big v (omega arith) b ∙
    ap (λ (l : List ℕ). l ++ (digit (v % 10) ∷ [])) (decimal-big (v / 10) (omega arith) (omega arith)) ∙
    append_assoc (decimal (v / 10 / 10)) (digit (v / 10 % 10) ∷ []) (digit (v % 10) ∷ []) ∙
    (λ i. decimal (tens i) ++ (digit (ten i) ∷ digit (unit i) ∷ []))

pub hundred-longer : (v : ℕ) → 100 ≤ v → v < 2 ^ 64 → length (decimal v) ≡ length (decimal (v / 100)) + 2
hundred-longer v h b = ap length (decimal-hundred v h b) ∙ length-append (decimal (v / 100)) (digit (v % 100 / 10) ∷ digit (v % 100 % 10) ∷ [])

-- A number below 10 ^ (j + 1) has at most j + 1 digits.
pub digits : (k j v : ℕ) → v < limit j → length (decimal_to k v) ≤ j + 1
unfolding decimal_to
digits zero j v h = omega arith
digits (suc k) zero v h = rw (lt-ltb v 10 h) (omega arith)
digits (suc k) (suc j) v h = go (ltb v 10) (digits k j (v / 10) (omega arith))
  where
    go : (b : Bool) → length (decimal_to k (v / 10)) ≤ j + 1 → length (cond b (digit v ∷ []) (decimal_to k (v / 10) ++ (digit (v % 10) ∷ []))) ≤ suc j + 1
    go true e = omega arith
    go false e = simp length-append (omega arith)

-- The bytes of a number of 16 bits.
pub two-bytes : (n : ℕ) → n < 2 ^ 16 → to_be_bytes w16 n ≡ two n
two-bytes n h =
    let high : n / 256 % 256 ≡ n / 256 = omega arith in
    rw high

pub hex-append : (a b : List ℕ) → hex (a ++ b) ≡ hex a ++ hex b
hex-append [] b = refl
hex-append (x ∷ a) b = ap (λ (l : List ℕ). digit (x / 16) ∷ digit (x % 16) ∷ l) (hex-append a b)

pub hex-length : (l : List ℕ) → length (hex l) ≡ length l * 2
hex-length [] = refl
hex-length (b ∷ l) = omega (arith, hex-length l)

-- The hex of one byte more.
pub hex-next : (l : List ℕ) (i : ℕ) → i < length l → hex (take (i + 1) l) ≡ hex (take i l) ++ (digit (get_or l i 0 / 16) ∷ []) ++ (digit (get_or l i 0 % 16) ∷ [])
hex-next l i h = rw (add-one, take-suc l i 0 h, hex-append) (sym (append_assoc (hex (take i l)) (digit (get_or l i 0 / 16) ∷ []) (digit (get_or l i 0 % 16) ∷ [])))

-- How many characters a detail takes.
pub shown-least : (n : ℕ) → 1 ≤ shown n
shown-least zero = omega arith
shown-least (suc n) = omega arith

pub shown-double : (n : ℕ) → n * 2 ≤ shown n
shown-double zero = omega arith
shown-double (suc n) = omega arith

pub shown-fits : (n left : ℕ) → n * 2 ≤ left → 1 ≤ left → shown n ≤ left
shown-fits zero left h l = l
shown-fits (suc n) left h l = h

shown-length : (d : List ℕ) → length (hex_or_dash d) ≡ shown (length d)
shown-length [] = refl
shown-length (b ∷ d) = hex-length (b ∷ d)

-- A detail in two parts.
pub detail-none : (h b : List ℕ) → length h + length b ≡ 0 → hex_or_dash (h ++ b) ≡ 45 ∷ []
detail-none [] [] e = refl
detail-none [] (x ∷ b) e = absurd (omega arith)
detail-none (x ∷ h) b e = absurd (omega arith)

pub detail-some : (h b : List ℕ) → 0 < length h + length b → hex_or_dash (h ++ b) ≡ hex h ++ hex b
detail-some [] [] e = absurd (omega arith)
detail-some [] (x ∷ b) e = refl
detail-some (x ∷ h) b e = hex-append (x ∷ h) b

pub detail-length : (h b : List ℕ) → length (hex_or_dash (h ++ b)) ≡ shown (length h + length b)
detail-length h b = shown-length (h ++ b) ∙ ap shown (length-append h b)

-- The length of a word, a number and bytes behind it, and the newline.
pub behind-length : (bs : List ℕ) → length (hex_behind bs) ≡ behind (length bs)
behind-length [] = refl
behind-length (b ∷ bs) = omega (arith, hex-length bs)

pub item-length : (word bs : List ℕ) (n : ℕ) → length (item word n bs) ≡ length word + (length (decimal n) + 2 + behind (length bs))
unfolding item
item-length word bs n = simp length-append (omega (arith, behind-length bs))

pub behind-none : (bs : List ℕ) → length bs ≡ 0 → hex_behind bs ≡ []
behind-none [] h = refl
behind-none (b ∷ bs) h = absurd (omega arith)

pub behind-some : (bs : List ℕ) → (length bs ≡ 0 → ⊥) → hex_behind bs ≡ 32 ∷ hex bs
behind-some [] h = absurd (h refl)
behind-some (b ∷ bs) h = refl

-- Whether an item fits from index at on, by what `fits` says of its parts.
module _ (word bs : List ℕ) (n at line beside : ℕ) {digits : ℕ} {t : Bool} (ed : digits ≡ length (decimal n))
    (en : beside + shown (length bs) ≡ digits + 2 + behind (length bs))
    (et : t ≡ leb (at + (length word + beside) + shown (0 + length bs)) line) where
  pub item-room : leb (at + length (item word n bs)) line ≡ t
  item-room =
      let bytes : length bs ≡ 0 + length bs = omega arith in
      let long : at + length (item word n bs) ≡ at + (length word + beside) + shown (length bs) = omega (arith, item-length word bs n) in
      ap (λ (k : ℕ). leb k line) long ∙ ap (λ (k : ℕ). leb (at + (length word + beside) + shown k) line) bytes ∙ sym et

  pub item-parts : t ≡ true → at + (length word + (length (decimal n) + 2 + length (hex_behind bs))) ≤ line
  item-parts e = omega (arith, leb-true (at + length (item word n bs)) line (item-room ∙ e), item-length word bs n, behind-length bs)

-- The text's length, by the lengths of its parts.
pub text-length : (w d : List ℕ) (t e n : ℕ) {x y z k : ℕ} →
    x ≡ length (decimal t) → y ≡ length (decimal e) → z ≡ length (decimal n) → k ≡ length d →
    length (text w t e n d) ≡ length w + (x + y + z + 5) + shown k
unfolding text
text-length w d t e n ex ey ez ek = simp length-append (omega (arith, shown-length d, ap shown ek))
