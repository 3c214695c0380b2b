-- A line at the buffer's front: its word and what stands behind it, where `has_room` says yes; and nothing where it says no.
use Rattle.std.specs.Prelude.{Some, None}
use Prim.Native.Nat.{ℕ, ◌+◌, ◌≤◌}
use native.Mathlib.Omega.{arith}
use mathlib.Core.Bool.{Bool, true, false}
use mathlib.Core.List.{List, [], ◌∷◌, ◌++◌, append_assoc}
use mathlib.Core.Path.{◌≡◌, refl, sym, ◌∙◌, ap, subst}
use lib.Dec.{leb}
use lib.ListN.{length, length-append}
use borrow.Author.Tests.{leb-true}
use Rattle.rules.specs.Lines.{decimal, hex_or_dash, spaced}
use Rattle.text.specs.Written.{Put, Wrote, text, room}
use Rattle.text.proofs.Numerals.{text-length}
use Rattle.text.proofs.Writing.{then, no_room, wrote}

regrouped : (w a b c d e : List ℕ) → w ++ (a ++ b ++ c ++ d ++ e) ≡ w ++ a ++ b ++ c ++ d ++ e
regrouped w a b c d e = simp append_assoc

joins : (w d : List ℕ) (t e n : ℕ) → w ++ text [] t e n d ≡ text w t e n d
unfolding text
joins w d t e n = regrouped w (spaced (decimal t)) (spaced (decimal e)) (spaced (decimal n)) (spaced (hex_or_dash d)) (10 ∷ [])

-- `says` is what `has_room` says of a line of these parts.
module _ (w h b l : List ℕ) (t e n : ℕ) {z : Bool} (says : z ≡ leb (room (length w) t e n (length h + length b)) (length l)) where
  abbrev whole : List ℕ
  whole = text w t e n (h ++ b)

  told : leb (length whole) (length l) ≡ z
  told = ap (λ (k : ℕ). leb k (length l)) (text-length w (h ++ b) t e n refl refl refl (sym (length-append h b))) ∙ sym says

  pub full : z ≡ false → Wrote whole l None l
  full f = no_room whole l (told ∙ f)

  pub enough : z ≡ true → room (length w) t e n (length h + length b) ≤ length l
  enough f = leb-true (room (length w) t e n (length h + length b)) (length l) (sym says ∙ f)

  pub stands : {m o : List ℕ} {k r : ℕ} → z ≡ true →
      Put l 0 w m k → Put m k (text [] t e n (h ++ b)) o r → Wrote whole l (Some r) o
  stands {o = o} {r = r} f p q =
      let line = then (omega (arith, enough f, p.next)) p q in
      wrote whole l (told ∙ f) (subst (λ (x : List ℕ). Put l 0 x o r) (joins w (h ++ b) t e n) line)
