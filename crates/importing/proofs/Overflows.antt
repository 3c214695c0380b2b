-- When refusal 17 is due.
use Prim.Native.Nat.{ℕ, ◌+◌, ◌≤◌}
use native.Mathlib.Nat.{add-zero, zero-add}
use native.Mathlib.Omega.{arith}
use mathlib.Core.Bool.{Bool, true, false, cond, not, ◌&&◌}
use mathlib.Core.List.{List, [], ◌∷◌}
use mathlib.Core.Path.{◌≡◌, refl, ◌∙◌}
use lib.Dec.{leb, ltb}
use lib.ListN.{length}
use borrow.Author.Tests.{le-leb, lt-leb, ltb-true, ltb-false, leb-true, leb-false}
use Rattle.importing.specs.Import.{Item, request, reply, dropped, count, size, early}
use Rattle.importing.specs.Kept.{Tally, fits_in, replied, overflowed}
use Rattle.importing.specs.Promises.{tell, tells, nothing, Overflows}

and-false : (a : Bool) → (a && false) ≡ false
and-false true = refl
and-false false = refl

-- What is told behind e events and b bytes is within the limits.
abbrev within_from : ℕ → ℕ → List Item → Bool
within_from e b is = leb (e + count is) 512 && early is && leb (b + size is) 65535

module _ (room : ℕ) where
  over-stays : (t : Tally) (is : List Item) → t.over ≡ true → (tells room t is).over ≡ true
  unfolding tells
  over-stays t [] h = h
  over-stays t (request n m ∷ is) h = over-stays (tell room t (request n m)) is h
  over-stays t (dropped n ∷ is) h = over-stays (tell room t (dropped n)) is h
  over-stays t (reply ms m ∷ is) h = over-stays (tell room t (reply ms m)) is (go (fits_in t.events t.bytes ms (length m)))
    where
      go : (b : Bool) → (cond b (replied room ms m t) (overflowed t)).over ≡ true
      go true = h
      go false = refl

  overflows-from : (t : Tally) (is : List Item) → t.events ≤ 512 → t.bytes ≤ 65535 → t.over ≡ false → (tells room t is).over ≡ not (within_from t.events t.bytes is)
  unfolding tells
  overflows-from t [] he hb h =
      rw (h, add-zero t.events, add-zero t.bytes, le-leb t.events 512 he, le-leb t.bytes 65535 hb)
  overflows-from t (request n m ∷ is) he hb h = overflows-from (tell room t (request n m)) is he hb h
  overflows-from t (dropped n ∷ is) he hb h = overflows-from (tell room t (dropped n)) is he hb h
  overflows-from t (reply ms m ∷ is) he hb h =
      go (ltb t.events 512) (leb ms 4294967295) (leb (t.bytes + length m) 65535) refl refl refl
      (λ few short. overflows-from (replied room ms m t) is few short h)
    where
      go : (a b c : Bool) → ltb t.events 512 ≡ a → leb ms 4294967295 ≡ b → leb (t.bytes + length m) 65535 ≡ c →
          (t.events + 1 ≤ 512 → t.bytes + length m ≤ 65535 →
          (tells room (replied room ms m t) is).over ≡ not (within_from (t.events + 1) (t.bytes + length m) is)) →
          (tells room (cond (a && b && c) (replied room ms m t) (overflowed t)) is).over ≡
          not (leb (t.events + (count is + 1)) 512 && (b && early is) && leb (t.bytes + (length m + size is)) 65535)
      go true true true ea eb ec more =
          let events : t.events + 1 + count is ≡ t.events + (count is + 1) = omega arith in
          let bytes : t.bytes + length m + size is ≡ t.bytes + (length m + size is) = omega arith in
          more (omega (arith, ltb-true t.events 512 ea)) (leb-true (t.bytes + length m) 65535 ec) ∙ rw (events, bytes)
      go true true false ea eb ec more =
          let long = leb-false (t.bytes + length m) 65535 ec in
          over-stays (overflowed t) is refl ∙ rw (lt-leb (t.bytes + (length m + size is)) 65535 (omega arith), and-false (leb (t.events + (count is + 1)) 512 && early is))
      go true false c ea eb ec more = over-stays (overflowed t) is refl ∙ rw (and-false (leb (t.events + (count is + 1)) 512))
      go false b c ea eb ec more =
          let many = ltb-false t.events 512 ea in
          over-stays (overflowed t) is refl ∙ rw (lt-leb (t.events + (count is + 1)) 512 (omega arith))

pub overflows : Overflows
overflows room is = overflows-from room nothing is (omega arith) (omega arith) refl ∙ rw (zero-add (count is), zero-add (size is))
