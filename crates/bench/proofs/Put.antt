-- Laws of `put`: what stands before, in and behind the bytes that are put into a list.
use Prim.Native.Nat.{ℕ, ◌+◌, ◌-◌, ◌*◌, ◌≤◌, ◌<◌}
use native.Mathlib.Omega.{arith}
use mathlib.Core.Bool.{Bool, true, false, cond}
use mathlib.Core.Path.{◌≡◌, refl, sym, ◌∙◌, ap, ap₂}
use mathlib.Core.Logic.{◌⊎◌, inl, inr}
use mathlib.Core.List.{List, [], ◌∷◌, ◌++◌}
use lib.Dec.{leb}
use lib.ListN.{length, get_or, take, drop, length-append, length-drop, length-take, get_or-append}
use lib.Seq.{length-take-le, get_or-take, get_or-drop, get_or-append-add, ext_get_or}
use borrow.Author.Tests.{leb-true, leb-false}
use Rattle.rules.specs.Bytes.{u16_at, u32_at, every, is_byte}
use Rattle.rules.specs.Logs.{area}
use Rattle.rules.proofs.Writing.{every_drop, every_take}
use Rattle.bench.specs.Stores.{put}
use Rattle.bench.proofs.Bytes.{every_append, part_length}

at-most : (a b : ℕ) → (a ≤ b) ⊎ (b < a)
at-most a b = go (leb a b) refl
  where
    go : (t : Bool) → leb a b ≡ t → (a ≤ b) ⊎ (b < a)
    go true e = inl (leb-true a b e)
    go false e = inr (leb-false a b e)

module _ (l : List ℕ) (i : ℕ) (bs : List ℕ) (fits : i + length bs ≤ length l) where
  front_long : length (take i l ++ bs) ≡ i + length bs
  front_long = let a = length-append (take i l) bs in let b = length-take-le i l (omega arith) in omega arith

  pub put-long : length (put l i bs) ≡ length l
  put-long =
      let a = length-append (take i l ++ bs) (drop (i + length bs) l) in
      let b = front_long in
      let c = length-drop (i + length bs) l in
      omega arith

  pub put-before : (k : ℕ) → k < i → get_or (put l i bs) k 0 ≡ get_or l k 0
  put-before k h =
      let a = front_long in
      let b = length-take-le i l (omega arith) in
      get_or-append (take i l ++ bs) (drop (i + length bs) l) 0 k (omega arith) ∙ get_or-append (take i l) bs 0 k (omega arith) ∙ get_or-take i l k 0 h

  pub put_in : (j : ℕ) → j < length bs → get_or (put l i bs) (i + j) 0 ≡ get_or bs j 0
  put_in j h =
      let a = front_long in
      let b = length-take-le i l (omega arith) in
      let c : i + j ≡ length (take i l) + j = omega arith in
      get_or-append (take i l ++ bs) (drop (i + length bs) l) 0 (i + j) (omega arith) ∙
      ap (λ (k : ℕ). get_or (take i l ++ bs) k 0) c ∙
      get_or-append-add (take i l) bs j 0

  pub put-behind : (k : ℕ) → i + length bs ≤ k → get_or (put l i bs) k 0 ≡ get_or l k 0
  put-behind k h =
      let a = front_long in
      let m : ℕ = k - (i + length bs) in
      let b : k ≡ length (take i l ++ bs) + m = omega arith in
      let c : i + length bs + m ≡ k = omega arith in
      ap (λ (n : ℕ). get_or (put l i bs) n 0) b ∙
      get_or-append-add (take i l ++ bs) (drop (i + length bs) l) m 0 ∙
      get_or-drop (i + length bs) l m 0 ∙
      ap (λ (n : ℕ). get_or l n 0) c

  pub put-bytes : every is_byte l ≡ true → every is_byte bs ≡ true → every is_byte (put l i bs) ≡ true
  put-bytes h k =
      every_append (take i l ++ bs) (drop (i + length bs) l) (every_append (take i l) bs (every_take is_byte i l h) k) (every_drop is_byte (i + length bs) l h)

-- Parts of two lists that are equal at each place.
same_area : (l l' : List ℕ) (at n : ℕ) → length l ≡ length l' → ((j : ℕ) → j < n → get_or l (at + j) 0 ≡ get_or l' (at + j) 0) → area l at n ≡ area l' at n
same_area l l' at n long same =
    let a = length-take n (drop at l) in
    let a' = length-take n (drop at l') in
    let b = length-drop at l in
    let b' = length-drop at l' in
    ext_get_or 0 (area l at n) (area l' at n) (omega arith)
    (λ j h.
    let k : j < n = omega arith in
    get_or-take n (drop at l) j 0 k ∙ get_or-drop at l j 0 ∙ same j k ∙ sym (get_or-take n (drop at l') j 0 k ∙ get_or-drop at l' j 0))

module _ (l : List ℕ) (i : ℕ) (bs : List ℕ) (fits : i + length bs ≤ length l) where
  pub area-before : (at n : ℕ) → at + n ≤ i → area (put l i bs) at n ≡ area l at n
  area-before at n h = same_area (put l i bs) l at n (put-long l i bs fits) (λ j k. put-before l i bs fits (at + j) (omega arith))

  pub area-behind : (at n : ℕ) → i + length bs ≤ at → area (put l i bs) at n ≡ area l at n
  area-behind at n h = same_area (put l i bs) l at n (put-long l i bs fits) (λ j k. put-behind l i bs fits (at + j) (omega arith))

  pub u16-before : (k : ℕ) → k + 1 < i → u16_at (put l i bs) k ≡ u16_at l k
  u16-before k h = ap₂ (λ (a b : ℕ). a * 256 + b) (put-before l i bs fits k (omega arith)) (put-before l i bs fits (k + 1) h)

  pub u32-before : (k : ℕ) → k + 3 < i → u32_at (put l i bs) k ≡ u32_at l k
  u32-before k h = ap₂ (λ (a b : ℕ). a * 65536 + b) (u16-before k (omega arith)) (u16-before (k + 2) (omega arith))

-- Bytes put into a part of the list are put into that part.
module _ (l : List ℕ) (at n o : ℕ) (bs : List ℕ) (whole : at + n ≤ length l) (fits : o + length bs ≤ n) where
  in-part : (j : ℕ) → j < n → get_or (put l (at + o) bs) (at + j) 0 ≡ get_or (put (area l at n) o bs) j 0
  in-part j h =
      let long = part_length l at n whole in
      let f : o + length bs ≤ length (area l at n) = omega arith in
      let g : at + o + length bs ≤ length l = omega arith in
      let there : get_or (area l at n) j 0 ≡ get_or l (at + j) 0 = get_or-take n (drop at l) j 0 h ∙ get_or-drop at l j 0 in
      go f g there (at-most (o + length bs) j) (at-most o j)
    where
      go : o + length bs ≤ length (area l at n) → at + o + length bs ≤ length l → get_or (area l at n) j 0 ≡ get_or l (at + j) 0
          → (o + length bs ≤ j) ⊎ (j < o + length bs) → (o ≤ j) ⊎ (j < o) → get_or (put l (at + o) bs) (at + j) 0 ≡ get_or (put (area l at n) o bs) j 0
      go f g there (inl k) x =
          put-behind l (at + o) bs g (at + j) (omega arith) ∙ sym there ∙ sym (put-behind (area l at n) o bs f j k)
      go f g there (inr k) (inl m) =
          let a : at + j ≡ at + o + (j - o) = omega arith in
          let b : o + (j - o) ≡ j = omega arith in
          ap (λ (x : ℕ). get_or (put l (at + o) bs) x 0) a ∙
          put_in l (at + o) bs g (j - o) (omega arith) ∙
          sym (put_in (area l at n) o bs f (j - o) (omega arith)) ∙
          ap (λ (x : ℕ). get_or (put (area l at n) o bs) x 0) b
      go f g there (inr k) (inr m) =
          put-before l (at + o) bs g (at + j) (omega arith) ∙ sym there ∙ sym (put-before (area l at n) o bs f j m)

  pub area-put : area (put l (at + o) bs) at n ≡ put (area l at n) o bs
  area-put =
      let long = part_length l at n whole in
      let g : at + o + length bs ≤ length l = omega arith in
      let f : o + length bs ≤ length (area l at n) = omega arith in
      let a = put-long l (at + o) bs g in
      let b = put-long (area l at n) o bs f in
      let c = part_length (put l (at + o) bs) at n (omega arith) in
      ext_get_or 0 (area (put l (at + o) bs) at n) (put (area l at n) o bs) (omega arith)
      (λ j h. let k : j < n = omega arith in get_or-take n (drop at (put l (at + o) bs)) j 0 k ∙ get_or-drop at (put l (at + o) bs) j 0 ∙ in-part j k)
