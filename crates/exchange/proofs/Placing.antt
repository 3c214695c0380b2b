-- Places in the lent reply bytes.
use Prim.Native.Nat.{ℕ, ◌+◌, ◌-◌, ◌≤◌}
use native.Mathlib.Omega.{arith}
use mathlib.Core.Path.{◌≡◌, sym, ap, ◌∙◌}
use mathlib.Core.List.{List, ◌++◌}
use lib.ListN.{length, take, drop, length-take, length-drop, take-append-drop}
use lib.Seq.{take-append_seam, take_at, drop-append-le, drop-drop}

-- A part that is cut at the end of the bytes has their length.
pub take-taken : (n : ℕ) (l : List ℕ) → take (length (take n l)) l ≡ take n l
take-taken n l = rw (take-append-drop n l) at (take-append_seam (take n l) (drop n l))

-- What is left of a part behind its first h bytes stands h further on.
pub behind-place : (l : List ℕ) (at n h : ℕ) (r : List ℕ) → r ≡ take n (drop at l) → h ≤ length r → take (length r - h) (drop (at + h) l) ≡ drop h r
behind-place l at n h r e k =
    let rest = drop n (drop at l) in
    let split : drop at l ≡ r ++ rest = rw e (sym (take-append-drop n (drop at l))) in
    let further : drop (at + h) l ≡ drop h r ++ rest = sym (drop-drop h at l) ∙ ap (λ (x : List ℕ). drop h x) split ∙ drop-append-le h r rest k in
    rw further (take_at (drop h r) rest (length r - h) (length-drop h r))

pub part-inside : (l : List ℕ) (at n : ℕ) (r : List ℕ) → r ≡ take n (drop at l) → 1 ≤ length r → at + length r ≤ length l
part-inside l at n r e k = omega (arith, ap length e ∙ length-take n (drop at l), length-drop at l)

-- A place that is as long as its bytes lies inside, if it begins there.
pub whole-inside : (l : List ℕ) (at n : ℕ) → length (take n (drop at l)) ≡ n → at ≤ length l → at + n ≤ length l
whole-inside l at n e h = omega (arith, length-take n (drop at l), length-drop at l)

-- A part names no more than is there once it is cut at the end of the bytes.
pub cut-part : (l : List ℕ) (at n : ℕ) {r : List ℕ} → r ≡ take n (drop at l) → take (length r) (drop at l) ≡ r
cut-part l at n here = rw here (take-taken n (drop at l))
