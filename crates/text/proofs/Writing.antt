-- Laws of writing into a lent line: two writes, one behind the other, are one write.
use Rattle.std.specs.Prelude.{Some, None}
use Prim.Native.Nat.{ℕ, ◌+◌, ◌-◌, ◌≤◌, ◌<◌}
use native.Mathlib.Nat.{add_assoc, add-zero, zero-add}
use native.Mathlib.Numerals.{add-one}
use native.Mathlib.Omega.{arith}
use mathlib.Core.Bool.{true, false}
use mathlib.Core.List.{List, [], ◌∷◌, ◌++◌, append_assoc, append-nil}
use mathlib.Core.Path.{◌≡◌, refl, sym, ◌∙◌, ap}
use borrow.Author.Tests.{le-leb}
use lib.Dec.{leb}
use lib.ListN.{length, take, drop, set, length-append, take-append-drop}
use borrow.Rule.Slice.PartMut.{put_mid}
use Rattle.std.proofs.lemmas.Slice.{put_mid-paste}
use lib.Seq.{take-length, length-take-le, take_at, drop-append-add, drop-drop, append_snoc, set_split}
use Rattle.text.specs.Written.{put, Put, Wrote, Appended}

put-put : (l a b : List ℕ) (at : ℕ) → at + length a ≤ length l → put (put l at a) (at + length a) b ≡ put l at (a ++ b)
unfolding put
put-put l a b at h =
    let front : List ℕ = take at l ++ a in
    let rest : List ℕ = drop (at + length a) l in
    let e : length front ≡ at + length a =
    length-append (take at l) a ∙ ap (λ (k : ℕ). k + length a) (length-take-le at l (omega arith)) in
    let past : drop (at + length a + length b) (front ++ rest) ≡ drop (length b) rest =
    ap (λ (k : ℕ). drop (k + length b) (front ++ rest)) (sym e) ∙ drop-append-add front rest (length b) in
    rw (take_at front rest (at + length a) e, past, drop-drop, length-append, ← add_assoc at (length a) (length b), append_assoc (take at l) a b)

pub then : {l a m b o : List ℕ} {at n r : ℕ} → n ≤ length l → Put l at a m n → Put m n b o r → Put l at (a ++ b) o r
then {l = l} {a = a} {b = b} {at = at} h p q = record {
  next = q.next ∙ rw (p.next, length-append) (omega arith);
  line = q.line ∙ rw (p.line, p.next) (put-put l a b at (omega (arith, h, p.next)));
}

pub one : (l : List ℕ) (at b : ℕ) → at < length l → Put l at (b ∷ []) (set l at b) (at + 1)
unfolding put
one l at b h = record { next = refl; line = set_split l at b h ∙ rw (append_snoc, add-one) }

-- A copy into a part of the line, as long as what is copied.
pub copied : (l : List ℕ) (at : ℕ) (bs : List ℕ) {part : List ℕ} → part ≡ bs → Put l at bs (put_mid at (at + length bs - at) l part) (at + length bs)
unfolding put
copied l at bs {part} same = record {
  next = refl;
  line = put_mid-paste at (at + length bs - at) l part bs (length bs) same (omega arith) refl ∙ rw take-length;
}

pub none : (l : List ℕ) (at : ℕ) → Put l at [] l at
unfolding put
none l at = record {
  next = sym (add-zero at);
  line = sym (rw (append-nil (take at l), add-zero at) (take-append-drop at l));
}

-- Five writes, each behind the one before.
pub joined : {l a b c d e m₁ m₂ m₃ m₄ m₅ : List ℕ} {at n₁ n₂ n₃ n₄ r : ℕ} →
    at + length (a ++ b ++ c ++ d ++ e) ≤ length l →
    Put l at a m₁ n₁ → Put m₁ n₁ b m₂ n₂ → Put m₂ n₂ c m₃ n₃ → Put m₃ n₃ d m₄ n₄ → Put m₄ n₄ e m₅ r →
    Put l at (a ++ b ++ c ++ d ++ e) m₅ r
joined h p₁ p₂ p₃ p₄ p₅ =
    let fits = simp length-append at h in
    then (omega arith) (then (omega arith) (then (omega arith) (then (omega arith) p₁ p₂) p₃) p₄) p₅

-- What `put_line` says and leaves, where the text has no room and where it stands at the front.
module _ (bs l : List ℕ) where
  pub no_room : leb (length bs) (length l) ≡ false → Wrote bs l None l
  no_room e = record { answer = rw e; line = rw e }

  pub wrote : {m : List ℕ} {r : ℕ} → leb (length bs) (length l) ≡ true → Put l 0 bs m r → Wrote bs l (Some r) m
  unfolding put
  wrote e p = record {
    answer = rw e (ap Some (p.next ∙ zero-add (length bs)));
    line = rw e (p.line ∙ rw zero-add);
  }

-- A text that is appended, where it has no room and where it has.
module _ (bs l : List ℕ) (at : ℕ) where
  pub not-appended : leb (at + length bs) (length l) ≡ false → Appended bs l at at l
  not-appended less = record { end = rw less; line = rw less }

  pub appended : {m : List ℕ} {r : ℕ} → leb (at + length bs) (length l) ≡ true → Put l at bs m r → Appended bs l at r m
  appended fits p = record { end = rw fits p.next; line = rw fits p.line }

  pub was-put : {m : List ℕ} {r : ℕ} → at + length bs ≤ length l → Appended bs l at r m → Put l at bs m r
  was-put h p =
      let fits = le-leb (at + length bs) (length l) h in
      record { next = rw fits at p.end; line = rw fits at p.line }
