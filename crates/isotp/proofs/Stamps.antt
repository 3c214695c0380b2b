-- A message is told at its last frame, and not before.
use Prim.Native.Nat.{ℕ, zero, suc, ◌+◌, ◌-◌, ◌/◌, ◌<◌}
use native.Mathlib.Omega.{arith}
use mathlib.Core.Bool.{Bool, true, false, cond, not, ◌&&◌}
use mathlib.Core.List.{List, [], ◌∷◌, ◌++◌, map, append_assoc}
use mathlib.Core.Option.{Option, some}
use mathlib.Core.Path.{◌≡◌, refl, sym, ◌∙◌, ap}
use lib.Dec.{leb, eqb}
use lib.ListN.{length, get_or, take, drop, length-append}
use lib.Seq.{take-append_seam, drop-append_seam, take_at, drop_at}
use borrow.Author.Tests.{leb-true, leb-false, eq-eqb}
use Rattle.isotp.specs.Frames.{inert}
use Rattle.isotp.specs.Sending.{padded, single, first, consecutive, consecutives, segment}
use Rattle.isotp.specs.Joining.{State, idle, Fed, fed, passed, feed, tells, join}
use Rattle.isotp.specs.Bus.{Frame, Note, noted, listen, listened, ours}
use Rattle.isotp.specs.Laws.{Sendable, Stamps}
use Rattle.isotp.proofs.Feeding.{passes_over, behind, single-gives, first-begins, last-gives, next-goes-on}
use Rattle.isotp.proofs.Joining.{join_step}
use Rattle.isotp.proofs.Bus.{says, told-of-ours}

-- The state behind some frames.
ends : State → List (List ℕ) → State
ends s [] = s
ends s (f ∷ fs) = ends (feed s f).state fs

ends-step : (s : State) (f : List ℕ) (fs : List (List ℕ)) {t : State} {d : Bool} {m : Option (List ℕ)} → feed s f ≡ fed t d m → ends s (f ∷ fs) ≡ ends t fs
unfolding ends
ends-step s f fs e = ap (λ (x : Fed). ends x.state fs) e

-- All frames but the last, and the last.
record Split (pad m : List ℕ) : Type 0 where
  front : List (List ℕ)
  last : List ℕ
  whole : segment pad m ≡ front ++ (last ∷ [])
  hushed : join idle front ≡ []
  gives : feed (ends idle front) last ≡ fed idle false (some m)

module _ (pad m : List ℕ) where
  -- The consecutive frames but the last.
  last_of : (c k : ℕ) → consecutives pad m (suc c) k ≡ consecutives pad m c k ++ (padded pad (consecutive m (k + c)) ∷ [])
  unfolding consecutives
  last_of zero k = let same : k ≡ k + 0 = omega arith in ap (λ (i : ℕ). padded pad (consecutive m i) ∷ []) same
  last_of (suc c) k =
      let same : suc k + c ≡ k + suc c = omega arith in
      ap (λ (l : List (List ℕ)). padded pad (consecutive m k) ∷ l)
      (last_of c (suc k) ∙ ap (λ (i : ℕ). consecutives pad m c (suc k) ++ (padded pad (consecutive m i) ∷ [])) same)

  -- Fewer than all consecutive frames lead on.
  ends_on : (c k j : ℕ) → k + c ≡ j → j < length m / 7 → ends (behind pad m k) (consecutives pad m c k) ≡ behind pad m j
  unfolding consecutives ends
  ends_on zero k j e h = let same : k ≡ j = omega arith in ap (behind pad m) same
  ends_on (suc c) k j e h =
      ends-step (behind pad m k) (padded pad (consecutive m k)) (consecutives pad m c (suc k)) (next-goes-on pad m k (omega arith) (omega arith))
      ∙ ends_on c (suc k) j (omega arith) h

  hushed-on : (c k j : ℕ) → k + c ≡ j → j < length m / 7 → join (behind pad m k) (consecutives pad m c k) ≡ []
  unfolding consecutives join
  hushed-on zero k j e h = refl
  hushed-on (suc c) k j e h =
      join_step (behind pad m k) (padded pad (consecutive m k)) (consecutives pad m c (suc k)) (next-goes-on pad m k (omega arith) (omega arith))
      ∙ hushed-on c (suc k) j (omega arith) h

split : (pad m : List ℕ) → Sendable m → Split pad m
unfolding segment ends join
split pad m h = go (leb (length m) 7) refl
  where
    go : (b : Bool) → leb (length m) 7 ≡ b → Split pad m
    go true e = record {
      front = [];
      last = padded pad (single m);
      whole = rw e;
      hushed = refl;
      gives = single-gives pad m h.0 (leb-true (length m) 7 e);
    }
    go false e =
        let long = leb-false (length m) 7 e in
        let c : ℕ = length m / 7 - 1 in
        let more : length m / 7 ≡ suc c = omega arith in
        let begun = first-begins pad m (omega arith) h.1 in
        let here : ends idle (padded pad (first m) ∷ consecutives pad m c 0) ≡ behind pad m c =
        ends-step idle (padded pad (first m)) (consecutives pad m c 0) begun ∙ ends_on pad m c 0 c (omega arith) (omega arith) in
        let same : 0 + c ≡ c = omega arith in
        record {
          front = padded pad (first m) ∷ consecutives pad m c 0;
          last = padded pad (consecutive m c);
          whole = rw e (ap (λ (l : List (List ℕ)). padded pad (first m) ∷ l)
              (ap (λ (n : ℕ). consecutives pad m n 0) more ∙ last_of pad m c 0 ∙ ap (λ (i : ℕ). consecutives pad m c 0 ++ (padded pad (consecutive m i) ∷ [])) same));
          hushed = join_step idle (padded pad (first m)) (consecutives pad m c 0) begun ∙ hushed-on pad m c 0 c (omega arith) (omega arith);
          gives = ap (λ (s : State). feed s (padded pad (consecutive m c))) here ∙ last-gives pad m c (omega arith) (omega arith);
        }

-- Two lists with one more element behind are the same only if both parts are.
snoc-same : (a b : List (List ℕ)) (x y : List ℕ) → a ++ (x ∷ []) ≡ b ++ (y ∷ []) → (a ≡ b) × (x ≡ y)
snoc-same a b x y e =
    let n : length a ≡ length b = omega (arith, ap (length {A = List ℕ}) e, length-append a (x ∷ []), length-append b (y ∷ [])) in
    let ends_same : (x ∷ []) ≡ (y ∷ []) =
    sym (drop-append_seam a (x ∷ [])) ∙ ap (drop (length a)) e ∙ drop_at b (y ∷ []) (length a) (sym n) in (
      sym (take-append_seam a (x ∷ [])) ∙ ap (take (length a)) e ∙ take_at b (y ∷ []) (length a) (sym n),
      ap (λ (l : List (List ℕ)). get_or l 0 []) ends_same,
    )

module _ (id : ℕ) where
  -- What stands in front is heard first.
  heard-first : (s : State) (a b : List Frame) → listened id s (a ++ b) ≡ listened id s a ++ listened id (ends s (ours id a)) b
  unfolding listened ours ends
  heard-first s [] b = refl
  heard-first s (f ∷ a) b =
      ap (λ (l : List Note). now-told ++ l) (heard-first (listen id s f).state a b ∙ ap (λ (t : State). listened id (listen id s f).state a ++ listened id t b) (go (eqb f.id id) (inert f.bytes) refl))
      ∙ sym (append_assoc now-told (listened id (listen id s f).state a) (listened id (ends s (ours id (f ∷ a))) b))
    where
      now-told : List Note
      now-told = map (noted f) (tells (listen id s f).drops (listen id s f).gives)

      go : (mine out : Bool) → inert f.bytes ≡ out →
          ends (cond mine (feed s f.bytes) (passed s)).state (ours id a) ≡ ends s (cond (mine && not out) (f.bytes ∷ ours id a) (ours id a))
      go false out e = refl
      go true true e = ap (λ (x : Fed). ends x.state (ours id a)) (passes_over s f.bytes e)
      go true false e = refl

  nothing_said : (ns : List Note) → says ns ≡ [] → ns ≡ []
  nothing_said [] e = refl
  nothing_said (n ∷ ns) e = let z : ◌≡◌ {A = ℕ} 0 1 = cc in absurd (omega arith)

pub stamps : Stamps
unfolding listened
stamps id before f after pad m h mine e =
    let p = split pad m h in
    let same = snoc-same p.front (ours id before) p.last f.bytes (sym p.whole ∙ e) in
    let hushed : listened id idle before ≡ [] =
    nothing_said id (listened id idle before) (told-of-ours id idle before ∙ ap (join idle) (sym same.0) ∙ p.hushed) in
    let s : State = ends idle (ours id before) in
    let told : listen id s f ≡ fed idle false (some m) =
    rw (eq-eqb f.id id mine, ← same.0, ← same.1) p.gives in
    heard-first id idle before (f ∷ after)
    ∙ ap (λ (l : List Note). l ++ listened id s (f ∷ after)) hushed
    ∙ ap (λ (x : Fed). map (noted f) (tells x.drops x.gives) ++ listened id x.state after) told
