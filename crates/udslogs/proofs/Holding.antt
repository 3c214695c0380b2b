-- Laws of what is held in a buffer, from an index on.
use Prim.Native.Nat.{ℕ, ◌+◌, ◌-◌, ◌≤◌, ◌<◌}
use native.Mathlib.Omega.{arith}
use mathlib.Core.Bool.{true, false}
use mathlib.Core.List.{List, [], ◌∷◌, ◌++◌, append-nil}
use mathlib.Core.Path.{◌≡◌, refl, sym, ap, subst, ◌∙◌}
use borrow.Author.Tests.{eqb-true}
use borrow.Rule.Slice.PartMut.{post_of, put_mid}
use lib.Dec.{eqb}
use lib.ListN.{length, take, drop, length-take, length-drop, length-append}
use lib.Seq.{length-take-le, take_at, drop_at, drop-drop, take-add, take-append-le}
use Rattle.std.specs.List.{copy_within}
use Rattle.log_lines.specs.Batches.{Waits, Batched, Ended}
use Rattle.log_lines.specs.declared.Batch.{Batch}
use Rattle.log_lines.specs.declared.Ending.{Ending}
use Rattle.log_lines.proofs.Promises.{waits, few-held}
use Rattle.udslogs.specs.declared.Run.{Run}
use Rattle.udslogs.specs.Turns.{Inside, held_of, Printed, Read, Closed}

-- What is behind the first bytes of what is held.
pub rest-held : (from held t : ℕ) (input : List ℕ) → from + held ≤ length input → t ≤ held →
    take (held - t) (drop (from + t) input) ≡ drop t (take held (drop from input))
rest-held from held t input inside some =
    let l : List ℕ = drop from input in
    let all : held ≡ t + (held - t) = omega arith in
    let front : length (take t l) ≡ t = length-take-le t l (omega (arith, length-drop from input)) in
    ap (take (held - t)) (sym (drop-drop t from input)) ∙
    sym (ap (λ (n : ℕ). drop t (take n l)) all ∙ ap (drop t) (take-add t (held - t) l) ∙ drop_at (take t l) (take (held - t) (drop t l)) t front)

-- What is held is copied to the front.
pub moved : (from held : ℕ) (input : List ℕ) {after : List ℕ} → from + held ≤ length input → after ≡ copy_within input from (from + held) 0 →
    take held after ≡ take held (drop from input)
moved from held input {after} inside is =
    let count : from + held - from ≡ held = omega arith in
    let size : length (take held (drop from input)) ≡ held = length-take-le held (drop from input) (omega (arith, length-drop from input)) in
    ap (take held) (is ∙ ap (λ (n : ℕ). take n (drop from input) ++ drop (0 + n) input) count) ∙
    take_at (take held (drop from input)) (drop (0 + held) input) held size

-- No more is taken than is held.
pub taken-held : (from held t : ℕ) (input l : List ℕ) → l ≡ take held (drop from input) → t ≤ length l → t ≤ held
taken-held from held t input l is inside = omega (arith, inside, ap length is, length-take held (drop from input))

-- The lines of what is held are printed, and so many bytes of each buffer as the batch says are written.
pub printed : (run : Run) (input l out said : List ℕ) (b : Batch) (A B : List ℕ → Type 0) → Inside run input → l ≡ held_of run input →
    Batched run.left run.logs l b out said → A (take b.written out) → B (take b.said said) →
    (p : Printed run input (record {
      left = b.left;
      logs = b.logs;
      from = run.from + b.taken;
      held = run.held - b.taken;
      waits = eqb b.taken 0;
      ended = run.ended;
    }) out said) × A (take p.batch.written out) × B (take p.batch.said said)
printed run input l out said b A B inside is k written told =
    let few = taken-held run.from run.held b.taken input l is k.inside in (
      record {
        batch = b;
        batched = subst (λ (m : List ℕ). Batched run.left run.logs m b out said) is k;
        inside = omega (arith, inside, few);
        held = rest-held run.from run.held b.taken input inside few;
        left = refl;
        logs = refl;
        waits = refl;
      },
      written,
      told,
    )

-- What came stands behind what is held, which was moved to the front.
module _ (run : Run) (input moved-there mid : List ℕ) where
  abbrev h : ℕ
  h = run.held

  abbrev after : List ℕ
  after = put_mid h (length moved-there - h) moved-there mid

  pub read : (n : ℕ) (C : List ℕ → Type 0) {E : Type 0} → take h moved-there ≡ held_of run input → h < length moved-there →
      length mid ≡ length moved-there - h → n ≤ length mid → C (take n mid) → (n ≡ 0 → 0 < length mid → E) →
      (r : Read run input (record { left = run.left; logs = run.logs; from = 0; held = h + n; waits = false; ended = eqb n 0 }) after) ×
      C r.came × (length r.came ≡ 0 → E)
  read n C front fits room some came end =
      let past : List ℕ = mid ++ post_of h (length moved-there - h) moved-there in
      let short : length (take h moved-there) ≡ h = length-take-le h moved-there (omega (arith, fits)) in
      let behind : take n (drop h after) ≡ take n mid =
      ap (take n) (drop_at (take h moved-there) past h short) ∙ take-append-le n mid (post_of h (length moved-there - h) moved-there) some in
      let counted : length (take n mid) ≡ n = length-take-le n mid some in (
        record {
          came = take n mid;
          inside = omega (
            arith,
            some,
            short,
            length-append (take h moved-there) past,
            length-append mid (post_of h (length moved-there - h) moved-there),
          );
          held = take-add h n after ∙ ap (λ (l : List ℕ). l ++ take n (drop h after)) (take_at (take h moved-there) past h short ∙ front) ∙
              ap (λ (l : List ℕ). held_of run input ++ l) behind;
          left = refl;
          logs = refl;
          ended = ap (λ (m : ℕ). eqb m 0) (sym counted);
        },
        came,
        λ none. end (sym counted ∙ none) (omega (arith, room, fits)),
      )

-- The end is printed, so many bytes of each buffer as it says.
pub closed : (run : Run) (input l before unsaid after told : List ℕ) (e : Ending) (A B : List ℕ → Type 0) → l ≡ held_of run input →
    Ended run.left run.logs l before unsaid e after told → A (take e.written after) → B (take e.said told) →
    (c : Closed run input before unsaid after told) × A (take c.end.written after) × B (take c.end.said told)
closed run input l before unsaid after told e A B is k written said = (
  record {
    end = e;
    ended = subst (λ (m : List ℕ). Ended run.left run.logs m before unsaid e after told) is k;
  },
  written,
  said,
)

-- What `main` knows where nothing could be taken.
module _ {run r : Run} {input out said : List ℕ} (p : Printed run input r out said) (waiting : r.waits ≡ true) (room : 65536 ≡ length out)
    (room_to_say : 4096 ≡ length said) where
  none : p.batch.taken ≡ 0
  none = eqb-true p.batch.taken 0 (sym p.waits ∙ waiting)

  held-still : held_of r input ≡ held_of run input
  held-still = p.held ∙ ap (λ (n : ℕ). drop n (held_of run input)) none

  pub few : r.held < 65540
  few =
      omega (
        arith,
        few-held p.batched none (omega arith) (omega arith),
        ap length held-still,
        p.inside,
        length-take-le r.held (drop r.from input) (omega (arith, p.inside, length-drop r.from input)),
      )

  pub waits-at-end : {last : Run} {after : List ℕ} → Read r input last after → last.ended ≡ true → Waits last.left (held_of last after)
  waits-at-end {last} {after} q ended =
      let nothing : q.came ≡ [] = empty q.came (eqb-true (length q.came) 0 (sym q.ended ∙ ended)) in
      let same : held_of last after ≡ held_of run input = q.held ∙ ap (λ (l : List ℕ). held_of r input ++ l) nothing ∙ append-nil (held_of r input) ∙
      held-still in
      subst (λ (l : List ℕ). Waits last.left l) (sym same)
      (subst (λ (n : ℕ). Waits n (held_of run input)) (sym (q.left ∙ p.left)) (waits p.batched none (omega arith) (omega arith)))
    where
      empty : (l : List ℕ) → length l ≡ 0 → l ≡ []
      empty [] e = refl
      empty (x ∷ l) e = absurd (omega arith)
