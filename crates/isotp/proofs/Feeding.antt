-- What one frame does.
use Prim.Native.Nat.{ℕ, suc, ◌+◌, ◌-◌, ◌*◌, ◌/◌, ◌%◌, ◌≤◌, ◌<◌, min}
use native.Mathlib.Omega.{arith}
use mathlib.Core.Bool.{Bool, true, false, cond, not, false≢true}
use mathlib.Core.List.{List, ◌∷◌, ◌++◌}
use mathlib.Core.Option.{none, some}
use mathlib.Core.Path.{◌≡◌, refl, sym, ◌∙◌, ap}
use lib.Dec.{eqb}
use lib.ListN.{length, take, drop, length-append, length-take, length-drop}
use lib.Seq.{take_at, take-add, take_all, length-take-le}
use borrow.Author.Tests.{le-leb, lt-leb, eq-eqb, ne_eqb, eqb-true}
use Rattle.isotp.specs.Frames.{kind, low, announced, is_single, is_first}
use Rattle.isotp.specs.Sending.{padded, single, first, number, start, consecutive}
use Rattle.isotp.specs.Joining.{State, idle, under, fed, passed, busy, grown, goes_on, feed}
use Rattle.isotp.specs.Laws.{PassesOver, SkipsFlowControl, DropsWrong, Numbers}

no : {A : Type 0} → false ≡ true → A
no e = absurd (false≢true e)

pub passes_over : PassesOver
unfolding feed
passes_over s f = go (eqb (kind f) 0) (eqb (kind f) 1) (eqb (kind f) 2) (is_single f) (is_first f)
  where
    go : (k0 k1 k2 is-single is-first : Bool) → cond k0 (not is-single) (cond k1 (not is-first) (not k2)) ≡ true →
        cond k0 (cond is-single (fed idle (busy s) (some (take (low f) (drop 1 f)))) (passed s))
        (cond k1 (cond is-first (fed (under (announced f - 6) 1 (take 6 (drop 2 f))) (busy s) none) (passed s)) (cond k2 (goes_on s f) (passed s)))
        ≡ passed s
    go true k1 k2 false is-first e = refl
    go true k1 k2 true is-first e = no e
    go false true k2 is-single false e = refl
    go false true k2 is-single true e = no e
    go false false false is-single is-first e = refl
    go false false true is-single is-first e = no e

pub skips-flow-control : SkipsFlowControl
skips-flow-control f e =
    let three = eqb-true (kind f) 3 e in
    rw (ne_eqb (kind f) 0 (omega arith), ne_eqb (kind f) 1 (omega arith), ne_eqb (kind f) 2 (omega arith))

pub drops-wrong : DropsWrong
unfolding feed
drops-wrong due n bs f two other =
    rw (ne_eqb (kind f) 0 (omega arith), ne_eqb (kind f) 1 (omega arith), eq-eqb (kind f) 2 two, ne_eqb (low f) n other)

pub numbers : Numbers
numbers = record {
  shown = λ pad m k. omega arith;
  begins = refl;
  steps = λ k h. omega arith;
  wraps = λ k h. omega arith;
}

-- A consecutive frame with the right number and the bytes that are due.
pub takes-more : (due n b : ℕ) (bs more : List ℕ) → b / 16 ≡ 2 → b % 16 ≡ n → min 7 due ≤ length more →
    feed (under due n bs) (b ∷ more) ≡ grown due n (bs ++ take (min 7 due) more)
unfolding feed
takes-more due n b bs more two same long =
    rw (ne_eqb (b / 16) 0 (omega arith), ne_eqb (b / 16) 1 (omega arith), eq-eqb (b / 16) 2 two, eq-eqb (b % 16) n same, le-leb (min 7 due + 1) (suc (length more)) (omega arith))

module _ (pad m : List ℕ) where
  -- The state behind the first frame and k consecutive ones.
  abbrev pub behind : ℕ → State
  behind k = under (length m - start k) (number k) (take (start k) m)

  pub single-gives : (1 ≤ length m) → (length m ≤ 7) → feed idle (padded pad (single m)) ≡ fed idle false (some m)
  unfolding feed
  single-gives least most =
      let rest : List ℕ = take (8 - length (single m)) pad in
      let long = length-append m rest in
      rw (
        eq-eqb (length m / 16) 0 (omega arith),
        le-leb 1 (length m % 16) (omega arith),
        le-leb (length m % 16) 7 (omega arith),
        le-leb (length m % 16 + 1) (suc (length (m ++ rest))) (omega arith),
        take_at m rest (length m % 16) (omega arith),
      )

  pub first-begins : (8 ≤ length m) → (length m ≤ 4095) → feed idle (padded pad (first m)) ≡ fed (behind 0) false none
  unfolding feed
  first-begins least most =
      let six : length (take 6 m) ≡ 6 = length-take-le 6 m (omega arith) in
      let rest : List ℕ = take (8 - length (first m)) pad in
      let long = length-append (take 6 m) rest in
      let n : ℕ = length m in
      rw (
        ne_eqb ((16 + n / 256) / 16) 0 (omega arith),
        eq-eqb ((16 + n / 256) / 16) 1 (omega arith),
        le-leb 8 ((16 + n / 256) % 16 * 256 + n % 256) (omega arith),
        le-leb 8 (suc (suc (length (take 6 m ++ rest)))) (omega arith),
        take_at (take 6 m) rest 6 six,
      )
      (ap (λ (due : ℕ). fed (under due 1 (take 6 m)) false none) (omega arith))

  module _ (k : ℕ) (more : start k < length m) where
    -- The bytes that consecutive frame k brings.
    brings : feed (behind k) (padded pad (consecutive m k)) ≡ grown (length m - start k) (number k) (take (start k + 7) m)
    brings =
        let part : List ℕ = take 7 (drop (start k) m) in
        let size : length part ≡ min 7 (length m - start k) = length-take 7 (drop (start k) m) ∙ ap (min 7) (length-drop (start k) m) in
        let rest : List ℕ = take (8 - suc (length part)) pad in
        let long = length-append part rest in
        takes-more (length m - start k) (number k) (0x20 + number k) (take (start k) m) (part ++ rest) (omega arith) (omega arith) (omega arith)
        ∙ ap (λ (bs : List ℕ). grown (length m - start k) (number k) (take (start k) m ++ bs)) (take_at part rest (min 7 (length m - start k)) size)
        ∙ ap (λ (bs : List ℕ). grown (length m - start k) (number k) bs) (sym (take-add (start k) 7 m))

    pub last-gives : (length m ≤ start k + 7) → feed (behind k) (padded pad (consecutive m k)) ≡ fed idle false (some m)
    last-gives h = brings ∙ rw (le-leb (length m - start k) 7 (omega arith), take_all (start k + 7) m h)

    pub next-goes-on : (start k + 7 < length m) → feed (behind k) (padded pad (consecutive m k)) ≡ fed (behind (suc k)) false none
    next-goes-on h =
        let due : length m - start k - 7 ≡ length m - start (suc k) = omega arith in
        let next : (number k + 1) % 16 ≡ number (suc k) = omega arith in
        let so_far : start k + 7 ≡ start (suc k) = omega arith in
        brings ∙ rw (lt-leb (length m - start k) 7 (omega arith)) (λ i. fed (under (due i) (next i) (take (so_far i) m)) false none)
