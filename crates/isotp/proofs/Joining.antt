-- The frames of a correct sender give its message back; one wrong number drops it.
use Prim.Native.Nat.{ℕ, zero, suc, ◌+◌, ◌-◌, ◌/◌, ◌≤◌, ◌<◌}
use native.Mathlib.Omega.{arith}
use mathlib.Core.Bool.{Bool, true, false, cond}
use mathlib.Core.List.{List, [], ◌∷◌, ◌++◌}
use mathlib.Core.Logic.{◌≢◌}
use mathlib.Core.Option.{Option}
use mathlib.Core.Path.{◌≡◌, refl, ◌∙◌, ap}
use lib.Dec.{leb}
use lib.ListN.{length, take, drop, length-append, length-take}
use borrow.Author.Tests.{leb-true, leb-false, eq-eqb, ne_eqb}
use Rattle.isotp.specs.Frames.{kind, low}
use Rattle.isotp.specs.Sending.{padded, single, first, number, start, consecutive, consecutives, segment}
use Rattle.isotp.specs.Joining.{State, idle, Fed, fed, passed, feed, Told, message, dropped, tells, join}
use Rattle.isotp.specs.Laws.{Every, GivesBack, DropsOnce, DropsTwice, DropsLost, Fits}
use Rattle.isotp.proofs.Feeding.{behind, single-gives, first-begins, last-gives, next-goes-on, drops-wrong}

-- One frame in front.
pub join_step : (s : State) (f : List ℕ) (fs : List (List ℕ)) {t : State} {d : Bool} {m : Option (List ℕ)} → feed s f ≡ fed t d m →
    join s (f ∷ fs) ≡ tells d m ++ join t fs
unfolding join
join_step s f fs e = ap (λ (x : Fed). tells x.drops x.gives ++ join x.state fs) e

module _ (pad m : List ℕ) where
  -- The consecutive frames from frame k on, all but the first k, give the message.
  rest_gives : (c k : ℕ) → k + suc c ≡ length m / 7 → (rest : List (List ℕ)) →
      join (behind pad m k) (consecutives pad m (suc c) k ++ rest) ≡ message m ∷ join idle rest
  unfolding consecutives
  rest_gives zero k e rest = join_step (behind pad m k) (padded pad (consecutive m k)) rest (last-gives pad m k (omega arith) (omega arith))
  rest_gives (suc c) k e rest =
      join_step (behind pad m k) (padded pad (consecutive m k)) (consecutives pad m (suc c) (suc k) ++ rest) (next-goes-on pad m k (omega arith) (omega arith))
      ∙ rest_gives c (suc k) (omega arith) rest

  -- The next c consecutive frames, fewer than all, say nothing.
  goes_on : (c k j : ℕ) → k + c ≡ j → j < length m / 7 → (rest : List (List ℕ)) →
      join (behind pad m k) (consecutives pad m c k ++ rest) ≡ join (behind pad m j) rest
  unfolding consecutives
  goes_on zero k j e h rest = let same : k ≡ j = omega arith in ap (λ (i : ℕ). join (behind pad m i) rest) same
  goes_on (suc c) k j e h rest =
      join_step (behind pad m k) (padded pad (consecutive m k)) (consecutives pad m c (suc k) ++ rest) (next-goes-on pad m k (omega arith) (omega arith))
      ∙ goes_on c (suc k) j (omega arith) h rest

  -- Consecutive frames without a first one are passed over.
  idle-passes : (c k : ℕ) (rest : List (List ℕ)) → join idle (consecutives pad m c k ++ rest) ≡ join idle rest
  unfolding consecutives feed
  idle-passes zero k rest = refl
  idle-passes (suc c) k rest =
      let passes : feed idle (padded pad (consecutive m k)) ≡ passed idle =
      rw (ne_eqb ((0x20 + number k) / 16) 0 (omega arith), ne_eqb ((0x20 + number k) / 16) 1 (omega arith), eq-eqb ((0x20 + number k) / 16) 2 (omega arith)) in
      join_step idle (padded pad (consecutive m k)) (consecutives pad m c (suc k) ++ rest) passes ∙ idle-passes c (suc k) rest

pub gives_back : GivesBack
unfolding segment
gives_back pad m h rest = go (leb (length m) 7) refl
  where
    go : (b : Bool) → leb (length m) 7 ≡ b →
        join idle (cond b (padded pad (single m) ∷ []) (padded pad (first m) ∷ consecutives pad m (length m / 7) 0) ++ rest) ≡ message m ∷ join idle rest
    go true e = join_step idle (padded pad (single m)) rest (single-gives pad m h.0 (leb-true (length m) 7 e))
    go false e =
        let long = leb-false (length m) 7 e in
        let some_more : length m / 7 ≡ suc (length m / 7 - 1) = omega arith in
        join_step idle (padded pad (first m)) (consecutives pad m (length m / 7) 0 ++ rest) (first-begins pad m (omega arith) h.1)
        ∙ ap (λ (c : ℕ). join (behind pad m 0) (consecutives pad m c 0 ++ rest)) some_more
        ∙ rest_gives pad m (length m / 7 - 1) 0 (omega arith) rest

-- Frame k's place is taken by a frame with another number, and any consecutive frames follow.
drops-at : (pad m : List ℕ) → 8 ≤ length m → length m ≤ 4095 → (k c j : ℕ) (f : List ℕ) → k < length m / 7 →
    kind f ≡ 2 → low f ≢ number k → (rest : List (List ℕ)) →
    join idle (padded pad (first m) ∷ (consecutives pad m k 0 ++ (f ∷ (consecutives pad m c j ++ rest)))) ≡ dropped ∷ join idle rest
drops-at pad m least most k c j f e two other rest =
    let behind-f : List (List ℕ) = consecutives pad m c j ++ rest in
    join_step idle (padded pad (first m)) (consecutives pad m k 0 ++ (f ∷ behind-f)) (first-begins pad m least most)
    ∙ goes_on pad m k 0 k (omega arith) e (f ∷ behind-f)
    ∙ join_step (behind pad m k) f behind-f (drops-wrong (length m - start k) (number k) (take (start k) m) f two other)
    ∙ ap (λ (l : List Told). dropped ∷ l) (idle-passes pad m c j rest)

pub drops-once : DropsOnce
drops-once pad m least most k c f e two other rest = drops-at pad m least most k c (k + 1) f (omega arith) two other rest

pub drops-twice : DropsTwice
drops-twice pad m least most k c e h rest =
    drops-at pad m least most (k + 1) c (k + 1) (padded pad (consecutive m k)) (omega arith) (omega arith) (omega arith) rest

pub drops-lost : DropsLost
drops-lost pad m least most k c e rest =
    drops-at pad m least most k c (k + 2) (padded pad (consecutive m (k + 1))) (omega arith) (omega arith) (omega arith) rest

padded-fits : (pad f : List ℕ) → length f ≤ 8 → length (padded pad f) ≤ 8
padded-fits pad f h =
    let rest : List ℕ = take (8 - length f) pad in
    omega (arith, length-append f rest, length-take (8 - length f) pad)

consecutives-fit : (pad m : List ℕ) (c k : ℕ) → Every (λ (f : List ℕ). length f ≤ 8) (consecutives pad m c k)
unfolding consecutives
consecutives-fit pad m zero k = tt
consecutives-fit pad m (suc c) k = (padded-fits pad (consecutive m k) (omega (arith, length-take 7 (drop (start k) m))), consecutives-fit pad m c (suc k))

pub fits : Fits
unfolding segment
fits pad m = go (leb (length m) 7) refl
  where
    go : (b : Bool) → leb (length m) 7 ≡ b →
        Every (λ (f : List ℕ). length f ≤ 8) (cond b (padded pad (single m) ∷ []) (padded pad (first m) ∷ consecutives pad m (length m / 7) 0))
    go true e = (padded-fits pad (single m) (omega (arith, leb-true (length m) 7 e)), tt)
    go false e = (padded-fits pad (first m) (omega (arith, length-take 6 m)), consecutives-fit pad m (length m / 7) 0)
