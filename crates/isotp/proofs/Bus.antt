-- One identifier's frames among all others.
use Prim.Native.Nat.{ℕ}
use mathlib.Core.Bool.{Bool, true, false, cond, not, ◌&&◌}
use mathlib.Core.List.{List, [], ◌∷◌, ◌++◌, map}
use mathlib.Core.Path.{◌≡◌, refl, ◌∙◌, ap}
use lib.Dec.{eqb}
use Rattle.isotp.specs.Frames.{inert}
use Rattle.isotp.specs.Joining.{State, idle, passed, feed, Told, message, tells, join}
use Rattle.isotp.specs.Bus.{Frame, Note, noted, listen, listened, ours}
use Rattle.isotp.specs.Laws.{Sent, Sendable, Every, segments, GivesAllBack}
use Rattle.isotp.proofs.Feeding.{passes_over}
use Rattle.isotp.proofs.Joining.{gives_back}

-- What is told does not hang on what is passed over.
abbrev pub says : List Note → List Told
says ns = map (λ (n : Note). n.told) ns

said : (f : Frame) (ts : List Told) (ns : List Note) → says (map (noted f) ts ++ ns) ≡ ts ++ says ns
said f [] ns = refl
said f (t ∷ ts) ns = ap (λ (l : List Told). t ∷ l) (said f ts ns)

module _ (id : ℕ) where
  pub told-of-ours : (s : State) (fs : List Frame) → says (listened id s fs) ≡ join s (ours id fs)
  unfolding listened ours join
  told-of-ours s [] = refl
  told-of-ours s (f ∷ fs) =
      said f (tells (listen id s f).drops (listen id s f).gives) (listened id (listen id s f).state fs)
      ∙ go (eqb f.id id) (inert f.bytes) refl (λ (t : State). told-of-ours t fs)
    where
      go : (mine out : Bool) → inert f.bytes ≡ out → ((t : State) → says (listened id t fs) ≡ join t (ours id fs)) →
          tells (cond mine (feed s f.bytes) (passed s)).drops (cond mine (feed s f.bytes) (passed s)).gives
          ++ says (listened id (cond mine (feed s f.bytes) (passed s)).state fs)
          ≡ join s (cond (mine && not out) (f.bytes ∷ ours id fs) (ours id fs))
      go false out e more = more s
      go true true e more = rw (passes_over s f.bytes e) (more s)
      go true false e more = ap (λ (l : List Told). tells (feed s f.bytes).drops (feed s f.bytes).gives ++ l) (more (feed s f.bytes).state)

all_back : (xs : List Sent) → Every (λ (x : Sent). Sendable x.bytes) xs → join idle (segments xs) ≡ map (λ (x : Sent). message x.bytes) xs
unfolding join
all_back [] h = refl
all_back (x ∷ xs) h = gives_back x.pad x.bytes h.0 (segments xs) ∙ ap (λ (l : List Told). message x.bytes ∷ l) (all_back xs h.1)

pub gives-all-back : GivesAllBack
gives-all-back id fs xs h e = told-of-ours id idle fs ∙ ap (join idle) e ∙ all_back xs h
