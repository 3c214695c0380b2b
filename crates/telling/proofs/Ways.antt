-- The ways that a story goes, as equations.
use Prim.Native.Nat.{ℕ}
use mathlib.Core.Bool.{Bool, true, false, ◌&&◌}
use mathlib.Core.List.{List, [], ◌∷◌, ◌++◌, map}
use mathlib.Core.Option.{Option}
use mathlib.Core.Path.{◌≡◌, refl}
use lib.Dec.{leb}
use Rattle.rules.specs.Events.{Entry, event_of}
use Rattle.rules.specs.Exchange.{Asked, State, Settled, on, ends, turn}
use Rattle.telling.specs.Story.{Line, read, unread, within, silent, cut, tell}

module _ (strict : Bool) (a : Asked) (overall : Option ℕ) (listens : ℕ) (r : List ℕ) (s : State) where
  abbrev told : List Entry → State → List Line
  told es x = tell strict a overall listens r es x

  pub tell_none : told [] s ≡ silent overall s ∷ []
  unfolding tell
  tell_none = refl

  module _ (e : Entry) (es : List Entry) where
    pub tell-late : (leb e.time s.deadline && within overall e.time) ≡ false → told (e ∷ es) s ≡ silent overall s ∷ map unread (e ∷ es)
    unfolding tell
    tell-late h = rw (tell, h) refl

    pub tell-on : (s' : State) → (leb e.time s.deadline && within overall e.time) ≡ true → turn strict a s (event_of listens r e) ≡ on s'
        → told (e ∷ es) s ≡ read e s (on s') ∷ told es s'
    unfolding tell
    tell-on s' h t = rw (tell, h, t) refl

    pub tell-ends : (x : Settled) → (leb e.time s.deadline && within overall e.time) ≡ true → turn strict a s (event_of listens r e) ≡ ends x
        → told (e ∷ es) s ≡ read e s (ends x) ∷ (cut overall x ++ map unread es)
    unfolding tell
    tell-ends x h t = rw (tell, h, t) refl
