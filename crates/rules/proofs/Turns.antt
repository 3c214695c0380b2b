-- The one induction over an exchange: what holds of silence, and passes through a turn, holds of what the exchange settles in.
use Prim.Native.Nat.{ℕ, ◌-◌, ◌≤◌, max}
use mathlib.Core.Bool.{Bool, true, false, cond, ◌&&◌}
use mathlib.Core.Path.{◌≡◌, refl, sym, ◌∙◌, ap, subst⁻¹}
use mathlib.Core.List.{List, [], ◌∷◌, ◌++◌}
use mathlib.Core.Option.{Option, none, some}
use native.Mathlib.Omega.{arith}
use lib.Dec.{leb, ltb}
use lib.ListN.{length}
use borrow.Author.Tests.{leb-true, leb-false, ltb-true, ltb-false, le-leb, lt-leb, lt-ltb, le-ltb}
use Rattle.rules.specs.Answers.{Part, nowhere, Outcome, timeout, answer}
use Rattle.rules.specs.Calls.{suppresses}
use Rattle.rules.specs.Counts.{After}
use Rattle.rules.specs.Events.{Event, reply, idle, ended, failed, time_of, up_to}
use Rattle.rules.specs.Exchange.{Asked, Step, pending, settles, look, Settled, settled, State, waits, finish, state, Turn, on, ends, allows, notes, hears, turn, silence, settle, counted, under}
use Rattle.rules.specs.Limited.{less, spent}

-- A predicate over the state, the events from there on and what they settle in passes through a turn.
abbrev pub Through : (State → List Event → Settled → Type 0) → State → Event → List Event → Turn → Type 0
Through P s e es (on s') = (x : Settled) → P s' es x → P s (e ∷ es) x
Through P s e es (ends x) = P s (e ∷ es) x

module _ (strict : Bool) (a : Asked) where
  -- The ways that an exchange goes, as equations.
  pub settle-late : (s : State) (es : List Event) → After s.deadline es → settle strict a es s ≡ silence s
  unfolding settle
  settle-late s [] h = refl
  settle-late s (e ∷ es) h = rw (settle, lt-leb (time_of e) s.deadline h) refl

  pub settle-on : (s s' : State) (e : Event) (es : List Event) → time_of e ≤ s.deadline → turn strict a s e ≡ on s' → settle strict a (e ∷ es) s ≡ settle strict a es s'
  unfolding settle
  settle-on s s' e es h k = rw (settle, le-leb (time_of e) s.deadline h, k) refl

  pub settle-ends : (s : State) (x : Settled) (e : Event) (es : List Event) → time_of e ≤ s.deadline → turn strict a s e ≡ ends x → settle strict a (e ∷ es) s ≡ x
  unfolding settle
  settle-ends s x e es h k = rw (settle, le-leb (time_of e) s.deadline h, k) refl

  module _ (P : State → List Event → Settled → Type 0) (silent : (s : State) (es : List Event) → After s.deadline es → P s es (silence s))
      (turns : (s : State) (e : Event) (es : List Event) → time_of e ≤ s.deadline → Through P s e es (turn strict a s e)) where
    pub settle-ind : (es : List Event) (s : State) → P s es (settle strict a es s)
    settle-ind [] s = subst⁻¹ (P s []) (settle-late s [] tt) (silent s [] tt)
    settle-ind (e ∷ es) s = go (leb (time_of e) s.deadline) refl (settle-ind es)
      where
        took : (z : Turn) → turn strict a s e ≡ z → time_of e ≤ s.deadline → Through P s e es z → ((s' : State) → P s' es (settle strict a es s')) → P s (e ∷ es) (settle strict a (e ∷ es) s)
        took (on s') t k h more = subst⁻¹ (P s (e ∷ es)) (settle-on s s' e es k t) (h (settle strict a es s') (more s'))
        took (ends x) t k h more = subst⁻¹ (P s (e ∷ es)) (settle-ends s x e es k t) h

        go : (b : Bool) → leb (time_of e) s.deadline ≡ b → ((s' : State) → P s' es (settle strict a es s')) → P s (e ∷ es) (settle strict a (e ∷ es) s)
        go true b more = let k = leb-true (time_of e) s.deadline b in took (turn strict a s e) refl k (turns s e es k) more
        go false b more = let k = leb-false (time_of e) s.deadline b in subst⁻¹ (P s (e ∷ es)) (settle-late s (e ∷ es) k) (silent s (e ∷ es) k)

-- An outcome never comes before the event that it is of.
pub finish-late : (a : Asked) (o : Outcome) (t : ℕ) → t ≤ finish a o t
finish-late a o t = go (waits o && suppresses a.sub)
  where
    go : (b : Bool) → t ≤ cond b (max t a.timing.p2) t
    go true = omega arith
    go false = omega arith

-- What holds of timeout and of what the events settle in holds under T too.
pub under-ind : (Q : Outcome → Part → Type 0) → Q timeout nowhere → (s : Settled) → Q s.outcome s.reply → (overall : Option ℕ) → let x = under overall s in Q x.outcome x.reply
under-ind Q late s h none = h
under-ind Q late s h (some overall) = go (leb s.time overall)
  where
    go : (b : Bool) → let x = cond b (counted s) (answer timeout overall (up_to overall s.read) (up_to overall s.notices) nowhere) in Q x.outcome x.reply
    go true = h
    go false = late

-- The limit allows behind n notices what is left of it allows at first; a reply is judged without it.
pub still-allows : (limit : Option ℕ) (n : ℕ) → allows limit n ≡ allows (less n limit) 0
still-allows none n = refl
still-allows (some k) n = go (ltb n k) refl
  where
    go : (b : Bool) → ltb n k ≡ b → ltb n k ≡ ltb 0 (k - n)
    go true h = h ∙ sym (lt-ltb 0 (k - n) (let h' = ltb-true n k h in omega arith))
    go false h = h ∙ sym (le-ltb 0 (k - n) (let h' = ltb-false n k h in omega arith))

pub look-spent : (strict : Bool) (a : Asked) (n : ℕ) (hush : Bool) (p : Part) → look strict (spent n a) hush p ≡ look strict a hush p
unfolding look
look-spent strict a n hush p = refl

-- An event's turn does not look at what was read before it: from the state where nothing was, with what is left of the limit, it is the same turn.
abbrev pub raised : List ℕ → List ℕ → Turn → Turn
raised read notices (on s) = on (state s.hush s.deadline (s.read ++ read) (s.notices ++ notices))
raised read notices (ends x) = ends (settled x.outcome x.time (x.read ++ read) (x.notices ++ notices) x.reply)

pub turn-raised : (strict : Bool) (a : Asked) (s : State) (e : Event)
    → turn strict a s e ≡ raised s.read s.notices (turn strict (spent (length s.notices) a) (state s.hush s.deadline [] []) e)
turn-raised strict a s (reply t p) =
    go (look strict a s.hush p) ∙ ap (λ (z : Step). raised s.read s.notices (hears a' first t p z)) (sym (look-spent strict a n s.hush p))
  where
    n : ℕ
    n = length s.notices

    a' : Asked
    a' = spent n a

    first : State
    first = state s.hush s.deadline [] []

    noted : (b : Bool) → notes a s t p b ≡ raised s.read s.notices (notes a' first t p b)
    noted true = refl
    noted false = refl

    go : (z : Step) → hears a s t p z ≡ raised s.read s.notices (hears a' first t p z)
    go pending = ap (notes a s t p) (still-allows a.limit n) ∙ noted (allows (less n a.limit) 0)
    go (settles o) = refl
turn-raised strict a s (idle t) = refl
turn-raised strict a s (ended t) = refl
turn-raised strict a s (failed t n) = refl

-- One event reads one time, and notes it or not.
abbrev pub ReadsOne : Turn → Type 0
ReadsOne (on s) = (length s.read ≡ 1) × (length s.notices ≤ 1)
ReadsOne (ends x) = (length x.read ≡ 1) × (length x.notices ≤ 1)

pub turn-reads-one : (strict : Bool) (a : Asked) (hush : Bool) (deadline : ℕ) (e : Event) → ReadsOne (turn strict a (state hush deadline [] []) e)
turn-reads-one strict a hush deadline (reply t p) = go (look strict a hush p)
  where
    noted : (b : Bool) → ReadsOne (notes a (state hush deadline [] []) t p b)
    noted true = (refl, omega arith)
    noted false = (refl, omega arith)

    go : (z : Step) → ReadsOne (hears a (state hush deadline [] []) t p z)
    go pending = noted (allows a.limit 0)
    go (settles o) = (refl, omega arith)
turn-reads-one strict a hush deadline (idle t) = (refl, omega arith)
turn-reads-one strict a hush deadline (ended t) = (refl, omega arith)
turn-reads-one strict a hush deadline (failed t n) = (refl, omega arith)
