-- "Driven with any valid list and ticks, merged in time order and ending with a tick past its deadline, it gives the list engine's answer, counts and finishing time."
use Rattle.std.specs.Prelude.{ℕ, suc, ◌≤◌, ◌<◌, Bool, true, ◌≡◌, List, [], ◌∷◌, ◌++◌}
use Rattle.std.proofs.Math.Option.{Option, some}
use Rattle.rules.specs.Calls.{Call}
use Rattle.rules.specs.Client.{asked, events_in, call}
use Rattle.rules.specs.Counts.{Rising}
use Rattle.rules.specs.Events.{Event, within_limits}
use Rattle.rules.specs.Exchange.{Asked, State, start, Turn, on, ends, turn, settle, under, exchange}
use Rattle.rules.specs.Settings.{Setting, Lent}
use Rattle.stepwise.specs.Engine.{Input, event, tick, time_in, Engine, waiting, decided, decision, past, step, run, begin}

-- Events and ticks, merged.
pub data Merged : List Event → List ℕ → List Input → Type 0 where
  done : Merged [] [] []
  takes : {e : Event} {es : List Event} {ts : List ℕ} {is : List Input} → Merged es ts is → Merged (e ∷ es) ts (event e ∷ is)
  ticks : {t : ℕ} {es : List Event} {ts : List ℕ} {is : List Input} → Merged es ts is → Merged es (t ∷ ts) (tick t ∷ is)

-- "in time order", from this time on.
abbrev pub InOrder : ℕ → List Input → Type 0
InOrder t [] = Unit {0}
InOrder t (i ∷ is) = (t ≤ time_in i) × InOrder (time_in i) is

-- The time of the last of these.
abbrev pub clock : ℕ → List Input → ℕ
clock t [] = t
clock t (i ∷ is) = clock (time_in i) is

-- Each event passes 10's test, behind so many read.
abbrev pub Valid : (ℕ → Event → Bool) → ℕ → List Event → Type 0
Valid fits n [] = Unit {0}
Valid fits n (e ∷ es) = (fits n e ≡ true) × Valid fits (suc n) es

-- A tick past its deadline, or past T; where it has settled any will do.
abbrev pub Due : Option ℕ → Engine → ℕ → Type 0
Due overall (waiting last s) now = past overall s now ≡ true
Due overall (decided x) now = Unit {0}

-- The turns of these events alone, one after the other.
unfoldable pub turns : Bool → Asked → List Event → State → Turn
turns strict a [] s = on s
turns strict a (e ∷ es) s = elim (turn strict a s e) [ on s' ↦ turns strict a es s' | ends x ↦ ends x ]

-- What the engine is behind these events, begun in the state s, at the time t: waiting, it holds the state that they leave, from which the list engine would go on; decided, it holds the list engine's answer, whatever comes from then on.
abbrev pub Means : Bool → Asked → Option ℕ → State → List Event → ℕ → Engine → Type 0
Means strict a overall s es t (waiting last s') =
    (last ≡ t) × (turns strict a es s ≡ on s') × ((rest : List Event) → settle strict a (es ++ rest) s ≡ settle strict a rest s')
Means strict a overall s es t (decided x) = (rest : List Event) → Rising t rest → under overall (settle strict a (es ++ rest) s) ≡ x

pub record Driven (fits : ℕ → Event → Bool) : Type 0 where
  -- A prefix leaves the state that the fold has, or the answer, at once.
  pub prefix : (strict : Bool) (a : Asked) (overall : Option ℕ) (es : List Event) (ts : List ℕ) (is : List Input) → Merged es ts is → InOrder 0 is → Valid fits 0 es
      → Means strict a overall (start a) es (clock 0 is) (run fits strict a overall (waiting 0 (start a)) is)
  -- The exchange's answer, in the end.
  pub answers : (strict : Bool) (a : Asked) (overall : Option ℕ) (es : List Event) (ts : List ℕ) (is : List Input) (now : ℕ) → Merged es ts is
      → InOrder 0 (is ++ (tick now ∷ [])) → Valid fits 0 es → Due overall (run fits strict a overall (waiting 0 (start a)) is) now
      → run fits strict a overall (waiting 0 (start a)) (is ++ (tick now ∷ [])) ≡ decided (exchange strict a overall es)
  -- A tick past the list engine's finishing time is due.
  pub due : (strict : Bool) (a : Asked) (overall : Option ℕ) (es : List Event) (ts : List ℕ) (is : List Input) (now : ℕ) → Merged es ts is → InOrder 0 is → Valid fits 0 es
      → (exchange strict a overall es).time < now → Due overall (run fits strict a overall (waiting 0 (start a)) is) now
  -- The whole call's answer, a call that is refused included; of its events none is.
  pub whole : (strict : Bool) (w : Setting) (c : Call) (l : Lent) (ts : List ℕ) (is : List Input) (now : ℕ) → within_limits l.form l.events l.replies ≡ true
      → let engine = run fits strict (asked w c) w.overall (begin w c l.buffer) in
      Merged (events_in l) ts is → InOrder 0 (is ++ (tick now ∷ [])) → Valid fits 0 (events_in l) → Due w.overall (engine is) now
      → decision strict c (engine (is ++ (tick now ∷ []))) ≡ some (call strict w c l).answer
  -- "An event or tick earlier than the last, or anything after it has settled, changes nothing", and so every step that is refused.
  pub refused : (strict : Bool) (a : Asked) (overall : Option ℕ) (e : Engine) (i : Input) (n : ℕ) → (step fits strict a overall e i).refusal ≡ some n
      → (step fits strict a overall e i).engine ≡ e
