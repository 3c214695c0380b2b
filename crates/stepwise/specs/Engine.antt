-- Request Eleven: "a second engine with a state record: begin, one event, or a tick that says how late it is". "It answers whether it has settled and what it decided."
use Rattle.std.specs.Prelude.{ℕ, Bool, true, false, cond, ◌||◌, List, [], ◌∷◌, ◌++◌, leb, ltb, length}
use Rattle.std.proofs.Math.Option.{Option, none, some}
use Rattle.rules.specs.After.{after}
use Rattle.rules.specs.Answers.{Answer, refusal}
use Rattle.rules.specs.Calls.{Call, request_of}
use Rattle.rules.specs.InOrder.{unless, judge}
use Rattle.rules.specs.Client.{asked}
use Rattle.rules.specs.Events.{Event, time_of}
use Rattle.rules.specs.Exchange.{Asked, State, start, Turn, on, ends, turn, silence, under}
use Rattle.rules.specs.Refusals.{arguments}
use Rattle.rules.specs.Settings.{Setting}

-- What it is handed: an event; or the time since sending, in 64 bits.
pub data Input : Type 0 where
  event : Event → Input
  tick : ℕ → Input

abbrev pub time_in : Input → ℕ
time_in (event e) = time_of e
time_in (tick t) = t

-- The engine waits, its last accepted step at this time; or it has decided.
pub data Engine : Type 0 where
  waiting : ℕ → State → Engine
  decided : Answer → Engine

-- "whether it has settled and what it decided": the whole call's answer.
abbrev pub decision : Bool → Call → Engine → Option Answer
decision strict c (waiting last s) = none
decision strict c (decided x) = some (after strict c x)

-- A step's own answer, and the engine behind it.
pub record Stepped : Type 0 where
  pub refusal : Option ℕ
  pub engine : Engine

abbrev pub stepped : Option ℕ → Engine → Stepped
stepped n e = record { refusal = n; engine = e }

-- Past the deadline, or past T: "Past, not at it."
abbrev pub beyond : Option ℕ → ℕ → Bool
beyond none t = false
beyond (some overall) t = ltb overall t

abbrev pub past : Option ℕ → State → ℕ → Bool
past overall s t = ltb s.deadline t || beyond overall t

-- Then no event in time: timeout or suppressed at the deadline, or timeout at T where T comes first. What came so late is not read.
abbrev pub late : Option ℕ → State → Engine
late overall s = decided (under overall (silence s))

abbrev pub follow : Option ℕ → ℕ → Turn → Engine
follow overall t (on s) = waiting t s
follow overall t (ends x) = decided (under overall x)

abbrev pub accepts : Bool → Asked → Option ℕ → State → Input → Engine
accepts strict a overall s (event e) = cond (past overall s (time_of e)) (late overall s) (follow overall (time_of e) (turn strict a s e))
accepts strict a overall s (tick t) = cond (past overall s t) (late overall s) (waiting t s)

-- 10 asks, with the number of events read, of an event alone; a tick has no such test.
abbrev pub fitting : (ℕ → Event → Bool) → State → Input → Bool
fitting fits s (event e) = fits (length s.read) e
fitting fits s (tick t) = true

-- "Refusals: 20 for going back, 21 after settling, 10 as before; order 21, 10, 20."
unfoldable pub step : (ℕ → Event → Bool) → Bool → Asked → Option ℕ → Engine → Input → Stepped
step fits strict a overall (decided x) i = stepped (some 21) (decided x)
step fits strict a overall (waiting last s) i =
    judge (λ (n : ℕ). stepped (some n) (waiting last s)) (unless (fitting fits s i) 10 ∷ unless (leb last (time_in i)) 20 ∷ [])
    (stepped none (accepts strict a overall s i))

-- The engine behind these, one after the other.
unfoldable pub run : (ℕ → Event → Bool) → Bool → Asked → Option ℕ → Engine → List Input → Engine
run fits strict a overall e [] = e
run fits strict a overall e (i ∷ is) = run fits strict a overall (step fits strict a overall e i).engine is

-- begin "refuses like the call: 6, 7, 4, 5, 2, 3, 1, 8, 9"; refused, it has settled with that refusal. Else deadline P2, last time 0, nothing read.
unfoldable pub begin : Setting → Call → List ℕ → Engine
begin w c buffer =
    let request = request_of w.quiet c in
    judge (λ (n : ℕ). decided (refusal n)) (arguments c ++ (unless (leb (length request) 4095) 8 ∷ unless (leb (length request) (length buffer)) 9 ∷ []))
    (waiting 0 (start (asked w c)))
