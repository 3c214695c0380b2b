-- Document 01, "The exchange reads until one event settles it", strict and lenient, and the overall timeout T.
use Rattle.std.specs.Prelude.{ℕ, ◌+◌, ◌%◌, max, Bool, true, false, cond, not, ◌&&◌, List, [], ◌∷◌, ◌++◌, leb, ltb, eqb, length, get_or}
use Rattle.std.proofs.Math.Option.{Option, none, some}
use Rattle.rules.specs.Answers.{Part, nowhere, behind, Fault, deviation, length_error, Outcome, positive, suppressed, negative, timeout, pending_limit, disconnected, transport, fault, refused, Answer, answer}
use Rattle.rules.specs.Calls.{suppresses, positive_sid, head}
use Rattle.rules.specs.InOrder.{Check, unless, judge, in_strict}
use Rattle.rules.specs.Settings.{Timing}
use Rattle.rules.specs.Events.{Event, reply, idle, ended, failed, time_of, up_to}

-- What the exchange knows of the request that was sent, the session's timing, and the limit of notices.
pub record Asked : Type 0 where
  pub sid : ℕ
  pub sub : Option ℕ
  pub timing : Timing
  pub limit : Option ℕ

-- What a reply does: it asks for patience, or settles the exchange.
pub data Step : Type 0 where
  pending : Step
  settles : Outcome → Step

abbrev pub wrong : Fault → Step
wrong f = settles (fault f)

-- "First byte 7F. Length under 3, or in strict not 3: length error (3, 3). Strict, second byte not the request's SID: deviation 2."
abbrev pub negative_checks : Bool → Asked → List ℕ → List (Check Fault)
negative_checks strict a r =
    unless (leb 3 (length r) && in_strict strict (eqb (length r) 3)) (length_error strict 3 (some 3)) ∷
    unless (in_strict strict (eqb (get_or r 1 0) a.sid)) (deviation 2) ∷ []

-- "Code 78: deadline becomes this event's time + P2*, read on. Any other code: negative."
abbrev pub coded : ℕ → Step
coded c = cond (eqb c 0x78) pending (settles (negative c))

-- "With a sub-function: length 1 gives length error (2, none); strict, second byte not sub-function AND 7F: deviation 3."
abbrev pub echoing : Bool → Option ℕ → List ℕ → List (Check Fault)
echoing strict none r = []
echoing strict (some s) r =
    unless (leb 2 (length r)) (length_error strict 2 none) ∷ unless (in_strict strict (eqb (get_or r 1 0) (s % 128))) (deviation 3) ∷ []

-- "strict, first byte not SID OR 40: deviation 1." .. "Strict, suppressed, no pending: deviation 4." `hush`: suppressed, and no pending was read.
abbrev pub positive_checks : Bool → Asked → Bool → List ℕ → List (Check Fault)
positive_checks strict a hush r =
    unless (in_strict strict (eqb (get_or r 0 0) (positive_sid a.sid))) (deviation 1) ∷
    echoing strict a.sub r ++ (unless (in_strict strict (not hush)) (deviation 4) ∷ [])

-- By the first byte: 7F, or otherwise.
abbrev pub by_first : Bool → Asked → Bool → Part → List ℕ → Step
by_first strict a hush p r =
    cond (eqb (get_or r 0 0) 0x7f) (judge wrong (negative_checks strict a r) (coded (get_or r 2 0)))
    (judge wrong (positive_checks strict a hush r) (settles (positive (behind (head a.sub) p))))

-- One reply, judged. "Empty reply: length error (1, none)."
unfoldable pub look : Bool → Asked → Bool → Part → Step
look strict a hush p =
    judge wrong (unless (ltb 0 (length p.bytes)) (length_error strict 1 none) ∷ []) (by_first strict a hush p p.bytes)

-- An exchange that is settled: the times of all events read and of the notices among them stand where document 01 counts them.
pub record Settled : Type 0 where
  pub outcome : Outcome
  pub time : ℕ
  pub read : List ℕ
  pub notices : List ℕ
  pub reply : Part

abbrev pub settled : Outcome → ℕ → List ℕ → List ℕ → Part → Settled
settled o t read notices p = record { outcome = o; time = t; read = read; notices = notices; reply = p }

-- An exchange that reads on. `hush`: suppressed, and no notice read; then the times of the events read, and of the notices among them.
pub record State : Type 0 where
  pub hush : Bool
  pub deadline : ℕ
  pub read : List ℕ
  pub notices : List ℕ

abbrev pub state : Bool → ℕ → List ℕ → List ℕ → State
state hush deadline read notices = record { hush = hush; deadline = deadline; read = read; notices = notices }

-- "The deadline starts at P2."
abbrev pub start : Asked → State
start a = state (suppresses a.sub) a.timing.p2 [] []

-- "a negative or positive with suppression waits until P2 if later"
abbrev pub waits : Outcome → Bool
waits (positive p) = true
waits (negative c) = true
waits suppressed = false
waits timeout = false
waits pending_limit = false
waits disconnected = false
waits (transport n) = false
waits (fault f) = false
waits (refused n) = false

abbrev pub finish : Asked → Outcome → ℕ → ℕ
finish a o t = cond (waits o && suppresses a.sub) (max t a.timing.p2) t

-- What one event in time does: the exchange reads on, or ends.
pub data Turn : Type 0 where
  on : State → Turn
  ends : Settled → Turn

-- "a limit of K notices, 0..255, or none": whether one more is allowed behind n.
abbrev pub allows : Option ℕ → ℕ → Bool
allows none n = true
allows (some k) n = ltb n k

-- "deadline becomes this event's time + P2*, read on". "The notice after the K-th ends the call with the new outcome `pendinglimit` at its arrival time".
abbrev pub notes : Asked → State → ℕ → Part → Bool → Turn
notes a s t p true = on (state false (t + a.timing.star) (t ∷ s.read) (t ∷ s.notices))
notes a s t p false = ends (settled pending_limit t (t ∷ s.read) (t ∷ s.notices) p)

-- A notice, or the reply settles.
abbrev pub hears : Asked → State → ℕ → Part → Step → Turn
hears a s t p pending = notes a s t p (allows a.limit (length s.notices))
hears a s t p (settles o) = ends (settled o (finish a o t) (t ∷ s.read) s.notices p)

-- "Idle changes nothing. End gives disconnected, error gives transport."
abbrev pub turn : Bool → Asked → State → Event → Turn
turn strict a s (reply t p) = hears a s t p (look strict a s.hush p)
turn strict a s (idle t) = on (state s.hush s.deadline (t ∷ s.read) s.notices)
turn strict a s (ended t) = ends (settled disconnected t (t ∷ s.read) s.notices nowhere)
turn strict a s (failed t n) = ends (settled (transport n) t (t ∷ s.read) s.notices nowhere)

-- "No event in time: suppressed if bit 7 of the sub-function is set and no pending was read, else timeout. It finishes at the deadline."
abbrev pub silence : State → Settled
silence s = settled (cond s.hush suppressed timeout) s.deadline s.read s.notices nowhere

-- The events from this state on. "An event exactly at a deadline is in time."
unfoldable pub settle : Bool → Asked → List Event → State → Settled
settle strict a [] s = silence s
settle strict a (e ∷ es) s =
    elim (leb (time_of e) s.deadline) [
      | true ↦ elim (turn strict a s e) [ on s' ↦ settle strict a es s' | ends x ↦ x ]
      | false ↦ silence s
    ]

abbrev pub counted : Settled → Answer
counted s = answer s.outcome s.time (length s.read) (length s.notices) s.reply

-- "If that time exceeds T, the outcome is timeout at T." "Under a timeout at T these count only events at times up to T."
abbrev pub under : Option ℕ → Settled → Answer
under none s = counted s
under (some overall) s =
    cond (leb s.time overall) (counted s) (answer timeout overall (up_to overall s.read) (up_to overall s.notices) nowhere)

unfoldable pub exchange : Bool → Asked → Option ℕ → List Event → Answer
exchange strict a overall es = under overall (settle strict a es (start a))
