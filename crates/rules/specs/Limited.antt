-- Request Nine, the limit of notices: what it bounds, and that it changes nothing where it is not reached.
use Rattle.std.specs.Prelude.{ℕ, ◌+◌, ◌-◌, ◌*◌, ◌≤◌, Bool, true, false, ◌≡◌, ◌≢◌, List, [], ◌∷◌, map, leb, length, take}
use Rattle.std.proofs.Math.Option.{Option, none, some}
use Rattle.rules.specs.Answers.{Part, nowhere, deviation, timeout, pending_limit, disconnected, transport, fault, Answer}
use Rattle.rules.specs.Calls.{Call, reset, read_identifier}
use Rattle.rules.specs.Client.{events_in, call}
use Rattle.rules.specs.Counts.{Reads}
use Rattle.rules.specs.Events.{Event, reply, idle, ended, failed, time_of}
use Rattle.rules.specs.Examples.{Said, says, Gives, gives, Example, row, usual}
use Rattle.rules.specs.Exchange.{Asked, Step, pending, settles, look, Settled, settled, State, state, start, finish, Turn, on, ends, silence, under, exchange}
use Rattle.rules.specs.Pins.{Hold}
use Rattle.rules.specs.Settings.{Setting, Lent}

-- The same setting with this limit, and the same request.
abbrev pub in_limit : Option ℕ → Setting → Setting
in_limit limit w = record { timing = w.timing; overall = w.overall; limit = limit; server_timing = w.server_timing; quiet = w.quiet }

abbrev pub limited : Option ℕ → Asked → Asked
limited limit a = record { sid = a.sid; sub = a.sub; timing = a.timing; limit = limit }

-- The same request behind n notices: so many of its limit are left.
abbrev pub less : ℕ → Option ℕ → Option ℕ
less n none = none
less n (some k) = some (k - n)

abbrev pub spent : ℕ → Asked → Asked
spent n a = limited (less n a.limit) a

-- The replies among these events.
abbrev pub replies_in : List Event → List Event
replies_in [] = []
replies_in (reply t p ∷ es) = reply t p ∷ replies_in es
replies_in (idle t ∷ es) = replies_in es
replies_in (ended t ∷ es) = replies_in es
replies_in (failed t n ∷ es) = replies_in es

-- The exchange as it was before there was a limit, word for word.
abbrev pub hears_before : Asked → State → ℕ → Part → Step → Turn
hears_before a s t p pending = on (state false (t + a.timing.star) (t ∷ s.read) (t ∷ s.notices))
hears_before a s t p (settles o) = ends (settled o (finish a o t) (t ∷ s.read) s.notices p)

abbrev pub turn_before : Bool → Asked → State → Event → Turn
turn_before strict a s (reply t p) = hears_before a s t p (look strict a s.hush p)
turn_before strict a s (idle t) = on (state s.hush s.deadline (t ∷ s.read) s.notices)
turn_before strict a s (ended t) = ends (settled disconnected t (t ∷ s.read) s.notices nowhere)
turn_before strict a s (failed t n) = ends (settled (transport n) t (t ∷ s.read) s.notices nowhere)

unfoldable pub settle_before : Bool → Asked → List Event → State → Settled
settle_before strict a [] s = silence s
settle_before strict a (e ∷ es) s =
    elim (leb (time_of e) s.deadline) [
      | true ↦ elim (turn_before strict a s e) [ on s' ↦ settle_before strict a es s' | ends x ↦ x ]
      | false ↦ silence s
    ]

unfoldable pub exchange_before : Bool → Asked → Option ℕ → List Event → Answer
exchange_before strict a overall es = under overall (settle_before strict a es (start a))

pub record Limited : Type 0 where
  -- "with a limit every call finishes by P2 + K × P2*"
  pub finishes : (strict : Bool) (w : Setting) (c : Call) (l : Lent) (k : ℕ) → w.limit ≡ some k
      → (call strict w c l).answer.time ≤ w.timing.p2 + k * w.timing.star
  -- "and reads at most K + 1 replies", those past T too; so it counts at most K + 1 notices.
  pub replies : (strict : Bool) (a : Asked) (k : ℕ) → a.limit ≡ some k → (es read rest : List Event) (time : ℕ) → Reads strict a es time read rest
      → length (replies_in read) ≤ k + 1
  pub notices : (strict : Bool) (a : Asked) (k : ℕ) → a.limit ≡ some k → (es : List Event) → (exchange strict a none es).notices ≤ k + 1
  -- So of a call: among the events that its answer counts, under T too, there are at most K + 1 replies from the address it listens to.
  pub reads-few : (strict : Bool) (w : Setting) (c : Call) (l : Lent) (k : ℕ) → w.limit ≡ some k
      → length (replies_in (take (call strict w c l).answer.events (events_in l))) ≤ k + 1
  -- With none the exchange is what it was.
  pub unlimited : (strict : Bool) (a : Asked) (overall : Option ℕ) (es : List Event) → a.limit ≡ none
      → exchange strict a overall es ≡ exchange_before strict a overall es
  -- A limit that is not reached changes nothing: with none there are at most K notices, or with K the outcome is another.
  pub unreached : (strict : Bool) (a : Asked) (overall : Option ℕ) (es : List Event) (k : ℕ) → (exchange strict (limited none a) none es).notices ≤ k
      → exchange strict (limited (some k) a) overall es ≡ exchange strict (limited none a) overall es
  pub another : (strict : Bool) (a : Asked) (overall : Option ℕ) (es : List Event) (k : ℕ) → (exchange strict (limited (some k) a) none es).outcome ≢ pending_limit
      → exchange strict (limited (some k) a) overall es ≡ exchange strict (limited none a) overall es

-- The readings, as rows: K and T, then as the examples.
abbrev pub waiting : Bool → ℕ → Option ℕ → Call → List Said → Gives → Example
waiting strict k overall c ss g =
    row strict (record { timing = usual.timing; overall = overall; limit = some k; server_timing = true; quiet = false }) c ss g

abbrev pub wait : List ℕ
wait = 0x7f ∷ 0x22 ∷ 0x78 ∷ []

unfoldable pub limits : List Example
limits =
    let read = read_identifier 0xf190 in
    -- The first notice ends a call with K 0, and is counted; the second one with K 1.
    waiting true 0 none read (says 10 wait ∷ []) (gives pending_limit 10 1 1 0) ∷
    waiting true 1 none read (says 10 wait ∷ says 20 wait ∷ []) (gives pending_limit 20 2 2 0) ∷
    -- What is a notice: strict by its SID, lenient by its third byte.
    waiting true 0 none read (says 10 (0x7f ∷ 0x31 ∷ 0x78 ∷ []) ∷ []) (gives (fault (deviation 2)) 10 1 0 0) ∷
    waiting false 0 none read (says 10 (0x7f ∷ 0x31 ∷ 0x78 ∷ []) ∷ []) (gives pending_limit 10 1 1 0) ∷
    -- Past the deadline it is not read; the bound is met.
    waiting true 1 none read (says 10 wait ∷ says 5011 wait ∷ []) (gives timeout 5010 1 1 0) ∷
    waiting true 1 none read (says 50 wait ∷ []) (gives timeout 5050 1 1 0) ∷
    -- No waiting until P2 under suppression.
    waiting true 0 none (reset 0x81) (says 10 (0x7f ∷ 0x11 ∷ 0x78 ∷ []) ∷ []) (gives pending_limit 10 1 1 0) ∷
    -- T cuts it.
    waiting true 0 (some 9) read (says 10 wait ∷ []) (gives timeout 9 0 0 0) ∷
    waiting true 0 (some 10) read (says 10 wait ∷ []) (gives pending_limit 10 1 1 0) ∷ []

abbrev pub LimitRows : Type 0
LimitRows = Hold limits
