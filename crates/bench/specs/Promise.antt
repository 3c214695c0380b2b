-- The promise, of the two ends together: "for a request that our client builds for these calls, with room for the reply, it at time 0 followed by silence begins with a
-- conversation as document 01 defines it, so the strict client never reports a deviation against it."
use Rattle.std.specs.Prelude.{ℕ, ◌+◌, ◌-◌, ◌%◌, ◌≤◌, Bool, true, cond, ◌≡◌, ◌≢◌, List, [], ◌∷◌, ◌++◌, eqb, length, take}
use Rattle.rules.specs.Answers.{part, nowhere, positive, suppressed, negative, Answer, answer}
use Rattle.rules.specs.Bytes.{value, two, every}
use Rattle.rules.specs.Calls.{Call, request, session, reset, security, tester_present, read_memory, write_memory, read_identifier, write_identifier, fault_count, routine, download, upload, transfer, transfer_exit, fault_list, sent, numbered, request_of}
use Rattle.rules.specs.Client.{call, events_in}
use Rattle.rules.specs.Conversations.{Conversation}
use Rattle.rules.specs.Demand1.{among}
use Rattle.rules.specs.Demand3.{Refused, Answers}
use Rattle.rules.specs.Events.{Form, Event, reply}
use Rattle.rules.specs.Iso as Iso
use Rattle.rules.specs.Layouts.{InRange, service}
use Rattle.rules.specs.Lenient.{Deviates}
use Rattle.rules.specs.Refusals.{arguments}
use Rattle.rules.specs.Settings.{Setting, Lent, suppressing, Within}
use Rattle.rules.specs.Writing.{put_entry, Sayable}
use Rattle.bench.specs.Stores.{Store, store_of, slot_of, record_of, memory_at, counted, SoundStore}
use Rattle.bench.specs.Responder.{Decision, refuses, grants, keeps_silent, decision, reply_to, Response, replied, silent, refused, respond}

-- "It serves calls 1, 2, 4, 5, 7, 8 and 9"
abbrev pub Served : Call → Type 0
Served c = among (1 ∷ 2 ∷ 4 ∷ 5 ∷ 7 ∷ 8 ∷ 9 ∷ []) (numbered c) ≡ true

-- "any arguments that are not refused": no test of theirs fails.
abbrev pub Taken : Call → Type 0
Taken c = every (λ k. k.test) (arguments c) ≡ true

-- What the client sends, and what the responder makes of it.
abbrev pub sends : Setting → Call → List ℕ
sends w c = request_of w.quiet c

abbrev pub decides : Setting → Call → List ℕ → Decision
decides w c l = decision (store_of l) (sends w c)

abbrev pub responds : Setting → Call → List ℕ → List ℕ → Response
responds w c l room = (respond l (sends w c) room).response

-- "with room for the reply": it is not refused.
abbrev pub Roomy : Response → Type 0
Roomy (replied r) = Unit {0}
Roomy silent = Unit {0}
Roomy (refused n) = ⊥

-- "it at time 0 followed by silence"
abbrev pub at_once : Response → List Event
at_once (replied r) = reply 0 (part 0 r) ∷ []
at_once silent = []
at_once (refused n) = []

-- The same as it is lent: one event, which carries the address listened to, and the reply.
abbrev pub event_bytes : Form → ℕ → Response → List ℕ
event_bytes form listens (replied r) = put_entry form (record { time = 0; kind = 0; offset = 0; size = length r; source = listens })
event_bytes form listens silent = []
event_bytes form listens (refused n) = []

abbrev pub bytes_in : Response → List ℕ
bytes_in (replied r) = r
bytes_in silent = []
bytes_in (refused n) = []

abbrev pub lent_by : Response → List ℕ → Form → ℕ → Lent
lent_by x buffer form listens =
    record { buffer = buffer; form = form; events = event_bytes form listens x; replies = bytes_in x; listens = listens }

-- "positive, negative or suppressed": the data, the code, or silence until P2; "a negative .. with suppression waits until P2".
abbrev pub expected : Setting → Call → Decision → Answer
expected w c (refuses code) = answer (negative code) (cond (suppressing w c) w.timing.p2 0) 1 0 (part 0 (reply_to (sends w c) (refuses code)))
expected w c (grants head d) = answer (positive (part (length head) d)) 0 1 0 (part 0 (head ++ d))
expected w c keeps_silent = answer suppressed w.timing.p2 0 0 nowhere

-- "the data that the store holds", for each call that is served.
abbrev pub holds : Store → Call → List ℕ
holds s (request sid sub d) = []
holds s (session sub) = s.session
holds s (reset sub) = cond (eqb (sub % 128) 4) (s.power_down ∷ []) []
holds s (security sub d) = []
holds s tester_present = []
holds s (read_memory a z) = memory_at s (value (sent a)) (value (sent z))
holds s (write_memory a z d) = []
holds s (read_identifier id) = record_of s (slot_of s id)
holds s (write_identifier id d) = []
holds s (fault_count mask) = s.mask ∷ s.format ∷ two (counted s mask)
holds s (routine sub id d) = []
holds s (download c e a z) = []
holds s (upload c e a z) = []
holds s (transfer counter d) = []
holds s (transfer_exit d) = []
holds s (fault_list mask) = []

-- A call of these, with a request buffer for it.
pub record Asks (w : Setting) (c : Call) (buffer : List ℕ) : Type 0 where
  pub served : Served c
  pub in-range : InRange c
  pub taken : Taken c
  pub short : length (sends w c) ≤ 4095
  pub fits : length (sends w c) ≤ length buffer

-- Not cut off by T, where there is one: a reply at 0 never is, but under suppression P2 may be later.
abbrev pub InTime : Setting → Answer → Type 0
InTime w x = Within w.overall x.time

pub record Promise : Type 0 where
  -- The events begin with a conversation, and its answer is the expected one.
  pub converses : (w : Setting) (c : Call) (l room : List ℕ) → Served c → Taken c → SoundStore l → Roomy (responds w c l room)
      → Conversation w c (at_once (responds w c l room)) (expected w c (decides w c l))
  -- The two ends together: the client's call over the reply that the responder gives to what this call sends. It is not refused, and answers as expected: never a deviation.
  pub meets : (w : Setting) (c : Call) (l room buffer : List ℕ) (form : Form) (listens : ℕ) → Asks w c buffer → SoundStore l → Roomy (responds w c l room)
      → Sayable form 0 listens → InTime w (expected w c (decides w c l)) →
      let lent = lent_by (responds w c l room) buffer form listens in
      let r = call true w c lent in
      (take r.sent r.buffer ≡ sends w c) × (events_in lent ≡ at_once (responds w c l room)) × (r.answer ≡ expected w c (decides w c l)) × Answers r.answer.outcome
  -- So does every strict call that is not refused, over any list that says the same events.
  pub answers : (w : Setting) (c : Call) (l room : List ℕ) → Served c → SoundStore l → Roomy (responds w c l room) → InTime w (expected w c (decides w c l))
      → (lent : Lent) → ¬ Refused (call true w c lent).answer.outcome → events_in lent ≡ at_once (responds w c l room)
      → ((call true w c lent).answer ≡ expected w c (decides w c l)) × Answers (call true w c lent).answer.outcome
  -- And "never reports a deviation" under every T: at worst T ends the call before P2 is over.
  pub undeviating : (w : Setting) (c : Call) (l room : List ℕ) → Served c → SoundStore l → Roomy (responds w c l room)
      → (lent : Lent) → ¬ Refused (call true w c lent).answer.outcome → events_in lent ≡ at_once (responds w c l room)
      → ¬ Deviates (call true w c lent).answer.outcome
  -- A buffer of 4,095 bytes has room for every reply.
  pub suffices : (l q room : List ℕ) → 4095 ≤ length room → Roomy (respond l q room).response
  -- What comes back is what the store holds.
  pub gives : (w : Setting) (c : Call) (l head d : List ℕ) → Served c → Taken c → SoundStore l → decides w c l ≡ grants head d → d ≡ holds (store_of l) c
  -- Every reply is the standard's.
  pub positives : (w : Setting) (c : Call) (l head d : List ℕ) → Served c → InRange c → Taken c → SoundStore l → decides w c l ≡ grants head d
      → Iso.Response (service w c) (head ++ d) d
  pub negatives : (w : Setting) (c : Call) (l : List ℕ) (code : ℕ) → Served c → decides w c l ≡ refuses code
      → Iso.NegativeResponse (sends w c) code (reply_to (sends w c) (refuses code)) × (code ≢ Iso.response_pending)
