-- Several controllers on one channel (request Seven): "Replies from other addresses are read and passed over: they alter neither deadline, outcome, finishing time nor notices; they do raise the count of events read."
use Rattle.std.specs.Prelude.{ℕ, zero, suc, ◌+◌, ◌*◌, ◌/◌, Bool, true, false, cond, not, ◌≡◌, ◌↔◌, List, [], ◌∷◌, ◌++◌, map, length, take, drop}
use Rattle.std.proofs.Math.Option.{Option, none}
use Rattle.rules.specs.Answers.{part, Outcome, positive, suppressed, negative, timeout, pending_limit, disconnected, transport, fault, refused, Answer, answer}
use Rattle.rules.specs.Calls.{Call}
use Rattle.rules.specs.Client.{Result, entries_in, heard, events_in, call}
use Rattle.rules.specs.Conversations.{Conversation, Every}
use Rattle.rules.specs.Demand3.{Named, Refused, Answers}
use Rattle.rules.specs.Events.{Form, plain, event_size, Entry, entry_at, entries, Event, reply, idle, ended, failed, foreign, said, event_of, rising}
use Rattle.rules.specs.Exchange.{Asked, exchange}
use Rattle.rules.specs.Lines.{line}
use Rattle.rules.specs.Settings.{Setting, Lent}

-- The entries left once foreign replies are dropped, and how many are dropped.
abbrev pub ours : ℕ → List Entry → List Entry
ours listens [] = []
ours listens (e ∷ es) = cond (foreign listens e) (ours listens es) (e ∷ ours listens es)

abbrev pub foreigns : ℕ → List Entry → ℕ
foreigns listens [] = 0
foreigns listens (e ∷ es) = cond (foreign listens e) 1 0 + foreigns listens es

-- What is left of the events lent.
abbrev pub left_in : Lent → List Event
left_in l = heard l (ours l.listens (entries_in l))

-- The answer with n more events read.
abbrev pub raised : ℕ → Answer → Answer
raised n x = answer x.outcome x.time (x.events + n) x.notices x.reply

-- The foreign replies among the events that an answer counts: the events read stand first.
abbrev pub passed_over : ℕ → List Entry → Answer → ℕ
passed_over listens es x = foreigns listens (take x.events es)

-- The same result with another answer.
abbrev pub with_answer : Result → Answer → Result
with_answer r x = record { answer = x; number = r.number; sent = r.sent; timing = r.timing; buffer = r.buffer }

-- An event, an outcome and an answer but for places in the reply bytes; an answer but for the count of events read.
abbrev pub bare : Event → Event
bare (reply t p) = reply t (part 0 p.bytes)
bare (idle t) = idle t
bare (ended t) = ended t
bare (failed t n) = failed t n

abbrev pub bare_outcome : Outcome → Outcome
bare_outcome (positive p) = positive (part 0 p.bytes)
bare_outcome suppressed = suppressed
bare_outcome (negative c) = negative c
bare_outcome timeout = timeout
bare_outcome pending_limit = pending_limit
bare_outcome disconnected = disconnected
bare_outcome (transport n) = transport n
bare_outcome (fault f) = fault f
bare_outcome (refused n) = refused n

abbrev pub bare_answer : Answer → Answer
bare_answer x = answer (bare_outcome x.outcome) x.time x.events x.notices (part 0 x.reply.bytes)

abbrev pub uncounted : Answer → Answer
uncounted x = answer x.outcome x.time 0 x.notices x.reply

-- An entry that is no foreign reply.
abbrev pub Ours : ℕ → Entry → Type 0
Ours listens e = foreign listens e ≡ false

-- The bytes of those of n entries, from the one numbered i on, that are kept, in the form `to`.
unfoldable pub laid : Form → Form → (Entry → Bool) → List ℕ → ℕ → ℕ → List ℕ
laid form to keep bs zero i = []
laid form to keep bs (suc n) i = cond (keep (entry_at form bs i)) (take (event_size to) (drop (i * event_size form) bs)) [] ++ laid form to keep bs n (suc i)

-- The events lent, without their foreign replies: the reply bytes stay.
abbrev pub dropped : Lent → Lent
dropped l = record {
  buffer = l.buffer;
  form = l.form;
  events = laid l.form l.form (λ e. not (foreign l.listens e)) l.events (length l.events / event_size l.form) 0;
  replies = l.replies;
  listens = l.listens;
}

-- The events lent, without their addresses.
abbrev pub unaddressed : Lent → Lent
unaddressed l = record {
  buffer = l.buffer;
  form = plain;
  events = laid l.form plain (λ e. true) l.events (length l.events / event_size l.form) 0;
  replies = l.replies;
  listens = 0;
}

abbrev pub sourceless : Entry → Entry
sourceless e = record { time = e.time; kind = e.kind; offset = e.offset; size = e.size; source = 0 }

pub record Foreign : Type 0 where
  -- Any list whose times never fall is answered as what is left of it, but for the foreign replies among the events counted.
  pub exchanges : (strict : Bool) (a : Asked) (overall : Option ℕ) (listens : ℕ) (replies : List ℕ) (es : List Entry) → rising 0 es ≡ true →
      let x = exchange strict a overall (map (event_of listens replies) es) in
      x ≡ raised (passed_over listens es x) (exchange strict a overall (map (event_of listens replies) (ours listens es)))
  -- So is a call: the whole result, the places in the reply bytes too. What is left is lent as `dropped` says.
  pub left-entries : (l : Lent) → entries_in (dropped l) ≡ ours l.listens (entries_in l)
  pub drops : (strict : Bool) (w : Setting) (c : Call) (l : Lent) → ¬ Refused (call strict w c l).answer.outcome →
      let r = call strict w c l in
      let r' = call strict w c (dropped l) in
      r ≡ with_answer r' (raised (passed_over l.listens (entries_in l) r.answer) r'.answer)
  -- "Two valid lists that differ only in foreign replies, inserted, removed or rewritten, give the same answer but for that count"; the same places where what is left has them.
  pub two-lists : (strict : Bool) (w : Setting) (c : Call) (l l' : Lent) → l.buffer ≡ l'.buffer
      → ¬ Refused (call strict w c l).answer.outcome → ¬ Refused (call strict w c l').answer.outcome →
      let r = call strict w c l in
      let r' = call strict w c l' in
      (left_in l ≡ left_in l' → with_answer r (uncounted r.answer) ≡ with_answer r' (uncounted r'.answer)) ×
      (map bare (left_in l) ≡ map bare (left_in l') → with_answer r (uncounted (bare_answer r.answer)) ≡ with_answer r' (uncounted (bare_answer r'.answer)))
  -- What is left out of these answers: the count alone, and places, which no line has.
  pub but-the-count : (x : Answer) → raised x.events (uncounted x) ≡ x
  pub but-places : (x : Answer) → line (bare_answer x) ≡ line x
  -- Demand 3 "for the events left once foreign replies are dropped": the answer's count less the foreign replies among the events counted is the conversation's.
  pub demand3 : (w : Setting) (c : Call) (l : Lent) → Named c → w.overall ≡ none → ¬ Refused (call true w c l).answer.outcome → (x : Answer) →
      let r = (call true w c l).answer in
      ((r ≡ raised (passed_over l.listens (entries_in l) r) x) × Answers x.outcome) ↔ Conversation w c (left_in l) x
  -- Where all replies come from the address listened to, a call is answered as if there were no addresses.
  pub plain-entries : (l : Lent) → entries_in (unaddressed l) ≡ map sourceless (entries_in l)
  pub alone : (strict : Bool) (w : Setting) (c : Call) (l : Lent) → Every (Ours l.listens) (entries_in l) → ¬ Refused (call strict w c l).answer.outcome
      → (events_in l ≡ map (said l.replies) (entries_in l)) × (call strict w c l ≡ call strict w c (unaddressed l))
  -- So they all do where events are lent without addresses, to a call that listens to 0.
  pub plainly : (events : List ℕ) → Every (Ours 0) (entries plain events)
