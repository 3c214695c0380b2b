-- Demand 3: a strict call of the fifteen named services that is not refused, with no overall timeout, "answers positive, negative or suppressed exactly
-- when the events begin with a conversation that document 01 allows a rule-abiding controller for that request. Its answer, data and finishing time are
-- those of that one conversation." "Demand 3 with a limit speaks of conversations of at most K notices": `patient` of `Closed`.
use Rattle.std.specs.Prelude.{true, ◌≡◌, ◌≢◌, ◌↔◌}
use Rattle.std.proofs.Math.Option.{none}
use Rattle.rules.specs.Answers.{Outcome, positive, suppressed, negative, timeout, pending_limit, disconnected, transport, fault, refused, Answer}
use Rattle.rules.specs.Calls.{Call, numbered}
use Rattle.rules.specs.Client.{events_in, call}
use Rattle.rules.specs.Conversations.{Conversation}
use Rattle.rules.specs.Settings.{Setting, Lent}

-- One of the fifteen: any call but 0.
abbrev pub Named : Call → Type 0
Named c = numbered c ≢ 0

abbrev pub Refused : Outcome → Type 0
Refused (positive p) = ⊥
Refused suppressed = ⊥
Refused (negative n) = ⊥
Refused timeout = ⊥
Refused pending_limit = ⊥
Refused disconnected = ⊥
Refused (transport n) = ⊥
Refused (fault f) = ⊥
Refused (refused n) = Unit {0}

-- Positive, negative or suppressed.
abbrev pub Answers : Outcome → Type 0
Answers (positive p) = Unit {0}
Answers suppressed = Unit {0}
Answers (negative n) = Unit {0}
Answers timeout = ⊥
Answers pending_limit = ⊥
Answers disconnected = ⊥
Answers (transport n) = ⊥
Answers (fault f) = ⊥
Answers (refused n) = ⊥

abbrev pub Demand3 : Type 0
Demand3 =
    (w : Setting) (c : Call) (l : Lent) → Named c → w.overall ≡ none → ¬ Refused (call true w c l).answer.outcome → (x : Answer)
    → (((call true w c l).answer ≡ x) × Answers x.outcome) ↔ Conversation w c (events_in l) x
