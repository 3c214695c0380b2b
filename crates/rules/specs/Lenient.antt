-- Request Twelve: "lenient only adds answers": "if strict gives positive, negative or suppressed, lenient gives the same answer, data, counts, finishing time and session timing. Where the two differ, strict reported a deviation."
use Rattle.std.specs.Prelude.{true, false, ◌≡◌, ◌≢◌, ◌⊎◌}
use Rattle.rules.specs.Answers.{Fault, deviation, deviation8, bad_length, overflow, Outcome, positive, suppressed, negative, timeout, pending_limit, disconnected, transport, fault, refused}
use Rattle.rules.specs.Calls.{Call}
use Rattle.rules.specs.Client.{call}
use Rattle.rules.specs.Demand3.{Answers}
use Rattle.rules.specs.Settings.{Setting, Lent}

-- "Deviations are numbered 1 to 15"
abbrev pub Deviation : Fault → Type 0
Deviation (deviation n) = Unit {0}
Deviation (deviation8 least most) = Unit {0}
Deviation bad_length = ⊥
Deviation overflow = ⊥

abbrev pub Deviates : Outcome → Type 0
Deviates (positive p) = ⊥
Deviates suppressed = ⊥
Deviates (negative n) = ⊥
Deviates timeout = ⊥
Deviates pending_limit = ⊥
Deviates disconnected = ⊥
Deviates (transport n) = ⊥
Deviates (fault f) = Deviation f
Deviates (refused n) = ⊥

-- For any setting, call and lent things, under T or none. The results are whole: the answer with its data, place, counts, time and reply; the number; the session's timing; the request buffer.
pub record OnlyAdds (w : Setting) (c : Call) (l : Lent) : Type 0 where
  pub answers-alike : Answers (call true w c l).answer.outcome → call false w c l ≡ call true w c l
  pub differs-by-deviation : Deviates (call true w c l).answer.outcome ⊎ (call false w c l ≡ call true w c l)
  pub strict-no-length : (call true w c l).answer.outcome ≢ fault bad_length
  pub lenient-no-deviation : ¬ Deviates (call false w c l).answer.outcome

abbrev pub Lenient : Type 0
Lenient = (w : Setting) (c : Call) (l : Lent) → OnlyAdds w c l
