-- A whole call's result as numbers, which C and Rust can read.
use Rattle.std.specs.Prelude.{ℕ, ◌-◌, ◌^◌, List, [], ◌∷◌, ◌++◌, ◌≡◌, length}
use Rattle.std.proofs.Math.Option.{Option, none, some}
use Rattle.rules.specs.Answers.{Answer, Outcome, positive, suppressed, negative, timeout, pending_limit, disconnected, transport, fault, refused, deviation, deviation8, bad_length, overflow}
use Rattle.rules.specs.Client.{Result}
use Rattle.exchange.specs.Places.{Inside, InsideOutcome}
use Rattle.calls.specs.Meaning.{result_of}
use Rattle.calls.specs.declared.Answered.{Answered}
use Rattle.numbers.specs.declared.Values.{Values}

-- No upper bound: the largest number, which no reply reaches.
abbrev pub upper : Option ℕ → ℕ
upper none = 2 ^ 64 - 1
upper (some n) = n

abbrev pub plain : ℕ → ℕ → Values
plain n detail = record { outcome = n; detail = detail; least = 0; most = 0; at = 0; len = 0 }

-- "Where an answer is an enum, a definition gives this paper's number and values for each case": the outcomes in the order of document 01's words and behind them document 02's, then the code, the
-- error's, the deviation's or the refusal's number, deviation 8's bounds, and the place of the data.
abbrev pub values_of : Outcome → Values
values_of (positive p) = record { outcome = 0; detail = 0; least = 0; most = 0; at = p.at; len = length p.bytes }
values_of suppressed = plain 1 0
values_of (negative code) = plain 2 code
values_of timeout = plain 3 0
values_of disconnected = plain 4 0
values_of (transport n) = plain 5 n
values_of (fault (deviation n)) = plain 6 n
values_of (fault (deviation8 least most)) = record { outcome = 6; detail = 8; least = least; most = upper most; at = 0; len = 0 }
values_of (fault bad_length) = plain 7 0
values_of (fault overflow) = plain 8 0
values_of (refused n) = plain 9 n
values_of pending_limit = plain 10 0

-- The numbers of an answer: its outcome's, finishing time, events read, notices, where the data stands, where the reply stands.
abbrev pub answer_numbers : Answer → List ℕ
answer_numbers x =
    let v = values_of x.outcome in
    v.outcome ∷
    v.detail ∷
    v.least ∷
    v.most ∷
    x.time ∷
    x.events ∷
    x.notices ∷
    v.at ∷
    v.len ∷
    x.reply.at ∷
    length x.reply.bytes ∷ []

-- The fifteen numbers of a call: its answer's, the number of calls 11 and 12, the session's timing afterwards, how many bytes were sent.
unfoldable pub numbers_of : Result → List ℕ
numbers_of r = answer_numbers r.answer ++ (r.number ∷ r.timing.p2 ∷ r.timing.star ∷ r.sent ∷ [])

-- The numbers of an answer whose places lie in the lent reply bytes, whatever stands in the request buffer.
abbrev pub Tells : Answered → List ℕ → Type 0
Tells x r =
    (replies buffer : List ℕ) → InsideOutcome replies x.answer.outcome → Inside replies x.answer.reply
    → r ≡ numbers_of (result_of replies x buffer)
