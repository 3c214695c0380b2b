-- A request worked out: its refusal or its pieces; and what a writer of the pieces leaves in the request buffer.
use Rattle.std.specs.Prelude.{Ok, Err, Result}
use Rattle.std.specs.Prelude.{ℕ, Bool, cond, List, [], ◌∷◌, ◌++◌, ◌≡◌, leb, eqb, length, take, drop}
use Rattle.rules.specs.Calls as rules
use Rattle.rules.specs.Calls.{given, request_of}
use Rattle.rules.specs.InOrder.{Check, unless, judge}
use Rattle.rules.specs.Refusals.{arguments}
use Rattle.requests.specs.declared.Call.{Call}
use Rattle.requests.specs.declared.Prepared.{Prepared}
use Rattle.requests.specs.Meaning.{call_of, data_bytes}
use Rattle.requests.specs.Parameters.{numbers_by, data_by, bit7, opening_of, padded}
use Rattle.requests.specs.Rows.{row_of, takes_memory}

-- The number of the first refusal, 0 where there is none.
abbrev pub first : List (Check ℕ) → ℕ
first cs = judge (λ n. n) cs 0

-- 8: "request longer than 4,095 bytes"; 9: "request buffer shorter than the request"
abbrev pub sizes : ℕ → ℕ → List (Check ℕ)
sizes n room = unless (leb n 4095) 8 ∷ unless (leb n room) 9 ∷ []

-- "Order: [..] 4; 5; 2; 3; 1; 8; 9": what a call can be refused with before its events are looked at, where its request buffer has `room` bytes.
abbrev pub before10 : Bool → rules.Call → ℕ → List (Check ℕ)
before10 quiet c room = arguments c ++ sizes (length (request_of quiet c)) room

unfoldable pub refusal_of : Bool → rules.Call → ℕ → ℕ
refusal_of quiet c room = first (before10 quiet c room)

-- The pieces of a call that nothing refuses.
abbrev pub ready_of : Call → Bool → List ℕ → List ℕ → List ℕ → Prepared
ready_of k quiet a s d =
    let r = row_of k in
    let sent = bit7 quiet r.sub in
    let opening = opening_of r.sid sent (numbers_by r.takes (rules.format (given a) (given s))) in
    record {
      sid = r.sid;
      sub = sent;
      head_length = length opening;
      head = padded opening;
      memory = takes_memory r.takes;
      «data» = data_by r.takes;
      length = length (request_of quiet (call_of k a s d));
    }

unfoldable pub prepared_of : Call → Bool → List ℕ → List ℕ → List ℕ → ℕ → Result Prepared ℕ
prepared_of k quiet a s d room = judge Err (before10 quiet (call_of k a s d) room) (Ok (ready_of k quiet a s d))

-- The bytes that a prepared request says, with these slices beside it.
abbrev pub pieces_of : Prepared → List ℕ → List ℕ → List ℕ → List ℕ
pieces_of p a s d = take p.head_length p.head ++ cond p.memory a [] ++ cond p.memory s [] ++ data_bytes p.«data» d

-- Bytes at a buffer's front, "the rest of it keeps its bytes".
abbrev pub over : List ℕ → List ℕ → List ℕ
over bytes buffer = bytes ++ drop (length bytes) buffer

-- The answer of a writer, and its buffer before and after: nothing is written that is longer than a request or than the buffer.
pub record Written (bytes before : List ℕ) (done : Bool) (after : List ℕ) : Type 0 where
  pub told : done ≡ eqb (first (sizes (length bytes) (length before))) 0
  pub buffer : after ≡ cond done (over bytes before) before
