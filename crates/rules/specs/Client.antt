-- A whole call: what it answers, and everything that it leaves.
use Rattle.std.specs.Prelude.{ℕ, Bool, List, ◌++◌, map, length, drop}
use Rattle.rules.specs.After.{after, number_of, timing_of}
use Rattle.rules.specs.Answers.{Answer, refusal}
use Rattle.rules.specs.Calls.{Call, sid_of, sub_of, with_bit7, request_of}
use Rattle.rules.specs.InOrder.{judge}
use Rattle.rules.specs.Events.{Entry, Event, entries, event_of}
use Rattle.rules.specs.Exchange.{Asked, exchange}
use Rattle.rules.specs.Settings.{Timing, Setting, Lent}
use Rattle.rules.specs.Refusals.{refusals}

-- The answer, the number of calls 11 and 12, how many bytes were sent, and what stands afterwards in the session and in the request buffer.
pub record Result : Type 0 where
  pub answer : Answer
  pub number : ℕ
  pub sent : ℕ
  pub timing : Timing
  pub buffer : List ℕ

abbrev pub asked : Setting → Call → Asked
asked w c = record {
  sid = sid_of c;
  sub = with_bit7 w.quiet (sub_of c);
  timing = w.timing;
  limit = w.limit;
}

abbrev pub entries_in : Lent → List Entry
entries_in l = entries l.form l.events

-- What entries of what is lent say to the call.
abbrev pub heard : Lent → List Entry → List Event
heard l es = map (event_of l.listens l.replies) es

abbrev pub events_in : Lent → List Event
events_in l = heard l (entries_in l)

-- "A refused call [..] sends nothing"; "Refused: the number, time and counts 0, all buffers and timing untouched."
abbrev pub refuse : Setting → Lent → ℕ → Result
refuse w l n = record { answer = refusal n; number = 0; sent = 0; timing = w.timing; buffer = l.buffer }

-- "Not refused: the request stands at the buffer's front, the rest of it keeps its bytes."
abbrev pub answered : Setting → Call → Lent → List ℕ → Answer → Result
answered w c l request x = record {
  answer = x;
  number = number_of c x.outcome;
  sent = length request;
  timing = timing_of w.server_timing c x.outcome w.timing;
  buffer = request ++ drop (length request) l.buffer;
}

unfoldable pub call : Bool → Setting → Call → Lent → Result
call strict w c l =
    let request = request_of w.quiet c in
    judge (refuse w l) (refusals c request l.buffer l.form l.events l.replies)
    (answered w c l request (after strict c (exchange strict (asked w c) w.overall (events_in l))))
