-- The text of a story, in words that the course has introduced.
use Rattle.std.specs.Prelude.{ℕ, Bool, true, false, cond, List, [], ◌∷◌, ◌++◌, leb, ltb, eqb, length, take}
use Prim.Native.String.{String}
use Rattle.rules.specs.Answers.{Fault, deviation, deviation8, bad_length, overflow, Outcome, positive, suppressed, negative, timeout, pending_limit, disconnected, transport, fault, refused, Answer}
use Rattle.rules.specs.Bytes.{two}
use Rattle.rules.specs.Events.{Entry, named, foreign}
use Rattle.rules.specs.Exchange.{State, Turn, on, ends}
use Rattle.rules.specs.Lines.{ascii, decimal, hex, spaced}
use Rattle.telling.specs.Story.{Line, read, late, over, unread}

-- Bytes, a space before each.
abbrev pub pairs : List ℕ → List ℕ
pairs [] = []
pairs (b ∷ bs) = spaced (hex (b ∷ [])) ++ pairs bs

-- "long replies cut with `..` and their length": more than eight bytes.
unfoldable pub shown : List ℕ → List ℕ
shown bs = pairs (take 8 bs) ++ cond (leb (length bs) 8) [] (ascii " .. (" ++ decimal (length bs) ++ ascii " bytes)")

-- What an event is, in words and bytes. A transport error's number is told as its two bytes.
unfoldable pub what : ℕ → List ℕ → Entry → List ℕ
what listens replies e =
    cond (eqb e.kind 0) (cond (eqb e.source listens) (ascii "reply") (ascii "foreign reply") ++ shown (named replies e).bytes)
    (cond (eqb e.kind 1) (ascii "idle") (cond (eqb e.kind 2) (ascii "end of stream") (ascii "transport error" ++ shown (two e.size))))

-- A line begins with its time.
abbrev pub timed : ℕ → List ℕ → List ℕ
timed t bs = decimal t ++ ascii " ms  " ++ bs

-- How a line of an event ends: a count, and two numbers on the clock.
abbrev pub tail : ℕ → List ℕ → ℕ → List ℕ → ℕ → List ℕ
tail n middle a between b = decimal n ++ middle ++ decimal a ++ between ++ decimal b ++ ascii " ms.\n"

-- The deadline before and after an event that settled nothing: a notice, a foreign reply, or an idle.
abbrev pub goes_on : ℕ → ℕ → List ℕ → ℕ → List ℕ
goes_on n before middle after = tail n middle before (ascii " -> ") after

-- By the number of events and of notices behind it. P2* may be the shorter one, so that a notice starts a new clock, and no longer one is promised.
unfoldable pub on_text : ℕ → Entry → ℕ → ℕ → ℕ → ℕ → List ℕ
on_text listens e before events notices after =
    cond (foreign listens e) (ascii ": passed over (event " ++ goes_on events before (ascii "). The clock runs on: deadline ") after)
    (cond (eqb e.kind 0) (ascii ": wait (notice " ++ goes_on notices before (ascii "). A new clock starts: deadline ") after)
    (ascii ": nothing was heard (event " ++ goes_on events before (ascii "). The clock runs on: deadline ") after))

-- The words at a number in a table, or other ones.
abbrev pub pick : List (ℕ × List ℕ) → List ℕ → ℕ → List ℕ
pick [] other n = other
pick (w ∷ ws) other n = cond (eqb n w.0) w.1 (pick ws other n)

-- The rule that a reply broke, by its deviation; 0 is a length that lenient cannot read.
abbrev pub break_words : List (ℕ × List ℕ)
break_words =
    (0, ascii ": it is too short to be read (event ") ∷
    (1, ascii ": wrong first byte, deviation 1 (event ") ∷
    (2, ascii ": wrong second byte, deviation 2 (event ") ∷
    (3, ascii ": wrong sub-function, deviation 3 (event ") ∷
    (4, ascii ": silence asked for, deviation 4 (event ") ∷
    (8, ascii ": wrong length, deviation 8 (event ") ∷ []

unfoldable pub breaks : ℕ → List ℕ
breaks n = pick break_words (ascii ": it breaks a rule (event ") n

-- A deviation's number; 0 and 16 for the two that have none.
abbrev pub number_of : Fault → ℕ
number_of (deviation n) = n
number_of (deviation8 least most) = 8
number_of bad_length = 0
number_of overflow = 16

-- What an event is judged to be, where it settles the exchange. A positive is one so far: the checks behind it may throw it away.
unfoldable pub judged : Outcome → List ℕ
judged (positive p) = ascii ": taken as positive (event "
judged suppressed = breaks 16
judged (negative c) = ascii ": refused by its code (event "
judged timeout = breaks 16
judged pending_limit = ascii ": one wait notice too many (event "
judged disconnected = ascii ": disconnected (event "
judged (transport n) = ascii ": the transport failed (event "
judged (fault f) = breaks (number_of f)
judged (refused n) = breaks 16

-- "a negative or positive with suppression waits until P2 if later"; T may cut that short.
abbrev pub ending : ℕ → ℕ → List ℕ
ending t finish = cond (ltb t finish) (ascii "). Call is to wait until ") (ascii "). Call ends at ")

unfoldable pub end_text : Entry → ℕ → Outcome → ℕ → ℕ → List ℕ
end_text e before o events finish = judged o ++ tail events (ending e.time finish) finish (ascii " ms; deadline ") before

abbrev pub did : ℕ → Entry → State → Turn → List ℕ
did listens e s (on s') = on_text listens e s.deadline (length s'.read) (length s'.notices) s'.deadline
did listens e s (ends x) = end_text e s.deadline x.outcome (length x.read) x.time

-- "suppressed if bit 7 of the sub-function is set and no pending was read, else timeout"
abbrev pub passed : Bool → List ℕ
passed true = ascii "deadline: no answer came in time, as was asked for. The call ends as suppressed.\n"
passed false = ascii "deadline: no answer came in time. The call ends as timeout.\n"

unfoldable pub said : ℕ → List ℕ → Line → List ℕ
said listens replies (read e s x) = timed e.time (what listens replies e) ++ did listens e s x
said listens replies (late s) = timed s.deadline (passed s.hush)
said listens replies (over overall) = timed overall (ascii "the overall time is up. The call ends as timeout.\n")
said listens replies (unread e) = timed e.time (what listens replies e) ++ ascii ": never read.\n"

abbrev pub joined : ℕ → List ℕ → List Line → List ℕ
joined listens replies [] = []
joined listens replies (x ∷ xs) = said listens replies x ++ joined listens replies xs

-- The request, how it is judged, whether silence was asked for, and the first deadline.
abbrev pub mode : Bool → String
mode true = " sent, strict"
mode false = " sent, lenient"

abbrev pub quiet : Bool → String
quiet true = ", silence asked for. The clock starts: deadline "
quiet false = ". The clock starts: deadline "

unfoldable pub begins : Bool → List ℕ → State → List ℕ
begins strict sent s = ascii "0 ms  request" ++ shown sent ++ ascii (mode strict) ++ ascii (quiet s.hush) ++ decimal s.deadline ++ ascii " ms.\n"

-- When the call ends, whatever came of it: "the answer with the line that `udslog` prints" follows.
unfoldable pub concludes : Answer → List ℕ
concludes x =
    ascii "The call ends at " ++
    decimal x.time ++
    ascii " ms. Events read: " ++
    decimal x.events ++
    ascii ". Wait notices: " ++
    decimal x.notices ++
    ascii ".\n"

-- A call that was not made, by its refusal, a number of document 01. 10 is the event list's; every other one is about what is asked.
abbrev pub declined_by : ℕ → List ℕ
declined_by n =
    cond (eqb n 10) (ascii "The call is not made: its list of events breaks a limit, refusal ")
    (ascii "The call is not made: what it asks for is not allowed, refusal ")

unfoldable pub declined : ℕ → List ℕ
declined n = declined_by n ++ decimal n ++ ascii ".\n"
