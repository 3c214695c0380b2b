-- "Beside them stands a summary: per call number, how many positive, negative by code, suppressed, timed out, deviating, other."
use Rattle.std.specs.Prelude.{ℕ, zero, suc, ◌+◌, ◌-◌, ◌*◌, cond, List, [], ◌∷◌, leb, ltb, eqb, get_or, set}
use Rattle.rules.specs.Answers as answers
use Rattle.rules.specs.Logs.{answer_of}
use Rattle.bookkeeping.specs.Layout.{call_byte}

pub data Class : Type 0 where
  positive : Class
  negative : ℕ → Class
  suppressed : Class
  timed_out : Class
  deviating : Class
  other : Class

-- "other (disconnected, transport, length, overflow, refused)". No log gives a pending limit: the limit has no place in a log.
abbrev pub class_in : answers.Outcome → Class
class_in (answers.positive p) = positive
class_in answers.suppressed = suppressed
class_in (answers.negative code) = negative code
class_in answers.timeout = timed_out
class_in answers.pending_limit = other
class_in answers.disconnected = other
class_in (answers.transport n) = other
class_in (answers.fault (answers.deviation n)) = deviating
class_in (answers.fault (answers.deviation8 least most)) = deviating
class_in (answers.fault answers.bad_length) = other
class_in (answers.fault answers.overflow) = other
class_in (answers.refused n) = other

-- "running every log in the book alone with its own timing": by the answer that `udslog` prints of it.
abbrev pub class_of : List ℕ → Class
class_of log = class_in (answer_of log).outcome

-- "for each call 0 to 15 a row of 261 counters u16: positive, negative by code 00 to FF, suppressed, timed out, deviating, other"
abbrev pub width : ℕ
width = 261

abbrev pub counters : ℕ
counters = 16 * width

abbrev pub slot : Class → ℕ
slot positive = 0
slot (negative code) = 1 + code
slot suppressed = 257
slot timed_out = 258
slot deviating = 259
slot other = 260

-- The class that a place in a row counts.
abbrev pub class_at : ℕ → Class
class_at i =
    cond (eqb i 0) positive
    (cond (leb i 256) (negative (i - 1))
    (get_or (suppressed ∷ timed_out ∷ deviating ∷ []) (i - 257) other))

-- The counter that counts a log.
abbrev pub place_of : List ℕ → ℕ
place_of log = call_byte log * width + slot (class_of log)

-- How many of the logs are counted at place i.
abbrev pub count : ℕ → List (List ℕ) → ℕ
count i [] = 0
count i (l ∷ ls) = cond (eqb (place_of l) i) 1 0 + count i ls

-- n counters, from place i on.
unfoldable pub tally : List (List ℕ) → ℕ → ℕ → List ℕ
tally ls zero i = []
tally ls (suc n) i = count i ls ∷ tally ls n (suc i)

-- "one worked out afresh"
abbrev pub afresh : List (List ℕ) → List ℕ
afresh ls = tally ls counters 0

-- One more in a u16, which stays at its largest number. In the summary of a book it never gets there.
abbrev pub more : ℕ → ℕ
more n = cond (ltb n 65535) (n + 1) n

abbrev pub raised_at : List ℕ → ℕ → List ℕ
raised_at summary i = set summary i (more (get_or summary i 0))

-- "Adding a log updates the summary"
abbrev pub raised : List ℕ → List ℕ → List ℕ
raised summary log = raised_at summary (place_of log)
