-- Document 01, "The log and `udslog`", test by test: each as a field of the log, the number found there, and between which numbers it should lie.
use Rattle.std.specs.Prelude.{ℕ, suc, ◌+◌, ◌-◌, ◌*◌, ◌/◌, ◌%◌, min, Bool, true, false, cond, ◌&&◌, ◌||◌, List, [], ◌∷◌, ◌++◌, leb, eqb, length, get_or}
use Prim.Native.String.{String}
use Rattle.std.proofs.Math.Option.{Option, none, some}
use Rattle.rules.specs.Bytes.{u16_at, u32_at}
use Rattle.rules.specs.Events.{Form, plain, addressed, event_size, Entry, entries}
use Rattle.rules.specs.Lines.{ascii, decimal}
use Rattle.rules.specs.Logs.{moved, header_size, Header, form_in, header_of, flag, Uses, uses_of, most_listens, event_bytes}

-- How a number stands in a log: as the log's own length, as a bit of the byte at an index, or as the bytes from there on.
pub data Read : Type 0 where
  whole : Read
  bit : ℕ → Read
  byte : Read
  pair : Read
  four : Read

abbrev pub number_at : Read → List ℕ → ℕ → ℕ
number_at whole l at = length l
number_at (bit weight) l at = get_or l at 0 / weight % 2
number_at byte l at = get_or l at 0
number_at pair l at = u16_at l at
number_at four l at = u32_at l at

-- The largest number that can stand so; a log's own length has none.
abbrev pub widest : Read → Option ℕ
widest whole = none
widest (bit weight) = some 1
widest byte = some 255
widest pair = some 65535
widest four = some 4294967295

-- A field: its name, how it is read and from which index on, the number found there, and what it should be: at least so much, and at most, if there is a most.
pub record Field : Type 0 where
  pub name : List ℕ
  pub read : Read
  pub at : ℕ
  pub found : ℕ
  pub least : ℕ
  pub most : Option ℕ

abbrev pub field : List ℕ → Read → ℕ → ℕ → ℕ → Option ℕ → Field
field name read at found least most = record { name = name; read = read; at = at; found = found; least = least; most = most }

abbrev pub between : String → Read → ℕ → ℕ → ℕ → ℕ → Field
between name read at found least most = field (ascii name) read at found least (some most)

abbrev pub exactly : String → Read → ℕ → ℕ → ℕ → Field
exactly name read at found n = between name read at found n n

abbrev pub at_most : ℕ → Option ℕ → Bool
at_most n none = true
at_most n (some most) = leb n most

-- A field that is not off.
abbrev pub inside : Field → Bool
inside f = leb f.least f.found && at_most f.found f.most

-- "the zero at byte 9 widened to u16"
abbrev pub nine : Form → Read
nine plain = byte
nine addressed = pair

-- Nothing can be read of a log of n bytes that is shorter than its header.
abbrev pub headed : Header → ℕ → Field
headed h n = field (ascii "the file") whole 0 n (header_size (form_in h)) none

-- The fields of a header that a test speaks of, as they stand in a log of n bytes; behind them the log's own length, which the total says. Where an area begins, and
-- where the last one ends, stands in two bytes: a count for which these are too few is off itself, and not the offset behind it.
abbrev pub header_fields : Header → Uses → ℕ → List Field
header_fields h u n =
    let m = moved (form_in h) in
    let size = header_size (form_in h) in
    let lengths = h.address_length + h.size_length in
    between "version" pair 0 h.version 1 2 ∷
    between "call" byte 2 h.call 0 15 ∷
    between "flags" byte 3 h.flags (u.must * 32) (u.may * 32 + 31) ∷
    between "flag-16" (bit 16) 3 (flag 16 h) 0 u.named ∷
    between "value" pair 4 h.value 0 u.value ∷
    between "sub-function" byte 6 h.sub 0 (u.sub + flag 16 h * 255) ∷
    between "address-length" byte 7 h.address_length 0 u.lengths ∷
    between "size-length" byte 8 h.size_length 0 u.lengths ∷
    between "listening-address" (nine (form_in h)) 9 h.listens 0 (most_listens (form_in h)) ∷
    between "arguments-count" pair (10 + m) h.arguments lengths (min (lengths + flag 32 h * 65535) (65535 - size)) ∷
    exactly "arguments-offset" pair (12 + m) h.arguments_at size ∷
    between "events-count" pair (14 + m) h.events 0 ((65535 - (size + h.arguments)) / event_size (form_in h)) ∷
    exactly "events-offset" pair (16 + m) h.events_at (size + h.arguments) ∷
    between "replies-count" pair (18 + m) h.replies 0 (65535 - (h.events_at + h.events * event_size (form_in h))) ∷
    exactly "replies-offset" pair (20 + m) h.replies_at (h.events_at + h.events * event_size (form_in h)) ∷
    exactly "total" pair (22 + m) h.total (h.replies_at + h.replies) ∷
    between "T" four (32 + m) h.overall 0 (flag 8 h * 4294967295) ∷
    exactly "the file" whole 0 n h.total ∷ []

abbrev pub heading : Header → ℕ → List Field
heading h n = headed h n ∷ header_fields h (uses_of h.call) n

-- An unused field is zero; of any other every number is right.
abbrev pub zero_where : Bool → Option ℕ
zero_where unused = cond unused (some 0) none

-- The two fields of an event that a test speaks of: its number, from 1 on, and the index where it begins.
abbrev pub entry_fields : ℕ → ℕ → Entry → List Field
entry_fields number at e =
    let silent = eqb e.kind 1 || eqb e.kind 2 in
    let event = ascii "event " ++ decimal number in
    field (event ++ ascii ": offset") pair (at + 6) e.offset 0 (zero_where (silent || eqb e.kind 3)) ∷
    field (event ++ ascii ": length") pair (at + 8) e.size 0 (zero_where silent) ∷ []

-- Of events in order, the first numbered i, from 0 on; event 0 begins at index at.
abbrev pub entries_fields : Form → ℕ → ℕ → List Entry → List Field
entries_fields form at i [] = []
entries_fields form at i (e ∷ es) = entry_fields (i + 1) (at + i * event_size form) e ++ entries_fields form at (suc i) es

abbrev pub event_fields : Header → List ℕ → List Field
event_fields h l = entries_fields (form_in h) h.events_at 0 (entries (form_in h) (event_bytes h l))

-- Every test of the layout, in the order of the log.
abbrev pub fields : List ℕ → List Field
fields l = let h = header_of l in heading h (length l) ++ event_fields h l

abbrev pub first : List Field → Option Field
first [] = none
first (f ∷ fs) = cond (inside f) (first fs) (some f)

-- "the first field that is off"
unfoldable pub first_off : List ℕ → Option Field
first_off l = first (fields l)
