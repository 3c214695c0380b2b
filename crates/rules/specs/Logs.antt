-- Document 01, "The log and `udslog`": the layout of a log, the call that it says, and the line that it gives.
use Rattle.std.specs.Prelude.{ℕ, ◌+◌, ◌-◌, ◌*◌, ◌/◌, ◌%◌, Bool, true, false, cond, ◌&&◌, ◌||◌, List, [], ◌∷◌, leb, eqb, length, get_or, take, drop, replicate}
use Rattle.std.proofs.Math.Option.{Option, none, some}
use Rattle.rules.specs.Answers.{Answer}
use Rattle.rules.specs.Bytes.{u16_at, u32_at, every}
use Rattle.rules.specs.Calls.{Call, request, session, reset, security, tester_present, read_memory, write_memory, read_identifier, write_identifier, fault_count, routine, download, upload, transfer, transfer_exit, fault_list, Field, given, or_none}
use Rattle.rules.specs.Client.{call}
use Rattle.rules.specs.Events.{Form, plain, addressed, event_size, Entry, entries}
use Rattle.rules.specs.Lines.{line, badlog}
use Rattle.rules.specs.Settings.{Setting, Lent}

-- Version 2 has its events addressed; every other number but 1 is no version.
abbrev pub form_of : ℕ → Form
form_of version = cond (eqb version 2) addressed plain

-- "the listening address in place of the zero at byte 9 widened to u16, which makes the header 37 bytes": so many bytes further stands all that comes after byte 9.
abbrev pub moved : Form → ℕ
moved plain = 0
moved addressed = 1

-- "Header, 36 bytes"; of version 2 37.
abbrev pub header_size : Form → ℕ
header_size form = 36 + moved form

-- Big-endian. Of an area: how many (bytes or events), and where it begins.
pub record Header : Type 0 where
  pub version : ℕ
  pub call : ℕ
  pub flags : ℕ
  pub value : ℕ
  pub sub : ℕ
  pub address_length : ℕ
  pub size_length : ℕ
  pub listens : ℕ
  pub arguments : ℕ
  pub arguments_at : ℕ
  pub events : ℕ
  pub events_at : ℕ
  pub replies : ℕ
  pub replies_at : ℕ
  pub total : ℕ
  pub p2 : ℕ
  pub star : ℕ
  pub overall : ℕ

abbrev pub form_in : Header → Form
form_in h = form_of h.version

-- The byte of version 1 that must be zero, or the listening address.
abbrev pub listens_at9 : Form → List ℕ → ℕ
listens_at9 plain l = get_or l 9 0
listens_at9 addressed l = u16_at l 9

-- The fields of a header in this form.
abbrev pub header_in : Form → List ℕ → Header
header_in form l = record {
  version = u16_at l 0;
  call = get_or l 2 0;
  flags = get_or l 3 0;
  value = u16_at l 4;
  sub = get_or l 6 0;
  address_length = get_or l 7 0;
  size_length = get_or l 8 0;
  listens = listens_at9 form l;
  arguments = u16_at l (10 + moved form);
  arguments_at = u16_at l (12 + moved form);
  events = u16_at l (14 + moved form);
  events_at = u16_at l (16 + moved form);
  replies = u16_at l (18 + moved form);
  replies_at = u16_at l (20 + moved form);
  total = u16_at l (22 + moved form);
  p2 = u32_at l (24 + moved form);
  star = u32_at l (28 + moved form);
  overall = u32_at l (32 + moved form);
}

abbrev pub header_of : List ℕ → Header
header_of l = header_in (form_of (u16_at l 0)) l

-- "flags u8 (1 strict, 2 server timing, 4 suppressed client, 8 T present, 16 sub-function present, call 0 only, 32 data present)":
-- 1 where the flag with this weight is set, and 0 where it is not.
abbrev pub flag : ℕ → Header → ℕ
flag weight h = h.flags / weight % 2

-- What a call uses of a header: the largest value, sub and lengths (0: unused), whether flag 16 is its own, and whether data may and must be present.
pub record Uses : Type 0 where
  pub value : ℕ
  pub sub : ℕ
  pub lengths : ℕ
  pub named : ℕ
  pub may : ℕ
  pub must : ℕ

abbrev pub uses : ℕ → ℕ → ℕ → ℕ → ℕ → ℕ → Uses
uses v s l n may must = record { value = v; sub = s; lengths = l; named = n; may = may; must = must }

-- The same in words: no field, and a field more.
abbrev pub nothing : Uses
nothing = uses 0 0 0 0 0 0

abbrev pub a_byte : Uses → Uses
a_byte u = uses 255 u.sub u.lengths u.named u.may u.must

abbrev pub a_pair : Uses → Uses
a_pair u = uses 65535 u.sub u.lengths u.named u.may u.must

abbrev pub a_sub : Uses → Uses
a_sub u = uses u.value 255 u.lengths u.named u.may u.must

abbrev pub both_lengths : Uses → Uses
both_lengths u = uses u.value u.sub 255 u.named u.may u.must

abbrev pub flag16 : Uses → Uses
flag16 u = uses u.value u.sub u.lengths 1 u.may u.must

abbrev pub may_have_data : Uses → Uses
may_have_data u = uses u.value u.sub u.lengths u.named 1 u.must

abbrev pub needs_data : Uses → Uses
needs_data u = uses u.value u.sub u.lengths u.named 1 1

-- "value u16 (SID, id, mask, counter, or compression × 256 + encryption)"; a row for each call, 0 to 15.
abbrev pub uses_by_call : List Uses
uses_by_call =
    a_byte (flag16 (may_have_data nothing)) ∷
    a_sub nothing ∷
    a_sub nothing ∷
    a_sub (may_have_data nothing) ∷
    nothing ∷
    both_lengths nothing ∷
    both_lengths (needs_data nothing) ∷
    a_pair nothing ∷
    a_pair (needs_data nothing) ∷
    a_byte nothing ∷
    a_pair (a_sub (may_have_data nothing)) ∷
    a_pair (both_lengths nothing) ∷
    a_pair (both_lengths nothing) ∷
    a_byte (may_have_data nothing) ∷
    may_have_data nothing ∷
    a_byte nothing ∷ []

abbrev pub uses_of : ℕ → Uses
uses_of c = get_or uses_by_call c nothing

abbrev pub all : List Bool → Bool
all [] = true
all (b ∷ bs) = b && all bs

-- Byte 9 of version 1 is unused; every address can be listened to.
abbrev pub most_listens : Form → ℕ
most_listens plain = 0
most_listens addressed = 65535

-- "Unused fields and bits are zero; flags 1, 2, 4, 8 suit every call"; "Without flag 32 no data bytes; calls 6 and 8 need it."
abbrev pub fields_ok : Header → Uses → Bool
fields_ok h u =
    all
    (leb (h.flags / 32) u.may ∷
    leb u.must (h.flags / 32) ∷
    leb (flag 16 h) u.named ∷
    leb h.value u.value ∷
    leb h.sub (u.sub + flag 16 h * 255) ∷
    leb h.address_length u.lengths ∷
    leb h.size_length u.lengths ∷
    leb h.listens (most_listens (form_in h)) ∷
    leb h.overall (flag 8 h * 4294967295) ∷
    leb (h.address_length + h.size_length) h.arguments ∷
    leb h.arguments (h.address_length + h.size_length + flag 32 h * 65535) ∷ [])

-- "The areas follow in that order, no gaps."
abbrev pub areas_ok : Header → ℕ → Bool
areas_ok h n =
    all
    (eqb h.arguments_at (header_size (form_in h)) ∷
    eqb h.events_at (header_size (form_in h) + h.arguments) ∷
    eqb h.replies_at (h.events_at + h.events * event_size (form_in h)) ∷
    eqb h.total (h.replies_at + h.replies) ∷
    eqb h.total n ∷ [])

-- "kind 3 puts its number in length"; "an event of unknown kind has no unused field". The source is not looked at: "10, not badlog, for a non-zero address on kinds 1 to 3".
abbrev pub event_ok : Entry → Bool
event_ok e =
    cond (eqb e.kind 1 || eqb e.kind 2) (eqb e.offset 0 && eqb e.size 0)
    (cond (eqb e.kind 3) (eqb e.offset 0) true)

-- n bytes from index i on.
abbrev pub area : List ℕ → ℕ → ℕ → List ℕ
area l i n = take n (drop i l)

-- The areas, in their order.
abbrev pub argument_bytes : Header → List ℕ → List ℕ
argument_bytes h l = area l h.arguments_at h.arguments

abbrev pub event_bytes : Header → List ℕ → List ℕ
event_bytes h l = area l h.events_at (h.events * event_size (form_in h))

abbrev pub reply_bytes : Header → List ℕ → List ℕ
reply_bytes h l = area l h.replies_at h.replies

-- Every test of the layout but the fields'.
abbrev pub laid_out : Header → List ℕ → Bool
laid_out h l =
    all
    (leb (header_size (form_in h)) (length l) ∷
    (eqb h.version 1 || eqb h.version 2) ∷
    leb h.call 15 ∷
    areas_ok h (length l) ∷
    every event_ok (entries (form_in h) (event_bytes h l)) ∷ [])

unfoldable pub layout_ok : List ℕ → Bool
layout_ok l = let h = header_of l in laid_out h l && fields_ok h (uses_of h.call)

-- "Arguments are address, size, data."
abbrev pub address_of : Header → List ℕ → Field
address_of h l = given (area l (header_size (form_in h)) h.address_length)

abbrev pub size_of : Header → List ℕ → Field
size_of h l = given (area l (header_size (form_in h) + h.address_length) h.size_length)

abbrev pub some? : {A : Type 0} → Bool → A → Option A
some? true x = some x
some? false x = none

abbrev pub data_of : Header → List ℕ → Option (List ℕ)
data_of h l =
    some? (eqb (flag 32 h) 1) (area l (header_size (form_in h) + h.address_length + h.size_length) (h.arguments - (h.address_length + h.size_length)))

-- The call of each number, 0 to 15.
abbrev pub choices : ℕ → ℕ → Option ℕ → Field → Field → Option (List ℕ) → List Call
choices v sub named a s d =
    request v named d ∷
    session sub ∷
    reset sub ∷
    security sub d ∷
    tester_present ∷
    read_memory a s ∷
    write_memory a s (or_none d) ∷
    read_identifier v ∷
    write_identifier v (or_none d) ∷
    fault_count v ∷
    routine sub v d ∷
    download (v / 256) (v % 256) a s ∷
    upload (v / 256) (v % 256) a s ∷
    transfer v d ∷
    transfer_exit d ∷
    fault_list v ∷ []

abbrev pub call_of : Header → List ℕ → Call
call_of h l =
    get_or (choices h.value h.sub (some? (eqb (flag 16 h) 1) h.sub) (address_of h l) (size_of h l) (data_of h l)) h.call tester_present

abbrev pub setting_of : Header → Setting
setting_of h = record {
  timing = record { p2 = h.p2; star = h.star };
  overall = some? (eqb (flag 8 h) 1) h.overall;
  limit = none;
  server_timing = eqb (flag 2 h) 1;
  quiet = eqb (flag 4 h) 1;
}

-- The buffer is as long as the longest request, so that refusal 9 cannot come up.
abbrev pub lent_of : Header → List ℕ → Lent
lent_of h l = record {
  buffer = replicate 4095 0;
  form = form_in h;
  events = event_bytes h l;
  replies = reply_bytes h l;
  listens = h.listens;
}

-- The answer of the call that a log asks.
unfoldable pub answer_of : List ℕ → Answer
answer_of l = let h = header_of l in (call (eqb (flag 1 h) 1) (setting_of h) (call_of h l) (lent_of h l)).answer

-- The line that `udslog` prints.
unfoldable pub line_of : List ℕ → List ℕ
line_of l = cond (layout_ok l) (line (answer_of l)) badlog
