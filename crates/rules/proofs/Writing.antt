-- What is written is read back, and what is read is written as it stood: field by field, event by event, and the whole log.
use Prim.Native.Nat.{ℕ, zero, suc, ◌+◌, ◌*◌, ◌/◌, ◌%◌, ◌≤◌}
use native.Mathlib.Nat.{suc-mul, zero-mul}
use native.Mathlib.Numerals.{add-one}
use native.Mathlib.Omega.{arith}
use mathlib.Core.Bool.{Bool, true, ◌||◌}
use mathlib.Core.Path.{◌≡◌, refl, sym, ◌∙◌, ap, ap₂}
use mathlib.Core.List.{List, [], ◌∷◌, ◌++◌}
use lib.Dec.{leb, eqb}
use lib.ListN.{length, get_or, take, drop, length-append, length-take, length-drop, take-append-drop}
use lib.Seq.{drop-cons, drop-drop, take_all, take-add, get_or-append-add}
use borrow.Author.Tests.{eqb-true}
use Rattle.rules.specs.Bytes.{u16_at, u32_at, two, four, every, is_byte}
use Rattle.rules.specs.Conversations.{Every}
use Rattle.rules.specs.Events.{Form, plain, addressed, event_size, Entry, source_at, entry_in, entry_at, entries_from, entries}
use Rattle.rules.specs.Logs.{Header, form_of, header_size, form_in, header_in, header_of, areas_ok, laid_out, area, argument_bytes, event_bytes, reply_bytes, layout_ok}
use Rattle.rules.specs.Writing.{put_entry, put_entries, Sayable, put_header_in, put_header, Writing}
use Rattle.rules.proofs.Judging.{both}
use Rattle.rules.proofs.Opened.{byte_at}

-- A number is that of its two bytes, or four.
pub two_back : (n : ℕ) → n / 256 * 256 + n % 256 ≡ n
two_back n = omega arith

pub four-back : (n : ℕ) → (n / 65536 / 256 * 256 + n / 65536 % 256) * 65536 + (n % 65536 / 256 * 256 + n % 65536 % 256) ≡ n
four-back n = omega arith

read_as : (form : Form) (h : Header) (rest : List ℕ) → Sayable form 255 h.listens → header_in form (put_header_in form h ++ rest) ≡ h
read_as plain h rest small = λ i. record {
  version = two_back h.version i;
  call = h.call;
  flags = h.flags;
  value = two_back h.value i;
  sub = h.sub;
  address_length = h.address_length;
  size_length = h.size_length;
  listens = (let e : h.listens % 256 ≡ h.listens = omega arith in e) i;
  arguments = two_back h.arguments i;
  arguments_at = two_back h.arguments_at i;
  events = two_back h.events i;
  events_at = two_back h.events_at i;
  replies = two_back h.replies i;
  replies_at = two_back h.replies_at i;
  total = two_back h.total i;
  p2 = four-back h.p2 i;
  star = four-back h.star i;
  overall = four-back h.overall i;
}
read_as addressed h rest any = λ i. record {
  version = two_back h.version i;
  call = h.call;
  flags = h.flags;
  value = two_back h.value i;
  sub = h.sub;
  address_length = h.address_length;
  size_length = h.size_length;
  listens = two_back h.listens i;
  arguments = two_back h.arguments i;
  arguments_at = two_back h.arguments_at i;
  events = two_back h.events i;
  events_at = two_back h.events_at i;
  replies = two_back h.replies i;
  replies_at = two_back h.replies_at i;
  total = two_back h.total i;
  p2 = four-back h.p2 i;
  star = four-back h.star i;
  overall = four-back h.overall i;
}

header_read : (h : Header) (rest : List ℕ) → Sayable (form_in h) 255 h.listens → header_of (put_header h ++ rest) ≡ h
header_read h rest k =
    ap (λ (version : ℕ). header_in (form_of version) (put_header h ++ rest)) (two_back h.version) ∙ read_as (form_in h) h rest k

header-long : (form : Form) (h : Header) → length (put_header_in form h) ≡ header_size form
header-long plain h = refl
header-long addressed h = refl

entry_read : (form : Form) (e : Entry) (rest : List ℕ) → Sayable form 0 e.source → entry_at form (put_entry form e ++ rest) 0 ≡ e
entry_read plain e rest none = λ i. record {
  time = four-back e.time i;
  kind = two_back e.kind i;
  offset = two_back e.offset i;
  size = two_back e.size i;
  source = (let e : 0 ≡ e.source = omega arith in e) i;
}
entry_read addressed e rest any = λ i. record {
  time = four-back e.time i;
  kind = two_back e.kind i;
  offset = two_back e.offset i;
  size = two_back e.size i;
  source = two_back e.source i;
}

entry-long : (form : Form) (e : Entry) → length (put_entry form e) ≡ event_size form
entry-long plain e = refl
entry-long addressed e = refl

-- The bytes of l from index i on: one of them, or the two or four of a number, and n more.
module _ (l : List ℕ) (bytes : every is_byte l ≡ true) where
  pub one_on : (i n : ℕ) {more : List ℕ} → i + 1 ≤ length l → more ≡ area l (i + 1) n → get_or l i 0 ∷ more ≡ area l i (suc n)
  one_on i n h e = rw (drop-cons l i 0 (omega arith), ← (add-one i)) (ap (λ (t : List ℕ). get_or l i 0 ∷ t) e)

  byte-on : (i n : ℕ) {more : List ℕ} → i + 1 ≤ length l → more ≡ area l (i + 1) n → get_or l i 0 % 256 ∷ more ≡ area l i (suc n)
  byte-on i n h e =
      let a = byte_at l bytes i in
      let same : get_or l i 0 % 256 ≡ get_or l i 0 = omega arith in
      rw same (one_on i n h e)

  pub two-on : (i n : ℕ) {more : List ℕ} → i + 2 ≤ length l → more ≡ area l (i + 2) n → two (u16_at l i) ++ more ≡ area l i (suc (suc n))
  two-on i n {more} h e =
      let a = byte_at l bytes i in
      let b = byte_at l bytes (i + 1) in
      let high : u16_at l i / 256 ≡ get_or l i 0 = omega arith in
      let low : u16_at l i % 256 ≡ get_or l (i + 1) 0 = omega arith in
      let s : i + 1 + 1 ≡ i + 2 = omega arith in
      rw (high, low) (one_on i (suc n) (omega arith) (one_on (i + 1) n (omega arith) (rw s e)))

  pub four-on : (i n : ℕ) {more : List ℕ} → i + 4 ≤ length l → more ≡ area l (i + 4) n
      → four (u32_at l i) ++ more ≡ area l i (suc (suc (suc (suc n))))
  four-on i n {more} h e =
      let a = byte_at l bytes (i + 2) in
      let b = byte_at l bytes (i + 2 + 1) in
      let high : u32_at l i / 65536 ≡ u16_at l i = omega arith in
      let low : u32_at l i % 65536 ≡ u16_at l (i + 2) = omega arith in
      let s : i + 2 + 2 ≡ i + 4 = omega arith in
      rw (high, low) (two-on i (suc (suc n)) (omega arith) (two-on (i + 2) n (omega arith) (rw s e)))

  -- What follows the listening address, from index i on.
  behind-listens : (i : ℕ) → i + 26 ≤ length l →
      let a = i + 2 in
      let b = a + 2 in
      let c = b + 2 in
      let d = c + 2 in
      let e = d + 2 in
      let f = e + 2 in
      let g = f + 2 in
      let k = g + 4 in
      two (u16_at l i) ++
      (two (u16_at l a) ++ (two (u16_at l b) ++ (two (u16_at l c) ++ (two (u16_at l d) ++ (two (u16_at l e) ++ (two (u16_at l f) ++
      (four (u32_at l g) ++ (four (u32_at l k) ++ four (u32_at l (k + 4)))))))))) ≡
      area l i 26
  behind-listens i h =
      two-on i 24 (omega arith)
      (two-on _ 22 (omega arith)
      (two-on _ 20 (omega arith)
      (two-on _ 18 (omega arith)
      (two-on _ 16 (omega arith)
      (two-on _ 14 (omega arith)
      (two-on _ 12 (omega arith)
      (four-on _ 8 (omega arith)
      (four-on _ 4 (omega arith)
      (four-on _ 0 (omega arith) refl)))))))))

  written_as : (form : Form) → header_size form ≤ length l → put_header_in form (header_in form l) ≡ take (header_size form) l
  written_as plain h =
      two-on 0 34 (omega arith)
      (one_on 2 33 (omega arith)
      (one_on 3 32 (omega arith)
      (two-on 4 30 (omega arith)
      (one_on 6 29 (omega arith)
      (one_on 7 28 (omega arith)
      (one_on 8 27 (omega arith)
      (byte-on 9 26 (omega arith) (behind-listens 10 (omega arith)))))))))
  written_as addressed h =
      two-on 0 35 (omega arith)
      (one_on 2 34 (omega arith)
      (one_on 3 33 (omega arith)
      (two-on 4 31 (omega arith)
      (one_on 6 30 (omega arith)
      (one_on 7 29 (omega arith)
      (one_on 8 28 (omega arith)
      (two-on 9 26 (omega arith) (behind-listens 11 (omega arith)))))))))

  header-written : let size = header_size (form_in (header_of l)) in size ≤ length l → put_header (header_of l) ≡ take size l
  header-written h = written_as (form_in (header_of l)) h

  -- The entry at index i.
  entry-in-written : (form : Form) (i : ℕ) → i + event_size form ≤ length l → put_entry form (entry_in form l i) ≡ area l i (event_size form)
  entry-in-written plain i h =
      let six : i + 4 + 2 ≡ i + 6 = omega arith in
      let eight : i + 6 + 2 ≡ i + 8 = omega arith in
      four-on i 6 (omega arith)
      (two-on (i + 4) 4 (omega arith)
      (rw six (two-on (i + 6) 2 (omega arith)
      (rw eight (two-on (i + 8) 0 (omega arith) refl)))))
  entry-in-written addressed i h =
      let six : i + 4 + 2 ≡ i + 6 = omega arith in
      let eight : i + 6 + 2 ≡ i + 8 = omega arith in
      let ten : i + 8 + 2 ≡ i + 10 = omega arith in
      four-on i 8 (omega arith)
      (two-on (i + 4) 6 (omega arith)
      (rw six (two-on (i + 6) 4 (omega arith)
      (rw eight (two-on (i + 8) 2 (omega arith)
      (rw ten (two-on (i + 10) 0 (omega arith) refl)))))))

  module _ (form : Form) where
    entry-written : (i : ℕ) → i * event_size form + event_size form ≤ length l → put_entry form (entry_at form l i) ≡ area l (i * event_size form) (event_size form)
    entry-written i h = entry-in-written form (i * event_size form) h

    from-written : (n i : ℕ) → i * event_size form + n * event_size form ≤ length l
        → put_entries form (entries_from form l n i) ≡ area l (i * event_size form) (n * event_size form)
    unfolding entries_from
    from-written zero i h = rw (zero-mul (event_size form)) refl
    from-written (suc n) i h =
        let on : suc i * event_size form ≡ i * event_size form + event_size form = omega (arith, suc-mul i (event_size form)) in
        let more : suc n * event_size form ≡ event_size form + n * event_size form = omega (arith, suc-mul n (event_size form)) in
        ap₂ (λ (a b : List ℕ). a ++ b) (entry-written i (omega arith)) (from-written n (suc i) (omega arith)) ∙
        rw (on, more, take-add (event_size form) (n * event_size form) (drop (i * event_size form) l), drop-drop)

  -- Events that fill the list.
  filled : (form : Form) → length l % event_size form ≡ 0 → length l / event_size form * event_size form ≡ length l
  filled plain h = omega arith
  filled addressed h = omega arith

  entries-written : (form : Form) → length l % event_size form ≡ 0 → put_entries form (entries form l) ≡ l
  entries-written form h =
      let full = filled form h in
      let none = zero-mul (event_size form) in
      from-written form (length l / event_size form) 0 (omega arith) ∙
      ap (λ (i : ℕ). area l i (length l / event_size form * event_size form)) none ∙
      take_all (length l / event_size form * event_size form) l (omega arith)

-- An event in front moves the others on by one.
module _ (form : Form) (e : Entry) (l : List ℕ) where
  moved : (k j : ℕ) → k ≡ event_size form + j → u16_at (put_entry form e ++ l) k ≡ u16_at l j
  moved k j h =
      let at : k ≡ length (put_entry form e) + j = h ∙ ap (λ (n : ℕ). n + j) (sym (entry-long form e)) in
      let next : k + 1 ≡ length (put_entry form e) + (j + 1) = omega arith in
      rw (next, at, get_or-append-add (put_entry form e) l j 0, get_or-append-add (put_entry form e) l (j + 1) 0)

  source-moved : (k j : ℕ) → k ≡ event_size form + j → source_at form (put_entry form e ++ l) k ≡ source_at form l j
  source-moved k j h = go form refl
    where
      go : (f : Form) → form ≡ f → source_at f (put_entry form e ++ l) k ≡ source_at f l j
      go plain same = refl
      go addressed same = moved (k + 10) (j + 10) (omega arith)

  entry-moved : (i : ℕ) → entry_at form (put_entry form e ++ l) (suc i) ≡ entry_at form l i
  entry-moved i =
      let at = i * event_size form in
      let next = suc i * event_size form in
      let on : next ≡ event_size form + at = omega (arith, suc-mul i (event_size form)) in
      rw (
        moved next at on,
        moved (next + 2) (at + 2) (omega arith),
        moved (next + 4) (at + 4) (omega arith),
        moved (next + 6) (at + 6) (omega arith),
        moved (next + 8) (at + 8) (omega arith),
        source-moved next at on,
      )

  from-moved : (n i : ℕ) → entries_from form (put_entry form e ++ l) n (suc i) ≡ entries_from form l n i
  unfolding entries_from
  from-moved zero i = refl
  from-moved (suc n) i = ap₂ (λ (x : Entry) (xs : List Entry). x ∷ xs) (entry-moved i) (from-moved n (suc i))

from-read : (form : Form) (es : List Entry) → Every (λ e. Sayable form 0 e.source) es → entries_from form (put_entries form es) (length es) 0 ≡ es
unfolding entries_from
from-read form [] h = refl
from-read form (e ∷ es) h =
    ap₂ (λ (x : Entry) (xs : List Entry). x ∷ xs) (entry_read form e (put_entries form es) h.0)
    (from-moved form e (put_entries form es) (length es) 0 ∙ from-read form es h.1)

entries-long : (form : Form) (es : List Entry) → length (put_entries form es) ≡ length es * event_size form
entries-long form [] = sym (zero-mul (event_size form))
entries-long form (e ∷ es) =
    omega (arith, length-append (put_entry form e) (put_entries form es), entry-long form e, entries-long form es, suc-mul (length es) (event_size form))

entries-read : (form : Form) (es : List Entry) → Every (λ e. Sayable form 0 e.source) es → entries form (put_entries form es) ≡ es
entries-read form es h = rw (counts form (entries-long form es)) (from-read form es h)
  where
    counts : (f : Form) {n : ℕ} → n ≡ length es * event_size f → n / event_size f ≡ length es
    counts plain k = omega arith
    counts addressed k = omega arith

-- A part of what passes a test passes it.
module _ {A : Type 0} (p : A → Bool) where
  pub every_drop : (n : ℕ) (l : List A) → every p l ≡ true → every p (drop n l) ≡ true
  every_drop zero l h = h
  every_drop (suc n) [] h = refl
  every_drop (suc n) (x ∷ l) h = every_drop n l (both (p x) (every p l) h).1

  pub every_take : (n : ℕ) (l : List A) → every p l ≡ true → every p (take n l) ≡ true
  every_take zero l h = refl
  every_take (suc n) [] h = refl
  every_take (suc n) (x ∷ l) h = let k = both (p x) (every p l) h in rw k.0 (every_take n l k.1)

-- Four areas that follow each other up to the end are the whole.
areas : (l : List ℕ) (a b c d : ℕ) → a + b + c + d ≡ length l → take a l ++ (area l a b ++ (area l (a + b) c ++ area l (a + b + c) d)) ≡ l
areas l a b c d e =
    let last : area l (a + b + c) d ≡ drop (a + b + c) l = take_all d (drop (a + b + c) l) (omega (arith, length-drop (a + b + c) l)) in
    rw (last, ← (drop-drop c (a + b) l), take-append-drop c (drop (a + b) l), ← (drop-drop b a l), take-append-drop b (drop a l), take-append-drop a l)

-- Where the areas of a log of n bytes stand.
record Placed (h : Header) (n : ℕ) : Type 0 where
  arguments : h.arguments_at ≡ header_size (form_in h)
  events : h.events_at ≡ header_size (form_in h) + h.arguments
  replies : h.replies_at ≡ header_size (form_in h) + h.arguments + h.events * event_size (form_in h)
  end : header_size (form_in h) + h.arguments + h.events * event_size (form_in h) + h.replies ≡ n

placed : (h : Header) (n : ℕ) → areas_ok h n ≡ true → Placed h n
placed h n ok =
    let first = both (eqb h.arguments_at (header_size (form_in h))) _ ok in
    let second = both (eqb h.events_at (header_size (form_in h) + h.arguments)) _ first.1 in
    let third = both (eqb h.replies_at (h.events_at + h.events * event_size (form_in h))) _ second.1 in
    let fourth = both (eqb h.total (h.replies_at + h.replies)) _ third.1 in
    let arguments = eqb-true h.arguments_at (header_size (form_in h)) first.0 in
    let events = eqb-true h.events_at (header_size (form_in h) + h.arguments) second.0 in
    let replies = eqb-true h.replies_at (h.events_at + h.events * event_size (form_in h)) third.0 in
    let total = eqb-true h.total (h.replies_at + h.replies) fourth.0 in
    let whole = eqb-true h.total n (both (eqb h.total n) _ fourth.1).0 in
    record { arguments = arguments; events = events; replies = omega arith; end = omega arith }

module _ (l : List ℕ) (bytes : every is_byte l ≡ true) (ok : layout_ok l ≡ true) where
  abbrev h : Header
  h = header_of l

  at : Placed h (length l)
  unfolding layout_ok
  at =
      let laid = (both (laid_out h l) _ ok).0 in
      let long = both (leb (header_size (form_in h)) (length l)) _ laid in
      let version = both (eqb h.version 1 || eqb h.version 2) _ long.1 in
      let call = both (leb h.call 15) _ version.1 in
      placed h (length l) (both (areas_ok h (length l)) _ call.1).0

  whole-events : (form : Form) {n : ℕ} → n ≡ h.events * event_size form → n % event_size form ≡ 0
  whole-events plain e = omega arith
  whole-events addressed e = omega arith

  -- The events stand behind the arguments, whole.
  events-written : put_entries (form_in h) (entries (form_in h) (event_bytes h l)) ≡ area l (header_size (form_in h) + h.arguments) (h.events * event_size (form_in h))
  events-written =
      let p = at in
      let n = h.events * event_size (form_in h) in
      let long : length (event_bytes h l) ≡ n = simp (length-take, length-drop) (omega arith) in
      let of-bytes = every_take is_byte n (drop h.events_at l) (every_drop is_byte h.events_at l bytes) in
      entries-written (event_bytes h l) of-bytes (form_in h) (whole-events (form_in h) long) ∙ ap (λ (i : ℕ). area l i n) p.events

  log-written : l ≡ put_header h ++ (argument_bytes h l ++ (put_entries (form_in h) (entries (form_in h) (event_bytes h l)) ++ reply_bytes h l))
  log-written =
      let p = at in
      let header = header-written l bytes (omega arith) in
      sym
      ((λ i. header i ++ (area l (p.arguments i) h.arguments ++ (events-written i ++ area l (p.replies i) h.replies))) ∙
      areas l (header_size (form_in h)) h.arguments (h.events * event_size (form_in h)) h.replies p.end)

pub writing : Writing
writing = record {
  header-long = λ h. header-long (form_in h) h;
  header_read = header_read;
  header-written = header-written;
  entry-long = entry-long;
  entry_read = entry_read;
  entry-written = λ form l i bytes. entry-written l bytes form i;
  entries-read = entries-read;
  entries-written = λ form l bytes. entries-written l bytes form;
  log-written = log-written;
}
