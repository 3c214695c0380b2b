-- A log as bytes, the inverse of how `Events` and `Logs` read it; and the theorems that say so.
use Rattle.std.specs.Prelude.{ℕ, ◌+◌, ◌*◌, ◌%◌, ◌≤◌, true, ◌≡◌, List, [], ◌∷◌, ◌++◌, length, take}
use Rattle.rules.specs.Bytes.{two, four, every, is_byte}
use Rattle.rules.specs.Conversations.{Every}
use Rattle.rules.specs.Events.{Form, plain, addressed, event_size, Entry, entry_at, entries}
use Rattle.rules.specs.Logs.{Header, header_size, form_in, header_of, area, argument_bytes, event_bytes, reply_bytes, layout_ok}

-- A number last, or none.
abbrev pub put_source : Form → ℕ → List ℕ
put_source plain n = []
put_source addressed n = two n

abbrev pub put_entry : Form → Entry → List ℕ
put_entry form e = four e.time ++ two e.kind ++ two e.offset ++ two e.size ++ put_source form e.source

abbrev pub put_entries : Form → List Entry → List ℕ
put_entries form [] = []
put_entries form (e ∷ es) = put_entry form e ++ put_entries form es

abbrev pub put_listens : Form → ℕ → List ℕ
put_listens plain n = n % 256 ∷ []
put_listens addressed n = two n

-- What version 1 can say of an address: this at most.
abbrev pub Sayable : Form → ℕ → ℕ → Type 0
Sayable plain most n = n ≤ most
Sayable addressed most n = Unit {0}

abbrev pub put_header_in : Form → Header → List ℕ
put_header_in form h =
    two h.version ++
    (h.call ∷ h.flags ∷ two h.value) ++
    (h.sub ∷ h.address_length ∷ h.size_length ∷ put_listens form h.listens) ++
    two h.arguments ++
    two h.arguments_at ++
    two h.events ++
    two h.events_at ++
    two h.replies ++
    two h.replies_at ++
    two h.total ++
    four h.p2 ++
    four h.star ++
    four h.overall

abbrev pub put_header : Header → List ℕ
put_header h = put_header_in (form_in h) h

-- What is written is as long as it must be and reads back as itself, and what is read from bytes is written as it stood.
-- So a sound log is its header, its arguments, its events one by one and its replies, one behind the other, and nothing else.
pub record Writing : Type 0 where
  pub header-long : (h : Header) → length (put_header h) ≡ header_size (form_in h)
  pub header_read : (h : Header) (rest : List ℕ) → Sayable (form_in h) 255 h.listens → header_of (put_header h ++ rest) ≡ h
  pub header-written : (l : List ℕ) → every is_byte l ≡ true → let size = header_size (form_in (header_of l)) in size ≤ length l → put_header (header_of l) ≡ take size l
  pub entry-long : (form : Form) (e : Entry) → length (put_entry form e) ≡ event_size form
  pub entry_read : (form : Form) (e : Entry) (rest : List ℕ) → Sayable form 0 e.source → entry_at form (put_entry form e ++ rest) 0 ≡ e
  pub entry-written : (form : Form) (l : List ℕ) (i : ℕ) → every is_byte l ≡ true → i * event_size form + event_size form ≤ length l
      → put_entry form (entry_at form l i) ≡ area l (i * event_size form) (event_size form)
  pub entries-read : (form : Form) (es : List Entry) → Every (λ e. Sayable form 0 e.source) es → entries form (put_entries form es) ≡ es
  pub entries-written : (form : Form) (l : List ℕ) → every is_byte l ≡ true → length l % event_size form ≡ 0 → put_entries form (entries form l) ≡ l
  pub log-written : (l : List ℕ) → every is_byte l ≡ true → layout_ok l ≡ true →
      let h = header_of l in
      l ≡ put_header h ++ (argument_bytes h l ++ (put_entries (form_in h) (entries (form_in h) (event_bytes h l)) ++ reply_bytes h l))
