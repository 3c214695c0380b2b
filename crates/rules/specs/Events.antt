-- Document 01, "Clock and events": an event list as it is lent, its limits, and the events that it says to a call that listens to one address.
use Rattle.std.specs.Prelude.{ℕ, zero, suc, ◌+◌, ◌*◌, ◌/◌, ◌%◌, Bool, true, cond, not, ◌&&◌, List, [], ◌∷◌, leb, eqb, length, take, drop}
use Rattle.rules.specs.Answers.{Part, part}
use Rattle.rules.specs.Bytes.{u16_at, u32_at, every, is_byte}

-- How events are lent: without a source address, or with one.
pub data Form : Type 0 where
  plain : Form
  addressed : Form

-- "Event, 10 bytes"; "12-byte events with the address last"
abbrev pub event_size : Form → ℕ
event_size plain = 10
event_size addressed = 12

-- "time u32, kind u16, offset into reply bytes u16, length u16; kind 3 puts its number in length"; then the source address u16.
pub record Entry : Type 0 where
  pub time : ℕ
  pub kind : ℕ
  pub offset : ℕ
  pub size : ℕ
  pub source : ℕ

-- Of the entry at index i. "version 1 is still read, all addresses 0"
abbrev pub source_at : Form → List ℕ → ℕ → ℕ
source_at plain bs i = 0
source_at addressed bs i = u16_at bs (i + 10)

-- The entry at index i.
abbrev pub entry_in : Form → List ℕ → ℕ → Entry
entry_in form bs i =
    record { time = u32_at bs i; kind = u16_at bs (i + 4); offset = u16_at bs (i + 6); size = u16_at bs (i + 8); source = source_at form bs i }

-- The entry numbered i, from 0.
abbrev pub entry_at : Form → List ℕ → ℕ → Entry
entry_at form bs i = entry_in form bs (i * event_size form)

-- n entries, from the one numbered i on.
unfoldable pub entries_from : Form → List ℕ → ℕ → ℕ → List Entry
entries_from form bs zero i = []
entries_from form bs (suc n) i = entry_at form bs i ∷ entries_from form bs n (suc i)

abbrev pub entries : Form → List ℕ → List Entry
entries form bs = entries_from form bs (length bs / event_size form) 0

-- "Event kinds: 0 reply, 1 idle, 2 end of stream, 3 transport error with a number"
pub data Event : Type 0 where
  reply : ℕ → Part → Event
  idle : ℕ → Event
  ended : ℕ → Event
  failed : ℕ → ℕ → Event

abbrev pub time_of : Event → ℕ
time_of (reply t p) = t
time_of (idle t) = t
time_of (ended t) = t
time_of (failed t n) = t

-- The reply that an entry of kind 0 names.
abbrev pub named : List ℕ → Entry → Part
named replies e = part e.offset (take e.size (drop e.offset replies))

-- What an entry says, its source aside. (An unknown kind is refused, so it may stand for anything.)
abbrev pub said : List ℕ → Entry → Event
said replies e =
    cond (eqb e.kind 0) (reply e.time (named replies e))
    (cond (eqb e.kind 1) (idle e.time) (cond (eqb e.kind 2) (ended e.time) (failed e.time e.size)))

-- A reply from another address than the one listened to.
abbrev pub foreign : ℕ → Entry → Bool
foreign listens e = eqb e.kind 0 && not (eqb e.source listens)

-- "Replies from other addresses are read and passed over": as an idle is.
abbrev pub event_of : ℕ → List ℕ → Entry → Event
event_of listens replies e = cond (foreign listens e) (idle e.time) (said replies e)

-- How many of these times are up to the limit.
abbrev pub up_to : ℕ → List ℕ → ℕ
up_to limit [] = 0
up_to limit (t ∷ ts) = cond (leb t limit) 1 0 + up_to limit ts

-- "every event's time [is] 0..4,294,967,295", "a reply has 0..4,095 bytes", "a number to 65,535", of a known kind, a reply inside the lent bytes;
-- "10 .. for a non-zero address on kinds 1 to 3". Foreign replies too.
abbrev pub sound : List ℕ → Entry → Bool
sound replies e =
    leb e.time 4294967295 &&
    cond (eqb e.kind 0)
    (leb e.size 4095 && leb (e.offset + e.size) (length replies) && every is_byte (named replies e).bytes)
    (leb e.kind 3 && leb e.size 65535 && eqb e.source 0)

-- "Times in the list never fall."
abbrev pub rising : ℕ → List Entry → Bool
rising t [] = true
rising t (e ∷ es) = leb t e.time && rising e.time es

-- The limits whose breach is refusal 10. "At most 512 events"; "Every event is checked, those never read too."
unfoldable pub within_limits : Form → List ℕ → List ℕ → Bool
within_limits form events replies =
    eqb (length events % event_size form) 0 &&
    leb (length events / event_size form) 512 &&
    rising 0 (entries form events) &&
    every (sound replies) (entries form events)
