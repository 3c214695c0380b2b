-- What is promised of what is kept: byte by byte, in bounded memory, it is what request Eight asks for.
use Rattle.std.specs.Prelude.{ℕ, ◌+◌, ◌-◌, ◌≤◌, Bool, true, false, cond, not, ◌&&◌, leb, ltb, List, [], ◌∷◌, ◌++◌, ◌≡◌, length}
use Rattle.std.proofs.Math.Option.{none}
use Rattle.rules.specs.Bytes.{every, is_byte}
use Rattle.rules.specs.Events.{plain, Entry, within_limits}
use Rattle.rules.specs.Lines.{ascii}
use Rattle.rules.specs.Writing.{put_entries}
use Rattle.text.specs.Written.{item}
use Rattle.importing.specs.Import as import
use Rattle.importing.specs.Import.{Item, request, reply, dropped, next, Imported, within, imported}
use Rattle.importing.specs.Kept.{Tally, tally, append, note_drop, note_reply, entry, log, Written, refused_line, refused, lines, start, bytes}
use Rattle.importing.specs.Kept.{settled, ended}

-- What is told is kept item by item.
abbrev pub tell : ℕ → Tally → Item → Tally
tell room t (request n m) = tally t.start t.events t.bytes t.drops t.over (append room t.text (item (ascii "request") n m))
tell room t (reply ms m) = note_reply room ms m t
tell room t (dropped n) = note_drop room n t

unfoldable pub tells : ℕ → Tally → List Item → Tally
tells room t [] = t
tells room t (x ∷ xs) = tells room (tell room t x) xs

abbrev pub nothing : Tally
nothing = tally none 0 0 0 false []

-- The events as a log has them, their replies one behind the other from an offset on,
abbrev pub entries_from : ℕ → List Item → List Entry
entries_from at [] = []
entries_from at (request n m ∷ is) = entries_from at is
entries_from at (dropped n ∷ is) = entries_from at is
entries_from at (reply t m ∷ is) = entry t at (length m) ∷ entries_from (at + length m) is

-- and these replies.
abbrev pub replies_of : List Item → List ℕ
replies_of [] = []
replies_of (request n m ∷ is) = replies_of is
replies_of (dropped n ∷ is) = replies_of is
replies_of (reply t m ∷ is) = m ++ replies_of is

-- The lines of what is told; how many `dropped` lines are left out, those behind the first 4,096; and the events for a log.
abbrev pub written : ℕ → Imported → Written
written room (import.refused_line n line) = refused_line n line
written room (import.refused n) = refused n
written room (import.told is) = let t = tells room nothing is in lines t.text (t.drops - 4096) (log (put_entries plain (entries_from 0 is)) (replies_of is))

-- The same without a buffer's bounds. The line of an item;
abbrev pub line_of : Item → List ℕ
line_of (request n m) = item (ascii "request") n m
line_of (reply ms m) = item (ascii "reply") ms m
line_of (dropped n) = item (ascii "dropped") n []

-- the lines of what is told where d messages were given up before, of which the first 4,096 are told;
abbrev pub lines_from : ℕ → List Item → List ℕ
lines_from d [] = []
lines_from d (request n m ∷ is) = line_of (request n m) ++ lines_from d is
lines_from d (reply ms m ∷ is) = line_of (reply ms m) ++ lines_from d is
lines_from d (dropped n ∷ is) = cond (ltb d 4096) (line_of (dropped n)) [] ++ lines_from (next d) is

-- how many were given up;
abbrev pub given_up_from : ℕ → List Item → ℕ
given_up_from d [] = d
given_up_from d (request n m ∷ is) = given_up_from d is
given_up_from d (reply ms m ∷ is) = given_up_from d is
given_up_from d (dropped n ∷ is) = given_up_from (next d) is

-- and all of it.
abbrev pub in_full : Imported → Written
in_full (import.refused_line n line) = refused_line n line
in_full (import.refused n) = refused n
in_full (import.told is) = lines (lines_from 0 is) (given_up_from 0 is - 4096) (log (put_entries plain (entries_from 0 is)) (replies_of is))

-- So much room always suffices: no line is left out for want of it.
abbrev pub Suffices : Type 0
Suffices = (room ask answer : ℕ) (text : List ℕ) → 272410 ≤ room → written room (imported ask answer text) ≡ in_full (imported ask answer text)

-- For every text, however it comes in pieces: the definition's result, with its refusals in their order.
abbrev pub Imports : Type 0
Imports = (room ask answer : ℕ) (text : List ℕ) → ended room ask answer (bytes room ask answer start text) ≡ written room (imported ask answer text)

-- "14 and 16 as the lines come": the first of them decides, and what stands behind it need not be read.
abbrev pub Settles : Type 0
Settles =
    (room ask answer : ℕ) (text rest : List ℕ) → settled (bytes room ask answer start text) ≡ true →
    imported ask answer (text ++ rest) ≡ imported ask answer text

-- Refusal 17 is due as soon as a reply does not fit, and only then.
abbrev pub Overflows : Type 0
Overflows = (room : ℕ) (is : List Item) → (tells room nothing is).over ≡ not (within is)

-- The times of the events never fall.
abbrev pub rises : ℕ → List Item → Bool
rises t [] = true
rises t (request n m ∷ is) = rises t is
rises t (dropped n ∷ is) = rises t is
rises t (reply u m ∷ is) = leb t u && rises u is

abbrev pub Rises : Type 0
Rises = (ask answer : ℕ) (text : List ℕ) (is : List Item) → imported ask answer text ≡ import.told is → rises 0 is ≡ true

-- At most 512 events, none above document 01's limit, and at most 65,535 reply bytes.
abbrev pub Limited : Type 0
Limited = (ask answer : ℕ) (text : List ℕ) (is : List Item) → imported ask answer text ≡ import.told is → within is ≡ true

-- "The events that come out always pass refusal 10": as the bytes of a log.
abbrev pub Passes : Type 0
Passes =
    (ask answer : ℕ) (text : List ℕ) (is : List Item) → imported ask answer text ≡ import.told is →
    let events = put_entries plain (entries_from 0 is) in
    (every is_byte events ≡ true) × (within_limits plain events (replies_of is) ≡ true)
