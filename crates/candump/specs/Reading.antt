-- A line, a byte at a time: how far it was read, and what one byte more makes of that.
use Rattle.std.specs.Prelude.{ℕ, ◌+◌, ◌*◌, ◌%◌, Bool, true, false, cond, ◌&&◌, List, [], ◌∷◌, ◌≡◌, leb, ltb, eqb, take, set, replicate}
use Rattle.candump.specs.Text.{between, Hex, Printable, is, worth}
use Rattle.candump.specs.Lines.{Line, blank, unreadable, other, frame, is_direction, is_identifier, read}
use Rattle.candump.specs.declared.Found.{Found}
use Rattle.candump.specs.declared.Found.TheVariants.{Blank, Unreadable, Other, Frame}
use Rattle.candump.specs.declared.Phase.{Phase}
use Rattle.candump.specs.declared.Phase.TheVariants.{Start, Blanks, Seconds, Micros, Closed, BeforeName, Name, BeforeIdentifier, Identifier}
use Rattle.candump.specs.declared.Phase.TheVariants.{Data, Half, Remote, Fd, Behind, Spaced, Directed, Bad}
use Rattle.candump.specs.declared.Reader.{Reader}

-- One digit more. The remainders, here and below, change no number that so few digits have: they keep every number inside 64 bits.
abbrev pub more : ℕ → ℕ → ℕ → ℕ
more base v c = v % 0x100000000000000 * base + worth c

abbrev pub microseconds : ℕ → ℕ → ℕ
microseconds seconds v = seconds % 0x10000000000 * 1000000 + v % 0x100000000000000

abbrev pub can_id : ℕ → ℕ → ℕ
can_id n v = cond (eqb n 3) v (0x80000000 + v % 0x100000000000000)

abbrev pub classic_found : ℕ → ℕ → ℕ → Found
classic_found time id n = cond (leb id 0x9fffffff) (Frame time id n) (Other time)

unfoldable pub after : Phase → ℕ → Phase
after Start c = cond (eqb c 32) Blanks (cond (eqb c 40) (Seconds 0 0) Bad)
after Blanks c = cond (eqb c 32) Blanks Bad
after (Seconds n v) c =
    cond (between 48 57 c) (cond (ltb n 10) (Seconds (n % 16 + 1) (more 10 v c)) Bad) (cond (between 1 10 n && eqb c 46) (Micros v 0 0) Bad)
after (Micros s n v) c =
    cond (between 48 57 c) (cond (ltb n 6) (Micros s (n % 16 + 1) (more 10 v c)) Bad) (cond (eqb n 6 && eqb c 41) (Closed (microseconds s v)) Bad)
after (Closed t) c = cond (eqb c 32) (BeforeName t) Bad
after (BeforeName t) c = cond (eqb c 32) (BeforeName t) (cond (is Printable c) (Name t) Bad)
after (Name t) c = cond (is Printable c) (Name t) (cond (eqb c 32) (BeforeIdentifier t) Bad)
after (BeforeIdentifier t) c = cond (eqb c 32) (BeforeIdentifier t) (cond (is Hex c) (Identifier t 1 (worth c)) Bad)
after (Identifier t n v) c =
    cond (is Hex c) (cond (ltb n 8) (Identifier t (n % 16 + 1) (more 16 v c)) Bad) (cond (is_identifier n v && eqb c 35) (Data t (can_id n v) 0) Bad)
after (Data t id n) c =
    cond (is Hex c) (cond (ltb n 8) (Half t id n (worth c)) Bad)
    (cond (eqb c 32) (Spaced (classic_found t id n)) (cond (eqb n 0 && eqb c 82) (Remote t) (cond (eqb n 0 && eqb c 35) (Fd t 0) Bad)))
after (Half t id n h) c = cond (is Hex c) (Data t id (n % 8 + 1)) Bad
after (Remote t) c = cond (between 48 56 c) (Behind (Other t)) (cond (eqb c 32) (Spaced (Other t)) Bad)
after (Fd t n) c = cond (is Hex c) (cond (ltb n 129) (Fd t (n % 129 + 1)) Bad) (cond (eqb (n % 2) 1 && eqb c 32) (Spaced (Other t)) Bad)
after (Behind f) c = cond (eqb c 32) (Spaced f) Bad
after (Spaced f) c = cond (eqb c 32) (Spaced f) (cond (is_direction c) (Directed f) Bad)
after (Directed f) c = cond (eqb c 32) (Directed f) Bad
after Bad c = Bad

-- A second digit makes a byte.
unfoldable pub stored : Phase → List ℕ → ℕ → List ℕ
stored Start d c = d
stored Blanks d c = d
stored (Seconds n v) d c = d
stored (Micros s n v) d c = d
stored (Closed t) d c = d
stored (BeforeName t) d c = d
stored (Name t) d c = d
stored (BeforeIdentifier t) d c = d
stored (Identifier t n v) d c = d
stored (Data t id n) d c = d
stored (Half t id n h) d c = set d (n % 8) (h % 16 * 16 + worth c)
stored (Remote t) d c = d
stored (Fd t n) d c = d
stored (Behind f) d c = d
stored (Spaced f) d c = d
stored (Directed f) d c = d
stored Bad d c = d

-- "one CR may stand before the LF": nothing may follow it.
abbrev pub next : Reader → ℕ → Reader
next r c = record {
  phase = cond r.returned Bad (cond (eqb c 13) r.phase (after r.phase c));
  returned = eqb c 13;
  bytes = stored r.phase r.bytes c;
}

-- What the line is, if it ends here.
unfoldable pub ended : Phase → Found
ended Start = Blank
ended Blanks = Blank
ended (Seconds n v) = Unreadable
ended (Micros s n v) = Unreadable
ended (Closed t) = Unreadable
ended (BeforeName t) = Unreadable
ended (Name t) = Unreadable
ended (BeforeIdentifier t) = Unreadable
ended (Identifier t n v) = Unreadable
ended (Data t id n) = classic_found t id n
ended (Half t id n h) = Unreadable
ended (Remote t) = Other t
ended (Fd t n) = cond (eqb (n % 2) 1) (Other t) Unreadable
ended (Behind f) = f
ended (Spaced f) = f
ended (Directed f) = f
ended Bad = Unreadable

-- The line can't be read, whatever follows.
unfoldable pub hopeless : Phase → Bool
hopeless Start = false
hopeless Blanks = false
hopeless (Seconds n v) = false
hopeless (Micros s n v) = false
hopeless (Closed t) = false
hopeless (BeforeName t) = false
hopeless (Name t) = false
hopeless (BeforeIdentifier t) = false
hopeless (Identifier t n v) = false
hopeless (Data t id n) = false
hopeless (Half t id n h) = false
hopeless (Remote t) = false
hopeless (Fd t n) = false
hopeless (Behind f) = false
hopeless (Spaced f) = false
hopeless (Directed f) = false
hopeless Bad = true

abbrev pub begun : Reader
begun = record { phase = Start; returned = false; bytes = replicate 8 0 }

abbrev pub line_of : Found → List ℕ → Line
line_of Blank d = blank
line_of Unreadable d = unreadable
line_of (Other time) d = other time
line_of (Frame time id n) d = frame time id (take n d)

unfoldable pub read_on : Reader → List ℕ → Reader
read_on r [] = r
read_on r (c ∷ t) = read_on (next r c) t

-- Reading byte by byte is reading the line, however long it is.
abbrev pub Reads : Type 0
Reads = (l : List ℕ) → let r = read_on begun l in line_of (ended r.phase) r.bytes ≡ read l

-- What can't be read stays so.
abbrev pub Hopeless : Type 0
Hopeless = (r : Reader) (t : List ℕ) → hopeless r.phase ≡ true → let s = read_on r t in line_of (ended s.phase) s.bytes ≡ unreadable
