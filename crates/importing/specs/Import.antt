-- Request Eight: "Take the frames of one request identifier and one reply identifier, .. and produce the events after the first whole request that is found."
use Rattle.std.specs.Prelude.{ℕ, ◌+◌, ◌-◌, ◌/◌, Bool, true, false, cond, ◌&&◌, ◌||◌, List, [], ◌∷◌, ◌++◌, leb, ltb, eqb, length}
use Rattle.std.proofs.Math.Option.{Option, none, some}
use Rattle.isotp.specs.Joining.{State, idle, Fed, feed}
use Rattle.candump.specs.Lines.{Line, blank, unreadable, other, frame, read}
use Rattle.importing.specs.Texts.{lines}

-- What is told: the request and its line; a reply, its milliseconds since the request and its bytes; a line at which a message was given up.
pub data Item : Type 0 where
  request : ℕ → List ℕ → Item
  reply : ℕ → List ℕ → Item
  dropped : ℕ → Item

-- What is known between two lines: how many there were, the last time, both messages under way, the request's time, what was told.
pub record Known : Type 0 where
  pub line : ℕ
  pub time : ℕ
  pub asking : State
  pub answering : State
  pub start : Option ℕ
  pub told : List Item

-- Or a line was refused: the refusal's number, and the line's.
pub data Import : Type 0 where
  going : Known → Import
  refused_at : ℕ → ℕ → Import

abbrev pub begins : Import
begins = going (record { line = 0; time = 0; asking = idle; answering = idle; start = none; told = [] })

-- Lines are numbered in 64 bits. (The text of so many lines would be longer than any file.)
abbrev pub next : ℕ → ℕ
next n = cond (ltb n 0xffffffffffffffff) (n + 1) n

-- Frames of another identifier say nothing, as a frame without data does.
abbrev pub heard : Bool → State → List ℕ → Fed
heard mine s bytes = feed s (cond mine bytes [])

-- "the first whole request that is found": its last frame's time.
abbrev pub started : Option ℕ → ℕ → Option (List ℕ) → Option ℕ
started (some t) time asked = some t
started none time none = none
started none time (some m) = some time

-- "a message under way was given up (at most one such line for each LINE, before a `reply` of the same line)"
abbrev pub drops : Bool → ℕ → List Item
drops true line = dropped line ∷ []
drops false line = []

-- "times become milliseconds since that request, rounded down"
abbrev pub gives : Option ℕ → ℕ → ℕ → Option (List ℕ) → Option (List ℕ) → List Item
gives none line time none answered = []
gives none line time (some m) answered = request line m ∷ []
gives (some t) line time asked none = []
gives (some t) line time asked (some m) = reply ((time - t) / 1000) m ∷ []

-- "16 any line's time goes back"
abbrev pub in_order : Known → ℕ → Known → Import
in_order k time after = cond (ltb time k.time) (refused_at 16 (next k.line)) (going after)

abbrev pub framed : ℕ → ℕ → Known → ℕ → ℕ → List ℕ → Known
framed ask answer k time id bytes =
    let line = next k.line in
    let asks = heard (eqb id ask) k.asking bytes in
    let answers = heard (eqb id answer) k.answering bytes in
    record {
      line = line;
      time = time;
      asking = asks.state;
      answering = answers.state;
      start = started k.start time asks.gives;
      told = k.told ++ (drops (asks.drops || answers.drops) line ++ gives k.start line time asks.gives answers.gives);
    }

abbrev pub passed : Known → ℕ → Known
passed k time = record { line = next k.line; time = time; asking = k.asking; answering = k.answering; start = k.start; told = k.told }

abbrev pub known : ℕ → ℕ → Known → Line → Import
known ask answer k blank = going (passed k k.time)
known ask answer k unreadable = refused_at 14 (next k.line)
known ask answer k (other time) = in_order k time (passed k time)
known ask answer k (frame time id bytes) = in_order k time (framed ask answer k time id bytes)

-- One line more: "14 and 16 as the lines come".
abbrev pub step : ℕ → ℕ → Import → Line → Import
step ask answer (going k) l = known ask answer k l
step ask answer (refused_at n line) l = refused_at n line

unfoldable pub walk : ℕ → ℕ → Import → List (List ℕ) → Import
walk ask answer i [] = i
walk ask answer i (l ∷ ls) = walk ask answer (step ask answer i (read l)) ls

-- The events of what was told.
abbrev pub count : List Item → ℕ
count [] = 0
count (request line m ∷ is) = count is
count (reply t m ∷ is) = count is + 1
count (dropped line ∷ is) = count is

abbrev pub size : List Item → ℕ
size [] = 0
size (request line m ∷ is) = size is
size (reply t m ∷ is) = length m + size is
size (dropped line ∷ is) = size is

abbrev pub early : List Item → Bool
early [] = true
early (request line m ∷ is) = early is
early (reply t m ∷ is) = leb t 4294967295 && early is
early (dropped line ∷ is) = early is

-- "17 more than 512 events, a time above document 01's limit or reply bytes beyond the lent buffer", which "holds 65,535 bytes".
abbrev pub within : List Item → Bool
within is = leb (count is) 512 && early is && leb (size is) 65535

pub data Imported : Type 0 where
  refused_line : ℕ → ℕ → Imported
  refused : ℕ → Imported
  told : List Item → Imported

-- "then 15, then 17"
abbrev pub judged : Import → Imported
judged (refused_at n line) = refused_line n line
judged (going k) = requested k.start
  where
    requested : Option ℕ → Imported
    requested none = refused 15
    requested (some t) = cond (within k.told) (told k.told) (refused 17)

unfoldable pub imported : ℕ → ℕ → List ℕ → Imported
imported ask answer text = judged (walk ask answer begins (lines text))
