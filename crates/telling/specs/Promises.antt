-- What is promised of a story, as statements.
use Rattle.std.specs.Prelude.{ℕ, ◌+◌, ◌≤◌, Bool, true, false, List, [], ◌∷◌, ◌++◌, map, ◌⊎◌, ◌≡◌, length}
use Rattle.std.proofs.Math.Option.{Option}
use Rattle.rules.specs.Counts.{Rising}
use Rattle.rules.specs.Events.{Entry, event_of}
use Rattle.rules.specs.Exchange.{Asked, State, Turn, on, ends, start, turn, exchange}
use Rattle.rules.specs.Logs.{line_of}
use Rattle.log_fields.specs.Promises.{Bytes}
use Rattle.telling.specs.Story.{Line, read, late, over, unread, tell}
use Rattle.telling.specs.Telling.{telling, story}

-- "its last line is `udslog`'s line for every input", which is bytes: what stands before it ends in a newline.
abbrev pub LastLine : Type 0
LastLine = (l : List ℕ) → Bytes l → (before : List ℕ) × (story l ≡ (before ++ (10 ∷ [])) ++ line_of l)

-- The events that a story tells as read, and as never read.
abbrev pub read_in : List Line → List Entry
read_in [] = []
read_in (read e s x ∷ ls) = e ∷ read_in ls
read_in (late s ∷ ls) = read_in ls
read_in (over t ∷ ls) = read_in ls
read_in (unread e ∷ ls) = read_in ls

abbrev pub unread_in : List Line → List Entry
unread_in [] = []
unread_in (read e s x ∷ ls) = unread_in ls
unread_in (late s ∷ ls) = unread_in ls
unread_in (over t ∷ ls) = unread_in ls
unread_in (unread e ∷ ls) = e ∷ unread_in ls

-- "each event that was read has exactly one line, in order": the lines' events are the list's, the read ones first.
abbrev pub InOrder : Type 0
InOrder =
    (strict : Bool) (a : Asked) (overall : Option ℕ) (listens : ℕ) (r : List ℕ) (es : List Entry)
    → let ls = tell strict a overall listens r es (start a) in read_in ls ++ unread_in ls ≡ es

-- They are as many as the exchange counts; "Times in the list never fall".
abbrev pub CountsThem : Type 0
CountsThem =
    (strict : Bool) (a : Asked) (overall : Option ℕ) (listens : ℕ) (r : List ℕ) (es : List Entry) → Rising 0 (map (event_of listens r) es)
    → length (read_in (tell strict a overall listens r es (start a))) ≡ (exchange strict a overall (map (event_of listens r) es)).events

-- No event is read any more.
abbrev pub Over : List Line → Type 0
Over ls = read_in ls ≡ []

-- "the deadline and the counts that it tells after each event are those of the definition's state": a line has the state behind the events before it, and the turn that
-- the exchange takes from there; behind an event that settles, and behind the deadline or T, none is read.
abbrev pub Follows : Bool → Asked → ℕ → List ℕ → List Line → State → Type 0
Follows strict a listens r [] s = Unit {0}
Follows strict a listens r (read e s₀ (on s') ∷ ls) s = (s₀ ≡ s) × (turn strict a s (event_of listens r e) ≡ on s') × Follows strict a listens r ls s'
Follows strict a listens r (read e s₀ (ends x) ∷ ls) s = (s₀ ≡ s) × (turn strict a s (event_of listens r e) ≡ ends x) × Over ls
Follows strict a listens r (late s₀ ∷ ls) s = (s₀ ≡ s) × Over ls
Follows strict a listens r (over t ∷ ls) s = Over ls
Follows strict a listens r (unread e ∷ ls) s = Over ls

abbrev pub TellsTheState : Type 0
TellsTheState =
    (strict : Bool) (a : Asked) (overall : Option ℕ) (listens : ℕ) (r : List ℕ) (es : List Entry)
    → Follows strict a listens r (tell strict a overall listens r es (start a)) (start a)
