-- The counts: "the number of events read and of pending notices, the settling event included. Under a timeout at T these count only events at times up to T." Both modes.
use Rattle.std.specs.Prelude.{ℕ, suc, ◌≤◌, ◌<◌, Bool, true, false, cond, ◌&&◌, ◌≡◌, ◌⊎◌, List, [], ◌∷◌, ◌++◌, map, length}
use Rattle.std.proofs.Math.Option.{none, some}
use Rattle.rules.specs.Conversations.{Every}
use Rattle.rules.specs.Events.{Event, reply, idle, ended, failed, time_of, up_to}
use Rattle.rules.specs.Exchange.{Asked, Step, pending, settles, look, allows, exchange}

abbrev pub is_pending : Step → Bool
is_pending pending = true
is_pending (settles o) = false

-- A reply that asks for patience.
abbrev pub is_notice : Bool → Asked → Event → Bool
is_notice strict a (reply t p) = is_pending (look strict a false p)
is_notice strict a (idle t) = false
is_notice strict a (ended t) = false
is_notice strict a (failed t n) = false

-- An event that settles nothing behind so many notices: an idle, or a notice that the limit allows.
abbrev pub passes : Bool → Asked → ℕ → Event → Bool
passes strict a notices (reply t p) = is_pending (look strict a false p) && allows a.limit notices
passes strict a notices (idle t) = true
passes strict a notices (ended t) = false
passes strict a notices (failed t n) = false

-- How many notices there are behind an event, and behind these.
abbrev pub noted : Bool → Asked → ℕ → Event → ℕ
noted strict a notices e = cond (is_notice strict a e) (suc notices) notices

abbrev pub noted_in : Bool → Asked → ℕ → List Event → ℕ
noted_in strict a notices [] = notices
noted_in strict a notices (e ∷ es) = noted_in strict a (noted strict a notices e) es

-- None of these settles, each behind the notices before it.
abbrev pub Passing : Bool → Asked → ℕ → List Event → Type 0
Passing strict a notices [] = Unit {0}
Passing strict a notices (e ∷ es) = (passes strict a notices e ≡ true) × Passing strict a (noted strict a notices e) es

abbrev pub notices_in : Bool → Asked → List Event → List Event
notices_in strict a [] = []
notices_in strict a (e ∷ es) = cond (is_notice strict a e) (e ∷ notices_in strict a es) (notices_in strict a es)

abbrev pub After : ℕ → List Event → Type 0
After t [] = Unit {0}
After t (e ∷ es) = t < time_of e

-- "Times in the list never fall."
abbrev pub Rising : ℕ → List Event → Type 0
Rising t [] = Unit {0}
Rising t (e ∷ es) = (t ≤ time_of e) × Rising (time_of e) es

-- The events read behind so many notices end in the one that settles; or none settles, and the next comes after the finishing time.
abbrev pub UpToSettling : Bool → Asked → ℕ → List Event → List Event → ℕ → Type 0
UpToSettling strict a notices read rest time =
    ((before : List Event) × (e : Event) × (read ≡ before ++ (e ∷ [])) × Passing strict a notices before × (passes strict a (noted_in strict a notices before) e ≡ false)) ⊎
    (Passing strict a notices read × After time rest)

-- These are the events read by an exchange that finished at this time: up to the one that settles, none of them later than that.
pub record Reads (strict : Bool) (a : Asked) (es : List Event) (time : ℕ) (read rest : List Event) : Type 0 where
  pub begins : es ≡ read ++ rest
  pub settling : UpToSettling strict a 0 read rest time
  pub in-time : Rising 0 es → Every (λ e. time_of e ≤ time) read

pub record Counted (strict : Bool) (a : Asked) (es : List Event) : Type 0 where
  pub read : List Event
  pub rest : List Event
  pub reads : Reads strict a es (exchange strict a none es).time read rest
  pub no-others : Rising 0 es → (read' rest' : List Event) → Reads strict a es (exchange strict a none es).time read' rest'
      → (read' ≡ read) × (rest' ≡ rest)
  pub events : (exchange strict a none es).events ≡ length read
  pub notices : (exchange strict a none es).notices ≡ length (notices_in strict a read)
  pub within-overall : (overall : ℕ) → (exchange strict a none es).time ≤ overall → exchange strict a (some overall) es ≡ exchange strict a none es
  pub past-overall : (overall : ℕ) → overall < (exchange strict a none es).time →
      ((exchange strict a (some overall) es).events ≡ up_to overall (map time_of read)) ×
      ((exchange strict a (some overall) es).notices ≡ up_to overall (map time_of (notices_in strict a read)))

abbrev pub Counts : Type 0
Counts = (strict : Bool) (a : Asked) (es : List Event) → Counted strict a es
