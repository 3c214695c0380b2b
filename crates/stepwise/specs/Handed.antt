-- As a host hands them: an event by its bytes' numbers, with the reply bytes lent with it; or a tick. The engine listens to one source address: a reply of another is an idle. And the whole call against it.
use Rattle.std.specs.Prelude.{ℕ, ◌≤◌, Bool, true, ◌&&◌, ◌≡◌, List, [], ◌∷◌, ◌++◌, map, ltb, length}
use Rattle.std.proofs.Math.Option.{Option, some}
use Rattle.rules.specs.After.{number_of, timing_of}
use Rattle.rules.specs.Bytes.{every}
use Rattle.rules.specs.Calls.{Call}
use Rattle.rules.specs.Client.{asked, entries_in, events_in, call}
use Rattle.rules.specs.Events.{Entry, Event, event_of, sound, within_limits}
use Rattle.rules.specs.Exchange.{Asked, start, exchange}
use Rattle.rules.specs.Settings.{Setting, Lent}
use Rattle.stepwise.specs.Driven.{InOrder, clock, Due, Means}
use Rattle.stepwise.specs.Engine.{Input, event, tick, Engine, waiting, decided, decision, Stepped, step, begin}

pub data Handed : Type 0 where
  lent : List ℕ → Entry → Handed
  now : ℕ → Handed

abbrev pub input_of : ℕ → Handed → Input
input_of listens (lent replies e) = event (event_of listens replies e)
input_of listens (now t) = tick t

-- 10: an unknown kind, a reply over 4,095 bytes or outside the lent bytes, a time over 2^32 − 1, a source address on what is no reply; a 513th event. 20: the time.
abbrev pub fits_as : Handed → ℕ → Event → Bool
fits_as (lent replies e) read x = sound replies e && ltb read 512
fits_as (now t) read x = true

abbrev pub hands : Bool → Asked → Option ℕ → ℕ → Engine → Handed → Stepped
hands strict a overall listens z h = step (fits_as h) strict a overall z (input_of listens h)

unfoldable pub run_of : Bool → Asked → Option ℕ → ℕ → Engine → List Handed → Engine
run_of strict a overall listens z [] = z
run_of strict a overall listens z (h ∷ hs) = run_of strict a overall listens (hands strict a overall listens z h).engine hs

-- The entries of a list, lent with its reply bytes, and ticks, merged.
pub data Handing (replies : List ℕ) : List Entry → List ℕ → List Handed → Type 0 where
  done : Handing replies [] [] []
  takes : {e : Entry} {es : List Entry} {ts : List ℕ} {hs : List Handed} → Handing replies es ts hs → Handing replies (e ∷ es) ts (lent replies e ∷ hs)
  ticks : {t : ℕ} {es : List Entry} {ts : List ℕ} {hs : List Handed} → Handing replies es ts hs → Handing replies es (t ∷ ts) (now t ∷ hs)

pub record Handled : Type 0 where
  -- Behind sound events, 512 at most, and any ticks: the state that the events leave, or the answer that they have.
  pub prefix : (strict : Bool) (a : Asked) (overall : Option ℕ) (listens : ℕ) (replies : List ℕ) (es : List Entry) (ts : List ℕ) (hs : List Handed)
      → every (sound replies) es ≡ true → length es ≤ 512 → Handing replies es ts hs → let is = map (input_of listens) hs in
      InOrder 0 is → Means strict a overall (start a) (map (event_of listens replies) es) (clock 0 is) (run_of strict a overall listens (waiting 0 (start a)) hs)
  -- A list within the limits, and any ticks: the exchange's answer in the end.
  pub exchanges : (strict : Bool) (a : Asked) (overall : Option ℕ) (l : Lent) (ts : List ℕ) (hs : List Handed) (last : ℕ) → within_limits l.form l.events l.replies ≡ true →
      let engine = run_of strict a overall l.listens (waiting 0 (start a)) in
      Handing l.replies (entries_in l) ts hs → InOrder 0 (map (input_of l.listens) hs ++ (tick last ∷ [])) → Due overall (engine hs) last
      → engine (hs ++ (now last ∷ [])) ≡ decided (exchange strict a overall (events_in l))
  -- A list within the limits, and any ticks: the answer is the call's, refused or not.
  pub answers : (strict : Bool) (w : Setting) (c : Call) (l : Lent) (ts : List ℕ) (hs : List Handed) (last : ℕ) → within_limits l.form l.events l.replies ≡ true →
      let engine = run_of strict (asked w c) w.overall l.listens (begin w c l.buffer) in
      Handing l.replies (entries_in l) ts hs → InOrder 0 (map (input_of l.listens) hs ++ (tick last ∷ [])) → Due w.overall (engine hs) last
      → decision strict c (engine (hs ++ (now last ∷ []))) ≡ some (call strict w c l).answer
  -- The number and the session timing are what the answer makes them.
  pub leaves : (strict : Bool) (w : Setting) (c : Call) (l : Lent) →
      let x = call strict w c l in
      (x.number ≡ number_of c x.answer.outcome) × (x.timing ≡ timing_of w.server_timing c x.answer.outcome w.timing)
