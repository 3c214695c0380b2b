-- What a host hands over, against the call.
use Prim.Native.Nat.{ℕ, zero, suc, ◌+◌, ◌/◌, ◌≤◌}
use native.Mathlib.Omega.{arith}
use mathlib.Core.Bool.{Bool, true, false, cond, ◌&&◌}
use mathlib.Core.Path.{◌≡◌, refl, sym, ◌∙◌, ap, subst, subst⁻¹}
use mathlib.Core.List.{List, [], ◌∷◌, ◌++◌, map}
use mathlib.Core.Option.{Option, some}
use lib.Dec.{ltb, eqb}
use lib.ListN.{length, length-map}
use borrow.Author.Tests.{leb-true, lt-ltb}
use Rattle.rules.specs.After.{number_of, timing_of}
use Rattle.rules.specs.Bytes.{every}
use Rattle.rules.specs.Calls.{Call, request_of, loads, numbered}
use Rattle.rules.specs.Client.{Result, asked, entries_in, events_in, refuse, call}
use Rattle.rules.specs.Events.{Form, event_size, Entry, entries_from, Event, event_of, sound, within_limits}
use Rattle.rules.specs.Exchange.{Asked, start, exchange}
use Rattle.rules.specs.Refusals.{refusals}
use Rattle.rules.specs.Settings.{Setting, Lent}
use Rattle.rules.proofs.Judging.{both, judge-ind}
use Rattle.rules.proofs.Limits as Limits
use Rattle.stepwise.specs.Driven.{Merged, InOrder, clock, Valid, Due, Means}
use Rattle.stepwise.specs.Engine.{event, tick, Engine, waiting, decided, decision, step, run, begin}
use Rattle.stepwise.specs.Handed.{Handed, lent, now, input_of, hands, run_of, Handing, done, takes, ticks, Handled}
use Rattle.stepwise.proofs.Driven.{driven, run-append}

-- Where each event is sound, only their number is left of 10.
abbrev pub few : ℕ → Event → Bool
few read e = ltb read 512

merged : (listens : ℕ) {replies : List ℕ} {es : List Entry} {ts : List ℕ} {hs : List Handed} → Handing replies es ts hs → Merged (map (event_of listens replies) es) ts (map (input_of listens) hs)
merged listens done = Rattle.stepwise.specs.Driven.done
merged listens (takes m) = Rattle.stepwise.specs.Driven.takes (merged listens m)
merged listens (ticks m) = Rattle.stepwise.specs.Driven.ticks (merged listens m)

module _ (strict : Bool) (a : Asked) (overall : Option ℕ) (listens : ℕ) where
  pub event-step : (z : Engine) (replies : List ℕ) (e : Entry) → sound replies e ≡ true
      → hands strict a overall listens z (lent replies e) ≡ step few strict a overall z (event (event_of listens replies e))
  unfolding step
  event-step (decided x) replies e h = refl
  event-step (waiting last s) replies e h = rw h refl

  pub tick-step : (z : Engine) (t : ℕ) → hands strict a overall listens z (now t) ≡ step few strict a overall z (tick t)
  unfolding step
  tick-step (decided x) t = refl
  tick-step (waiting last s) t = refl

  same-run : {replies : List ℕ} {es : List Entry} {ts : List ℕ} {hs : List Handed} → Handing replies es ts hs → every (sound replies) es ≡ true → (z : Engine)
      → run_of strict a overall listens z hs ≡ run few strict a overall z (map (input_of listens) hs)
  unfolding run run_of
  same-run done h z = refl
  same-run {replies = replies} (takes {e = e} {es = es} {hs = hs} m) h z =
      let k = both (sound replies e) (every (sound replies) es) h in
      ap (λ y. run_of strict a overall listens y.engine hs) (event-step z replies e k.0) ∙ same-run m k.1 (step few strict a overall z (event (event_of listens replies e))).engine
  same-run (ticks {t = t} {hs = hs} m) h z =
      ap (λ y. run_of strict a overall listens y.engine hs) (tick-step z t) ∙ same-run m h (step few strict a overall z (tick t)).engine

  pub run_of-append : (z : Engine) (hs : List Handed) (h : Handed) → run_of strict a overall listens z (hs ++ (h ∷ [])) ≡ (hands strict a overall listens (run_of strict a overall listens z hs) h).engine
  unfolding run_of
  run_of-append z [] h = refl
  run_of-append z (k ∷ hs) h = run_of-append (hands strict a overall listens z k).engine hs h

  -- With one tick more.
  pub last-run : (z : Engine) (hs : List Handed) (t : ℕ) → run_of strict a overall listens z hs ≡ run few strict a overall z (map (input_of listens) hs)
      → run_of strict a overall listens z (hs ++ (now t ∷ [])) ≡ run few strict a overall z (map (input_of listens) hs ++ (tick t ∷ []))
  unfolding run
  last-run z hs t e =
      run_of-append z hs (now t) ∙
      ap (λ (y : Engine). (hands strict a overall listens y (now t)).engine) e ∙
      ap (λ y. y.engine) (tick-step (run few strict a overall z (map (input_of listens) hs)) t) ∙
      sym (run-append few strict a overall z (map (input_of listens) hs) (tick t ∷ []))

-- At most 512 events.
entries-length : (form : Form) (bs : List ℕ) (n i : ℕ) → length (entries_from form bs n i) ≡ n
unfolding entries_from
entries-length form bs zero i = refl
entries-length form bs (suc n) i = omega (arith, entries-length form bs n (suc i))

all-few : (es : List Event) (n : ℕ) → n + length es ≤ 512 → Valid few n es
all-few [] n h = tt
all-few (e ∷ es) n h = (lt-ltb n 512 (omega arith), all-few es (suc n) (omega arith))

prefix : (strict : Bool) (a : Asked) (overall : Option ℕ) (listens : ℕ) (replies : List ℕ) (es : List Entry) (ts : List ℕ) (hs : List Handed)
    → every (sound replies) es ≡ true → length es ≤ 512 → Handing replies es ts hs → let is = map (input_of listens) hs in
    InOrder 0 is → Means strict a overall (start a) (map (event_of listens replies) es) (clock 0 is) (run_of strict a overall listens (waiting 0 (start a)) hs)
prefix strict a overall listens replies es ts hs sounds most m o =
    let is = map (input_of listens) hs in
    let events = map (event_of listens replies) es in
    subst⁻¹ (Means strict a overall (start a) events (clock 0 is)) (same-run strict a overall listens m sounds (waiting 0 (start a)))
    ((driven few).prefix strict a overall events ts is (merged listens m) o (all-few events 0 (omega (arith, most, length-map es (event_of listens replies)))))

record Allowed (l : Lent) : Type 0 where
  valid : Valid few 0 (events_in l)
  sounds : every (sound l.replies) (entries_in l) ≡ true

allowed : (l : Lent) → within_limits l.form l.events l.replies ≡ true → Allowed l
allowed l h =
    let k = Limits.limits l.form l.listens l.events l.replies h in
    let n = length l.events / event_size l.form in
    let m = leb-true n 512 k.at-most in
    record {
      valid = all-few (events_in l) 0 (omega (arith, m, length-map (entries_in l) (event_of l.listens l.replies), entries-length l.form l.events n 0));
      sounds = k.each;
    }

exchanges : (strict : Bool) (a : Asked) (overall : Option ℕ) (l : Lent) (ts : List ℕ) (hs : List Handed) (last : ℕ) → within_limits l.form l.events l.replies ≡ true →
    let engine = run_of strict a overall l.listens (waiting 0 (start a)) in
    Handing l.replies (entries_in l) ts hs → InOrder 0 (map (input_of l.listens) hs ++ (tick last ∷ [])) → Due overall (engine hs) last
    → engine (hs ++ (now last ∷ [])) ≡ decided (exchange strict a overall (events_in l))
exchanges strict a overall l ts hs last h m o d =
    let k = allowed l h in
    let z = waiting 0 (start a) in
    let same = same-run strict a overall l.listens m k.sounds z in
    last-run strict a overall l.listens z hs last same ∙
    (driven few).answers strict a overall (events_in l) ts (map (input_of l.listens) hs) last (merged l.listens m) o k.valid (subst (λ (y : Engine). Due overall y last) same d)

answers : (strict : Bool) (w : Setting) (c : Call) (l : Lent) (ts : List ℕ) (hs : List Handed) (last : ℕ) → within_limits l.form l.events l.replies ≡ true
    → Handing l.replies (entries_in l) ts hs → InOrder 0 (map (input_of l.listens) hs ++ (tick last ∷ []))
    → Due w.overall (run_of strict (asked w c) w.overall l.listens (begin w c l.buffer) hs) last
    → decision strict c (run_of strict (asked w c) w.overall l.listens (begin w c l.buffer) (hs ++ (now last ∷ []))) ≡ some (call strict w c l).answer
answers strict w c l ts hs last h m o d =
    let k = allowed l h in
    let z = begin w c l.buffer in
    let same = same-run strict (asked w c) w.overall l.listens m k.sounds z in
    ap (decision strict c) (last-run strict (asked w c) w.overall l.listens z hs last same) ∙
    (driven few).whole strict w c l ts (map (input_of l.listens) hs) last h (merged l.listens m) o k.valid (subst (λ (y : Engine). Due w.overall y last) same d)

leaves : (strict : Bool) (w : Setting) (c : Call) (l : Lent) →
    let x = call strict w c l in
    (x.number ≡ number_of c x.answer.outcome) × (x.timing ≡ timing_of w.server_timing c x.answer.outcome w.timing)
unfolding call
leaves strict w c l =
    judge-ind (λ (x : Result). (x.number ≡ number_of c x.answer.outcome) × (x.timing ≡ timing_of w.server_timing c x.answer.outcome w.timing))
    (refuse w l) (refusals c (request_of w.quiet c) l.buffer l.form l.events l.replies) _ (λ n. (nothing (loads c), same (eqb (numbered c) 1 && w.server_timing))) (λ p. (refl, refl))
  where
    nothing : (b : Bool) → 0 ≡ cond {A = ℕ} b 0 0
    nothing true = refl
    nothing false = refl

    same : (b : Bool) → w.timing ≡ cond b w.timing w.timing
    same true = refl
    same false = refl

pub handled : Handled
handled = record { prefix = prefix; exchanges = exchanges; answers = answers; leaves = leaves }
