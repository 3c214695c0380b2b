-- One event's turn, and the exchange over the events that are left.
use Prim.Native.Nat.{ℕ, ◌+◌, ◌-◌, ◌≤◌, ◌<◌}
use native.Mathlib.Omega.{arith}
use mathlib.Core.Bool.{Bool, true, false, cond, not, ◌&&◌}
use mathlib.Core.Path.{◌≡◌, refl, sym, ap, subst, ◌∙◌}
use mathlib.Core.List.{List, [], ◌∷◌, map}
use mathlib.Core.Option.{Option}
use borrow.Author.Tests.{eq-eqb}
use lib.Dec.{eqb}
use lib.ListN.{length, take, drop}
use Rattle.rules.specs.Answers.{part}
use Rattle.rules.specs.Events as events
use Rattle.rules.specs.Events.{Form, Entry, event_of, named, entry_at, entries_from}
use Rattle.rules.specs.Exchange as rules
use Rattle.rules.specs.Limited.{less, spent}
use Rattle.rules.specs.Exchange.{Asked, allows, look, finish, on, ends, turn, silence, settle}
use Rattle.rules.proofs.Turns as law
use Rattle.rules.proofs.Limits.{event-time}
use Rattle.exchange.specs.declared.types.Place.{Place}
use Rattle.exchange.specs.declared.types.Outcome.{Outcome}
use Rattle.exchange.specs.declared.types.Outcome.TheVariants as outcome
use Rattle.exchange.specs.declared.types.Outcome.TheVariants.{Disconnected, Transport, PendingLimit}
use Rattle.exchange.specs.declared.types.Step.{Step}
use Rattle.exchange.specs.declared.types.Step.TheVariants.{Pending, Settles}
use Rattle.exchange.specs.declared.types.Count.{Count}
use Rattle.exchange.specs.declared.types.State.{State}
use Rattle.exchange.specs.declared.types.Turn.{Turn}
use Rattle.exchange.specs.declared.types.Turn.TheVariants.{On, Ends}
use Rattle.exchange.specs.Counts.{counted}
use Rattle.exchange.specs.Meaning.{outcome_of, step_of, part_of, kind_heard}
use Rattle.exchange.specs.Places.{Looked, Named, WholeReply, cut, beginning, TurnsTo, Turns}
use Rattle.exchange.proofs.Placing.{take-taken}
use Rattle.exchange.proofs.Entries.{next-entry, no-entry, heard-reply, heard-idle}

-- The reply that an event names is judged as the part at its place is.
seen_as : (strict : Bool) (a : Asked) (hush : Bool) {e : Entry} {l : List ℕ} {p : Place} {s : Step} → Named l e p
    → Looked l s (look strict a hush (part_of l p)) → look strict a hush (named l e) ≡ step_of l s
seen_as strict a hush place seen = ap (look strict a hush) (sym place.means) ∙ sym seen.means

-- A reply is heard alike whether it is cut or not, and so it turns the exchange alike.
cut-heard : (listens : ℕ) (l : List ℕ) (e : Entry) → event_of listens l (cut l e) ≡ event_of listens l e
cut-heard listens l e = go (eqb e.kind 0)
  where
    size : Bool → ℕ
    size b = cond b (length (named l e).bytes) e.size

    heard : Bool → ℕ → events.Event
    heard b n =
        cond (b && not (eqb e.source listens)) (events.Event.idle e.time)
        (cond b (events.Event.reply e.time (part e.offset (take n (drop e.offset l))))
        (cond (eqb e.kind 1) (events.Event.idle e.time) (cond (eqb e.kind 2) (events.Event.ended e.time) (events.Event.failed e.time n))))

    go : (b : Bool) → heard b (size b) ≡ heard b e.size
    go true =
        ap (λ (bs : List ℕ). cond (not (eqb e.source listens)) (events.Event.idle e.time) (events.Event.reply e.time (part e.offset bs)))
        (take-taken e.size (drop e.offset l))
    go false = refl

pub cut-turns : {strict : Bool} {a : Asked} {overall : Option ℕ} (listens : ℕ) {s : State} (l : List ℕ) (e : Entry) {x : Turn}
    → Turns strict a overall listens s (cut l e) l x → Turns strict a overall listens s e l x
cut-turns {strict} {a} {overall} listens {s} l e {x} h = record {
  means = subst (λ (v : events.Event). TurnsTo overall l (beginning e) s x (turn strict (spent s.notices.all a) (rules.state s.hush s.deadline [] []) v))
      (cut-heard listens l e) h.means;
}

-- The place of a reply that has all that it names.
pub named-whole : (listens : ℕ) {l : List ℕ} {e : Entry} {kind : ℕ} → WholeReply l e → kind ≡ kind_heard listens e → kind ≡ 0
    → Named l e (record { at = e.offset; len = e.size })
named-whole listens {l} {e} there heard k = record { means = refl; whole = there (heard-reply listens l e (sym heard ∙ k)).1 }

-- The limit plays no part in that.
seen-spent : (strict : Bool) (a : Asked) (n : ℕ) (hush : Bool) {e : Entry} {l : List ℕ} {p : Place} {s : Step} → Named l e p
    → Looked l s (look strict a hush (part_of l p)) → look strict (spent n a) hush (named l e) ≡ step_of l s
seen-spent strict a n hush {e} {l} place seen = law.look-spent strict a n hush (named l e) ∙ seen_as strict a hush place seen

still : (a : Asked) (n : ℕ) {more b : Bool} → more ≡ allows a.limit n → more ≡ b → allows (less n a.limit) 0 ≡ b
still a n q b = sym (law.still-allows a.limit n) ∙ sym q ∙ b

-- An outcome waits or not wherever its data stands.
pub finish-anywhere : (a : Asked) (l : List ℕ) (o : Outcome) (t : ℕ) → finish a (outcome_of [] o) t ≡ finish a (outcome_of l o) t
finish-anywhere a l (outcome.PositiveResponse p) t = refl
finish-anywhere a l outcome.Suppressed t = refl
finish-anywhere a l (outcome.NegativeResponse c) t = refl
finish-anywhere a l outcome.Timeout t = refl
finish-anywhere a l outcome.Disconnected t = refl
finish-anywhere a l (outcome.Transport n) t = refl
finish-anywhere a l (outcome.Fault f) t = refl
finish-anywhere a l (outcome.Refused n) t = refl
finish-anywhere a l outcome.PendingLimit t = refl

module _ {strict : Bool} {a : Asked} {overall : Option ℕ} {listens : ℕ} {before : State} {e : Entry} {l : List ℕ} {kind : ℕ} (heard : kind ≡ kind_heard listens e) {read : Count}
    (counts : read ≡ counted overall e.time before.read) where
  module _ (a-reply : kind ≡ 0) {p : Place} (place : Named l e p) {s : Step} (seen : Looked l s (look strict a before.hush (part_of l p))) where
    module _ {notices : Count} (wait : s ≡ Pending) (noted : notices ≡ counted overall e.time before.notices) where
      pub turns-notice : {more : Bool} → more ≡ allows a.limit before.notices.all → more ≡ true
          → Turns strict a overall listens before e l (On (record { hush = false; deadline = e.time + a.timing.star; read = read; notices = notices }))
      turns-notice q m = record {
        means = rw ((heard-reply listens l e (sym heard ∙ a-reply)).0, seen-spent strict a before.notices.all before.hush place seen, wait, still a before.notices.all q m, counts, noted);
      }

      pub turns-limit : {more : Bool} → more ≡ allows a.limit before.notices.all → more ≡ false
          → Turns strict a overall listens before e l (Ends (record { outcome = PendingLimit; time = e.time; read = read; notices = notices; reply = p }))
      turns-limit q m = record {
        means = rw ((heard-reply listens l e (sym heard ∙ a-reply)).0, seen-spent strict a before.notices.all before.hush place seen, wait, still a before.notices.all q m) (record {
          means = refl;
          time = refl;
          read = counts;
          notices = noted;
          reply = place.means;
          inside = tt;
          whole = place.whole;
          starts = rw (eq-eqb e.kind 0 (heard-reply listens l e (sym heard ∙ a-reply)).1) (omega (arith, ap (λ x. x.at) place.means));
        });
      }

    pub turns-reply : {o : Outcome} {t : ℕ} → s ≡ Settles o → t ≡ finish a (outcome_of [] o) e.time
        → Turns strict a overall listens before e l (Ends (record { outcome = o; time = t; read = read; notices = before.notices; reply = p }))
    turns-reply {o} {t} h f = record {
      means = rw ((heard-reply listens l e (sym heard ∙ a-reply)).0, seen-spent strict a before.notices.all before.hush place seen, h) (record {
        means = refl;
        time = f ∙ finish-anywhere a l o e.time;
        read = counts;
        notices = refl;
        reply = place.means;
        inside = rw h at seen.inside;
        whole = place.whole;
        starts = rw (eq-eqb e.kind 0 (heard-reply listens l e (sym heard ∙ a-reply)).1) (omega (arith, ap (λ x. x.at) place.means));
      });
    }

  -- An end or an error names no reply.
  pub turns-idle : kind ≡ 1
      → Turns strict a overall listens before e l (On (record { hush = before.hush; deadline = before.deadline; read = read; notices = before.notices }))
  turns-idle h = record { means = rw (heard-idle listens l e (sym heard ∙ h), counts) }

-- The events that are left from number i on, of n.
abbrev pub left : Form → ℕ → List ℕ → List ℕ → ℕ → ℕ → List events.Event
left form listens r l n i = map (event_of listens r) (entries_from form l (n - i) i)

module _ (strict : Bool) (a : Asked) (form : Form) (listens : ℕ) (r l : List ℕ) (n i : ℕ) (s : rules.State) where
  pub settle-none : n ≤ i → settle strict a (left form listens r l n i) s ≡ silence s
  settle-none h = rw (no-entry form l n i h) (law.settle-late strict a s [] tt)

  module _ (e : Entry) (here : e ≡ entry_at form l i) (more : i < n) where
    in-time : {d : ℕ} → e.time ≤ d → events.time_of (event_of listens r e) ≤ d
    in-time h = rw (event-time listens r e) h

    pub settle-late : s.deadline < e.time → settle strict a (left form listens r l n i) s ≡ silence s
    settle-late h = rw (next-entry form l n i e here more) (law.settle-late strict a s (event_of listens r e ∷ left form listens r l n (i + 1)) (rw (event-time listens r e) h))

    pub settle-on : (s' : rules.State) → e.time ≤ s.deadline → turn strict a s (event_of listens r e) ≡ on s' → settle strict a (left form listens r l n i) s ≡ settle strict a (left form listens r l n (i + 1)) s'
    settle-on s' h t = rw (next-entry form l n i e here more) (law.settle-on strict a s s' (event_of listens r e) (left form listens r l n (i + 1)) (in-time h) t)

    pub settle-ends : (x : rules.Settled) → e.time ≤ s.deadline → turn strict a s (event_of listens r e) ≡ ends x → settle strict a (left form listens r l n i) s ≡ x
    settle-ends x h t = rw (next-entry form l n i e here more) (law.settle-ends strict a s x (event_of listens r e) (left form listens r l n (i + 1)) (in-time h) t)
