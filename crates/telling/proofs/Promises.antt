-- What specs/Promises states, proved: by induction over the events, from any state.
use Prim.Native.Nat.{ℕ, suc, ◌+◌, ◌≤◌, ◌<◌}
use native.Mathlib.Omega.{arith}
use mathlib.Core.Bool.{Bool, true, false, cond, ◌&&◌, and-eq-true_iff, true≢false}
use mathlib.Core.List.{List, [], ◌∷◌, ◌++◌, map, append_assoc}
use mathlib.Core.Option.{Option, none, some}
use mathlib.Core.Path.{◌≡◌, refl, sym, ◌∙◌, ap, subst}
use borrow.Author.Tests.{leb-true, leb-false, le-leb, lt-leb}
use lib.Dec.{leb}
use lib.ListN.{length}
use Rattle.rules.specs.Answers.{Outcome, positive, suppressed, negative, timeout, pending_limit, disconnected, transport, fault, refused, nowhere, Answer, answer}
use Rattle.rules.specs.Counts.{Rising}
use Rattle.rules.specs.Events.{Entry, Event, reply, idle, ended, failed, event_of, time_of, up_to}
use Rattle.rules.specs.Exchange as Exchange
use Rattle.rules.specs.Exchange.{Asked, Step, pending, settles, look, State, state, Settled, Turn, on, ends, allows, notes, hears, start, finish, turn, silence, settle, under, exchange}
use Rattle.rules.specs.Lines.{ascii, decimal}
use Rattle.rules.specs.Logs.{layout_ok, line_of, answer_of}
use Rattle.rules.proofs.Limits.{event-time}
use Rattle.rules.proofs.Turns as Turns
use Rattle.rules.proofs.Turns.{finish-late}
use Rattle.telling.specs.Promises.{LastLine, read_in, unread_in, InOrder, CountsThem, Over, Follows, TellsTheState}
use Rattle.telling.specs.Story.{Line, read, late, over, unread, within, silent, cut, tell}
use Rattle.telling.specs.Telling.{told_in, exchange_text, heard_in, call_text, by_refusal, sound_text, telling, story}
use Rattle.log_fields.specs.Fields.{Field, first_off}
use Rattle.log_fields.specs.Promises.{none?, Bytes}
use Rattle.log_fields.specs.Words.{found, should, off_text, text_of, off_line}
use Rattle.log_fields.proofs.Promises.{promises}
use Rattle.telling.specs.Checks.{checks_text}
use Rattle.telling.specs.Words.{concludes, declined_by, declined}
use Rattle.telling.proofs.Ways.{tell_none, tell-late, tell-on, tell-ends}

-- The last line.
Ends : List ℕ → Type 0
Ends bs = (before : List ℕ) × (bs ≡ before ++ (10 ∷ []))

concludes-ends : (x : Answer) → Ends (concludes x)
unfolding Ends concludes
concludes-ends x = (
  ascii "The call ends at " ++ decimal x.time ++ ascii " ms. Events read: " ++ decimal x.events ++ ascii ". Wait notices: " ++ decimal x.notices ++ ascii ".",
  sym (append_assoc (ascii "The call ends at " ++ decimal x.time ++ ascii " ms. Events read: " ++ decimal x.events ++ ascii ". Wait notices: " ++ decimal x.notices) (ascii ".") (10 ∷ [])),
)

point-ends : Ends (ascii ".\n")
unfolding Ends
point-ends = (ascii ".", refl)

behind : (a b : List ℕ) → Ends b → Ends (a ++ b)
unfolding Ends
behind a b h = (a ++ h.0, ap (λ (x : List ℕ). a ++ x) h.1 ∙ sym (append_assoc a h.0 (10 ∷ [])))

declined-ends : (n : ℕ) → Ends (declined n)
unfolding declined
declined-ends n = behind (declined_by n ++ decimal n) (ascii ".\n") point-ends

by-refusal : (o : Outcome) (bs : List ℕ) → Ends bs → Ends (by_refusal o bs)
by-refusal (positive p) bs h = h
by-refusal suppressed bs h = h
by-refusal (negative c) bs h = h
by-refusal timeout bs h = h
by-refusal pending_limit bs h = h
by-refusal disconnected bs h = h
by-refusal (transport n) bs h = h
by-refusal (fault f) bs h = h
by-refusal (refused n) bs h = declined-ends n

-- Of a bad log a field is off, and its line ends as every line does.
off-ends : (f : Option Field) → none? f ≡ false → Ends (text_of f)
unfolding off_text
off-ends none e = absurd (true≢false e)
off-ends (some f) e = behind (ascii "This is no log: " ++ f.name ++ found f.read f.at f.found ++ should f.least f.most) (ascii ".\n") point-ends

telling-ends : (l : List ℕ) → Bytes l → Ends (telling l)
unfolding telling off_line
telling-ends l bytes = go (layout_ok l) refl
  where
    sound : Ends (sound_text l)
    sound = let x = told_in l in
        let y = answer_of l in
        by-refusal y.outcome (call_text x y)
        (behind (exchange_text x ++ checks_text x.strict x.call y.reply.bytes (heard_in x) y.outcome) (concludes y) (concludes-ends y))

    go : (b : Bool) → layout_ok l ≡ b → Ends (cond b (sound_text l) (off_line l))
    go true e = sound
    go false e = off-ends (first_off l) (sym (promises.decides l bytes) ∙ e)

pub last_line : LastLine
unfolding story Ends
last_line l bytes = let h = telling-ends l bytes in (h.0, ap (λ (x : List ℕ). x ++ line_of l) h.1)

-- Lines of events never read.
none_read : (es : List Entry) → read_in (map unread es) ≡ []
none_read [] = refl
none_read (e ∷ es) = none_read es

all-unread : (es : List Entry) → unread_in (map unread es) ≡ es
all-unread [] = refl
all-unread (e ∷ es) = ap (λ (l : List Entry). e ∷ l) (all-unread es)

silent-unread : (overall : Option ℕ) (s : State) (ls : List Line) → (read_in (silent overall s ∷ ls) ≡ read_in ls) × (unread_in (silent overall s ∷ ls) ≡ unread_in ls)
silent-unread none s ls = (refl, refl)
silent-unread (some overall) s ls = go (leb s.deadline overall)
  where
    go : (b : Bool) → (read_in (cond b (late s) (over overall) ∷ ls) ≡ read_in ls) × (unread_in (cond b (late s) (over overall) ∷ ls) ≡ unread_in ls)
    go true = (refl, refl)
    go false = (refl, refl)

cut-unread : (overall : Option ℕ) (x : Settled) (ls : List Line) → (read_in (cut overall x ++ ls) ≡ read_in ls) × (unread_in (cut overall x ++ ls) ≡ unread_in ls)
cut-unread none x ls = (refl, refl)
cut-unread (some overall) x ls = go (leb x.time overall)
  where
    go : (b : Bool) → (read_in (cond b [] (over overall ∷ []) ++ ls) ≡ read_in ls) × (unread_in (cond b [] (over overall ∷ []) ++ ls) ≡ unread_in ls)
    go true = (refl, refl)
    go false = (refl, refl)

-- One turn reads one time; behind it the deadline is no earlier than the event, and an exchange that ends does so no earlier.
abbrev Took : ℕ → State → Turn → Type 0
Took t s (on s') = (s'.read ≡ t ∷ s.read) × (t ≤ s'.deadline)
Took t s (ends x) = (x.read ≡ t ∷ s.read) × (t ≤ x.time)

took : (strict : Bool) (a : Asked) (s : State) (e : Event) → time_of e ≤ s.deadline → Took (time_of e) s (turn strict a s e)
took strict a s (reply t p) h = go (look strict a s.hush p)
  where
    noted : (b : Bool) → Took t s (notes a s t p b)
    noted true = (refl, omega arith)
    noted false = (refl, omega arith)

    go : (z : Step) → Took t s (hears a s t p z)
    go pending = noted (allows a.limit (length s.notices))
    go (settles o) = (refl, finish-late a o t)
took strict a s (idle t) h = (refl, h)
took strict a s (ended t) h = (refl, omega arith)
took strict a s (failed t n) h = (refl, omega arith)

module _ (strict : Bool) (a : Asked) (overall : Option ℕ) (listens : ℕ) (r : List ℕ) where
  abbrev told : List Entry → State → List Line
  told es s = tell strict a overall listens r es s

  abbrev heard : List Entry → List Event
  heard es = map (event_of listens r) es

  abbrev Reads : Entry → State → Bool → Type 0
  Reads e s b = (leb e.time s.deadline && within overall e.time) ≡ b

  -- No event from here on is read.
  abbrev Stops : List Entry → State → Type 0
  Stops [] s = Unit {0}
  Stops (e ∷ es) s = Reads e s false

  -- What holds of every story: of silence with the events behind it, of an event that settles, and through one that does not.
  module _ (P : List Entry → State → List Line → Type 0) (quiet : (es : List Entry) (s : State) → Stops es s → P es s (silent overall s ∷ map unread es))
      (going : (e : Entry) (es : List Entry) (s s' : State) → Reads e s true → turn strict a s (event_of listens r e) ≡ on s' → P es s' (told es s') → P (e ∷ es) s (read e s (on s') ∷ told es s'))
      (ending : (e : Entry) (es : List Entry) (s : State) (x : Settled) → Reads e s true → turn strict a s (event_of listens r e) ≡ ends x → P (e ∷ es) s (read e s (ends x) ∷ (cut overall x ++ map unread es))) where
    tell-ind : (es : List Entry) (s : State) → P es s (told es s)
    tell-ind [] s = rw (tell_none strict a overall listens r s) (quiet [] s tt)
    tell-ind (e ∷ es) s = go (leb e.time s.deadline && within overall e.time) refl (tell-ind es)
      where
        by_turn : (z : Turn) → turn strict a s (event_of listens r e) ≡ z → Reads e s true → ((s' : State) → P es s' (told es s')) → P (e ∷ es) s (told (e ∷ es) s)
        by_turn (on s') t h more = rw (tell-on strict a overall listens r s e es s' h t) (going e es s s' h t (more s'))
        by_turn (ends x) t h more = rw (tell-ends strict a overall listens r s e es x h t) (ending e es s x h t)

        go : (b : Bool) → Reads e s b → ((s' : State) → P es s' (told es s')) → P (e ∷ es) s (told (e ∷ es) s)
        go true h more = by_turn (turn strict a s (event_of listens r e)) refl h more
        go false h more = rw (tell-late strict a overall listens r s e es h) (quiet (e ∷ es) s h)

  in_order : (es : List Entry) (s : State) → read_in (told es s) ++ unread_in (told es s) ≡ es
  in_order =
      tell-ind (λ es s ls. read_in ls ++ unread_in ls ≡ es)
      (λ es s q. let u = silent-unread overall s (map unread es) in (λ i. u.0 i ++ u.1 i) ∙ (λ i. none_read es i ++ all-unread es i))
      (λ e es s s' h t p. ap (λ (l : List Entry). e ∷ l) p)
      (λ e es s x h t. let u = cut-unread overall x (map unread es) in ap (λ (l : List Entry). e ∷ l) ((λ i. u.0 i ++ u.1 i) ∙ (λ i. none_read es i ++ all-unread es i)))

  follows : (es : List Entry) (s : State) → Follows strict a listens r (told es s) s
  follows =
      tell-ind (λ es s ls. Follows strict a listens r ls s)
      (λ es s q. quiet overall s es)
      (λ e es s s' h t p. (refl, t, p))
      (λ e es s x h t. (refl, t, (cut-unread overall x (map unread es)).0 ∙ none_read es))
    where
      quiet : (o : Option ℕ) (s : State) (es : List Entry) → Follows strict a listens r (silent o s ∷ map unread es) s
      quiet none s es = (refl, none_read es)
      quiet (some t) s es = go (leb s.deadline t)
        where
          go : (b : Bool) → Follows strict a listens r (cond b (late s) (over t) ∷ map unread es) s
          go true = (refl, none_read es)
          go false = none_read es

pub tells-the-state : TellsTheState
tells-the-state strict a overall listens r es = follows strict a overall listens r es (start a)

pub in-their-order : InOrder
in-their-order strict a overall listens r es = in_order strict a overall listens r es (start a)

-- An exchange finishes no earlier than the first event that is left, and counts none up to an earlier T.
abbrev Later : State → List Event → Settled → Type 0
Later s es x = (m : ℕ) → Rising m es → (m ≤ s.deadline → m ≤ x.time) × ((t : ℕ) → t < m → up_to t x.read ≡ up_to t s.read)

later : (strict : Bool) (a : Asked) (es : List Event) (s : State) → Later s es (settle strict a es s)
later strict a = Turns.settle-ind strict a Later (λ s es h m r. (λ k. k, λ t k. refl)) (λ s e es k. go s e es (turn strict a s e) (took strict a s e k))
  where
    less : (t u : ℕ) (us : List ℕ) → t < u → up_to t (u ∷ us) ≡ up_to t us
    less t u us h = rw (lt-leb u t h) (omega arith)

    go : (s : State) (e : Event) (es : List Event) (z : Turn) → Took (time_of e) s z → Turns.Through Later s e es z
    go s e es (on s') k = λ x p m r.
        let q = p (time_of e) r.1 in (
          λ h. omega (arith, q.0 k.1, r.0),
          λ t h. q.1 t (omega (arith, r.0)) ∙ ap (up_to t) k.0 ∙ less t (time_of e) s.read (omega (arith, r.0)),
        )
    go s e es (ends x) k = λ m r. (
      λ h. omega (arith, k.1, r.0),
      λ t h. ap (up_to t) k.0 ∙ less t (time_of e) s.read (omega (arith, r.0)),
    )

-- No time that was read is later than T.
abbrev Early : Option ℕ → List ℕ → Type 0
Early none ts = Unit {0}
Early (some t) ts = up_to t ts ≡ length ts

early-more : (overall : Option ℕ) (t : ℕ) (ts : List ℕ) → within overall t ≡ true → Early overall ts → Early overall (t ∷ ts)
early-more none t ts h k = tt
early-more (some overall) t ts h k = rw h (omega (arith, k))

-- What T leaves of an exchange that read such times.
under-early : (overall : Option ℕ) (x : Settled) → Early overall x.read → (under overall x).events ≡ length x.read
under-early none x h = refl
under-early (some t) x h = go (leb x.time t)
  where
    go : (b : Bool) → (cond b (Exchange.counted x) (answer timeout t (up_to t x.read) (up_to t x.notices) nowhere)).events ≡ length x.read
    go true = refl
    go false = h

module _ (strict : Bool) (a : Asked) (overall : Option ℕ) (listens : ℕ) (r : List ℕ) where
  abbrev Counted : List Entry → State → List Line → Type 0
  Counted es s ls = (m : ℕ) → Rising m (map (event_of listens r) es) → Early overall s.read
      → (under overall (settle strict a (map (event_of listens r) es) s)).events ≡ length s.read + length (read_in ls)

  -- Silence, whatever is left.
  still : (es : List Entry) (s : State) (x : Settled) → x ≡ silence s → Early overall s.read
      → (under overall x).events ≡ length s.read + length (read_in (silent overall s ∷ map unread es))
  still es s x e h =
      ap (λ (y : Settled). (under overall y).events) e ∙ under-early overall (silence s) h ∙
      sym (ap (λ (l : List Entry). length s.read + length l) ((silent-unread overall s (map unread es)).0 ∙ none_read es) ∙ omega arith)

  quietly : (es : List Entry) (s : State) → Stops strict a overall listens r es s → Counted es s (silent overall s ∷ map unread es)
  quietly [] s q m up h = still [] s _ (Turns.settle-late strict a s [] tt) h
  quietly (e ∷ es) s q m up h = go (leb e.time s.deadline) refl q
    where
      here : time_of (event_of listens r e) ≡ e.time
      here = event-time listens r e

      over-t : (o : Option ℕ) → within o e.time ≡ false → e.time ≤ s.deadline → Early o s.read
          → (under o (settle strict a (map (event_of listens r) (e ∷ es)) s)).events ≡ length s.read
      over-t none w k h' = absurd (true≢false w)
      over-t (some t) w k h' =
          let late_by = leb-false e.time t w in
          let l = later strict a (map (event_of listens r) (e ∷ es)) s (time_of (event_of listens r e)) (omega arith, up.1) in
          let finishes = l.0 (omega (arith, here)) in
          rw (lt-leb (settle strict a (map (event_of listens r) (e ∷ es)) s).time t (omega (arith, here))) (l.1 t (omega (arith, here)) ∙ h')

      go : (b : Bool) → leb e.time s.deadline ≡ b → (b && within overall e.time) ≡ false
          → (under overall (settle strict a (map (event_of listens r) (e ∷ es)) s)).events ≡ length s.read + length (read_in (silent overall s ∷ map unread (e ∷ es)))
      go true k w =
          over-t overall w (leb-true e.time s.deadline k) h ∙
          sym (ap (λ (l : List Entry). length s.read + length l) ((silent-unread overall s (map unread (e ∷ es))).0 ∙ none_read (e ∷ es)) ∙ omega arith)
      go false k w = still (e ∷ es) s _ (Turns.settle-late strict a s (map (event_of listens r) (e ∷ es)) (omega (arith, here, leb-false e.time s.deadline k))) h

  in-time : (e : Entry) (s : State) → (leb e.time s.deadline && within overall e.time) ≡ true → (time_of (event_of listens r e) ≤ s.deadline) × (within overall (time_of (event_of listens r e)) ≡ true)
  in-time e s h =
      let tests = (and-eq-true_iff (leb e.time s.deadline) (within overall e.time)).0 h in
      (omega (arith, event-time listens r e, leb-true e.time s.deadline tests.0), ap (within overall) (event-time listens r e) ∙ tests.1)

  counted : (es : List Entry) (s : State) → Counted es s (tell strict a overall listens r es s)
  counted =
      tell-ind strict a overall listens r Counted quietly
      (λ e es s s' h t p m up k.
      let i = in-time e s h in
      let read_is : s'.read ≡ time_of (event_of listens r e) ∷ s.read = (subst (Took (time_of (event_of listens r e)) s) t (took strict a s (event_of listens r e) i.0)).0 in
      ap (λ (x : Settled). (under overall x).events) (Turns.settle-on strict a s s' (event_of listens r e) (map (event_of listens r) es) i.0 t) ∙
      p (time_of (event_of listens r e)) up.1 (subst (Early overall) (sym read_is) (early-more overall _ s.read i.1 k)) ∙
      (let n = ap (λ (l : List ℕ). length l) read_is in omega (arith, n)))
      (λ e es s x h t m up k.
      let i = in-time e s h in
      let read_is : x.read ≡ time_of (event_of listens r e) ∷ s.read = (subst (Took (time_of (event_of listens r e)) s) t (took strict a s (event_of listens r e) i.0)).0 in
      let n = ap (λ (l : List ℕ). length l) read_is in
      let no_more = ap (λ (l : List Entry). length l) ((cut-unread overall x (map unread es)).0 ∙ none_read es) in
      ap (λ (y : Settled). (under overall y).events) (Turns.settle-ends strict a s x (event_of listens r e) (map (event_of listens r) es) i.0 t) ∙
      under-early overall x (subst (Early overall) (sym read_is) (early-more overall _ s.read i.1 k)) ∙
      omega (arith, n, no_more))

pub counts-them : CountsThem
unfolding exchange
counts-them strict a overall listens r es up = sym (counted strict a overall listens r es (start a) 0 up (early overall) ∙ omega arith)
  where
    early : (o : Option ℕ) → Early o []
    early none = tt
    early (some t) = refl
