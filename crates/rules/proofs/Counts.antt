-- The counts, proved: by induction over the exchange, with what was read before in front.
use Prim.Native.Nat.{ℕ, ◌+◌, ◌≤◌}
use native.Mathlib.Omega.{arith}
use mathlib.Core.Bool.{Bool, true, false, cond, true≢false}
use mathlib.Core.Path.{◌≡◌, refl, sym, ◌∙◌, ap, ap₂, subst, subst⁻¹}
use mathlib.Core.Logic.{◌⊎◌, inl, inr}
use mathlib.Core.List.{List, [], ◌∷◌, ◌++◌, map}
use mathlib.Core.Option.{none}
use lib.Dec.{ltb, eqb}
use lib.ListN.{length, length-map, get_or}
use borrow.Author.Tests.{le-leb, lt-leb}
use Rattle.rules.specs.Answers.{Part, Fault, Outcome, positive, behind, length_error}
use Rattle.rules.specs.Calls.{head, suppresses}
use Rattle.rules.specs.InOrder.{Check, judge}
use Rattle.rules.specs.Counts.{is_pending, is_notice, passes, notices_in, noted, After, Rising, UpToSettling, Counts}
use Rattle.rules.specs.Conversations.{Every}
use Rattle.rules.specs.Events.{Event, reply, idle, ended, failed, time_of, up_to}
use Rattle.rules.specs.Exchange.{Asked, Step, pending, settles, wrong, negative_checks, coded, positive_checks, look, Settled, settled, State, start, allows, notes, hears, turn, silence, settle, exchange}
use Rattle.rules.proofs.Judging.{judge-ind}
use Rattle.rules.proofs.Turns.{Through, settle-ind, finish-late}

judge-settles : (cs : List (Check Fault)) (o : Outcome) → is_pending (judge wrong cs (settles o)) ≡ false
judge-settles cs o = judge-ind (λ s. is_pending s ≡ false) wrong cs (settles o) (λ f. refl) (λ p. refl)

-- Whether a reply is a notice does not hang on suppression.
hush-free : (strict : Bool) (a : Asked) (hush : Bool) (p : Part) → is_pending (look strict a hush p) ≡ is_pending (look strict a false p)
unfolding look
hush-free strict a hush p = go (ltb 0 (length p.bytes)) (eqb (get_or p.bytes 0 0) 0x7f)
  where
    judged : Bool → Step
    judged q = judge wrong (positive_checks strict a q p.bytes) (settles (positive (behind (head a.sub) p)))

    go : (some_byte negative : Bool) →
        is_pending (cond some_byte (cond negative (judge wrong (negative_checks strict a p.bytes) (coded (get_or p.bytes 2 0))) (judged hush)) (wrong (length_error strict 1 none)))
        ≡ is_pending (cond some_byte (cond negative (judge wrong (negative_checks strict a p.bytes) (coded (get_or p.bytes 2 0))) (judged false)) (wrong (length_error strict 1 none)))
    go true true = refl
    go true false = judge-settles (positive_checks strict a hush p.bytes) _ ∙ sym (judge-settles (positive_checks strict a false p.bytes) _)
    go false negative = refl

-- Times read, on top of those read before.
abbrev pub onto : List ℕ → List ℕ → List ℕ
onto [] l = l
onto (t ∷ ts) l = onto ts (t ∷ l)

pub onto-length : (ts l : List ℕ) → length (onto ts l) ≡ length ts + length l
onto-length [] l = omega arith
onto-length (t ∷ ts) l = omega (arith, onto-length ts (t ∷ l))

pub onto-up_to : (limit : ℕ) (ts l : List ℕ) → up_to limit (onto ts l) ≡ up_to limit ts + up_to limit l
onto-up_to limit [] l = omega arith
onto-up_to limit (t ∷ ts) l = omega (arith, onto-up_to limit ts (t ∷ l))

module _ (strict : Bool) (a : Asked) where
  -- What an exchange from the state s on that settled in x has read of the events es.
  record Reading (s : State) (es : List Event) (x : Settled) : Type 0 where
    read : List Event
    rest : List Event
    begins : es ≡ read ++ rest
    settling : UpToSettling strict a (length s.notices) read rest x.time
    in-time : (t : ℕ) → t ≤ s.deadline → Rising t es → (t ≤ x.time) × Every (λ e. time_of e ≤ x.time) read
    times : x.read ≡ onto (map time_of read) s.read
    notices : x.notices ≡ onto (map time_of (notices_in strict a read)) s.notices

  extends : (n : ℕ) (e : Event) (read rest : List Event) (time : ℕ) → passes strict a n e ≡ true → UpToSettling strict a (noted strict a n e) read rest time
      → UpToSettling strict a n (e ∷ read) rest time
  extends n e read rest time p (inl h) = inl (e ∷ h.0, h.1, ap (λ (l : List Event). e ∷ l) h.2, (p, h.3), h.4)
  extends n e read rest time p (inr h) = inr ((p, h.0), h.1)

  -- No event in time.
  silent : (s : State) (es : List Event) → After s.deadline es → Reading s es (silence s)
  silent s es h = record {
    read = [];
    rest = es;
    begins = refl;
    settling = inr (tt, h);
    in-time = λ t k r. (k, tt);
    times = refl;
    notices = refl;
  }

  module _ (s : State) (e : Event) (es : List Event) where
    -- The event that settles.
    once : (b : Bool) → cond b (time_of e ∷ s.notices) s.notices ≡ onto (map time_of (cond b (e ∷ []) [])) s.notices
    once true = refl
    once false = refl

    settled-by : (o : Outcome) (time : ℕ) (notices : List ℕ) (p : Part) → passes strict a (length s.notices) e ≡ false
        → notices ≡ cond (is_notice strict a e) (time_of e ∷ s.notices) s.notices → time_of e ≤ time
        → Reading s (e ∷ es) (settled o time (time_of e ∷ s.read) notices p)
    settled-by o time notices p stops n h = record {
      read = e ∷ [];
      rest = es;
      begins = refl;
      settling = inl ([], e, refl, tt, stops);
      in-time = λ t k r. (omega arith, (h, tt));
      times = refl;
      notices = n ∙ once (is_notice strict a e);
    }

    -- One event more in front: an idle, or a notice.
    behind-one : (s' : State) (x : Settled) → passes strict a (length s.notices) e ≡ true → time_of e ≤ s'.deadline → s'.read ≡ time_of e ∷ s.read
        → ((l : List Event) → onto (map time_of l) s'.notices ≡ onto (map time_of (cond (is_notice strict a e) (e ∷ l) l)) s.notices)
        → length s'.notices ≡ noted strict a (length s.notices) e → Reading s' es x → Reading s (e ∷ es) x
    behind-one s' x p h t n m r = record {
      read = e ∷ r.read;
      rest = r.rest;
      begins = ap (λ (l : List Event). e ∷ l) r.begins;
      settling = extends (length s.notices) e r.read r.rest x.time p (subst (λ (k : ℕ). UpToSettling strict a k r.read r.rest x.time) m r.settling);
      in-time = λ u k up. let i = r.in-time (time_of e) h up.1 in (omega (arith, i.0), i);
      times = r.times ∙ ap (onto (map time_of r.read)) t;
      notices = r.notices ∙ n (notices_in strict a r.read);
    }

  through : (s : State) (e : Event) (es : List Event) → time_of e ≤ s.deadline → Through Reading s e es (turn strict a s e)
  through s (reply t p) es k = by-look (look strict a s.hush p) (hush-free strict a s.hush p)
    where
      by-look : (z : Step) → is_pending z ≡ is_pending (look strict a false p) → Through Reading s (reply t p) es (hears a s t p z)
      by-look pending n = heard (allows a.limit (length s.notices)) refl
        where
          heard : (b : Bool) → allows a.limit (length s.notices) ≡ b → Through Reading s (reply t p) es (notes a s t p b)
          heard true e = λ x. behind-one s (reply t p) es _ x (rw (← n, e) refl) (omega arith) refl (λ l. rw (← n) refl) (rw (← n) refl)
          heard false e = settled-by s (reply t p) es _ t _ p (rw (← n, e) refl) (rw (← n) refl) (omega arith)
      by-look (settles o) n = settled-by s (reply t p) es o _ _ p (rw (← n) refl) (rw (← n) refl) (finish-late a o t)
  through s (idle t) es k = λ x. behind-one s (idle t) es _ x refl k refl (λ l. refl) refl
  through s (ended t) es k = settled-by s (ended t) es _ t _ _ refl refl (omega arith)
  through s (failed t n) es k = settled-by s (failed t n) es _ t _ _ refl refl (omega arith)

  reading : (es : List Event) → Reading (start a) es (settle strict a es (start a))
  reading es = settle-ind strict a Reading silent through es (start a)

  -- The first event read settles and is the last; or it does not, and the others are read up to settling.
  first_read : (n : ℕ) (e : Event) (read rest : List Event) (time : ℕ) → UpToSettling strict a n (e ∷ read) rest time
      → ((passes strict a n e ≡ true) × UpToSettling strict a (noted strict a n e) read rest time) ⊎ ((passes strict a n e ≡ false) × (read ≡ []))
  first_read n e read rest time (inl ([], x, b, p, q)) = let same : e ≡ x = cc in inr (ap (passes strict a n) same ∙ q, cc)
  first_read n e read rest time (inl (y ∷ before, x, b, p, q)) =
      let same : e ≡ y = cc in
      inl (ap (passes strict a n) same ∙ p.0, subst⁻¹ (λ (z : Event). UpToSettling strict a (noted strict a n z) read rest time) same (inl (before, x, cc, p.1, q)))
  first_read n e read rest time (inr h) = inl (h.0.0, inr (h.0.1, h.1))

  none_read : (n : ℕ) (e : Event) (rest : List Event) (time : ℕ) → UpToSettling strict a n [] (e ∷ rest) time → time_of e ≤ time → ⊥
  none_read n e rest time (inl ([], x, b, p, q)) h = mathlib.Core.List.cons≢nil (sym b)
  none_read n e rest time (inl (y ∷ before, x, b, p, q)) h = mathlib.Core.List.cons≢nil (sym b)
  none_read n e rest time (inr k) h = omega (arith, k.1)

  abbrev More : ℕ → Event → List Event → List Event → ℕ → Type 0
  More n e read rest time = UpToSettling strict a (noted strict a n e) read rest time

  only : (n : ℕ) (read rest read' rest' : List Event) (time : ℕ) → UpToSettling strict a n read rest time → UpToSettling strict a n read' rest' time
      → Every (λ e. time_of e ≤ time) read → Every (λ e. time_of e ≤ time) read' → read ++ rest ≡ read' ++ rest' → (read ≡ read') × (rest ≡ rest')
  only n [] rest [] rest' time u u' t t' e = (refl, e)
  only n [] rest (x ∷ read') rest' time u u' t t' e = absurd (none_read n x (read' ++ rest') time (subst (λ (l : List Event). UpToSettling strict a n [] l time) e u) t'.0)
  only n (x ∷ read) rest [] rest' time u u' t t' e = absurd (none_read n x (read ++ rest) time (subst⁻¹ (λ (l : List Event). UpToSettling strict a n [] l time) e u') t.0)
  only n (x ∷ read) rest (y ∷ read') rest' time u u' t t' e =
      go (first_read n x read rest time u) (first_read n y read' rest' time u')
      (λ v v'. only (noted strict a n x) read rest read' rest' time v (subst⁻¹ (λ (z : Event). UpToSettling strict a (noted strict a n z) read' rest' time) same v') t.1 t'.1 cc)
    where
      same : x ≡ y
      same = cc

      go : ((passes strict a n x ≡ true) × More n x read rest time) ⊎ ((passes strict a n x ≡ false) × (read ≡ []))
          → ((passes strict a n y ≡ true) × More n y read' rest' time) ⊎ ((passes strict a n y ≡ false) × (read' ≡ []))
          → (More n x read rest time → More n y read' rest' time → (read ≡ read') × (rest ≡ rest'))
          → (x ∷ read ≡ y ∷ read') × (rest ≡ rest')
      go (inl h) (inl k) more = let h' = more h.1 k.1 in (ap₂ (λ (z : Event) (l : List Event). z ∷ l) same h'.0, h'.1)
      go (inl h) (inr k) more = absurd (true≢false (sym h.0 ∙ ap (passes strict a n) same ∙ k.0))
      go (inr h) (inl k) more = absurd (true≢false (sym k.0 ∙ ap (passes strict a n) (sym same) ∙ h.0))
      go (inr h) (inr k) more = let p = h.1 in let q = k.1 in (cc, cc)

pub counts : Counts
unfolding exchange
counts strict a es =
    let x = settle strict a es (start a) in
    let r = reading strict a es in
    let notices = notices_in strict a r.read in
    let early : Rising 0 es → Every (λ e. time_of e ≤ x.time) r.read = λ up. (r.in-time 0 (omega arith) up).1 in
    record {
      read = r.read;
      rest = r.rest;
      reads = record { begins = r.begins; settling = r.settling; in-time = early };
      no-others = λ up read' rest' h. only strict a 0 read' rest' r.read r.rest x.time h.settling r.settling (h.in-time up) (early up) (sym h.begins ∙ r.begins);
      events = rw r.times (omega (arith, onto-length (map time_of r.read) [], length-map r.read time_of));
      notices = rw r.notices (omega (arith, onto-length (map time_of notices) [], length-map notices time_of));
      within-overall = λ overall h. rw (le-leb x.time overall h);
      past-overall = λ overall h. rw (lt-leb x.time overall h, r.times, r.notices) (omega (arith, onto-up_to overall (map time_of r.read) []), omega (arith, onto-up_to overall (map time_of notices) []));
    }
