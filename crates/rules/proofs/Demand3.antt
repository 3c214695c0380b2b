-- Demand 3, proved.
use Prim.Native.Nat.{ℕ, ◌+◌, ◌%◌, ◌<◌, max}
use native.Mathlib.Omega.{arith}
use mathlib.Core.Bool.{Bool, true, false, cond, true≢false}
use mathlib.Core.Path.{◌≡◌, refl, sym, ◌∙◌, ap, subst, subst⁻¹}
use mathlib.Core.Logic.{◌≢◌, inl, inr, ◌↔◌}
use mathlib.Core.List.{List, [], ◌∷◌, ◌++◌, map}
use mathlib.Core.Option.{Option, none, some}
use lib.ListN.{length, get_or}
use borrow.Author.Tests.{leb-true, eqb-true, le-leb, eq-eqb, not-true}
use Rattle.rules.specs.After.{service_checks, handed, checked, after}
use Rattle.rules.specs.Answers.{Part, part, nowhere, behind, Fault, Outcome, positive, suppressed, negative, timeout, pending_limit, disconnected, transport, fault, refused, if_positive, Answer, answer}
use Rattle.rules.specs.Calls.{Call, sid_of, sub_of, with_bit7, positive_sid, head, request_of}
use Rattle.rules.specs.Client.{Result, asked, events_in, refuse, answered, call}
use Rattle.rules.specs.Conversations.{Waiting, Paced, Closing, by_negative, by_positive, Closed, Silent, Conversation, Every}
use Rattle.rules.specs.Counts.{Rising}
use Rattle.rules.specs.Demand3.{Named, Refused, Answers, Demand3}
use Rattle.rules.specs.Events.{Event, reply, time_of, up_to}
use Rattle.rules.specs.Exchange.{Settled, settles, echoing, positive_checks, look, start, settle, counted, finish, exchange}
use Rattle.rules.specs.Refusals.{arguments, refusals}
use Rattle.rules.specs.Settings.{Setting, Lent, suppressing, Within}
use Rattle.rules.proofs.Judging.{Pass, judge-pass, judge-inv, pass-append, append-pass}
use Rattle.rules.proofs.Limits.{OfBytes, Sound, limits, every-mid}
use Rattle.rules.proofs.Look.{sane, negative-form, negative-look, positive-look, coded-settles}
use Rattle.rules.proofs.Rows.{Echo, row_in, Fits, row_out}
use Rattle.rules.proofs.Within.{within-less, within-zero}
use Rattle.rules.proofs.Settle.{still, reaches, hushes, Found, Hushed, found}

-- The sub-function as sent has the caller's low seven bits.
echo-in : (quiet : Bool) (sub : Option ℕ) (r : List ℕ) → Pass (echoing true (with_bit7 quiet sub) r) → Echo sub r
echo-in quiet none r p = tt
echo-in true (some s) r p = (leb-true 2 (length r) p.0, eqb-true (get_or r 1 0) ((s % 128 + 128) % 128) p.1.0 ∙ omega arith)
echo-in false (some s) r p = (leb-true 2 (length r) p.0, eqb-true (get_or r 1 0) (s % 128) p.1.0)

echo-out : (quiet : Bool) (sub : Option ℕ) (r : List ℕ) → Echo sub r → Pass (echoing true (with_bit7 quiet sub) r)
echo-out quiet none r e = tt
echo-out true (some s) r e =
    (le-leb 2 (length r) e.0, (eq-eqb (get_or r 1 0) ((s % 128 + 128) % 128) (e.1 ∙ omega arith), tt))
echo-out false (some s) r e = (le-leb 2 (length r) e.0, (eq-eqb (get_or r 1 0) (s % 128) e.1, tt))

-- What a positive reply shows, for the call as it was asked.
record Positively (w : Setting) (c : Call) (hush : Bool) (r : List ℕ) : Type 0 where
  sid : get_or r 0 0 ≡ positive_sid (sid_of c)
  echo : Echo (sub_of c) r
  unhushed : hush ≡ false

positive-in : (w : Setting) (c : Call) (hush : Bool) (r : List ℕ) → Pass (positive_checks true (asked w c) hush r) → Positively w c hush r
positive-in w c hush r p =
    let h = pass-append (echoing true (with_bit7 w.quiet (sub_of c)) r) _ p.1 in
    record {
      sid = eqb-true (get_or r 0 0) (positive_sid (sid_of c)) p.0;
      echo = echo-in w.quiet (sub_of c) r h.0;
      unhushed = not-true hush h.1.0;
    }

positive-out : (w : Setting) (c : Call) (r : List ℕ) → get_or r 0 0 ≡ positive_sid (sid_of c) → Echo (sub_of c) r → Pass (positive_checks true (asked w c) false r)
positive-out w c r e h =
    (eq-eqb (get_or r 0 0) (positive_sid (sid_of c)) e, append-pass (echoing true (with_bit7 w.quiet (sub_of c)) r) _ (echo-out w.quiet (sub_of c) r h) (refl, tt))

-- A positive is there only where suppression no longer holds.
kept : (ts : List ℕ) (hush : Bool) → still ts hush ≡ false → hush ≡ true → ts ≢ []
kept [] hush e t n = true≢false (sym t ∙ e)
kept (u ∷ ts) hush e t n = let z : ◌≡◌ {A = ℕ} 0 1 = absurd (mathlib.Core.List.cons≢nil n) in omega arith

lifted : (ts : List ℕ) (hush : Bool) → (hush ≡ true → ts ≢ []) → still ts hush ≡ false
lifted [] true h = absurd (h refl refl)
lifted [] false h = refl
lifted (u ∷ ts) hush h = refl

still-answers : (o y : Outcome) → Answers (if_positive o (λ d. y) o) → Answers o
still-answers (positive p) y h = tt
still-answers suppressed y h = h
still-answers (negative n) y h = h
still-answers timeout y h = h
still-answers pending_limit y h = h
still-answers disconnected y h = h
still-answers (transport n) y h = h
still-answers (fault f) y h = h
still-answers (refused n) y h = h

no-fault : (o : Outcome) → Answers o → (f : Fault) → fault f ≡ o → ⊥
no-fault o ok f e = subst⁻¹ Answers e ok

-- A closing is what the exchange hears and the checks make of it.
record Heard (w : Setting) (c : Call) (ts : List ℕ) (p : Part) (o : Outcome) : Type 0 where
  heard : Outcome
  looks : look true (asked w c) (still ts (suppressing w c)) p ≡ settles heard
  becomes : if_positive heard (λ d. checked true c p) heard ≡ o
  answers : Answers o
  waits : (t : ℕ) → finish (asked w c) heard t ≡ cond (suppressing w c) (max t w.timing.p2) t

module _ (w : Setting) (c : Call) (ts : List ℕ) (p : Part) where
  positive-heard : (front d : List ℕ) → Fits c p.at front d → still ts (suppressing w c) ≡ false → p.bytes ≡ front ++ d
      → Heard w c ts p (positive (part (p.at + length front) d))
  unfolding checked
  positive-heard front d f u e =
      let fits = subst⁻¹ (λ (r : List ℕ). Fits c p.at front d → Pass (service_checks true c r) × (handed c (part p.at r) ≡ part (p.at + length front) d)) e (λ k. (k.pass, k.hands)) f in
      let sid : get_or p.bytes 0 0 ≡ positive_sid (sid_of c) = ap (λ (r : List ℕ). get_or r 0 0) e ∙ f.sid in
      let passes = positive-out w c p.bytes sid (subst⁻¹ (λ (r : List ℕ). Echo (sub_of c) r) e f.echo) in
      record {
        heard = positive (behind _ p);
        looks =
            ap (λ (q : Bool). look true (asked w c) q p) u ∙
            positive-look (asked w c) false p (subst⁻¹ (λ (r : List ℕ). 0 < length r) e f.some_byte) (λ h. f.no-refusal (ap (λ (r : List ℕ). get_or r 0 0) (sym e) ∙ h)) passes;
        becomes = judge-pass fault (service_checks true c p.bytes) (positive (handed c p)) fits.0 ∙ ap positive fits.1;
        answers = tt;
        waits = λ t. refl;
      }

  closing-heard : {o : Outcome} → Closing w c ts p o → Heard w c ts p o
  closing-heard (by_negative {code = code} n e) = record {
    heard = negative code;
    looks =
        ap (λ (r : List ℕ). look true (asked w c) (still ts (suppressing w c)) (part p.at r)) e ∙
        negative-look (asked w c) (still ts (suppressing w c)) p.at code n;
    becomes = refl;
    answers = tt;
    waits = λ t. refl;
  }
  closing-heard (by_positive front d row hush e) = positive-heard front d (row_out p.at c front d row) (lifted ts (suppressing w c) hush) e

module _ (w : Setting) (c : Call) (is-named : Named c) (es : List Event) (rises : Rising 0 es) (of-bytes : Every OfBytes es) where
  abbrev pub ran : Settled
  ran = settle true (asked w c) es (start (asked w c))

  abbrev pub told : Answer
  told = after true c (counted ran)

  abbrev Reached : Type 0
  Reached = Found (asked w c) (start (asked w c)) es ran.outcome ran.reply

  -- What a closing and what silence are answered, by the exchange alone.
  by-closing : {before : List Event} {times : List ℕ} (at : ℕ) (p : Part) (rest : List Event) (o : Outcome) → es ≡ before ++ (reply at p ∷ rest) → Waiting (sid_of c) before times
      → Paced w.timing.p2 w.timing.star (times ++ (at ∷ [])) → look true (asked w c) (still times (suppressing w c)) p ≡ settles o
      → Within w.limit (length times) → counted ran ≡ answer o (finish (asked w c) o at) (0 + length before + 1) (0 + length times) p
  by-closing {times = times} at p rest o e v k h q =
      ap (λ (l : List Event). counted (settle true (asked w c) l (start (asked w c)))) e ∙
      reaches (asked w c) v 0 o at p rest (start (asked w c)) (subst (λ (l : List Event). Rising 0 l) e rises) k h
      (within-less w.limit (0 + length times) (length times) (omega arith) q)

  by-silence : Hushed (asked w c) (start (asked w c)) es → counted ran ≡ answer suppressed w.timing.p2 (0 + up_to w.timing.p2 (map time_of es)) 0 nowhere
  by-silence h = hushes (asked w c) es (start (asked w c)) 0 rises h.0 h.1

  closed : (f : Reached) → Closing w c f.times ran.reply told.outcome
      → finish (asked w c) ran.outcome f.at ≡ cond (suppressing w c) (max f.at w.timing.p2) f.at → Closed w c es told
  closed f k t =
      let patient = within-less w.limit (length f.times) (0 + length f.times) (omega arith) f.patient in
      let run = by-closing f.at ran.reply f.rest ran.outcome f.begins f.waits f.paced f.closes patient in
      record {
        before = f.before;
        times = f.times;
        at = f.at;
        rest = f.rest;
        begins = f.begins;
        waits = f.waits;
        paced = f.paced;
        closes = k;
        time = ap (λ (y : Answer). y.time) run ∙ t;
        events = omega (arith, ap (λ (y : Answer). y.events) run);
        notices = omega (arith, ap (λ (y : Answer). y.notices) run);
        patient = patient;
      }

  by-negative : (f : Reached) (code : ℕ) → code ≢ 0x78 → ran.reply.bytes ≡ 0x7f ∷ sid_of c ∷ code ∷ [] → negative code ≡ ran.outcome → Closed w c es told
  by-negative f code n e o =
      closed f
      (subst (λ (x : Outcome). Closing w c f.times ran.reply x) (ap (λ (x : Outcome). if_positive x (λ d. checked true c ran.reply) x) o) (by_negative n e))
      (ap (λ (x : Outcome). finish (asked w c) x f.at) (sym o))

  by-positive : (f : Reached) (d : Part) → positive d ≡ ran.outcome → Positively w c (still f.times (suppressing w c)) ran.reply.bytes
      → 0 < length ran.reply.bytes → Answers told.outcome → Closed w c es told
  unfolding checked
  by-positive f d o g some_byte ok =
      let p = ran.reply in
      let re : checked true c p ≡ told.outcome = ap (λ (x : Outcome). if_positive x (λ z. checked true c p) x) o in
      let h = judge-inv fault (service_checks true c p.bytes) (no-fault told.outcome ok) re in
      let bytes = every-mid OfBytes f.before (reply f.at p) f.rest (subst (λ (l : List Event). Every OfBytes l) f.begins of-bytes) in
      let r = row_in p.at p.bytes bytes c is-named g.sid some_byte g.echo h.0 in
      closed f
      (subst (λ (x : Outcome). Closing w c f.times p x) (ap positive (sym r.hands) ∙ h.1)
      (by_positive r.front r.data' r.row (kept f.times (suppressing w c) g.unhushed) r.form))
      (ap (λ (x : Outcome). finish (asked w c) x f.at) (sym o))

  sound-closed : Answers told.outcome → Reached → Closed w c es told
  sound-closed ok f =
      let ran-ok = still-answers ran.outcome (checked true c ran.reply) ok in
      let s =
      sane (asked w c) (still f.times (suppressing w c)) ran.reply (settles ran.outcome)
      (λ x e. no-fault ran.outcome ran-ok x cc)
      f.closes
      in
      elim s.kind [
        | inl h ↦
            (let k = coded-settles (get_or ran.reply.bytes 2 0) ran.outcome h.2 in
            by-negative f (get_or ran.reply.bytes 2 0) k.0 (negative-form (asked w c) ran.reply.bytes h.0 h.1) k.1)
        | inr h ↦
            (let e = h.2 in
            let o : positive (behind (head (asked w c).sub) ran.reply) ≡ ran.outcome = cc in
            by-positive f _ o (positive-in w c (still f.times (suppressing w c)) ran.reply.bytes h.1) s.some_byte ok)
      ]

  sound-silent : Hushed (asked w c) (start (asked w c)) es → Silent w c es told
  sound-silent h =
      let run = ap (λ (y : Answer). after true c y) (by-silence h) in
      record {
        asked = h.0;
        hush = h.1;
        outcome = ap (λ (y : Answer). y.outcome) run;
        time = ap (λ (y : Answer). y.time) run;
        events = omega (arith, ap (λ (y : Answer). y.events) run);
        notices = ap (λ (y : Answer). y.notices) run;
        reply = ap (λ (y : Answer). y.reply) run;
      }

  -- An answer comes of a conversation.
  sound : Answers told.outcome → Conversation w c es told
  sound ok =
      elim (found (asked w c) es (start (asked w c)) 0 rises (within-zero w.limit) (still-answers ran.outcome (checked true c ran.reply) ok)) [
        | inl f ↦ inl (sound-closed ok f)
        | inr h ↦ inr (sound-silent h)
      ]

  complete-closed : (x : Answer) → Closed w c es x → (told ≡ x) × Answers x.outcome
  complete-closed x f =
      let h = closing-heard w c f.times x.reply f.closes in
      let run = by-closing f.at x.reply f.rest h.heard f.begins f.waits f.paced h.looks f.patient in
      let time = h.waits f.at ∙ sym f.time in
      let events : 0 + length f.before + 1 ≡ x.events = omega (arith, f.events) in
      let notices : 0 + length f.times ≡ x.notices = omega (arith, f.notices) in
      (ap (λ (y : Answer). after true c y) run ∙ (λ i. answer (h.becomes i) (time i) (events i) (notices i) x.reply), h.answers)

  complete-silent : (x : Answer) → Silent w c es x → (told ≡ x) × Answers x.outcome
  complete-silent x h =
      let run = by-silence (h.asked, h.hush) in
      let events : 0 + up_to w.timing.p2 (map time_of es) ≡ x.events = omega (arith, h.events) in
      let outcome = sym h.outcome in
      let time = sym h.time in
      let notices = sym h.notices in
      let nothing = sym h.reply in (
        ap (λ (y : Answer). after true c y) run ∙ (λ i. answer (outcome i) (time i) (events i) (notices i) (nothing i)),
        subst⁻¹ Answers h.outcome tt,
      )

  -- A conversation is answered.
  pub complete : (x : Answer) → Conversation w c es x → (told ≡ x) × Answers x.outcome
  complete x (inl f) = complete-closed x f
  complete x (inr h) = complete-silent x h

  pub both_ways : (x : Answer) → ((told ≡ x) × Answers x.outcome) ↔ Conversation w c es x
  both_ways x =
      (λ h. subst (λ (y : Answer). Conversation w c es y) h.0 (sound (subst⁻¹ (λ (y : Answer). Answers y.outcome) h.0 h.1)), complete x)

-- A call that is not refused passed every refusal's test, and its answer is the exchange's, checked.
pub record Accepted (strict : Bool) (w : Setting) (c : Call) (l : Lent) : Type 0 where
  pub pass : Pass (refusals c (request_of w.quiet c) l.buffer l.form l.events l.replies)
  pub is : call strict w c l ≡ answered w c l (request_of w.quiet c) (after strict c (exchange strict (asked w c) w.overall (events_in l)))

pub accepted : (strict : Bool) (w : Setting) (c : Call) (l : Lent) → ¬ Refused (call strict w c l).answer.outcome → Accepted strict w c l
unfolding call
accepted strict w c l n =
    let h =
    judge-inv (refuse w l) (refusals c (request_of w.quiet c) l.buffer l.form l.events l.replies)
    (λ f e. n (subst (λ (y : Result). Refused y.answer.outcome) e tt))
    refl
    in
    record { pass = h.0; is = sym h.1 }

pub sound-events : (strict : Bool) (w : Setting) (c : Call) (l : Lent) → Accepted strict w c l → Sound l.form l.listens l.events l.replies
sound-events strict w c l h = limits l.form l.listens l.events l.replies (pass-append (arguments c) _ h.pass).1.1.1.0

pub demand3 : Demand3
unfolding exchange
demand3 w c l n t ok x =
    let h = accepted true w c l ok in
    let s = sound-events true w c l h in
    let same : (call true w c l).answer ≡ after true c (exchange true (asked w c) none (events_in l)) =
    ap (λ (y : Result). y.answer) h.is ∙ ap (λ (u : Option ℕ). after true c (exchange true (asked w c) u (events_in l))) t
    in
    let b = both_ways w c n (events_in l) s.rising' s.of-bytes x in
    (λ k. b.0 (sym same ∙ k.0, k.1), λ k. let r = b.1 k in (same ∙ r.0, r.1))
