-- Request Twelve, proved layer by layer: a check list, a reply, a settling, T, the checks after the positive, the whole call.
use Prim.Native.Nat.{ℕ, ◌+◌, ◌%◌, ◌≤◌, ◌<◌}
use native.Mathlib.Omega.{arith}
use mathlib.Core.Bool.{Bool, true, false, cond, not}
use mathlib.Core.Path.{◌≡◌, refl, sym, ◌∙◌, ap, ap₂, subst, subst⁻¹}
use mathlib.Core.Logic.{inl, inr}
use mathlib.Core.List.{List, [], ◌∷◌}
use mathlib.Core.Option.{Option, none, some}
use lib.Dec.{leb, ltb, eqb}
use lib.ListN.{length, get_or}
use borrow.Author.Tests.{leb-false, lt-leb}
use Rattle.rules.specs.After.{bounds, exactly, length_bytes, block_length, loading, service_checks, checked, after}
use Rattle.rules.specs.Answers.{Part, behind, nowhere, Fault, deviation, deviation8, bad_length, length_error, Outcome, positive, suppressed, negative, timeout, pending_limit, disconnected, transport, fault, refused, if_positive, Answer, answer}
use Rattle.rules.specs.Bytes.{value, same}
use Rattle.rules.specs.Calls.{Call, request, session, reset, security, tester_present, read_memory, write_memory, read_identifier, write_identifier, fault_count, routine, download, upload, transfer, transfer_exit, fault_list, head, request_of}
use Rattle.rules.specs.InOrder.{Check, unless, judge}
use Rattle.rules.specs.Client.{Result, asked, events_in, refuse, answered, call}
use Rattle.rules.specs.Counts.{Rising}
use Rattle.rules.specs.Demand3.{Answers}
use Rattle.rules.specs.Events.{Event, reply, idle, ended, failed, time_of, up_to}
use Rattle.rules.specs.Exchange.{Asked, Step, pending, settles, wrong, negative_checks, coded, echoing, positive_checks, look, Settled, settled, State, start, finish, allows, notes, hears, turn, settle, under, exchange}
use Rattle.rules.specs.Lenient.{Deviates, Lenient}
use Rattle.rules.specs.Refusals.{refusals, arguments}
use Rattle.rules.specs.Settings.{Setting, Lent}
use Rattle.rules.proofs.Judging.{Pass, judge-ind, pass-append}
use Rattle.rules.proofs.Limits.{limits}
use Rattle.rules.proofs.Milder.{DeviatesOr, Says, Mild, mild-append, judge-mild, judge-says, strict-only, length_both, length_more, overflow-both}
use Rattle.rules.proofs.Turns.{Through, settle-late, settle-on, settle-ends, settle-ind, finish-late, under-ind}

-- What a mode may say, of an outcome and of a step.
abbrev Said : Bool → Outcome → Type 0
Said strict (positive p) = Unit {0}
Said strict suppressed = Unit {0}
Said strict (negative n) = Unit {0}
Said strict timeout = Unit {0}
Said strict pending_limit = Unit {0}
Said strict disconnected = Unit {0}
Said strict (transport n) = Unit {0}
Said strict (fault f) = Says strict f
Said strict (refused n) = Unit {0}

abbrev SaidStep : Bool → Step → Type 0
SaidStep strict pending = Unit {0}
SaidStep strict (settles o) = Said strict o

abbrev DeviatesStep : Step → Type 0
DeviatesStep pending = ⊥
DeviatesStep (settles o) = Deviates o

-- The exchange's lists.
abbrev empty_checks : List ℕ → Bool → List (Check Fault)
empty_checks r strict = unless (ltb 0 (length r)) (length_error strict 1 none) ∷ []

empty-mild : (r : List ℕ) → Mild (empty_checks r true) (empty_checks r false)
empty-mild r = (length_both _ 1 none, tt)

negative-mild : (a : Asked) (r : List ℕ) → Mild (negative_checks true a r) (negative_checks false a r)
negative-mild a r = (length_more (leb 3 (length r)) (eqb (length r) 3) 3 (some 3), (strict-only _ (deviation 2) (deviation 2) tt, tt))

echoing-mild : (sub : Option ℕ) (r : List ℕ) → Mild (echoing true sub r) (echoing false sub r)
echoing-mild none r = tt
echoing-mild (some s) r = (length_both _ 2 none, (strict-only _ (deviation 3) (deviation 3) tt, tt))

positive-mild : (a : Asked) (hush : Bool) (r : List ℕ) → Mild (positive_checks true a hush r) (positive_checks false a hush r)
positive-mild a hush r = (
  strict-only _ (deviation 1) (deviation 1) tt,
  mild-append (echoing true a.sub r) (echoing false a.sub r) _ _ (echoing-mild a.sub r) (strict-only _ (deviation 4) (deviation 4) tt, tt),
)

-- One reply.
module _ (a : Asked) (hush : Bool) (p : Part) where
  abbrev good : Step
  good = settles (positive (behind (head a.sub) p))

  look-mild : DeviatesOr DeviatesStep (look true a hush p) (look false a hush p)
  unfolding look
  look-mild = judge-mild wrong DeviatesStep (λ f v. v) (empty_checks p.bytes) _ _ (empty-mild p.bytes) (first (eqb (get_or p.bytes 0 0) 0x7f))
    where
      first : (b : Bool)
          → DeviatesOr DeviatesStep (cond b (judge wrong (negative_checks true a p.bytes) (coded (get_or p.bytes 2 0))) (judge wrong (positive_checks true a hush p.bytes) good))
          (cond b (judge wrong (negative_checks false a p.bytes) (coded (get_or p.bytes 2 0))) (judge wrong (positive_checks false a hush p.bytes) good))
      first true = judge-mild wrong DeviatesStep (λ f v. v) (λ m. negative_checks m a p.bytes) _ _ (negative-mild a p.bytes) (inr refl)
      first false = judge-mild wrong DeviatesStep (λ f v. v) (λ m. positive_checks m a hush p.bytes) _ _ (positive-mild a hush p.bytes) (inr refl)

  look-says : (strict : Bool) → SaidStep strict (look strict a hush p)
  unfolding look
  look-says strict =
      judge-says strict wrong (SaidStep strict) (λ f s. s) (empty_checks p.bytes) _ (empty-mild p.bytes) (first (eqb (get_or p.bytes 0 0) 0x7f))
    where
      code : (b : Bool) (c : ℕ) → SaidStep strict (cond b pending (settles (negative c)))
      code true c = tt
      code false c = tt

      first : (b : Bool)
          → SaidStep strict (cond b (judge wrong (negative_checks strict a p.bytes) (coded (get_or p.bytes 2 0))) (judge wrong (positive_checks strict a hush p.bytes) good))
      first true = judge-says strict wrong (SaidStep strict) (λ f s. s) (λ m. negative_checks m a p.bytes) _ (negative-mild a p.bytes) (code (eqb (get_or p.bytes 2 0) 0x78) (get_or p.bytes 2 0))
      first false = judge-says strict wrong (SaidStep strict) (λ f s. s) (λ m. positive_checks m a hush p.bytes) _ (positive-mild a hush p.bytes) tt

-- An exchange says what its mode may say.
module _ (strict : Bool) (a : Asked) where
  abbrev Speaks : State → List Event → Settled → Type 0
  Speaks s es x = Said strict x.outcome

  speaks-through : (s : State) (e : Event) (es : List Event) → time_of e ≤ s.deadline → Through Speaks s e es (turn strict a s e)
  speaks-through s (reply t p) es k = by-look (look strict a s.hush p) (look-says a s.hush p strict)
    where
      by-look : (z : Step) → SaidStep strict z → Through Speaks s (reply t p) es (hears a s t p z)
      by-look pending h = noted (allows a.limit (length s.notices))
        where
          noted : (b : Bool) → Through Speaks s (reply t p) es (notes a s t p b)
          noted true = λ x k. k
          noted false = tt
      by-look (settles o) h = h
  speaks-through s (idle t) es k = λ x h. h
  speaks-through s (ended t) es k = tt
  speaks-through s (failed t n) es k = tt

  exchange-says : (overall : Option ℕ) (es : List Event) → Said strict (exchange strict a overall es).outcome
  unfolding exchange
  exchange-says overall es =
      under-ind (λ o p. Said strict o) tt (settle strict a es (start a))
      (settle-ind strict a Speaks (λ s es h. silent s.hush) speaks-through es (start a)) overall
    where
      silent : (hush : Bool) → Said strict (cond hush suppressed timeout)
      silent true = tt
      silent false = tt

-- Where all events and the deadline are past T, so is the end; and nothing more counts.
module _ (strict : Bool) (a : Asked) (overall : ℕ) where
  abbrev Past : State → List Event → Settled → Type 0
  Past s es x =
      (t : ℕ) → overall < t → overall < s.deadline → Rising t es
      → (overall < x.time) × (up_to overall x.read ≡ up_to overall s.read) × (up_to overall x.notices ≡ up_to overall s.notices)

  uncounted : (t : ℕ) (ts : List ℕ) → overall < t → up_to overall (t ∷ ts) ≡ up_to overall ts
  uncounted t ts h = rw (lt-leb t overall h) (omega arith)

  past-through : (s : State) (e : Event) (es : List Event) → time_of e ≤ s.deadline → Through Past s e es (turn strict a s e)
  past-through s (reply t p) es k = by-look (look strict a s.hush p)
    where
      by-look : (z : Step) → Through Past s (reply t p) es (hears a s t p z)
      by-look pending = noted (allows a.limit (length s.notices))
        where
          noted : (b : Bool) → Through Past s (reply t p) es (notes a s t p b)
          noted true = λ x h u m d r.
              let n : overall < t = omega (arith, r.0) in
              let g = h t n (omega arith) r.1 in
              (g.0, g.1 ∙ uncounted t s.read n, g.2 ∙ uncounted t s.notices n)
          noted false = λ u m d r.
              let n : overall < t = omega (arith, r.0) in
              (n, uncounted t s.read n, uncounted t s.notices n)
      by-look (settles o) = λ u m d r.
          let n : overall < t = omega (arith, r.0) in
          (omega (arith, finish-late a o t), uncounted t s.read n, refl)
  past-through s (idle t) es k = λ x h u m d r.
      let n : overall < t = omega (arith, r.0) in
      let g = h t n d r.1 in
      (g.0, g.1 ∙ uncounted t s.read n, g.2)
  past-through s (ended t) es k = λ u m d r. let n : overall < t = omega (arith, r.0) in (n, uncounted t s.read n, refl)
  past-through s (failed t n) es k = λ u m d r. let j : overall < t = omega (arith, r.0) in (j, uncounted t s.read j, refl)

  past : (es : List Event) (s : State) → Past s es (settle strict a es s)
  past = settle-ind strict a Past (λ s es h t m d r. (d, refl, refl)) past-through

  -- Two that end past T are one under T, if they count the same up to T.
  under-past : (x y : Settled) → overall < x.time → overall < y.time → up_to overall y.read ≡ up_to overall x.read → up_to overall y.notices ≡ up_to overall x.notices
      → under (some overall) x ≡ under (some overall) y
  under-past x y h k e n =
      rw (lt-leb x.time overall h, lt-leb y.time overall k) (ap₂ (λ (u v : ℕ). answer timeout overall u v nowhere) (sym e) (sym n))

abbrev DeviatesAnswer : Answer → Type 0
DeviatesAnswer x = Deviates x.outcome

-- "deviations do not wait": under T they are told, or both modes are past T.
at_once : (a : Asked) (o : Outcome) (t : ℕ) → Deviates o → finish a o t ≡ t
at_once a (positive p) t d = absurd d
at_once a suppressed t d = refl
at_once a (negative c) t d = absurd d
at_once a timeout t d = refl
at_once a pending_limit t d = refl
at_once a disconnected t d = refl
at_once a (transport n) t d = refl
at_once a (fault f) t d = refl
at_once a (refused n) t d = refl

-- The same events under strict and under lenient, from the same state on.
module _ (a : Asked) where
  abbrev Beside : State → List Event → Settled → Type 0
  Beside s es x = (t : ℕ) → Rising t es → (overall : Option ℕ) → DeviatesOr DeviatesAnswer (under overall x) (under overall (settle false a es s))

  deviated : (s : State) (t : ℕ) (p : Part) (es : List Event) (o : Outcome) → t ≤ s.deadline → Rising t es → Deviates o → (overall : Option ℕ)
      → let x = settled o (finish a o t) (t ∷ s.read) s.notices p in DeviatesOr DeviatesAnswer (under overall x) (under overall (settle false a (reply t p ∷ es) s))
  deviated s t p es o k r d none = inl d
  deviated s t p es o k r d (some overall) = go (leb (finish a o t) overall) refl
    where
      x : Settled
      x = settled o (finish a o t) (t ∷ s.read) s.notices p

      y : Settled
      y = settle false a (reply t p ∷ es) s

      go : (b : Bool) → leb (finish a o t) overall ≡ b → DeviatesOr DeviatesAnswer (under (some overall) x) (under (some overall) y)
      go true e = inl (rw e d)
      go false e =
          let h = leb-false (finish a o t) overall e in
          let n : overall < t = omega (arith, h, at_once a o t d) in
          let g = past false a overall (reply t p ∷ es) s t n (omega arith) (omega arith, r) in
          inr (under-past false a overall x y h g.0 (g.1 ∙ sym (uncounted false a overall t s.read n)) g.2)

  beside-through : (s : State) (e : Event) (es : List Event) → time_of e ≤ s.deadline → Through Beside s e es (turn true a s e)
  beside-through s (reply t p) es k = by-look (look true a s.hush p) (look-mild a s.hush p)
    where
      by-look : (z : Step) → DeviatesOr DeviatesStep z (look false a s.hush p) → Through Beside s (reply t p) es (hears a s t p z)
      by-look pending (inl d) = absurd d
      by-look pending (inr e) = noted (allows a.limit (length s.notices)) refl
        where
          -- The limit ends both modes alike.
          noted : (b : Bool) → allows a.limit (length s.notices) ≡ b → Through Beside s (reply t p) es (notes a s t p b)
          noted true n = λ x h u r overall.
              subst⁻¹ (λ (y : Settled). DeviatesOr DeviatesAnswer (under overall x) (under overall y))
              (settle-on false a s _ (reply t p) es k (ap (hears a s t p) (sym e) ∙ ap (notes a s t p) n)) (h t r.1 overall)
          noted false n = λ u r overall. inr (ap (under overall) (sym (settle-ends false a s _ (reply t p) es k (ap (hears a s t p) (sym e) ∙ ap (notes a s t p) n))))
      by-look (settles o) (inl d) = λ u r overall. deviated s t p es o k r.1 d overall
      by-look (settles o) (inr e) = λ u r overall. inr (ap (under overall) (sym (settle-ends false a s _ (reply t p) es k (ap (hears a s t p) (sym e)))))
  beside-through s (idle t) es k = λ x h u r overall.
      subst⁻¹ (λ (y : Settled). DeviatesOr DeviatesAnswer (under overall x) (under overall y)) (settle-on false a s _ (idle t) es k refl) (h t r.1 overall)
  beside-through s (ended t) es k = λ u r overall. inr (ap (under overall) (sym (settle-ends false a s _ (ended t) es k refl)))
  beside-through s (failed t n) es k = λ u r overall. inr (ap (under overall) (sym (settle-ends false a s _ (failed t n) es k refl)))

  exchange-mild : (overall : Option ℕ) (es : List Event) → Rising 0 es → DeviatesOr DeviatesAnswer (exchange true a overall es) (exchange false a overall es)
  unfolding exchange
  exchange-mild overall es r =
      settle-ind true a Beside (λ s es h t r overall. inr (ap (under overall) (sym (settle-late false a s es h)))) beside-through es (start a) 0 r overall

-- The checks after the positive.
loading-mild : (r : List ℕ) (n v : ℕ) → Mild (loading true r n v) (loading false r n v)
loading-mild r n v = (
  length_both _ 2 none,
  (
    strict-only _ (deviation 10) (deviation 10) tt,
    (
      strict-only _ (deviation 9) (deviation 9) tt,
      (length_more (leb (n + 2) (length r)) (leb (length r) (n + 2)) (n + 2) (some (n + 2)), (strict-only _ (deviation 11) (deviation 11) tt, (overflow-both _, tt))),
    ),
  ),
)

checks-mild : (c : Call) (r : List ℕ) → Mild (service_checks true c r) (service_checks false c r)
checks-mild (request sid sub x) r = tt
checks-mild (session sub) r = (strict-only _ (deviation8 6 (some 6)) bad_length tt, tt)
checks-mild (reset sub) r = (strict-only _ (deviation8 _ _) bad_length tt, tt)
checks-mild (security sub x) r = go (eqb (sub % 2) 1)
  where
    go : (b : Bool) → Mild (cond b (bounds true 3 none r) (exactly true 2 r) ∷ []) (cond b (bounds false 3 none r) (exactly false 2 r) ∷ [])
    go true = (strict-only _ (deviation8 3 none) bad_length tt, tt)
    go false = (strict-only _ (deviation8 2 (some 2)) bad_length tt, tt)
checks-mild tester_present r = (strict-only _ (deviation8 2 (some 2)) bad_length tt, tt)
checks-mild (read_memory a s) r = (strict-only _ (deviation 15) (deviation 15) tt, (strict-only _ (deviation8 2 none) bad_length tt, tt))
checks-mild (write_memory a s x) r = (
  strict-only _ (deviation8 _ _) bad_length tt,
  (strict-only _ (deviation 12) (deviation 12) tt, (strict-only _ (deviation 13) (deviation 13) tt, (strict-only _ (deviation 14) (deviation 14) tt, tt))),
)
checks-mild (read_identifier id) r = (strict-only _ (deviation8 4 none) bad_length tt, (length_both _ 3 none, (strict-only _ (deviation 5) (deviation 5) tt, tt)))
checks-mild (write_identifier id x) r = (strict-only _ (deviation8 3 (some 3)) bad_length tt, (length_both _ 3 none, (strict-only _ (deviation 5) (deviation 5) tt, tt)))
checks-mild (fault_count mask) r = (length_more (leb 6 (length r)) (eqb (length r) 6) 6 (some 6), tt)
checks-mild (routine sub id x) r = (length_both _ 4 none, (strict-only _ (deviation 6) (deviation 6) tt, tt))
checks-mild (download c e a s) r = loading-mild r (length_bytes r) (value (block_length r))
checks-mild (upload c e a s) r = loading-mild r (length_bytes r) (value (block_length r))
checks-mild (transfer counter x) r = (strict-only _ (deviation8 _ none) bad_length tt, (length_both _ 2 none, (strict-only _ (deviation 7) (deviation 7) tt, tt)))
checks-mild (transfer_exit x) r = tt
checks-mild (fault_list mask) r = (strict-only _ (deviation8 3 none) bad_length tt, (length_both _ 3 none, tt))

-- What is made of two positives, and passes on otherwise, side by side.
by-positive : (Q : Outcome → Outcome → Type 0) (y z o : Outcome) → ((p : Part) → Q (positive p) (positive p) → Q y z) → Q o o → Q (if_positive o (λ d. y) o) (if_positive o (λ d. z) o)
by-positive Q y z (positive p) f h = f p h
by-positive Q y z suppressed f h = h
by-positive Q y z (negative n) f h = h
by-positive Q y z timeout f h = h
by-positive Q y z pending_limit f h = h
by-positive Q y z disconnected f h = h
by-positive Q y z (transport n) f h = h
by-positive Q y z (fault e) f h = h
by-positive Q y z (refused n) f h = h

module _ (c : Call) where
  checked-mild : (p : Part) → DeviatesOr Deviates (checked true c p) (checked false c p)
  unfolding checked
  checked-mild p = judge-mild fault Deviates (λ f v. v) (λ m. service_checks m c p.bytes) _ _ (checks-mild c p.bytes) (inr refl)

  checked-says : (strict : Bool) (p : Part) → Said strict (checked strict c p)
  unfolding checked
  checked-says strict p = judge-says strict fault (Said strict) (λ f s. s) (λ m. service_checks m c p.bytes) _ (checks-mild c p.bytes) tt

  after-mild : (x y : Answer) → DeviatesOr DeviatesAnswer x y → DeviatesOr DeviatesAnswer (after true c x) (after false c y)
  after-mild x y (inl d) =
      inl (by-positive (λ o o'. Deviates o) (checked true c x.reply) (checked true c x.reply) x.outcome (λ p v. absurd v) d)
  after-mild x y (inr e) =
      subst (λ (z : Answer). DeviatesOr DeviatesAnswer (after true c x) (after false c z)) e
      (elim (by-positive (DeviatesOr Deviates) (checked true c x.reply) (checked false c x.reply) x.outcome (λ p v. checked-mild x.reply) (inr refl)) [
        | inl d ↦ inl d
        | inr k ↦ inr (ap (λ (o : Outcome). answer o x.time x.events x.notices x.reply) k)
      ])

  after-says : (strict : Bool) (x : Answer) → Said strict x.outcome → Said strict (after strict c x).outcome
  after-says strict x h =
      by-positive (λ o o'. Said strict o) (checked strict c x.reply) (checked strict c x.reply) x.outcome (λ p v. checked-says strict x.reply) h

-- The whole call.
abbrev DeviatesResult : Result → Type 0
DeviatesResult x = Deviates x.answer.outcome

module _ (w : Setting) (c : Call) (l : Lent) where
  abbrev tests : List (Check ℕ)
  tests = refusals c (request_of w.quiet c) l.buffer l.form l.events l.replies

  abbrev ran : Bool → Answer
  ran strict = after strict c (exchange strict (asked w c) w.overall (events_in l))

  run-mild : Pass tests → DeviatesOr DeviatesAnswer (ran true) (ran false)
  run-mild p = after-mild c _ _ (exchange-mild (asked w c) w.overall (events_in l) (limits l.form l.listens l.events l.replies (pass-append (arguments c) _ p).1.1.1.0).rising')

  -- What the two calls are where none is refused is what they are.
  both-judged : (tests' : List (Check ℕ)) (x y : Result) → (Pass tests' → DeviatesOr DeviatesResult x y) → DeviatesOr DeviatesResult (judge (refuse w l) tests' x) (judge (refuse w l) tests' y)
  both-judged [] x y h = h tt
  both-judged (t ∷ ts) x y h = go t.test refl (λ e. both-judged ts x y (λ p. h (e, p)))
    where
      go : (b : Bool) → t.test ≡ b → (t.test ≡ true → DeviatesOr DeviatesResult (judge (refuse w l) ts x) (judge (refuse w l) ts y))
          → DeviatesOr DeviatesResult (cond b (judge (refuse w l) ts x) (refuse w l t.fault)) (cond b (judge (refuse w l) ts y) (refuse w l t.fault))
      go true e more = more e
      go false e more = inr refl

  call-mild : DeviatesOr DeviatesResult (call true w c l) (call false w c l)
  unfolding call
  call-mild = both-judged tests _ _ (λ p. elim (run-mild p) [
    | inl d ↦ inl d
    | inr e ↦ inr (ap (answered w c l (request_of w.quiet c)) e)
  ])

  call-says : (strict : Bool) → Said strict (call strict w c l).answer.outcome
  unfolding call
  call-says strict =
      judge-ind (λ (x : Result). Said strict x.answer.outcome) (refuse w l) tests _ (λ n. tt)
      (λ p. after-says c strict (exchange strict (asked w c) w.overall (events_in l)) (exchange-says strict (asked w c) w.overall (events_in l)))

not-both : (o : Outcome) → Answers o → ¬ Deviates o
not-both (positive p) a d = d
not-both suppressed a d = d
not-both (negative n) a d = d
not-both timeout a d = d
not-both pending_limit a d = d
not-both disconnected a d = d
not-both (transport n) a d = d
not-both (fault f) a d = a
not-both (refused n) a d = d

unsaid : (o : Outcome) → Said false o → ¬ Deviates o
unsaid (positive p) s d = d
unsaid suppressed s d = d
unsaid (negative n) s d = d
unsaid timeout s d = d
unsaid pending_limit s d = d
unsaid disconnected s d = d
unsaid (transport n) s d = d
unsaid (fault f) s d = s d
unsaid (refused n) s d = d

pub lenient : Lenient
lenient w c l = record {
  answers-alike = λ h. elim (call-mild w c l) [ inl d ↦ absurd (not-both (call true w c l).answer.outcome h d) | inr e ↦ sym e ];
  differs-by-deviation = elim (call-mild w c l) [ inl d ↦ inl d | inr e ↦ inr (sym e) ];
  strict-no-length = λ e. subst (Said true) e (call-says w c l true) tt;
  lenient-no-deviation = unsaid (call false w c l).answer.outcome (call-says w c l false);
}
