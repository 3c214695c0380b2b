-- Demand 1's second sentence, proved: refusals come of the tests before the exchange alone, and each has a number of document 01.
use Prim.Native.Nat.{ℕ}
use mathlib.Core.Bool.{Bool, true, false, cond, true≢false, ◌||◌}
use mathlib.Core.Path.{◌≡◌, refl, sym, ◌∙◌, ap, subst, subst⁻¹}
use mathlib.Core.Logic.{◌↔◌, inl, inr}
use mathlib.Core.List.{List, [], ◌∷◌, ◌++◌}
use lib.Dec.{eqb}
use lib.ListN.{get_or}
use mathlib.Core.Option.{Option, none, some}
use Rattle.rules.specs.After.{service_checks, handed, checked, after}
use Rattle.rules.specs.Answers.{Part, Outcome, positive, suppressed, negative, timeout, pending_limit, disconnected, transport, fault, refused, if_positive}
use Rattle.rules.specs.Calls.{Call, request, session, reset, security, tester_present, read_memory, write_memory, read_identifier, write_identifier, fault_count, routine, download, upload, transfer, transfer_exit, fault_list, Field, given, alfid, numbered, request_of}
use Rattle.rules.specs.InOrder.{Check, judge}
use Rattle.rules.specs.Client.{Result, asked, events_in, refuse, answered, call}
use Rattle.rules.specs.Conversations.{Every}
use Rattle.rules.specs.Demand1.{of_memory, of_loading, own, numbers_for, among, Numbered, Untouched, FirstToFail, Exactly, Demand1}
use Rattle.rules.specs.Demand3.{Refused}
use Rattle.rules.specs.Exchange.{exchange}
use Rattle.rules.specs.Refusals.{width, methods, lengths, arguments, refusals}
use Rattle.rules.specs.Settings.{Setting, Lent}
use Rattle.rules.proofs.Judging.{judge-ind, judge-faults}
use Rattle.rules.proofs.Unrefused.{exchange-unrefused}

-- Every test's number is one of these.
abbrev Among : List ℕ → List (Check ℕ) → Type 0
Among ns cs = Every (λ k. among ns k.fault ≡ true) cs

module _ (ns : List ℕ) where
  join : (cs ds : List (Check ℕ)) → Among ns cs → Among ns ds → Among ns (cs ++ ds)
  join [] ds h k = k
  join (c ∷ cs) ds h k = (h.0, join cs ds h.1 k)

  module _ (six : among ns 6 ≡ true) (seven : among ns 7 ≡ true) where
    widths : (a : Field) → Among ns (width a)
    widths (given bs) = tt
    widths (alfid v w wide) = (six, (seven, tt))

    fields : (a s : Field) (cs : List (Check ℕ)) → Among ns cs → Among ns (width a ++ width s ++ cs)
    fields a s cs h = join (width a ++ width s) cs (join (width a) (width s) (widths a) (widths s)) h

-- The refusals of a call's arguments.
module _ (a s : Field) where
  by-memory : Among (of_memory ++ (8 ∷ 9 ∷ 10 ∷ [])) (width a ++ width s ++ lengths a s)
  by-memory = fields (of_memory ++ (8 ∷ 9 ∷ 10 ∷ [])) refl refl a s (lengths a s) (refl, (refl, tt))

  by-loading : (c e : ℕ) → Among (of_loading ++ (8 ∷ 9 ∷ 10 ∷ [])) (width a ++ width s ++ methods c e ++ lengths a s)
  by-loading c e =
      let ns = of_loading ++ (8 ∷ 9 ∷ 10 ∷ []) in
      join ns (width a ++ width s ++ methods c e) (lengths a s) (fields ns refl refl a s (methods c e) (refl, (refl, tt))) (refl, (refl, tt))

by-arguments : (c : Call) → Among (numbers_for c) (arguments c)
by-arguments (request sid sub d) = tt
by-arguments (session sub) = tt
by-arguments (reset sub) = tt
by-arguments (security sub none) = (refl, tt)
by-arguments (security sub (some d)) = tt
by-arguments tester_present = tt
by-arguments (read_memory a s) = by-memory a s
by-arguments (write_memory a s d) = by-memory a s
by-arguments (read_identifier id) = tt
by-arguments (write_identifier id d) = tt
by-arguments (fault_count mask) = tt
by-arguments (routine sub id d) = tt
by-arguments (download c e a s) = by-loading a s c e
by-arguments (upload c e a s) = by-loading a s c e
by-arguments (transfer counter d) = tt
by-arguments (transfer_exit d) = tt
by-arguments (fault_list mask) = tt

or_true_right : (b : Bool) → (b || true) ≡ true
or_true_right true = refl
or_true_right false = refl

-- 8, 9 and 10 are every call's.
among-last : (ns : List ℕ) (n : ℕ) → among (8 ∷ 9 ∷ 10 ∷ []) n ≡ true → among (ns ++ (8 ∷ 9 ∷ 10 ∷ [])) n ≡ true
among-last [] n h = h
among-last (k ∷ ks) n h = rw (among-last ks n h) (or_true_right (eqb n k))

-- The checks after a positive refuse nothing.
not-by-checks : (strict : Bool) (c : Call) (p : Part) (o : Outcome) → ¬ Refused o → ¬ Refused (if_positive o (λ d. checked strict c p) o)
unfolding checked
not-by-checks strict c p (positive q) h = judge-ind (λ (o : Outcome). ¬ Refused o) fault (service_checks strict c p.bytes) (positive (handed c p)) (λ f x. x) (λ _ x. x)
not-by-checks strict c p suppressed h = h
not-by-checks strict c p (negative n) h = h
not-by-checks strict c p timeout h = h
not-by-checks strict c p pending_limit h = h
not-by-checks strict c p disconnected h = h
not-by-checks strict c p (transport n) h = h
not-by-checks strict c p (fault f) h = h
not-by-checks strict c p (refused n) h = h

pub demand1 : Demand1
unfolding call
demand1 strict w c l n =
    let message = request_of w.quiet c in
    let last = among-last (get_or own (numbered c) []) in
    let x = exchange strict (asked w c) w.overall (events_in l) in
    judge-faults (Numbered c) (λ (y : Result). y.answer.outcome ≡ refused n → Untouched w c l n y) (refuse w l) (refusals c message l.buffer l.form l.events l.replies)
    (answered w c l message (after strict c x))
    (join (numbers_for c) (arguments c) _ (by-arguments c) (last 8 refl, (last 9 refl, (last 10 refl, tt))))
    (λ f k e. record {
      numbered = let same : f ≡ n = cc in subst (Numbered c) same k;
      time = refl;
      events = refl;
      notices = refl;
      reply = refl;
      number = refl;
      sent = refl;
      timing = refl;
      buffer = refl;
    })
    (λ p e. absurd (not-by-checks strict c x.reply x.outcome (exchange-unrefused strict (asked w c) w.overall (events_in l)) (subst⁻¹ Refused e tt)))

-- What a call answers that is not refused is no refusal.
module _ (w : Setting) (l : Lent) (n : ℕ) (x : Result) (unrefused : ¬ Refused x.answer.outcome) where
  exact : (cs : List (Check ℕ)) → ((judge (refuse w l) cs x).answer.outcome ≡ refused n) ↔ FirstToFail cs n
  exact [] = (λ e. unrefused (subst⁻¹ Refused e tt), λ k. absurd k)
  exact (c ∷ cs) = go c.test refl (exact cs)
    where
      go : (b : Bool) → c.test ≡ b → ((judge (refuse w l) cs x).answer.outcome ≡ refused n) ↔ FirstToFail cs n
          → ((cond b (judge (refuse w l) cs x) (refuse w l c.fault)).answer.outcome ≡ refused n) ↔ FirstToFail (c ∷ cs) n
      go true e more = (λ k. inr (e, more.0 k), λ k. elim k [ inl z ↦ absurd (true≢false (sym e ∙ z.0)) | inr z ↦ more.1 z.1 ])
      go false e more = (λ k. inl (e, cc), λ k. elim k [ inl z ↦ ap refused z.1 | inr z ↦ absurd (true≢false (sym z.0 ∙ e)) ])

pub exactly : Exactly
unfolding call
exactly strict w c l n =
    let message = request_of w.quiet c in
    let x = exchange strict (asked w c) w.overall (events_in l) in
    exact w l n (answered w c l message (after strict c x))
    (not-by-checks strict c x.reply x.outcome (exchange-unrefused strict (asked w c) w.overall (events_in l)))
    (refusals c message l.buffer l.form l.events l.replies)
