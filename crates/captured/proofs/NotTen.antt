-- Events within the limits are never refused with 10.
use Prim.Native.Nat.{ℕ, ◌≤◌}
use native.Mathlib.Omega.{arith}
use mathlib.Core.Bool.{Bool, true, false}
use mathlib.Core.List.{List, [], ◌∷◌, ◌++◌}
use mathlib.Core.Option.{Option, none, some}
use mathlib.Core.Path.{◌≡◌, ap, subst⁻¹}
use lib.Dec.{leb, eqb}
use lib.ListN.{length}
use Rattle.rules.specs.After.{service_checks, handed, checked, after}
use Rattle.rules.specs.Answers.{Part, Outcome, positive, suppressed, negative, timeout, pending_limit, disconnected, transport, fault, refused, if_positive}
use Rattle.rules.specs.Calls.{Call, request, session, reset, security, tester_present, read_memory, write_memory, read_identifier, write_identifier, fault_count, routine}
use Rattle.rules.specs.Calls.{download, upload, transfer, transfer_exit, fault_list, Field, given, alfid, request_of}
use Rattle.rules.specs.Client.{Result, asked, events_in, refuse, answered, call}
use Rattle.rules.specs.Conversations.{Every}
use Rattle.rules.specs.Demand3.{Refused}
use Rattle.rules.specs.Events.{within_limits}
use Rattle.rules.specs.Exchange.{exchange}
use Rattle.rules.specs.InOrder.{Check, unless, judge}
use Rattle.rules.specs.Logs.{form_in, header_of, flag, event_bytes, reply_bytes, call_of, setting_of, lent_of, answer_of}
use Rattle.rules.specs.Refusals.{width, methods, lengths, key, arguments}
use Rattle.rules.specs.Settings.{Setting, Lent}
use Rattle.rules.proofs.Judging.{judge-ind, judge-faults, judge-append}
use Rattle.rules.proofs.Unrefused.{exchange-unrefused}

-- The arguments are refused with smaller numbers.
abbrev Small : Check ℕ → Type 0
Small c = c.fault ≤ 9

join : (a b : List (Check ℕ)) → Every Small a → Every Small b → Every Small (a ++ b)
join [] b p q = q
join (c ∷ a) b p q = (p.0, join a b p.1 q)

widths : (f : Field) → Every Small (width f)
widths (given bs) = tt
widths (alfid v w wide) = (omega arith, (omega arith, tt))

two-lengths : (a s : Field) → Every Small (lengths a s)
two-lengths a s = (omega arith, (omega arith, tt))

of_fields : (a s : Field) → Every Small (width a ++ width s ++ lengths a s)
of_fields a s = join (width a ++ width s) (lengths a s) (join (width a) (width s) (widths a) (widths s)) (two-lengths a s)

loading : (c e : ℕ) (a s : Field) → Every Small (width a ++ width s ++ methods c e ++ lengths a s)
loading c e a s =
    join (width a ++ width s ++ methods c e) (lengths a s)
    (join (width a ++ width s) (methods c e) (join (width a) (width s) (widths a) (widths s)) (omega arith, (omega arith, tt))) (two-lengths a s)

keyed : (sub : ℕ) (d : Option (List ℕ)) → Every Small (key sub d)
keyed sub none = (omega arith, tt)
keyed sub (some d) = tt

of-arguments : (c : Call) → Every Small (arguments c)
of-arguments (request sid sub d) = tt
of-arguments (session sub) = tt
of-arguments (reset sub) = tt
of-arguments (security sub d) = keyed sub d
of-arguments tester_present = tt
of-arguments (read_memory a s) = of_fields a s
of-arguments (write_memory a s d) = of_fields a s
of-arguments (read_identifier id) = tt
of-arguments (write_identifier id d) = tt
of-arguments (fault_count mask) = tt
of-arguments (routine sub id d) = tt
of-arguments (download c e a s) = loading c e a s
of-arguments (upload c e a s) = loading c e a s
of-arguments (transfer counter d) = tt
of-arguments (transfer_exit d) = tt
of-arguments (fault_list mask) = tt

-- The checks after a positive refuse nothing.
not-by-checks : (strict : Bool) (c : Call) (p : Part) (o : Outcome) → ¬ Refused o → ¬ Refused (if_positive o (λ d. checked strict c p) o)
unfolding checked
not-by-checks strict c p (positive q) h = judge-ind (λ (o : Outcome). ¬ Refused o) fault (service_checks strict c p.bytes) (positive (handed c p)) (λ f x. x) (λ _ x. x)
not-by-checks strict c p suppressed h = h
not-by-checks strict c p (negative n) h = h
not-by-checks strict c p timeout h = h
not-by-checks strict c p pending_limit h = h
not-by-checks strict c p disconnected h = h
not-by-checks strict c p (transport n) h = h
not-by-checks strict c p (fault f) h = h
not-by-checks strict c p (refused n) h = h

abbrev number_in : Outcome → ℕ
number_in (positive q) = 0
number_in suppressed = 0
number_in (negative n) = 0
number_in timeout = 0
number_in pending_limit = 0
number_in disconnected = 0
number_in (transport n) = 0
number_in (fault f) = 0
number_in (refused n) = n

not-ten-of : (strict : Bool) (w : Setting) (c : Call) (l : Lent) → within_limits l.form l.events l.replies ≡ true →
    (call strict w c l).answer.outcome ≡ refused 10 → ⊥
unfolding call
not-ten-of strict w c l h =
    subst⁻¹ P (judge-append (refuse w l) (arguments c) last right)
    (judge-faults (λ (f : ℕ). f ≤ 9) P (refuse w l) (arguments c) (judge (refuse w l) last right) (of-arguments c) small
    (λ _. by_tests (leb (length message) 4095) (leb (length message) (length l.buffer))))
  where
    P : Result → Type 0
    P y = y.answer.outcome ≡ refused 10 → ⊥

    message : List ℕ
    message = request_of w.quiet c

    right : Result
    right = answered w c l message (after strict c (exchange strict (asked w c) w.overall (events_in l)))

    last : List (Check ℕ)
    last =
        unless (leb (length message) 4095) 8 ∷
        unless (leb (length message) (length l.buffer)) 9 ∷
        unless (within_limits l.form l.events l.replies) 10 ∷ []

    small : (f : ℕ) → f ≤ 9 → P (refuse w l f)
    small f k e = let same = ap number_in e in omega (arith, same)

    unrefused : P right
    unrefused e =
        let x = exchange strict (asked w c) w.overall (events_in l) in
        not-by-checks strict c x.reply x.outcome (exchange-unrefused strict (asked w c) w.overall (events_in l)) (subst⁻¹ Refused e tt)

    by_tests : (a b : Bool) → P (judge (refuse w l) (unless a 8 ∷ unless b 9 ∷ unless (within_limits l.form l.events l.replies) 10 ∷ []) right)
    by_tests true true = rw h unrefused
    by_tests true false = small 9 (omega arith)
    by_tests false b = small 8 (omega arith)

pub not-ten : (l : List ℕ) → within_limits (form_in (header_of l)) (event_bytes (header_of l) l) (reply_bytes (header_of l) l) ≡ true → (answer_of l).outcome ≡ refused 10 → ⊥
unfolding answer_of
not-ten l h = let g = header_of l in not-ten-of (eqb (flag 1 g) 1) (setting_of g) (call_of g l) (lent_of g l) h
