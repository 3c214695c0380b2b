-- What follows an exchange: what a call does with what request_exchange gave, against `after`.
use Prim.Native.Nat.{ℕ, ◌≤◌}
use mathlib.Core.Bool.{Bool, true, false, cond, ◌&&◌}
use mathlib.Core.Path.{◌≡◌, refl, sym, ◌∙◌, ap}
use mathlib.Core.List.{List, []}
use mathlib.Core.Option.{Option}
use lib.Dec.{eqb}
use lib.ListN.{length}
use Rattle.rules.specs.After.{service_checks, handed, checked, timing_of, number_of}
use Rattle.rules.specs.Answers.{Part, part, Outcome, positive, suppressed, negative, timeout, pending_limit, disconnected, transport, fault, refused}
use Rattle.rules.specs.Answers.{if_positive, Answer, answer}
use Rattle.rules.specs.Bytes.{every, is_byte}
use Rattle.rules.specs.Calls.{Call, head, numbered, suppresses}
use Rattle.rules.specs.Conversations.{Every}
use Rattle.rules.specs.Counts.{After}
use Rattle.rules.specs.Events.{Event, reply, idle, ended, failed, time_of}
use Rattle.rules.specs.Exchange.{Asked, Step, pending, settles, look, Settled, State, start, allows, notes, hears, turn, silence, settle, exchange}
use Rattle.rules.specs.InOrder.{judge}
use Rattle.rules.specs.Settings.{Timing}
use Rattle.rules.proofs.Inside.{Headed}
use Rattle.rules.proofs.Judging.{judge-under}
use Rattle.rules.proofs.Limits.{OfBytes}
use Rattle.rules.proofs.Look.{look-ind}
use Rattle.rules.proofs.Turns.{Through, settle-ind, under-ind}
use Rattle.original.specs.Rust.{World, world, Run, ok, err, panics, and_then}
use Rattle.original.specs.Errors.{Error}
use Rattle.original.specs.Client.{Response, response, RequestOutcome, PositiveResponse, Suppressed}
use Rattle.original.specs.Shown.{Fail, shown, exchanged, Given, finished}
use Rattle.original.proofs.Laws.{shown-then}

-- What is known of an exchange's end: where suppression was not asked for it is not suppressed, and its reply is of bytes.
abbrev pub Hushed : Bool → Outcome → Type 0
Hushed asked (positive d) = Unit {0}
Hushed asked suppressed = asked ≡ true
Hushed asked (negative n) = Unit {0}
Hushed asked timeout = Unit {0}
Hushed asked pending_limit = Unit {0}
Hushed asked disconnected = Unit {0}
Hushed asked (transport n) = Unit {0}
Hushed asked (fault f) = Unit {0}
Hushed asked (refused n) = Unit {0}

module _ (strict : Bool) (a : Asked) where
  abbrev Known : State → List Event → Settled → Type 0
  Known s es x = Every OfBytes es → (s.hush ≡ true → suppresses a.sub ≡ true)
      → Hushed (suppresses a.sub) x.outcome × (every is_byte x.reply.bytes ≡ true)

  abbrev HushedStep : Step → Type 0
  HushedStep pending = Unit {0}
  HushedStep (settles o) = Hushed (suppresses a.sub) o

  looked : (hush : Bool) (p : Part) → HushedStep (look strict a hush p)
  looked hush p = look-ind strict a hush p HushedStep (λ f. tt) tt (λ c. tt) (λ h k. tt)

  silent : (s : State) (es : List Event) → After s.deadline es → Known s es (silence s)
  silent s es l b h = (go s.hush h, refl)
    where
      go : (hush : Bool) → (hush ≡ true → suppresses a.sub ≡ true) → Hushed (suppresses a.sub) (cond hush suppressed timeout)
      go true h = h refl
      go false h = tt

  through : (s : State) (e : Event) (es : List Event) → time_of e ≤ s.deadline → Through Known s e es (turn strict a s e)
  through s (reply t p) es k = by-look (look strict a s.hush p) (looked s.hush p)
    where
      by-look : (z : Step) → HushedStep z → Through Known s (reply t p) es (hears a s t p z)
      by-look pending h = noted (allows a.limit (length s.notices))
        where
          noted : (b : Bool) → Through Known s (reply t p) es (notes a s t p b)
          noted true = λ x more b h. more b.1 (λ e. absurd (mathlib.Core.Bool.false≢true e))
          noted false = λ b h. (tt, b.0)
      by-look (settles o) h = λ b q. (h, b.0)
  through s (idle t) es k = λ x more b h. more b.1 h
  through s (ended t) es k = λ b h. (tt, refl)
  through s (failed t n) es k = λ b h. (tt, refl)

  pub exchange-known : (overall : Option ℕ) (es : List Event) → Every OfBytes es
      → let x = exchange strict a overall es in Hushed (suppresses a.sub) x.outcome × (every is_byte x.reply.bytes ≡ true)
  unfolding exchange
  exchange-known overall es b =
      under-ind (λ o p. Hushed (suppresses a.sub) o × (every is_byte p.bytes ≡ true)) (tt, refl) (settle strict a es (start a))
      (settle-ind strict a Known silent through es (start a) b (λ e. e)) overall

pub then-assoc : {E A B C : Type 0} (r : Run E A) (k : A → World → Run E B) (m : B → World → Run E C)
    → and_then (and_then r k) m ≡ and_then r (λ x w. and_then (k x w) m)
then-assoc (ok x w) k m = refl
then-assoc (err e w) k m = refl
then-assoc (panics w) k m = refl

pub same_cond : {A : Type 0} (b : Bool) (x : A) → cond b x x ≡ x
same_cond true x = refl
same_cond false x = refl

module _ (strict server_timing : Bool) (c : Call) (sent : List (List ℕ)) (timing : Timing) where
  -- The end of the call, by its outcome.
  abbrev pub ends : Outcome → List ℕ → ℕ → Run Fail Given
  ends o r t = finished c (number_of c o) o r (world t sent (timing_of server_timing c o timing))

  -- The checks after a positive, as a run.
  abbrev pub judged : Part → ℕ → Run Fail Given
  judged p t = judge (λ f. ends (fault f) p.bytes t) (service_checks strict c p.bytes) (ends (positive (handed c p)) p.bytes t)

  pub checked-ends : (p : Part) (t : ℕ) → ends (checked strict c p) p.bytes t ≡ judged p t
  unfolding checked
  checked-ends p t = judge-under (λ o. ends o p.bytes t) fault (service_checks strict c p.bytes) (positive (handed c p))

  module _ (sub : Option ℕ) (asked : Bool) (k : RequestOutcome Response → World → Run Error Given)
      (pos : (at : ℕ) (r : List ℕ) → head sub ≤ length r → (t : ℕ) → every is_byte r ≡ true
      → shown (k (PositiveResponse (response r (head sub))) (world t sent timing)) ≡ judged (part at r) t)
      (hush : (t : ℕ) → asked ≡ true → shown (k Suppressed (world t sent timing)) ≡ ends suppressed [] t) where
    by-outcome : (o : Outcome) (p : Part) (t : ℕ) (e n : ℕ) → Headed sub p o → Hushed asked o → every is_byte p.bytes ≡ true
        → and_then (exchanged sub sent timing (answer o t e n p)) (λ x w. shown (k x w)) ≡ ends (if_positive o (λ d. checked strict c p) o) p.bytes t
    by-outcome (positive d) p t e n l h b = pos p.at p.bytes l t b ∙ sym (checked-ends p t)
    by-outcome suppressed p t e n l h b = hush t h
    by-outcome (negative m) p t e n l h b = rw (same_cond (eqb (numbered c) 1 && server_timing) timing) refl
    by-outcome timeout p t e n l h b = rw (same_cond (eqb (numbered c) 1 && server_timing) timing) refl
    by-outcome pending_limit p t e n l h b = rw (same_cond (eqb (numbered c) 1 && server_timing) timing) refl
    by-outcome disconnected p t e n l h b = rw (same_cond (eqb (numbered c) 1 && server_timing) timing) refl
    by-outcome (transport m) p t e n l h b = rw (same_cond (eqb (numbered c) 1 && server_timing) timing) refl
    by-outcome (fault f) p t e n l h b = rw (same_cond (eqb (numbered c) 1 && server_timing) timing) refl
    by-outcome (refused m) p t e n l h b = absurd l

    pub follow : (r : Run Error (RequestOutcome Response)) (x : Answer) → shown r ≡ exchanged sub sent timing x → Headed sub x.reply x.outcome
        → Hushed asked x.outcome
        → every is_byte x.reply.bytes ≡ true → shown (and_then r k)
        ≡ ends (if_positive x.outcome (λ d. checked strict c x.reply) x.outcome) x.reply.bytes x.time
    follow r x h l q b =
        shown-then r k ∙ ap (λ (z : Run Fail (RequestOutcome Response)). and_then z (λ x w. shown (k x w))) h
        ∙ by-outcome x.outcome x.reply x.time x.events x.notices l q b
