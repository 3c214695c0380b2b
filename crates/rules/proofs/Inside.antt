-- No exchange is refused, and data handed out begins inside the reply that it is handed out of, in either mode.
use Prim.Native.Nat.{ℕ, ◌+◌, ◌%◌, ◌^◌, ◌≤◌, ◌<◌}
use native.Mathlib.Omega.{arith}
use mathlib.Core.Bool.{Bool, true, false, cond}
use mathlib.Core.List.{List}
use mathlib.Core.Option.{Option, none, some}
use lib.Dec.{eqb}
use lib.ListN.{length}
use borrow.Author.Tests.{leb-true, ltb-true}
use Rattle.rules.specs.After.{block_length, service_checks, handed, first, number_of}
use Rattle.rules.specs.Answers.{Part, part, behind, nowhere, Outcome, positive, suppressed, negative, timeout, pending_limit, disconnected, transport, fault, refused}
use Rattle.rules.specs.Bytes.{value}
use Rattle.rules.specs.Calls.{Call, request, session, reset, security, tester_present, read_memory, write_memory, read_identifier, write_identifier, fault_count, routine, download, upload, transfer, transfer_exit, fault_list, sub_of, with_bit7, head}
use Rattle.rules.specs.Counts.{After}
use Rattle.rules.specs.Events.{Event, reply, idle, ended, failed, time_of}
use Rattle.rules.specs.Exchange.{Asked, Step, pending, settles, echoing, look, Settled, State, start, allows, notes, hears, turn, silence, settle, exchange}
use Rattle.rules.proofs.Judging.{Pass, pass-append}
use Rattle.rules.proofs.Look.{look-ind}
use Rattle.rules.proofs.Turns.{Through, settle-ind, under-ind}

-- What an exchange can end in, of the reply p: no refusal, and a positive reply has at least its SID and sub-function.
abbrev pub Headed : Option ℕ → Part → Outcome → Type 0
Headed sub p (positive d) = head sub ≤ length p.bytes
Headed sub p suppressed = Unit {0}
Headed sub p (negative n) = Unit {0}
Headed sub p timeout = Unit {0}
Headed sub p pending_limit = Unit {0}
Headed sub p disconnected = Unit {0}
Headed sub p (transport n) = Unit {0}
Headed sub p (fault f) = Unit {0}
Headed sub p (refused n) = ⊥

abbrev HeadedStep : Option ℕ → Part → Step → Type 0
HeadedStep sub p pending = Unit {0}
HeadedStep sub p (settles o) = Headed sub p o

echoed : (strict : Bool) (sub : Option ℕ) (r : List ℕ) → 0 < length r → Pass (echoing strict sub r) → head sub ≤ length r
echoed strict none r h p = h
echoed strict (some s) r h p = leb-true 2 (length r) p.0

module _ (strict : Bool) (a : Asked) where
  abbrev Ends : State → List Event → Settled → Type 0
  Ends s es x = Headed a.sub x.reply x.outcome

  looked : (hush : Bool) (p : Part) → HeadedStep a.sub p (look strict a hush p)
  looked hush p =
      look-ind strict a hush p (HeadedStep a.sub p) (λ f. tt) tt (λ c. tt)
      (λ h k. echoed strict a.sub p.bytes h (pass-append (echoing strict a.sub p.bytes) _ k.1).0)

  silent : (s : State) (es : List Event) → After s.deadline es → Ends s es (silence s)
  silent s es h = go s.hush
    where
      go : (hush : Bool) → Headed a.sub nowhere (cond hush suppressed timeout)
      go true = tt
      go false = tt

  through : (s : State) (e : Event) (es : List Event) → time_of e ≤ s.deadline → Through Ends s e es (turn strict a s e)
  through s (reply t p) es k = by-look (look strict a s.hush p) (looked s.hush p)
    where
      by-look : (z : Step) → HeadedStep a.sub p z → Through Ends s (reply t p) es (hears a s t p z)
      by-look pending h = noted (allows a.limit (length s.notices))
        where
          noted : (b : Bool) → Through Ends s (reply t p) es (notes a s t p b)
          noted true = λ x k. k
          noted false = tt
      by-look (settles o) h = h
  through s (idle t) es k = λ x h. h
  through s (ended t) es k = tt
  through s (failed t n) es k = tt

  pub exchange-headed : (overall : Option ℕ) (es : List Event) → let x = exchange strict a overall es in Headed a.sub x.reply x.outcome
  unfolding exchange
  exchange-headed overall es =
      under-ind (λ o p. Headed a.sub p o) tt (settle strict a es (start a)) (settle-ind strict a Ends silent through es (start a)) overall

-- Behind the checks of a call its data begins inside the reply, and its number fits.
module _ (strict quiet : Bool) (at : ℕ) (r : List ℕ) where
  with-sub : (q : Bool) (sub : ℕ) → head (with_bit7 q (some sub)) ≤ length r → at + 2 ≤ at + length r
  with-sub true sub h = omega arith
  with-sub false sub h = omega arith

  given-sub : (q : Bool) (sub : Option ℕ) → head (with_bit7 q sub) ≤ length r → at + head sub ≤ at + length r
  given-sub q none h = omega arith
  given-sub true (some s) h = omega arith
  given-sub false (some s) h = omega arith

  -- "up to 2^64 - 1, else overflow": a positive's number always fits.
  bounded : (c : Call) → Pass (service_checks strict c r)
      → (head (with_bit7 quiet (sub_of c)) ≤ length r → (handed c (part at r)).at ≤ at + length r) × (number_of c (positive (handed c (part at r))) < 2 ^ 64)
  bounded (request sid sub x) p = (given-sub quiet sub, omega arith)
  bounded (session sub) p = (with-sub quiet sub, omega arith)
  bounded (reset sub) p = (with-sub quiet sub, omega arith)
  bounded (security sub x) p = (λ h. go (eqb (sub % 2) 1) (with-sub quiet sub h), omega arith)
    where
      go : (b : Bool) → at + 2 ≤ at + length r → (cond b (behind 2 (part at r)) (first 0 (behind 2 (part at r)))).at ≤ at + length r
      go true k = k
      go false k = k
  bounded tester_present p = (with-sub quiet 0, omega arith)
  bounded (read_memory a s) p = (λ h. omega arith, omega arith)
  bounded (write_memory a s x) p = (λ h. omega arith, omega arith)
  bounded (read_identifier id) p = (λ h. omega (arith, leb-true 3 (length r) p.1.0), omega arith)
  bounded (write_identifier id x) p = (λ h. omega (arith, leb-true 3 (length r) p.1.0), omega arith)
  bounded (fault_count mask) p = (with-sub quiet 1, omega arith)
  bounded (routine sub id x) p = (λ h. omega (arith, leb-true 4 (length r) p.0), omega arith)
  bounded (download c e a s) p =
      (λ h. omega (arith, leb-true 2 (length r) p.0), ltb-true (value (block_length r)) (2 ^ 64) p.1.1.1.1.1.0)
  bounded (upload c e a s) p =
      (λ h. omega (arith, leb-true 2 (length r) p.0), ltb-true (value (block_length r)) (2 ^ 64) p.1.1.1.1.1.0)
  bounded (transfer counter x) p = (λ h. omega (arith, leb-true 2 (length r) p.1.0), omega arith)
  bounded (transfer_exit x) p = (λ h. omega arith, omega arith)
  bounded (fault_list mask) p = (with-sub quiet 2, omega arith)

  pub data-inside : (c : Call) → head (with_bit7 quiet (sub_of c)) ≤ length r → Pass (service_checks strict c r) → (handed c (part at r)).at ≤ at + length r
  data-inside c h p = (bounded c p).0 h

  pub number_fits : (c : Call) → Pass (service_checks strict c r) → number_of c (positive (handed c (part at r))) < 2 ^ 64
  number_fits c p = (bounded c p).1
