-- Refusals 1 to 9 by their number, and with them the whole order of document 01, refusal 10 included.
use Prim.Native.Nat.{ℕ}
use mathlib.Core.Bool.{Bool, true, false, cond}
use mathlib.Core.List.{List, [], ◌∷◌, ◌++◌, append_assoc}
use mathlib.Core.Option.{none, some}
use mathlib.Core.Path.{◌≡◌, refl, sym, ap, ◌∙◌}
use lib.Dec.{eqb}
use lib.ListN.{length}
use borrow.Author.Tests.{eq-eqb, ne_eqb}
use Rattle.rules.specs.Calls.{Call, request, session, reset, security, tester_present, read_memory, write_memory, read_identifier, write_identifier, fault_count, routine, download, upload, transfer, transfer_exit, fault_list, Field, given, alfid, request_of}
use Rattle.rules.specs.InOrder.{Check, unless, judge}
use Rattle.rules.specs.Events.{Form, within_limits}
use Rattle.rules.specs.Refusals.{width, lengths, methods, arguments, refusals}
use Rattle.rules.proofs.Judging.{judge-append}
use Rattle.requests.specs.Prepared.{sizes, refusal_of}
use Rattle.requests.proofs.Judging.{NonZero, non-zero-append, by_number}

pub non-zero-width : (f : Field) → NonZero (width f)
non-zero-width (given bs) = tt
non-zero-width (alfid v w wide) = (refl, (refl, tt))

non-zero-memory : (a s : Field) (cs : List (Check ℕ)) → NonZero cs → NonZero (width a ++ width s ++ cs)
non-zero-memory a s cs n = non-zero-append (width a ++ width s) cs (non-zero-append (width a) (width s) (non-zero-width a) (non-zero-width s)) n

non-zero-load : (c e : ℕ) (a s : Field) → NonZero (width a ++ width s ++ methods c e ++ lengths a s)
non-zero-load c e a s = non-zero-append (width a ++ width s ++ methods c e) (lengths a s) (non-zero-memory a s (methods c e) (refl, (refl, tt))) (refl, (refl, tt))

pub non-zero-arguments : (c : Call) → NonZero (arguments c)
non-zero-arguments (request sid sub d) = tt
non-zero-arguments (session sub) = tt
non-zero-arguments (reset sub) = tt
non-zero-arguments (security sub none) = (refl, tt)
non-zero-arguments (security sub (some d)) = tt
non-zero-arguments tester_present = tt
non-zero-arguments (read_memory a s) = non-zero-memory a s (lengths a s) (refl, (refl, tt))
non-zero-arguments (write_memory a s d) = non-zero-memory a s (lengths a s) (refl, (refl, tt))
non-zero-arguments (read_identifier id) = tt
non-zero-arguments (write_identifier id d) = tt
non-zero-arguments (fault_count mask) = tt
non-zero-arguments (routine sub id d) = tt
non-zero-arguments (download c e a s) = non-zero-load c e a s
non-zero-arguments (upload c e a s) = non-zero-load c e a s
non-zero-arguments (transfer counter d) = tt
non-zero-arguments (transfer_exit d) = tt
non-zero-arguments (fault_list mask) = tt

-- Document 01's judgement of a call, of which `refusal` answers n: `wrong` takes a refusal's number, x is the answer of a call that is not refused.
module _ {B : Type 0} (wrong : ℕ → B) (quiet : Bool) (c : Call) (buffer : List ℕ) (form : Form) (events replies : List ℕ) (x : B) (n : ℕ) (told : n ≡ refusal_of quiet c (length buffer)) where
  abbrev judged : B
  judged = judge wrong (refusals c (request_of quiet c) buffer form events replies) x

  pub by-refusal : judged ≡ cond (eqb n 0) (cond (within_limits form events replies) x (wrong 10)) (wrong n)
  unfolding refusal_of
  by-refusal =
      let size = sizes (length (request_of quiet c)) (length buffer) in
      let early = arguments c ++ size in
      let ten = unless {A = ℕ} (within_limits form events replies) 10 ∷ [] in
      ap (λ (cs : List (Check ℕ)). judge wrong cs x) (sym (append_assoc (arguments c) size ten)) ∙
      judge-append wrong early ten x ∙
      by_number wrong early (judge wrong ten x) (non-zero-append (arguments c) size (non-zero-arguments c) (refl, (refl, tt))) ∙
      rw told

  pub refused : (n ≡ 0 → ⊥) → judged ≡ wrong n
  refused h = by-refusal ∙ rw (ne_eqb n 0 h)

  pub outside : n ≡ 0 → within_limits form events replies ≡ false → judged ≡ wrong 10
  outside z h = by-refusal ∙ rw (eq-eqb n 0 z, h)

  pub accepted : n ≡ 0 → within_limits form events replies ≡ true → judged ≡ x
  accepted z h = by-refusal ∙ rw (eq-eqb n 0 z, h)
