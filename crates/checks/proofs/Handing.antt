-- The place of the data in a reply that stands at a place.
use Prim.Native.Nat.{ℕ, ◌+◌, ◌%◌, ◌≤◌}
use native.Mathlib.Omega.{arith}
use mathlib.Core.Bool.{Bool, true, false, cond}
use mathlib.Core.List.{List}
use mathlib.Core.Path.{◌≡◌, refl, sym, ap, ◌∙◌}
use borrow.Author.Tests.{le-leb}
use lib.Dec.{eqb}
use lib.ListN.{length, take, drop, length-take, length-drop}
use Rattle.rules.specs.After.{first, handed}
use Rattle.rules.specs.Answers.{Part, part, behind}
use Rattle.rules.specs.Calls.{head}
use Rattle.exchange.specs.declared.types.Place.{Place}
use Rattle.exchange.specs.Meaning.{part_of, option_of}
use Rattle.requests.specs.declared.Call.{Call}
use Rattle.requests.specs.declared.Call.TheVariants as call
use Rattle.requests.specs.Meaning.{call_of, bare}
use Rattle.checks.specs.declared.handed.Span.{Span}
use Rattle.checks.specs.Answered.{Handed}
use Rattle.checks.specs.Spans.{span_of}
use Rattle.checks.proofs.Parts.{tail, part-of-part}

-- All that is left, as a number of bytes.
pub all-behind : (k at : ℕ) (r : List ℕ) → behind k (part at r) ≡ first (length r) (behind k (part at r))
all-behind k at r = ap (λ (bs : List ℕ). part (at + k) bs) (sym (tail k r))

-- The data handed out does not depend on what stands beside a call.
pub handed-beside : (k : Call) (a s d : List ℕ) (p : Part) → handed (bare k) p ≡ handed (call_of k a s d) p
handed-beside (call.Request sid sub x) a s d p = refl
handed-beside (call.DiagnosticSessionControl sub) a s d p = refl
handed-beside (call.EcuReset sub) a s d p = refl
handed-beside (call.SecurityAccess sub x) a s d p = refl
handed-beside call.TesterPresent a s d p = refl
handed-beside call.ReadMemoryByAddress a s d p = refl
handed-beside call.WriteMemoryByAddress a s d p = refl
handed-beside (call.ReadDataByIdentifier id) a s d p = refl
handed-beside (call.WriteDataByIdentifier id) a s d p = refl
handed-beside (call.ReadDTCInformation mask) a s d p = refl
handed-beside (call.RoutineControl sub id x) a s d p = refl
handed-beside (call.RequestDownload c e) a s d p = refl
handed-beside (call.RequestUpload c e) a s d p = refl
handed-beside (call.TransferData counter x) a s d p = refl
handed-beside (call.RequestTransferExit x) a s d p = refl
handed-beside (call.ReadDTCInformationDTC mask) a s d p = refl

-- It is what the span says.
module _ (at : ℕ) (r : List ℕ) where
  spans : (k : Call) → handed (bare k) (part at r) ≡ first (span_of k r).1 (behind (span_of k r).0 (part at r))
  spans (call.Request sid sub p) = all-behind (head (option_of sub)) at r
  spans (call.DiagnosticSessionControl sub) = refl
  spans (call.EcuReset sub) = refl
  spans (call.SecurityAccess sub p) = go (eqb (sub % 2) 1)
    where
      go : (odd : Bool) → cond odd (behind 2 (part at r)) (first 0 (behind 2 (part at r))) ≡ first (cond odd (length r) 0) (behind 2 (part at r))
      go true = all-behind 2 at r
      go false = refl
  spans call.TesterPresent = refl
  spans call.ReadMemoryByAddress = all-behind 1 at r
  spans call.WriteMemoryByAddress = all-behind 1 at r
  spans (call.ReadDataByIdentifier id) = all-behind 3 at r
  spans (call.WriteDataByIdentifier id) = refl
  spans (call.ReadDTCInformation mask) = refl
  spans (call.RoutineControl sub id p) = all-behind 4 at r
  spans (call.RequestDownload c e) = refl
  spans (call.RequestUpload c e) = refl
  spans (call.TransferData counter p) = all-behind 2 at r
  spans (call.RequestTransferExit p) = all-behind 1 at r
  spans (call.ReadDTCInformationDTC mask) = refl

-- r: the bytes at the place.
module _ (call : Call) (l : List ℕ) (place : Place) (r : List ℕ) (here : r ≡ take place.len (drop place.at l)) (s : Span) (out : s ≡ span_of call r) where
  found : handed (bare call) (part_of l place) ≡ part (place.at + s.0) (take s.1 (drop s.0 r))
  found = rw (← here, out) (spans place.at r call)

  pub handed-there : place.at + s.0 ≤ length l → (bytes : List ℕ) → bytes ≡ take s.1 (drop s.0 r)
      → Handed call l place (record { at = place.at + s.0; len = length bytes })
  handed-there h bytes e =
      let cut : bytes ≡ take s.1 (drop s.0 (take place.len (drop place.at l))) = rw (← here) e in
      let stands : take (length bytes) (drop (place.at + s.0) l) ≡ bytes = rw cut (part-of-part s.1 s.0 place.len place.at l) in
      record {
        means = rw (found, le-leb (place.at + s.0) (length l) h, stands, e);
        inside = omega (
          arith,
          ap length e ∙ length-take s.1 (drop s.0 r),
          length-drop s.0 r,
          ap length here ∙ length-take place.len (drop place.at l),
          length-drop place.at l,
        );
      }
