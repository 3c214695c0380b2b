-- What the code decides, in the definition's words.
use Rattle.std.specs.Prelude.{ℕ, ◌+◌, ◌%◌, ◌≤◌, cond, ◌≡◌, ◌≢◌, List, [], ◌∷◌, leb, eqb, length, get_or, drop}
use Rattle.rules.specs.Bytes.{two, u16_at}
use Rattle.rules.specs.InOrder.{unless, judge}
use Rattle.rules.specs.Logs.{area}
use Rattle.rules.specs.Refusals.{between}
use Rattle.bench.specs.Responder as bench
use Rattle.bench.specs.Responder.{refuses, grants, keeps_silent, row_by, judged, decision, place}
use Rattle.bench.specs.Stores.{store_of, slot_of, counted}
use Rattle.responder.specs.declared.Decision.{Decision}
use Rattle.responder.specs.declared.Decision.TheVariants.{Refuse, KeepSilent, Session, Reset, Present, Count, ReadRecord, WriteRecord, ReadMemory}

-- The sub-function of a request, without bit 7.
abbrev pub sub_in : List ℕ → ℕ
sub_in q = get_or q 1 0 % 128

abbrev pub meaning : List ℕ → List ℕ → Decision → bench.Decision
meaning l q (Refuse code) = refuses code
meaning l q KeepSilent = keeps_silent
meaning l q Session = grants (0x50 ∷ sub_in q ∷ []) (store_of l).session
meaning l q Reset = grants (0x51 ∷ sub_in q ∷ []) (cond (eqb (sub_in q) 4) ((store_of l).power_down ∷ []) [])
meaning l q Present = grants (0x7e ∷ 0x00 ∷ []) []
meaning l q Count = grants (0x59 ∷ 0x01 ∷ []) ((store_of l).mask ∷ (store_of l).format ∷ two (counted (store_of l) (get_or q 2 0)))
meaning l q (ReadRecord p) = grants (0x62 ∷ get_or q 1 0 ∷ get_or q 2 0 ∷ []) (area l p.at p.size)
meaning l q (WriteRecord at) = grants (0x6e ∷ get_or q 1 0 ∷ get_or q 2 0 ∷ []) []
meaning l q (ReadMemory p) = grants (0x63 ∷ []) (area l p.at p.size)

-- What a request is judged to be as one of this service.
unfoldable pub judged_as : List ℕ → List ℕ → ℕ → bench.Decision
judged_as l q sid = judged (row_by (store_of l) q sid (get_or q 1 0) (length q) (slot_of (store_of l) (u16_at q 1))) (length q)

-- The checks of a service with a sub-function: minimum length, sub-function, exact length.
unfoldable pub functional_of : List ℕ → ℕ → ℕ → ℕ → Decision → Decision
functional_of q least most n positive =
    judge Refuse
    (unless (leb 2 (length q)) 0x13 ∷ unless (between least most (sub_in q)) 0x12 ∷ unless (eqb (length q) n) 0x13 ∷ [])
    (cond (leb 128 (get_or q 1 0)) KeepSilent positive)

-- No write.
abbrev pub Unwritten : Decision → Type 0
Unwritten (Refuse code) = Unit {0}
Unwritten KeepSilent = Unit {0}
Unwritten Session = Unit {0}
Unwritten Reset = Unit {0}
Unwritten Present = Unit {0}
Unwritten Count = Unit {0}
Unwritten (ReadRecord p) = Unit {0}
Unwritten (WriteRecord at) = ⊥
Unwritten (ReadMemory p) = Unit {0}

-- A negative, or a write: it has its record's place, which has room for the request's bytes.
abbrev pub Written : List ℕ → List ℕ → Decision → Type 0
Written l q (Refuse code) = Unit {0}
Written l q KeepSilent = ⊥
Written l q Session = ⊥
Written l q Reset = ⊥
Written l q Present = ⊥
Written l q Count = ⊥
Written l q (ReadRecord p) = ⊥
Written l q (WriteRecord at) = (at ≡ place l q) × (at + length (drop 3 q) ≤ length l)
Written l q (ReadMemory p) = ⊥

-- The definition's decision; a write exactly for 2E.
pub record Decides (l q : List ℕ) (r : Decision) : Type 0 where
  pub means : meaning l q r ≡ decision (store_of l) q
  pub writes : get_or q 0 0 ≡ 0x2e → Written l q r
  pub reads : get_or q 0 0 ≢ 0x2e → Unwritten r
