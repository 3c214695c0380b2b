-- What the code tells of a call's checks by their numbers, and by the one that failed, is what `telling` tells by the tests themselves.
use Prim.Native.Nat.{ℕ, ◌+◌, ◌-◌, ◌/◌, ◌%◌, ◌<◌}
use native.Mathlib.Omega.{arith}
use mathlib.Core.Bool.{Bool, true, false, cond, not, ◌&&◌, true≢false, and-eq-true_iff}
use mathlib.Core.List.{List, [], ◌∷◌, ◌++◌, append-nil}
use mathlib.Core.Option.{Option, none, some}
use mathlib.Core.Path.{◌≡◌, refl, sym, ap}
use lib.Dec.{leb, eqb}
use lib.ListN.{length, get_or}
use borrow.Author.Tests.{le-leb, eq-eqb, ne_eqb, eqb-true}
use Rattle.rules.specs.After as after
use Rattle.rules.specs.After.{length_bytes, service_checks, handed, checked}
use Rattle.rules.specs.Answers as answers
use Rattle.rules.specs.Answers.{Part, Fault, deviation, deviation8, overflow, Outcome, positive, fault, if_positive}
use Rattle.rules.specs.Calls.{Field, sent, fault_list}
use Rattle.rules.specs.InOrder.{Check, unless, judge}
use Rattle.requests.specs.Meaning.{call_from}
use Rattle.requests.specs.declared.Call.{Call}
use Rattle.requests.specs.declared.Call.TheVariants as call
use Rattle.requests.specs.declared.Data.TheVariants.{Absent, Present}
use Rattle.telling.specs.Checks.{length?, wanted, check_line, told, told_of, checks_text}
use Rattle.story_checks.specs.Coded.{at_least, exactly, coded, wanted_of, failed_in, finding, told_by, codes_of, checks_by}
use Rattle.story_checks.proofs.Coding.{in_parts}

abbrev codes : List (Check Fault) → List ℕ
codes [] = []
codes (c ∷ cs) = coded c.fault ∷ codes cs

-- A check's number spells it, and is that of the fault which it finds.
abbrev Spelling : Fault → Type 0
Spelling f = (wanted_of (coded f) ≡ wanted f) × (finding (coded f) ≡ coded f)

-- Each check is spelt by its number; and where one passed, a later one that fails has another number, or could not fail.
abbrev Apart : List (Check Fault) → Part → Type 0
Apart [] p = Unit {0}
Apart (c ∷ cs) p =
    Spelling c.fault ×
    (c.test ≡ true → eqb (coded c.fault) (failed_in (judge fault cs (positive p))) ≡ false) ×
    Apart cs p

told-by-codes : (cs : List (Check Fault)) (p : Part) → Apart cs p → told_by (codes cs) (failed_in (judge fault cs (positive p))) ≡ told cs
unfolding told told_by
told-by-codes [] p a = refl
told-by-codes (c ∷ cs) p a = go c.test a.1 (told-by-codes cs p a.2)
  where
    go : (b : Bool) → (b ≡ true → eqb (coded c.fault) (failed_in (judge fault cs (positive p))) ≡ false)
        → told_by (codes cs) (failed_in (judge fault cs (positive p))) ≡ told cs
        → told_by (coded c.fault ∷ codes cs) (failed_in (cond b (judge fault cs (positive p)) (fault c.fault))) ≡
        check_line (wanted c.fault) b ++ cond b (told cs) []
    go true other more = rw (a.0.1, other refl, a.0.0) (ap (λ (x : List ℕ). check_line (wanted c.fault) true ++ x) more)
    go false other more = rw (a.0.1, eq-eqb (coded c.fault) _ refl, a.0.0) (sym (append-nil _))

-- A number that no later check has.
abbrev differs : ℕ → List ℕ → Bool
differs k [] = true
differs k (x ∷ xs) = not (eqb k x) && differs k xs

not_equal : (k x : ℕ) (b : Bool) → (not (eqb k x) && b) ≡ true → (eqb k x ≡ false) × (b ≡ true)
not_equal k x b e = go (eqb k x) e
  where
    go : (y : Bool) → (not y && b) ≡ true → (y ≡ false) × (b ≡ true)
    go false h = (refl, h)
    go true h = absurd (true≢false (sym h))

others : (k : ℕ) (cs : List (Check Fault)) (p : Part) → eqb k 1 ≡ false → differs k (codes cs) ≡ true → eqb k (failed_in (judge fault cs (positive p))) ≡ false
others k [] p one d = one
others k (c ∷ cs) p one d = go c.test (others k cs p one (not_equal k (coded c.fault) (differs k (codes cs)) d).1)
  where
    go : (b : Bool) → eqb k (failed_in (judge fault cs (positive p))) ≡ false → eqb k (failed_in (cond b (judge fault cs (positive p)) (fault c.fault))) ≡ false
    go true more = more
    go false more = (not_equal k (coded c.fault) (differs k (codes cs)) d).0

-- The number of a length spells it.
spelt : (least : ℕ) (m : Option ℕ) → Spelling (deviation8 least m)
unfolding wanted_of length?
spelt least none =
    let half : (at_least least - 32) / 2 ≡ least = omega arith in
    let even : at_least least % 2 ≡ 0 = omega arith in
    (rw (le-leb 32 (at_least least) (omega arith), half, even), rw (ne_eqb (at_least least) 17 (λ e. omega arith)))
spelt least (some most) =
    let half : (exactly least - 32) / 2 ≡ least = omega arith in
    let odd : exactly least % 2 ≡ 1 = omega arith in
    (rw (le-leb 32 (exactly least) (omega arith), half, odd), rw (ne_eqb (exactly least) 17 (λ e. omega arith)))

abbrev Spelt : List (Check Fault) → Type 0
Spelt [] = Unit {0}
Spelt (c ∷ cs) = Spelling c.fault × Spelt cs

-- Checks that all have numbers of their own stand apart.
abbrev distinct : List ℕ → Bool
distinct [] = true
distinct (k ∷ ks) = not (eqb k 1) && (differs k ks && distinct ks)

apart : (cs : List (Check Fault)) (p : Part) → Spelt cs → distinct (codes cs) ≡ true → Apart cs p
apart [] p w d = tt
apart (c ∷ cs) p w d =
    let one = not_equal (coded c.fault) 1 _ d in
    let rest = (and-eq-true_iff (differs (coded c.fault) (codes cs)) (distinct (codes cs))).0 one.1 in
    (w.0, λ t. others (coded c.fault) cs p one.0 rest.0, apart cs p w.1 rest.1)

single : (t : Bool) (least : ℕ) (m : Option ℕ) (p : Part) → Apart (unless t (deviation8 least m) ∷ []) p
single t least m p = (spelt least m, λ e. ne_eqb (coded (deviation8 least m)) 1 (λ q. omega (arith, in_parts least m)), tt)

-- Calls 11 and 12: the length in the middle is another one than the first, and no deviation.
loading-distinct : (n : ℕ) → distinct (36 ∷ 10 ∷ 9 ∷ exactly (n + 2) ∷ 11 ∷ 16 ∷ []) ≡ true
loading-distinct n =
    let x = exactly (n + 2) in
    let to : (k : ℕ) → k < 37 → eqb k x ≡ false = λ k h. ne_eqb k x (λ q. omega arith) in
    let of : (k : ℕ) → k < 37 → eqb x k ≡ false = λ k h. ne_eqb x k (λ q. omega arith) in
    rw (to 36 (omega arith), to 10 (omega arith), to 9 (omega arith), of 1 (omega arith), of 11 (omega arith), of 16 (omega arith))

writing-distinct : (n : ℕ) → distinct (exactly n ∷ 12 ∷ 13 ∷ 14 ∷ []) ≡ true
writing-distinct n =
    let of : (k : ℕ) → k < 33 → eqb (exactly n) k ≡ false = λ k h. ne_eqb (exactly n) k (λ q. omega arith) in
    rw (of 1 (omega arith), of 12 (omega arith), of 13 (omega arith), of 14 (omega arith))

-- A length that stands twice, and is passed the second time where it was passed the first.
twice : (least : ℕ) (first later : Bool) (cs : List (Check Fault)) (p : Part) → (first ≡ true → later ≡ true) → differs (at_least least) (codes cs) ≡ true
    → eqb (at_least least) 1 ≡ false → Apart cs p → Apart (unless first (deviation8 least none) ∷ unless later (deviation8 least none) ∷ cs) p
twice least first later cs p both d one more =
    (spelt least none, λ t. rw (both t) (others (at_least least) cs p one d), (spelt least none, λ t. others (at_least least) cs p one d, more))

-- Call 15: whole records are three bytes or more, so that only the first of its two lengths can be wrong.
records-told : (r : List ℕ) (p : Part) (mask : ℕ)
    → let c = fault_list mask in
    told_by (17 ∷ at_least 3 ∷ []) (failed_in (judge fault (service_checks true c r) (positive p))) ≡ told_of c (service_checks true c r)
unfolding told_by told told_of wanted_of length?
records-told r p mask = go (eqb (length r % 4) 3) (leb 3 (length r)) (λ e. le-leb 3 (length r) (omega (arith, eqb-true (length r % 4) 3 e)))
  where
    go : (whole long : Bool) → (whole ≡ true → long ≡ true)
        → let cs = unless whole (deviation8 3 none) ∷ unless long (deviation8 3 none) ∷ [] in
        told_by (17 ∷ at_least 3 ∷ []) (failed_in (judge fault cs (positive p))) ≡ told_of (fault_list mask) cs
    go true true h = refl
    go true false h = absurd (true≢false (sym (h refl)))
    go false long h = sym (append-nil _)

-- The checks of each call, by their numbers: they are told as the tests say.
module _ (a s : Field) (d r : List ℕ) (p : Part) where
  abbrev of-call : Call → List (Check Fault)
  of-call k = service_checks true (call_from k a s d) r

  abbrev Row : Call → Type 0
  Row k = told_by (codes_of k (length (sent a)) (length (sent s)) (length_bytes r)) (failed_in (judge fault (of-call k) (positive p))) ≡ told_of (call_from k a s d) (of-call k)

  row_told : (k : Call) → Row k
  unfolding codes_of told told_of wanted_of
  row_told (call.Request sid sub x) = told-by-codes [] p tt
  row_told (call.DiagnosticSessionControl sub) = told-by-codes (of-call (call.DiagnosticSessionControl sub)) p (single _ 6 (some 6) p)
  row_told (call.EcuReset sub) = told-by-codes (of-call (call.EcuReset sub)) p (single _ (after.reset_length sub) (some (after.reset_length sub)) p)
  row_told (call.SecurityAccess sub x) = go (eqb (sub % 2) 1)
    where
      go : (b : Bool) → let cs = cond b (after.bounds true 3 none r) (after.exactly true 2 r) ∷ [] in
          told_by (cond b (at_least 3) (exactly 2) ∷ []) (failed_in (judge fault cs (positive p))) ≡ told cs
      go true = told-by-codes (after.bounds true 3 none r ∷ []) p (single _ 3 none p)
      go false = told-by-codes (after.exactly true 2 r ∷ []) p (single _ 2 (some 2) p)
  row_told call.TesterPresent = told-by-codes (of-call call.TesterPresent) p (single _ 2 (some 2) p)
  row_told call.ReadMemoryByAddress =
      let cs = of-call call.ReadMemoryByAddress in
      told-by-codes cs p (apart cs p ((refl, refl), (spelt 2 none, tt)) refl)
  row_told call.WriteMemoryByAddress =
      let cs = of-call call.WriteMemoryByAddress in
      let n = 2 + length (sent a) + length (sent s) in
      told-by-codes cs p (apart cs p (spelt n (some n), ((refl, refl), ((refl, refl), ((refl, refl), tt)))) (writing-distinct n))
  row_told (call.ReadDataByIdentifier id) =
      let cs = of-call (call.ReadDataByIdentifier id) in
      told-by-codes cs p (apart cs p (spelt 4 none, (spelt 3 none, ((refl, refl), tt))) refl)
  row_told (call.WriteDataByIdentifier id) =
      let cs = of-call (call.WriteDataByIdentifier id) in
      told-by-codes cs p (apart cs p (spelt 3 (some 3), (spelt 3 none, ((refl, refl), tt))) refl)
  row_told (call.ReadDTCInformation mask) = told-by-codes (of-call (call.ReadDTCInformation mask)) p (single _ 6 (some 6) p)
  row_told (call.RoutineControl sub id x) =
      let cs = of-call (call.RoutineControl sub id x) in
      told-by-codes cs p (apart cs p (spelt 4 none, ((refl, refl), tt)) refl)
  row_told (call.RequestDownload c e) =
      let n = length_bytes r in
      let cs = of-call (call.RequestDownload c e) in
      told-by-codes cs p (apart cs p (spelt 2 none, ((refl, refl), ((refl, refl), (spelt (n + 2) (some (n + 2)), ((refl, refl), ((refl, refl), tt)))))) (loading-distinct n))
  row_told (call.RequestUpload c e) =
      let n = length_bytes r in
      let cs = of-call (call.RequestUpload c e) in
      told-by-codes cs p (apart cs p (spelt 2 none, ((refl, refl), ((refl, refl), (spelt (n + 2) (some (n + 2)), ((refl, refl), ((refl, refl), tt)))))) (loading-distinct n))
  row_told (call.TransferData counter Absent) =
      let cs = of-call (call.TransferData counter Absent) in
      told-by-codes cs p (apart cs p (spelt 3 none, (spelt 2 none, ((refl, refl), tt))) refl)
  row_told (call.TransferData counter Present) =
      let cs = of-call (call.TransferData counter Present) in
      let echo = after.strictly true (eqb (get_or r 1 0) counter) 7 in
      let last : Apart (echo ∷ []) p = ((refl, refl), λ t. refl, tt) in
      told-by-codes cs p (twice 2 _ _ (echo ∷ []) p (λ t. ((and-eq-true_iff (leb 2 (length r)) true).0 t).0) refl refl last)
  row_told (call.RequestTransferExit x) = told-by-codes [] p tt
  row_told (call.ReadDTCInformationDTC mask) = records-told r p mask

-- The story of the checks, by the answer that they gave.
pub checks-told : (strict : Bool) (k : Call) (a s : Field) (d : List ℕ) (p : Part) (heard : Outcome)
    → let c = call_from k a s d in
    let later = if_positive heard (λ x. checked strict c p) heard in
    checks_by strict k (length (sent a)) (length (sent s)) p.bytes heard later ≡ checks_text strict c p.bytes heard later
unfolding checked
checks-told true k a s d p (answers.positive x) = row_told a s d p.bytes (handed (call_from k a s d) p) k
checks-told true k a s d p answers.suppressed = refl
checks-told true k a s d p (answers.negative n) = refl
checks-told true k a s d p answers.timeout = refl
checks-told true k a s d p answers.pending_limit = refl
checks-told true k a s d p answers.disconnected = refl
checks-told true k a s d p (answers.transport n) = refl
checks-told true k a s d p (answers.fault f) = refl
checks-told true k a s d p (answers.refused n) = refl
checks-told false k a s d p (answers.positive x) = refl
checks-told false k a s d p answers.suppressed = refl
checks-told false k a s d p (answers.negative n) = refl
checks-told false k a s d p answers.timeout = refl
checks-told false k a s d p answers.pending_limit = refl
checks-told false k a s d p answers.disconnected = refl
checks-told false k a s d p (answers.transport n) = refl
checks-told false k a s d p (answers.fault f) = refl
checks-told false k a s d p (answers.refused n) = refl
