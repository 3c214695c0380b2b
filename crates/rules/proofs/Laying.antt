-- Entries laid out anew: some of them, or without their sources, read back as they were.
use Prim.Native.Nat.{ℕ, zero, suc, ◌+◌, ◌*◌, ◌/◌, ◌%◌, ◌≤◌, ◌<◌}
use native.Mathlib.Omega.{arith}
use native.Mathlib.Nat.{suc-mul, zero-mul}
use mathlib.Core.Bool.{Bool, true, false, cond, not, ◌&&◌}
use mathlib.Core.Path.{◌≡◌, refl, sym, ◌∙◌, ap, ap₂}
use mathlib.Core.List.{List, [], ◌∷◌, ◌++◌, map, append_assoc}
use lib.ListN.{length, get_or, take, drop, length-append, length-drop, length-map, get_or-append}
use lib.Seq.{length-take-le, get_or-append-add, get_or-take, get_or-drop}
use Rattle.rules.specs.Bytes.{u16_at, u32_at}
use Rattle.rules.specs.Events.{Form, plain, addressed, event_size, Entry, entry_in, entry_at, entries_from, entries, source_at, foreign}
use Rattle.rules.specs.Foreign.{ours, laid, sourceless}

-- The same bytes are the same entry.
module _ (bs bs' : List ℕ) (i j size : ℕ) (same : (k : ℕ) → k < size → get_or bs (i + k) 0 ≡ get_or bs' (j + k) 0) where
  byte : (k m m' : ℕ) → k < size → m ≡ i + k → m' ≡ j + k → get_or bs m 0 ≡ get_or bs' m' 0
  byte k m m' h e e' = ap (λ (n : ℕ). get_or bs n 0) e ∙ same k h ∙ ap (λ (n : ℕ). get_or bs' n 0) (sym e')

  word : (k m m' : ℕ) → k + 1 < size → m ≡ i + k → m' ≡ j + k → u16_at bs m ≡ u16_at bs' m'
  word k m m' h e e' = ap₂ (λ (x y : ℕ). x * 256 + y) (byte k m m' (omega arith) e e') (byte (k + 1) (m + 1) (m' + 1) h (omega arith) (omega arith))

  time-same : 4 ≤ size → u32_at bs i ≡ u32_at bs' j
  time-same h = ap₂ (λ (x y : ℕ). x * 65536 + y) (word 0 i j (omega arith) (omega arith) (omega arith)) (word 2 (i + 2) (j + 2) (omega arith) refl refl)

source-same : (form : Form) (bs bs' : List ℕ) (i j : ℕ) → ((k : ℕ) → k < event_size form → get_or bs (i + k) 0 ≡ get_or bs' (j + k) 0) → source_at form bs i ≡ source_at form bs' j
source-same plain bs bs' i j h = refl
source-same addressed bs bs' i j h = word bs bs' i j 12 h 10 (i + 10) (j + 10) (omega arith) refl refl

pub ten : (form : Form) → 10 ≤ event_size form
ten plain = omega arith
ten addressed = omega arith

pub same-entry : (form : Form) (bs bs' : List ℕ) (i j : ℕ) → ((k : ℕ) → k < event_size form → get_or bs (i + k) 0 ≡ get_or bs' (j + k) 0) → entry_in form bs i ≡ entry_in form bs' j
same-entry form bs bs' i j h =
    let long = ten form in
    let time = time-same bs bs' i j (event_size form) h (omega arith) in
    let kind = word bs bs' i j (event_size form) h 4 (i + 4) (j + 4) (omega arith) refl refl in
    let offset = word bs bs' i j (event_size form) h 6 (i + 6) (j + 6) (omega arith) refl refl in
    let size = word bs bs' i j (event_size form) h 8 (i + 8) (j + 8) (omega arith) refl refl in
    let source = source-same form bs bs' i j h in
    λ q. record { time = time q; kind = kind q; offset = offset q; size = size q; source = source q }

-- An entry read from its own bytes, as code reads it.
pub chunk-entry : (form : Form) (bs : List ℕ) (i : ℕ) → entry_in form (take (event_size form) (drop (i * event_size form) bs)) 0 ≡ entry_at form bs i
chunk-entry form bs i =
    same-entry form (take (event_size form) (drop (i * event_size form) bs)) bs 0 (i * event_size form)
    (λ k h. ap (λ (n : ℕ). get_or (take (event_size form) (drop (i * event_size form) bs)) n 0) (omega arith) ∙
    get_or-take (event_size form) (drop (i * event_size form) bs) k 0 h ∙
    get_or-drop (i * event_size form) bs k 0)

module _ (form to : Form) (fits : event_size to ≤ event_size form) (keep : Entry → Bool) (bs : List ℕ) where
  -- The entries kept, in the form `to`.
  abbrev pub picked : ℕ → ℕ → List Entry
  picked zero i = []
  picked (suc n) i = cond (keep (entry_at form bs i)) (entry_in to bs (i * event_size form) ∷ picked n (suc i)) (picked n (suc i))

  abbrev chunk : ℕ → List ℕ
  chunk i = take (event_size to) (drop (i * event_size form) bs)

  chunk-length : (n i : ℕ) → i * event_size form + suc n * event_size form ≤ length bs → length (chunk i) ≡ event_size to
  chunk-length n i h = length-take-le (event_size to) (drop (i * event_size form) bs) (omega (arith, length-drop (i * event_size form) bs, suc-mul n (event_size form)))

  next : (n i : ℕ) → i * event_size form + suc n * event_size form ≤ length bs → suc i * event_size form + n * event_size form ≤ length bs
  next n i h = omega (arith, suc-mul n (event_size form), suc-mul i (event_size form))

  pub laid-length : (n i : ℕ) → i * event_size form + n * event_size form ≤ length bs → length (laid form to keep bs n i) ≡ length (picked n i) * event_size to
  unfolding laid
  laid-length zero i h = sym (zero-mul (event_size to))
  laid-length (suc n) i h = go (keep (entry_at form bs i)) (laid-length n (suc i) (next n i h))
    where
      go : (b : Bool) → length (laid form to keep bs n (suc i)) ≡ length (picked n (suc i)) * event_size to
          → length (cond b (chunk i) [] ++ laid form to keep bs n (suc i)) ≡ length (cond b (entry_in to bs (i * event_size form) ∷ picked n (suc i)) (picked n (suc i))) * event_size to
      go true k = omega (arith, length-append (chunk i) (laid form to keep bs n (suc i)), chunk-length n i h, suc-mul (length (picked n (suc i))) (event_size to), k)
      go false k = k

  pub laid-reads : (n i j : ℕ) (pre : List ℕ) → length pre ≡ j * event_size to → i * event_size form + n * event_size form ≤ length bs
      → entries_from to (pre ++ laid form to keep bs n i) (length (picked n i)) j ≡ picked n i
  unfolding laid entries_from
  laid-reads zero i j pre e h = refl
  laid-reads (suc n) i j pre e h = go (keep (entry_at form bs i)) (λ j' pre' e'. laid-reads n (suc i) j' pre' e' (next n i h))
    where
      rest : List ℕ
      rest = laid form to keep bs n (suc i)

      front : (k : ℕ) → k < event_size to → get_or (pre ++ (chunk i ++ rest)) (j * event_size to + k) 0 ≡ get_or bs (i * event_size form + k) 0
      front k l =
          ap (λ (m : ℕ). get_or (pre ++ (chunk i ++ rest)) (m + k) 0) (sym e) ∙
          get_or-append-add pre (chunk i ++ rest) k 0 ∙
          get_or-append (chunk i) rest 0 k (omega (arith, chunk-length n i h)) ∙
          get_or-take (event_size to) (drop (i * event_size form) bs) k 0 l ∙
          get_or-drop (i * event_size form) bs k 0

      go : (b : Bool) → ((j' : ℕ) (pre' : List ℕ) → length pre' ≡ j' * event_size to → entries_from to (pre' ++ rest) (length (picked n (suc i))) j' ≡ picked n (suc i))
          → entries_from to (pre ++ (cond b (chunk i) [] ++ rest)) (length (cond b (entry_in to bs (i * event_size form) ∷ picked n (suc i)) (picked n (suc i)))) j
          ≡ cond b (entry_in to bs (i * event_size form) ∷ picked n (suc i)) (picked n (suc i))
      go true more =
          ap₂ (λ (x : Entry) (l : List Entry). x ∷ l) (same-entry to (pre ++ (chunk i ++ rest)) bs (j * event_size to) (i * event_size form) front)
          (ap (λ (l : List ℕ). entries_from to l (length (picked n (suc i))) (suc j)) (sym (append_assoc pre (chunk i) rest)) ∙
          more (suc j) (pre ++ chunk i) (omega (arith, length-append pre (chunk i), chunk-length n i h, suc-mul j (event_size to), e)))
      go false more = more j pre e

-- Sizes, at each form.
pub whole : (form : Form) (bs : List ℕ) → 0 * event_size form + length bs / event_size form * event_size form ≤ length bs
whole plain bs = omega arith
whole addressed bs = omega arith

pub parts : (form : Form) (m n : ℕ) → n ≡ m * event_size form → (n / event_size form ≡ m) × (n % event_size form ≡ 0)
parts plain m n e = (omega arith, omega arith)
parts addressed m n e = (omega arith, omega arith)

pub entries-length : (form : Form) (bs : List ℕ) (n i : ℕ) → length (entries_from form bs n i) ≡ n
unfolding entries_from
entries-length form bs zero i = refl
entries-length form bs (suc n) i = ap suc (entries-length form bs n (suc i))

module _ (form to : Form) (fits : event_size to ≤ event_size form) (keep : Entry → Bool) (bs : List ℕ) where
  abbrev pub laid_out : List ℕ
  laid_out = laid form to keep bs (length bs / event_size form) 0

  abbrev pub kept : List Entry
  kept = picked form to fits keep bs (length bs / event_size form) 0

  pub laid-size : (length laid_out / event_size to ≡ length kept) × (length laid_out % event_size to ≡ 0)
  laid-size = parts to (length kept) (length laid_out) (laid-length form to fits keep bs (length bs / event_size form) 0 (whole form bs))

  pub laid-entries : entries to laid_out ≡ kept
  laid-entries =
      ap (λ (n : ℕ). entries_from to laid_out n 0) laid-size.0 ∙
      laid-reads form to fits keep bs (length bs / event_size form) 0 0 [] (sym (zero-mul (event_size to))) (whole form bs)

pub same_size : (form : Form) → event_size form ≤ event_size form
same_size form = omega arith

pub picked-ours : (listens : ℕ) (form : Form) (bs : List ℕ) (n i : ℕ)
    → picked form form (same_size form) (λ e. not (foreign listens e)) bs n i ≡ ours listens (entries_from form bs n i)
unfolding entries_from
picked-ours listens form bs zero i = refl
picked-ours listens form bs (suc n) i = go (foreign listens (entry_at form bs i)) (picked-ours listens form bs n (suc i))
  where
    go : (b : Bool) {x y : List Entry} → x ≡ y → cond (not b) (entry_at form bs i ∷ x) x ≡ cond b y (entry_at form bs i ∷ y)
    go true e = e
    go false e = ap (λ (l : List Entry). entry_at form bs i ∷ l) e

pub picked-sourceless : (form : Form) (bs : List ℕ) (n i : ℕ) → picked form plain (ten form) (λ e. true) bs n i ≡ map sourceless (entries_from form bs n i)
unfolding entries_from
picked-sourceless form bs zero i = refl
picked-sourceless form bs (suc n) i = ap (λ (l : List Entry). entry_in plain bs (i * event_size form) ∷ l) (picked-sourceless form bs n (suc i))
