-- Document 02, request One: the records of call 15, the selector over them, and what both promise.
use Rattle.std.specs.Prelude.{ℕ, zero, suc, ◌+◌, ◌*◌, ◌/◌, ◌%◌, ◌≤◌, Bool, true, cond, not, ◌≡◌, ◌⊎◌, ◌↔◌, List, [], ◌∷◌, ◌++◌, map, eqb, length, get_or, take, drop}
use Rattle.std.specs.Int.Bits.{bit_and}
use Rattle.rules.specs.After.{handed}
use Rattle.rules.specs.Answers.{Part, part}
use Rattle.rules.specs.Calls.{fault_list}

-- "records of three fault-code bytes and one status byte": record i (from 0), at its place in the bytes.
abbrev pub record_at : List ℕ → ℕ → Part
record_at bs i = part (i * 4) (take 4 (drop (i * 4) bs))

-- n records, from the one numbered i on.
abbrev pub records_from : List ℕ → ℕ → ℕ → List Part
records_from bs zero i = []
records_from bs (suc n) i = record_at bs i ∷ records_from bs n (suc i)

-- A broken tail is no record.
abbrev pub records : List ℕ → List Part
records bs = records_from bs (length bs / 4) 0

-- "shares a bit with a mask"
abbrev pub shares : ℕ → ℕ → Bool
shares mask status = not (eqb (bit_and status mask) 0)

abbrev pub sharing : ℕ → Part → Bool
sharing mask p = shares mask (get_or p.bytes 3 0)

-- What passes a test, in order.
abbrev pub keep : {A : Type 0} → (A → Bool) → List A → List A
keep test [] = []
keep test (x ∷ xs) = cond (test x) (x ∷ keep test xs) (keep test xs)

-- "A selector gives the records whose status shares a bit with a mask, in order, each once."
abbrev pub select : ℕ → List ℕ → List Part
select mask bs = keep (sharing mask) (records bs)

-- Bit i of a number, 0 or 1.
abbrev pub bit : ℕ → ℕ → ℕ
bit zero n = n % 2
bit (suc i) n = bit i (n / 2)

-- How many of n status bytes, from record i's on, share a bit with the mask.
abbrev pub statuses : ℕ → List ℕ → ℕ → ℕ → ℕ
statuses mask bs zero i = 0
statuses mask bs (suc n) i = cond (shares mask (get_or bs (i * 4 + 3) 0)) 1 0 + statuses mask bs n (suc i)

abbrev pub In : {A : Type 0} → A → List A → Type 0
In x [] = ⊥
In x (y ∷ ys) = (x ≡ y) ⊎ In x ys

-- Each record of four begins at or behind the end of the one before: in order, and none twice.
abbrev pub Apart : ℕ → List Part → Type 0
Apart i [] = Unit {0}
Apart i (p ∷ ps) = (i ≤ p.at) × Apart (p.at + 4) ps

abbrev pub joined : List Part → List ℕ
joined [] = []
joined (p ∷ ps) = p.bytes ++ joined ps

abbrev pub texts : List Part → List (List ℕ)
texts ps = map (λ p. p.bytes) ps

pub record Selector : Type 0 where
  -- The records are those at 0, 4, 8 .. that are whole.
  pub whole : (bs : List ℕ) (p : Part) → In p (records bs) ↔ ((i : ℕ) × (i * 4 + 4 ≤ length bs) × (p ≡ record_at bs i))
  -- A bit is shared: bit i of both is 1, for some i.
  pub shared : (mask status : ℕ) → (shares mask status ≡ true) ↔ ((i : ℕ) × (bit i status ≡ 1) × (bit i mask ≡ 1))
  -- Selected are records that share a bit with the mask, and every such record; in order, each once; so many as there are such status bytes.
  pub selected : (mask : ℕ) (bs : List ℕ) (p : Part) → In p (select mask bs) ↔ (In p (records bs) × (sharing mask p ≡ true))
  pub ordered : (mask : ℕ) (bs : List ℕ) → Apart 0 (select mask bs)
  pub counted : (mask : ℕ) (bs : List ℕ) → length (select mask bs) ≡ statuses mask bs (length bs / 4) 0
  -- Selecting from what was selected, joined, gives the same records.
  pub twice : (mask : ℕ) (bs : List ℕ) → texts (select mask (joined (select mask bs))) ≡ texts (select mask bs)
  pub none : (bs : List ℕ) → select 0 bs ≡ []
  -- "Handed out are the availability mask and the records; lenient drops a broken tail", which is no record.
  pub lists : (mask at : ℕ) (r : List ℕ) → 3 ≤ length r → handed (fault_list mask) (part at r) ≡ part (at + 2) (get_or r 2 0 ∷ joined (records (drop 3 r)))
