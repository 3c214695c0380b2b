-- The selector's laws, proved: of any filter, then of records.
use Prim.Native.Nat.{ℕ, zero, suc, ◌+◌, ◌-◌, ◌*◌, ◌/◌, ◌%◌, ◌≤◌, ◌<◌, min}
use native.Mathlib.Omega.{arith}
use mathlib.Core.Bool.{Bool, true, false, cond, not}
use mathlib.Core.Path.{◌≡◌, refl, sym, ◌∙◌, ap, ap₂, subst, subst⁻¹}
use mathlib.Core.Logic.{◌≢◌, ◌⊎◌, inl, inr, ◌↔◌}
use mathlib.Core.List.{List, [], ◌∷◌, ◌++◌, map}
use lib.Arith.{bin_ind}
use lib.Bits.{bit_and, and_step, and_zero_r}
use lib.Dec.{eqb}
use lib.ListN.{length, get_or, take, drop, length-append, length-drop}
use lib.Seq.{length-take-le, drop-cons, take_at, drop-append-add, take-add, drop-drop, get_or-take, get_or-drop}
use borrow.Author.Tests.{eqb-true, eqb-false, ne_eqb, not-true}
use Rattle.rules.specs.After.{handed}
use Rattle.rules.specs.Answers.{Part, part}
use Rattle.rules.specs.Calls.{fault_list}
use Rattle.rules.specs.Conversations.{Every}
use Rattle.rules.specs.Faults.{record_at, records_from, records, bit, shares, sharing, keep, select, statuses, In, Apart, joined, texts, Selector}

module _ {A : Type 0} (test : A → Bool) where
  keep-only : (xs : List A) (x : A) → In x (keep test xs) → In x xs × (test x ≡ true)
  keep-only [] x h = absurd h
  keep-only (y ∷ ys) x h = go (test y) refl h (keep-only ys x)
    where
      go : (b : Bool) → test y ≡ b → In x (cond b (y ∷ keep test ys) (keep test ys)) → (In x (keep test ys) → In x ys × (test x ≡ true)) → In x (y ∷ ys) × (test x ≡ true)
      go true e (inl p) f = (inl p, ap test p ∙ e)
      go true e (inr k) f = let r = f k in (inr r.0, r.1)
      go false e k f = let r = f k in (inr r.0, r.1)

  keep-each : (xs : List A) (x : A) → In x xs → test x ≡ true → In x (keep test xs)
  keep-each [] x h e = absurd h
  keep-each (y ∷ ys) x (inl p) e = rw (ap test (sym p) ∙ e) (inl p)
  keep-each (y ∷ ys) x (inr k) e = go (test y) (keep-each ys x k e)
    where
      go : (b : Bool) → In x (keep test ys) → In x (cond b (y ∷ keep test ys) (keep test ys))
      go true h = inr h
      go false h = h

  keep-twice : (xs : List A) → keep test (keep test xs) ≡ keep test xs
  keep-twice [] = refl
  keep-twice (x ∷ xs) = go (test x) refl (keep-twice xs)
    where
      go : (b : Bool) → test x ≡ b → keep test (keep test xs) ≡ keep test xs → keep test (cond b (x ∷ keep test xs) (keep test xs)) ≡ cond b (x ∷ keep test xs) (keep test xs)
      go true e h = rw e (ap (λ (l : List A). x ∷ l) h)
      go false e h = h

-- A test of an image is a test of what is mapped.
keep-map : {A B : Type 0} (f : A → B) (test : B → Bool) (xs : List A) → map f (keep (λ x. test (f x)) xs) ≡ keep test (map f xs)
keep-map f test [] = refl
keep-map {A} {B} f test (x ∷ xs) = go (test (f x)) (keep-map f test xs)
  where
    go : (b : Bool) → map f (keep (λ y. test (f y)) xs) ≡ keep test (map f xs)
        → map f (cond b (x ∷ keep (λ y. test (f y)) xs) (keep (λ y. test (f y)) xs)) ≡ cond b (f x ∷ keep test (map f xs)) (keep test (map f xs))
    go true h = ap (λ (l : List B). f x ∷ l) h
    go false h = h

keep-every : {A : Type 0} (P : A → Type 0) (test : A → Bool) (xs : List A) → Every P xs → Every P (keep test xs)
keep-every P test [] h = tt
keep-every P test (x ∷ xs) h = go (test x) (keep-every P test xs h.1)
  where
    go : (b : Bool) → Every P (keep test xs) → Every P (cond b (x ∷ keep test xs) (keep test xs))
    go true k = (h.0, k)
    go false k = k

sooner : (i j : ℕ) (ps : List Part) → i ≤ j → Apart j ps → Apart i ps
sooner i j [] h k = tt
sooner i j (p ∷ ps) h k = (omega (arith, k.0), k.1)

keep_apart : (test : Part → Bool) (i : ℕ) (ps : List Part) → Apart i ps → Apart i (keep test ps)
keep_apart test i [] h = tt
keep_apart test i (p ∷ ps) h = go (test p) (keep_apart test (p.at + 4) ps h.1)
  where
    go : (b : Bool) → Apart (p.at + 4) (keep test ps) → Apart i (cond b (p ∷ keep test ps) (keep test ps))
    go true k = (h.0, k)
    go false k = sooner i (p.at + 4) (keep test ps) (omega (arith, h.0)) k

abbrev Common : ℕ → ℕ → Type 0
Common a b = (i : ℕ) × (bit i a ≡ 1) × (bit i b ≡ 1)

-- A common bit is the last, or one of the halves'.
common : (a b : ℕ) → bit_and a b ≢ 0 → Common a b
common = bin_ind (λ (a : ℕ). (b : ℕ) → bit_and a b ≢ 0 → Common a b) (λ b n. absurd (n refl)) (λ a f b n. go a b n (eqb (a % 2) 1) refl (eqb (b % 2) 1) refl (f (b / 2)))
  where
    later : (a b : ℕ) → Common (a / 2) (b / 2) → Common a b
    later a b c = (suc c.0, c.1, c.2)

    go : (a b : ℕ) → bit_and a b ≢ 0 → (x : Bool) → eqb (a % 2) 1 ≡ x → (y : Bool) → eqb (b % 2) 1 ≡ y → (bit_and (a / 2) (b / 2) ≢ 0 → Common (a / 2) (b / 2)) → Common a b
    go a b n true e true h f = (0, eqb-true (a % 2) 1 e, eqb-true (b % 2) 1 h)
    go a b n true e false h f = later a b (f (λ z. n (and_step a b ∙ omega (arith, eqb-false (b % 2) 1 h))))
    go a b n false e y h f = later a b (f (λ z. n (and_step a b ∙ omega (arith, eqb-false (a % 2) 1 e))))

in-common : (i a b : ℕ) → bit i a ≡ 1 → bit i b ≡ 1 → bit_and a b ≢ 0
in-common zero a b e h z = omega (arith, and_step a b)
in-common (suc i) a b e h z = in-common i (a / 2) (b / 2) e h (omega (arith, and_step a b))

shared : (mask status : ℕ) → (shares mask status ≡ true) ↔ Common status mask
shared mask status = (
  λ h. common status mask (eqb-false (bit_and status mask) 0 (not-true (eqb (bit_and status mask) 0) h)),
  λ c. rw (ne_eqb (bit_and status mask) 0 (in-common c.0 status mask c.1 c.2)) refl,
)

abbrev Four : Part → Type 0
Four p = length p.bytes ≡ 4

module _ (bs : List ℕ) where
  -- Records n, from i on: one is at an index between.
  in-from : (n i : ℕ) (p : Part) → In p (records_from bs n i) → (k : ℕ) × (k < i + n) × (p ≡ record_at bs k)
  in-from zero i p h = absurd h
  in-from (suc n) i p (inl e) = (i, omega arith, e)
  in-from (suc n) i p (inr h) = let r = in-from n (suc i) p h in (r.0, omega (arith, r.1), r.2)

  from_in : (n i k : ℕ) (p : Part) → i ≤ k → k < i + n → p ≡ record_at bs k → In p (records_from bs n i)
  from_in zero i k p low high e = absurd (omega arith)
  from_in (suc n) i k p low high e = go (eqb k i) refl (λ h. from_in n (suc i) k p h (omega arith) e)
    where
      go : (b : Bool) → eqb k i ≡ b → (suc i ≤ k → In p (records_from bs n (suc i))) → (p ≡ record_at bs i) ⊎ In p (records_from bs n (suc i))
      go true h f = inl (e ∙ ap (record_at bs) (eqb-true k i h))
      go false h f = inr (f (omega (arith, eqb-false k i h)))

  apart_from : (n i : ℕ) → Apart (i * 4) (records_from bs n i)
  apart_from zero i = tt
  apart_from (suc n) i = (omega arith, subst (λ (k : ℕ). Apart k (records_from bs n (suc i))) (omega arith) (apart_from n (suc i)))

  four-from : (n i : ℕ) → (i + n) * 4 ≤ length bs → Every Four (records_from bs n i)
  four-from zero i h = tt
  four-from (suc n) i h = (length-take-le 4 (drop (i * 4) bs) (subst⁻¹ (λ (k : ℕ). 4 ≤ k) (length-drop (i * 4) bs) (omega arith)), four-from n (suc i) (omega arith))

  join-from : (n i : ℕ) → joined (records_from bs n i) ≡ take (n * 4) (drop (i * 4) bs)
  join-from zero i = refl
  join-from (suc n) i =
      let l = drop (i * 4) bs in
      let place : suc i * 4 ≡ i * 4 + 4 = omega arith in
      let next : drop (suc i * 4) bs ≡ drop 4 l = ap (λ (k : ℕ). drop k bs) place ∙ sym (drop-drop 4 (i * 4) bs) in
      let size : 4 + n * 4 ≡ suc n * 4 = omega arith in
      ap (λ (k : List ℕ). take 4 l ++ k) (join-from n (suc i) ∙ ap (λ (k : List ℕ). take (n * 4) k) next) ∙
      sym (take-add 4 (n * 4) l) ∙
      ap (λ (k : ℕ). take k l) size

  pub status-at : (i : ℕ) → get_or (take 4 (drop (i * 4) bs)) 3 0 ≡ get_or bs (i * 4 + 3) 0
  status-at i = get_or-take 4 (drop (i * 4) bs) 3 0 (omega arith) ∙ get_or-drop (i * 4) bs 3 0

  count-from : (mask n i : ℕ) → length (keep (sharing mask) (records_from bs n i)) ≡ statuses mask bs n i
  count-from mask zero i = refl
  count-from mask (suc n) i = rw (status-at i) (go (shares mask (get_or bs (i * 4 + 3) 0)) (count-from mask n (suc i)))
    where
      go : (b : Bool) → length (keep (sharing mask) (records_from bs n (suc i))) ≡ statuses mask bs n (suc i)
          → length (cond b (record_at bs i ∷ keep (sharing mask) (records_from bs n (suc i))) (keep (sharing mask) (records_from bs n (suc i)))) ≡ cond b 1 0 + statuses mask bs n (suc i)
      go true h = omega arith
      go false h = omega arith

  none_from : (n i : ℕ) → keep (sharing 0) (records_from bs n i) ≡ []
  none_from zero i = refl
  none_from (suc n) i = rw (and_zero_r (get_or (take 4 (drop (i * 4) bs)) 3 0)) (none_from n (suc i))

-- Behind four bytes more every record stands one later.
shifted : (x l : List ℕ) → length x ≡ 4 → (n i : ℕ) → texts (records_from (x ++ l) n (suc i)) ≡ texts (records_from l n i)
shifted x l e zero i = refl
shifted x l e (suc n) i =
    let place : suc i * 4 ≡ length x + i * 4 = omega arith in
    ap₂ (λ (t : List ℕ) (ts : List (List ℕ)). t ∷ ts)
    (ap (λ (k : List ℕ). take 4 k) (ap (λ (k : ℕ). drop k (x ++ l)) place ∙ drop-append-add x l (i * 4)))
    (shifted x l e n (suc i))

rejoined : (ps : List Part) → Every Four ps → texts (records_from (joined ps) (length ps) 0) ≡ texts ps
rejoined [] h = refl
rejoined (p ∷ ps) h =
    ap₂ (λ (t : List ℕ) (ts : List (List ℕ)). t ∷ ts) (take_at p.bytes (joined ps) 4 h.0)
    (shifted p.bytes (joined ps) h.0 (length ps) 0 ∙ rejoined ps h.1)

joined_length : (ps : List Part) → Every Four ps → length (joined ps) ≡ length ps * 4
joined_length [] h = refl
joined_length (p ∷ ps) h = length-append p.bytes (joined ps) ∙ omega (arith, h.0, joined_length ps h.1)

records-rejoined : (ps : List Part) → Every Four ps → texts (records (joined ps)) ≡ texts ps
records-rejoined ps h =
    let size : length (joined ps) / 4 ≡ length ps = omega (arith, joined_length ps h) in
    ap (λ (n : ℕ). texts (records_from (joined ps) n 0)) size ∙ rejoined ps h

abbrev by-status : ℕ → List ℕ → Bool
by-status mask t = shares mask (get_or t 3 0)

twice : (mask : ℕ) (bs : List ℕ) → texts (select mask (joined (select mask bs))) ≡ texts (select mask bs)
twice mask bs =
    let ps = select mask bs in
    let fours = keep-every Four (sharing mask) (records bs) (four-from bs (length bs / 4) 0 (omega arith)) in
    keep-map (λ (p : Part). p.bytes) (by-status mask) (records (joined ps)) ∙
    ap (λ (ts : List (List ℕ)). keep (by-status mask) ts) (records-rejoined ps fours) ∙
    sym (keep-map (λ (p : Part). p.bytes) (by-status mask) ps) ∙
    ap texts (keep-twice (sharing mask) (records bs))

lists : (mask at : ℕ) (r : List ℕ) → 3 ≤ length r → handed (fault_list mask) (part at r) ≡ part (at + 2) (get_or r 2 0 ∷ joined (records (drop 3 r)))
lists mask at r h =
    let l = drop 3 r in
    let opened : drop 2 r ≡ get_or r 2 0 ∷ l = drop-cons r 2 0 h in
    let size : (length (drop 2 r) - 1) / 4 * 4 + 1 ≡ suc (length l / 4 * 4) = omega (arith, length-drop 2 r, length-drop 3 r) in
    ap (λ (d : List ℕ). part (at + 2) d)
    (ap₂ (λ (n : ℕ) (d : List ℕ). take n d) size opened ∙ ap (λ (d : List ℕ). get_or r 2 0 ∷ d) (sym (join-from l (length l / 4) 0)))

pub selector : Selector
selector = record {
  whole = λ bs p. (
    λ h. let r = in-from bs (length bs / 4) 0 p h in (r.0, omega (arith, r.1), r.2),
    λ r. from_in bs (length bs / 4) 0 r.0 p (omega arith) (omega (arith, r.1)) r.2,
  );
  shared = shared;
  selected = λ mask bs p. (keep-only (sharing mask) (records bs) p, λ h. keep-each (sharing mask) (records bs) p h.0 h.1);
  ordered = λ mask bs. keep_apart (sharing mask) 0 (records bs) (apart_from bs (length bs / 4) 0);
  counted = λ mask bs. count-from bs mask (length bs / 4) 0;
  twice = twice;
  none = λ bs. none_from bs (length bs / 4) 0;
  lists = lists;
}
