-- Laws of the events of a log and of their leading run.
use Prim.Native.Nat.{ℕ, zero, suc, ◌+◌, ◌*◌, ◌/◌, ◌%◌, ◌≤◌, ◌<◌, min}
use native.Mathlib.Omega.{arith}
use native.Mathlib.Nat.{suc-mul, zero-mul}
use mathlib.Core.Bool.{Bool, true, false, cond, not, ◌&&◌, ◌||◌}
use mathlib.Core.List.{List, [], ◌∷◌}
use mathlib.Core.Logic.{◌≢◌}
use mathlib.Core.Path.{◌≡◌, refl, sym, ◌∙◌, ap, ap₂, subst}
use lib.Dec.{leb, eqb}
use lib.ListN.{length, take, length-take}
use lib.Seq.{get_or-take}
use borrow.Author.Tests.{leb-true, le-leb, eq-eqb, eqb-true, eqb-false}
use Rattle.rules.specs.Bytes.{every, is_byte}
use Rattle.rules.specs.Conversations.{Every}
use Rattle.rules.specs.Events.{Form, plain, addressed, event_size, Entry, entry_at, entries_from, entries, named, sound, rising}
use Rattle.rules.proofs.Judging.{both}
use Rattle.rules.proofs.Laying.{same-entry}
use Rattle.mending.specs.Mend.{goes_on, run}

-- Events and bytes, in each form.
pub whole-fits : (form : Form) (k n : ℕ) → k ≤ n / event_size form → k * event_size form ≤ n
whole-fits plain k n h = omega arith
whole-fits addressed k n h = omega arith

pub fits_whole : (form : Form) (k n : ℕ) → k * event_size form ≤ n → k ≤ n / event_size form
fits_whole plain k n h = omega arith
fits_whole addressed k n h = omega arith

pub whole-exact : (form : Form) (k n : ℕ) → n ≡ k * event_size form → n / event_size form ≡ k
whole-exact plain k n h = omega arith
whole-exact addressed k n h = omega arith

pub whole-rest : (form : Form) (k n : ℕ) → n ≡ k * event_size form → n % event_size form ≡ 0
whole-rest plain k n h = omega arith
whole-rest addressed k n h = omega arith

pub fewer : (form : Form) (k n : ℕ) → k * event_size form ≤ n * event_size form → k ≤ n
fewer plain k n h = omega arith
fewer addressed k n h = omega arith

pub fewer_bytes : (form : Form) (k n : ℕ) → k ≤ n → k * event_size form ≤ n * event_size form
fewer_bytes plain k n h = omega arith
fewer_bytes addressed k n h = omega arith

pub one-at-least : (form : Form) (k : ℕ) → k ≤ k * event_size form
one-at-least plain k = omega arith
one-at-least addressed k = omega arith

-- The events in the first bytes are the first events.
module _ (form : Form) (m : ℕ) (bs : List ℕ) where
  entry-take : (i : ℕ) → i * event_size form + event_size form ≤ m → entry_at form (take m bs) i ≡ entry_at form bs i
  entry-take i h = same-entry form (take m bs) bs (i * event_size form) (i * event_size form) (λ j k. get_or-take m bs (i * event_size form + j) 0 (omega arith))

  from-take : (n i : ℕ) → i * event_size form + n * event_size form ≤ m → entries_from form (take m bs) n i ≡ entries_from form bs n i
  unfolding entries_from
  from-take zero i h = refl
  from-take (suc n) i h =
      let on : suc i * event_size form ≡ i * event_size form + event_size form = omega (arith, suc-mul i (event_size form)) in
      let more : suc n * event_size form ≡ event_size form + n * event_size form = omega (arith, suc-mul n (event_size form)) in
      ap₂ (λ (e : Entry) (es : List Entry). e ∷ es) (entry-take i (omega arith)) (from-take n (suc i) (omega arith))

pub take-from : (form : Form) (bs : List ℕ) (k n i : ℕ) → take k (entries_from form bs n i) ≡ entries_from form bs (min k n) i
unfolding entries_from
take-from form bs zero n i = let z : min zero n ≡ zero = omega arith in rw z
take-from form bs (suc k) zero i = let z : min (suc k) zero ≡ zero = omega arith in rw z
take-from form bs (suc k) (suc n) i =
    let z : min (suc k) (suc n) ≡ suc (min k n) = omega arith in
    rw z (ap (λ (es : List Entry). entry_at form bs i ∷ es) (take-from form bs k n (suc i)))

-- The events in the first j bytes, and in the bytes of the first k events.
pub entries-front : (form : Form) (bs : List ℕ) (j : ℕ) → entries form (take j bs) ≡ take (length (take j bs) / event_size form) (entries form bs)
entries-front form bs j =
    let q = length (take j bs) / event_size form in
    let fits : q * event_size form ≤ length (take j bs) = whole-fits form q (length (take j bs)) (omega arith) in
    let cut = length-take j bs in
    let most : min q (length bs / event_size form) ≡ q = omega (arith, fits_whole form q (length bs) (omega arith)) in
    from-take form j bs q 0 (omega (arith, zero-mul (event_size form))) ∙
    sym (take-from form bs q (length bs / event_size form) 0 ∙ ap (λ (n : ℕ). entries_from form bs n 0) most)

pub entries-take : (form : Form) (bs : List ℕ) (k : ℕ) → k * event_size form ≤ length bs → entries form (take (k * event_size form) bs) ≡ take k (entries form bs)
entries-take form bs k h =
    let all : length (take (k * event_size form) bs) / event_size form ≡ k = whole-exact form k _ (omega (arith, length-take (k * event_size form) bs)) in
    entries-front form bs (k * event_size form) ∙ ap (λ (q : ℕ). take q (entries form bs)) all

-- The run's laws.
pub run-le : (t left : ℕ) (es : List Entry) → run t left es ≤ length es
run-le t left [] = omega arith
run-le t left (e ∷ es) = go (goes_on t left e) (run-le e.time left es)
  where
    go : (b : Bool) → run e.time left es ≤ length es → cond b (suc (run e.time left es)) 0 ≤ suc (length es)
    go true h = omega arith
    go false h = omega arith

-- What is kept is kept again.
pub run-again : (t left : ℕ) (es : List Entry) → run t left (take (run t left es) es) ≡ run t left es
run-again t left [] = refl
run-again t left (e ∷ es) = go (goes_on t left e) refl (run-again e.time left es)
  where
    go : (b : Bool) → goes_on t left e ≡ b → run e.time left (take (run e.time left es) es) ≡ run e.time left es
        → run t left (take (cond b (suc (run e.time left es)) 0) (e ∷ es)) ≡ cond b (suc (run e.time left es)) 0
    go true g h = rw g (ap suc h)
    go false g h = refl

-- "of known kind .. and with their reply bytes inside", as facts.
abbrev pub Fits : ℕ → Entry → Type 0
Fits left e = (e.kind ≤ 3) × (e.kind ≡ 0 → e.offset + e.size ≤ left)

pub goes : (t left : ℕ) (e : Entry) → goes_on t left e ≡ true → (t ≤ e.time) × Fits left e
goes t left e h =
    let a = both (leb e.kind 3 && leb t e.time) _ h in
    let b = both (leb e.kind 3) (leb t e.time) a.0 in
    (leb-true t e.time b.1, (leb-true e.kind 3 b.0, λ z. leb-true _ _ (rw (eq-eqb e.kind 0 z) at a.1)))

pub goes_back : (t left : ℕ) (e : Entry) → t ≤ e.time → Fits left e → goes_on t left e ≡ true
goes_back t left e h f = rw (le-leb e.kind 3 f.0, le-leb t e.time h) (go (eqb e.kind 0) refl)
  where
    go : (b : Bool) → eqb e.kind 0 ≡ b → (not b || leb (e.offset + e.size) left) ≡ true
    go true z = le-leb (e.offset + e.size) left (f.1 (eqb-true e.kind 0 z))
    go false z = refl

pub run_fits : (t left : ℕ) (es : List Entry) → Every (Fits left) (take (run t left es) es)
run_fits t left [] = tt
run_fits t left (e ∷ es) = go (goes_on t left e) refl (run_fits e.time left es)
  where
    go : (b : Bool) → goes_on t left e ≡ b → Every (Fits left) (take (run e.time left es) es) → Every (Fits left) (take (cond b (suc (run e.time left es)) 0) (e ∷ es))
    go true g h = ((goes t left e g).1, h)
    go false g h = tt

-- A sound entry fits.
pub sound-fits : (replies : List ℕ) (e : Entry) → sound replies e ≡ true → Fits (length replies) e
sound-fits replies e s = go (eqb e.kind 0) refl (both (leb e.time 4294967295) _ s).1
  where
    go : (b : Bool) → eqb e.kind 0 ≡ b
        → cond b (leb e.size 4095 && leb (e.offset + e.size) (length replies) && every is_byte (named replies e).bytes) (leb e.kind 3 && leb e.size 65535 && eqb e.source 0) ≡ true
        → Fits (length replies) e
    go true z k =
        let zero = eqb-true e.kind 0 z in
        let u = (both (leb e.size 4095 && leb (e.offset + e.size) (length replies)) _ k).0 in
        (omega arith, λ y. leb-true _ _ (both (leb e.size 4095) (leb (e.offset + e.size) (length replies)) u).1)
    go false z k =
        let u = (both (leb e.kind 3 && leb e.size 65535) _ k).0 in
        (leb-true e.kind 3 (both (leb e.kind 3) (leb e.size 65535) u).0, λ y. absurd (eqb-false e.kind 0 z y))

-- Events within the limits are all kept.
pub run-all : (t : ℕ) (replies : List ℕ) (es : List Entry) → rising t es ≡ true → every (sound replies) es ≡ true → run t (length replies) es ≡ length es
run-all t replies [] r s = refl
run-all t replies (e ∷ es) r s =
    let a = both (leb t e.time) (rising e.time es) r in
    let b = both (sound replies e) (every (sound replies) es) s in
    rw (goes_back t (length replies) e (leb-true t e.time a.0) (sound-fits replies e b.0)) (ap suc (run-all e.time replies es a.1 b.1))

-- A run as a type: k events of bs from the one numbered i on, behind time t.
module _ (form : Form) (left : ℕ) (bs : List ℕ) where
  abbrev pub Good : ℕ → ℕ → ℕ → Type 0
  Good t i zero = Unit {0}
  Good t i (suc k) = (goes_on t left (entry_at form bs i) ≡ true) × Good (entry_at form bs i).time (suc i) k

  pub good-run : (t m i : ℕ) → Good t i (run t left (entries_from form bs m i))
  unfolding entries_from
  good-run t zero i = tt
  good-run t (suc m) i = go (goes_on t left (entry_at form bs i)) refl (good-run (entry_at form bs i).time m (suc i))
    where
      more : ℕ
      more = run (entry_at form bs i).time left (entries_from form bs m (suc i))

      go : (b : Bool) → goes_on t left (entry_at form bs i) ≡ b → Good (entry_at form bs i).time (suc i) more → Good t i (cond b (suc more) 0)
      go true e g = (e, g)
      go false e g = tt

  pub good-most : (t m i k : ℕ) → k ≤ m → Good t i k → k ≤ run t left (entries_from form bs m i)
  unfolding entries_from
  good-most t m i zero h g = omega arith
  good-most t zero i (suc k) h g = absurd (omega arith)
  good-most t (suc m) i (suc k) h g =
      let r = good-most (entry_at form bs i).time m (suc i) k (omega arith) g.1 in
      rw g.0 (omega (arith, r))

  -- By the events' places.
  pub good-at : (t i k : ℕ) → Good t i k → (j : ℕ) → i ≤ j → j < i + k → Fits left (entry_at form bs j)
  good-at t i zero g j a b = absurd (omega arith)
  good-at t i (suc k) g j a b = go (eqb i j) refl (good-at (entry_at form bs i).time (suc i) k g.1 j)
    where
      go : (z : Bool) → eqb i j ≡ z → (suc i ≤ j → j < suc i + k → Fits left (entry_at form bs j)) → Fits left (entry_at form bs j)
      go true e more = subst (λ (x : ℕ). Fits left (entry_at form bs x)) (eqb-true i j e) (goes t left (entry_at form bs i) g.0).1
      go false e more = let d : i ≢ j = eqb-false i j e in more (omega arith) (omega arith)

  pub good-rising : (t i k : ℕ) → Good t i k → (j : ℕ) → i ≤ j → suc j < i + k → (entry_at form bs j).time ≤ (entry_at form bs (suc j)).time
  good-rising t i zero g j a b = absurd (omega arith)
  good-rising t i (suc zero) g j a b = absurd (omega arith)
  good-rising t i (suc (suc k)) g j a b = go (eqb i j) refl (good-rising (entry_at form bs i).time (suc i) (suc k) g.1 j)
    where
      go : (z : Bool) → eqb i j ≡ z → (suc i ≤ j → suc j < suc i + suc k → (entry_at form bs j).time ≤ (entry_at form bs (suc j)).time)
          → (entry_at form bs j).time ≤ (entry_at form bs (suc j)).time
      go true e more =
          subst (λ (x : ℕ). (entry_at form bs x).time ≤ (entry_at form bs (suc x)).time) (eqb-true i j e)
          (goes (entry_at form bs i).time left (entry_at form bs (suc i)) g.1.0).0
      go false e more = let d : i ≢ j = eqb-false i j e in more (omega arith) (omega arith)

  pub good_of : (t i k : ℕ) → (0 < k → t ≤ (entry_at form bs i).time) → ((j : ℕ) → i ≤ j → j < i + k → Fits left (entry_at form bs j))
      → ((j : ℕ) → i ≤ j → suc j < i + k → (entry_at form bs j).time ≤ (entry_at form bs (suc j)).time) → Good t i k
  good_of t i zero f a r = tt
  good_of t i (suc k) f a r = (
    goes_back t left (entry_at form bs i) (f (omega arith)) (a i (omega arith) (omega arith)),
    good_of (entry_at form bs i).time (suc i) k (λ p. r i (omega arith) (omega arith)) (λ j p q. a j (omega arith) (omega arith)) (λ j p q. r j (omega arith) (omega arith)),
  )
