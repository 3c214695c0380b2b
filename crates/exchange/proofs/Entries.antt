-- Entries as they are read from the lent bytes, one by one, and their limits.
use Prim.Native.Nat.{ℕ, zero, suc, ◌+◌, ◌-◌, ◌*◌, ◌/◌, ◌%◌, ◌^◌, ◌≤◌, ◌<◌}
use native.Mathlib.Nat.{add-sub_cancel_left}
use native.Mathlib.Numerals.{add-one}
use native.Mathlib.Omega.{arith}
use mathlib.Core.Bool.{Bool, true, false, cond, ◌&&◌, and-true, and-false, and-eq-true_iff}
use mathlib.Core.Path.{◌≡◌, refl, sym, ap, ap₂, ◌∙◌}
use mathlib.Core.List.{List, [], ◌∷◌}
use borrow.Author.Tests.{le-leb, lt-leb, lt-ltb, eq-eqb, ne_eqb, leb-true}
use lib.Dec.{leb, eqb}
use lib.ListN.{length, get_or, take, drop, length-take, length-drop}
use lib.Seq.{get_or-take, get_or-drop}
use Rattle.rules.specs.Bytes.{u16_at, u32_at, every, is_byte}
use Rattle.rules.specs.Events.{Form, plain, addressed, event_size, Entry, Event, source_at, entry_in, entry_at, entries_from, entries, foreign, said, event_of, named, sound, rising, within_limits}
use Rattle.rules.proofs.Laying.{chunk-entry}
use Rattle.rules.proofs.Writing.{every_drop, every_take}
use Rattle.exchange.specs.Meaning.{kind_heard}
use Rattle.exchange.specs.Places.{WholeReply, beginning}
use Rattle.wire.proofs.Ends.{u16-past, u32-past}

-- Either size fits into the list as often as the list is long.
pub size_fits : (form : Form) (i n : ℕ) → i ≤ n / event_size form → i * event_size form ≤ n
size_fits plain i n h = omega arith
size_fits addressed i n h = omega arith

pub no-more-bytes : (form : Form) (i n : ℕ) → n / event_size form < i → n ≤ i * event_size form
no-more-bytes plain i n h = omega arith
no-more-bytes addressed i n h = omega arith

pub size-some : (form : Form) → 0 < event_size form
size-some plain = omega arith
size-some addressed = omega arith

pub size_small : (form : Form) → event_size form ≤ 12
size_small plain = omega arith
size_small addressed = omega arith

-- An entry is read from its own bytes: one without an address ends where an address would stand.
module _ (l : List ℕ) (i : ℕ) where
  source-within : (form : Form) (e : List ℕ) → e ≡ take (event_size form) (drop (i * event_size form) l) → u16_at e 10 ≡ source_at form e 0
  source-within plain e p = u16-past e 10 (rw p (simp (length-take, length-drop) (omega arith)))
  source-within addressed e p = refl

  pub entry_read : (form : Form) (e : List ℕ) → e ≡ take (event_size form) (drop (i * event_size form) l) → entry_in addressed e 0 ≡ entry_at form l i
  entry_read form e p =
      let source = source-within form e p in
      (λ k. record { time = u32_at e 0; kind = u16_at e 4; offset = u16_at e 6; size = u16_at e 8; source = source k }) ∙
      ap (λ (b : List ℕ). entry_in form b 0) p ∙
      chunk-entry form l i

  -- The same of a part from where the entry begins to where it ends.
  pub entry-part : (form : Form) (size : ℕ) → size ≡ event_size form → entry_in addressed (take (i * size + size - i * size) (drop (i * size) l)) 0 ≡ entry_at form l i
  entry-part form size is =
      rw (is, add-sub_cancel_left (i * event_size form) (event_size form)) (entry_read form (take (event_size form) (drop (i * event_size form) l)) refl)

  pub entry_past : (form : Form) → length l / event_size form < i → entry_in addressed [] 0 ≡ entry_at form l i
  entry_past form h =
      let end = no-more-bytes form i (length l) h in
      let source = no_source form (i * event_size form) end in
      rw (
        u32-past l (i * event_size form) end,
        u16-past l (i * event_size form + 4) (omega arith),
        u16-past l (i * event_size form + 6) (omega arith),
        u16-past l (i * event_size form + 8) (omega arith),
        source,
      )
    where
      no_source : (form : Form) (at : ℕ) → length l ≤ at → source_at form l at ≡ 0
      no_source plain at k = refl
      no_source addressed at k = u16-past l (at + 10) (omega arith)

  -- Of an entry the time and the kind alone.
  byte-read : (n at k : ℕ) → k < n → get_or (take n (drop at l)) k 0 ≡ get_or l (at + k) 0
  byte-read n at k h = get_or-take n (drop at l) k 0 h ∙ get_or-drop at l k 0

  word_read : (n at k : ℕ) → k + 1 < n → u16_at (take n (drop at l)) k ≡ u16_at l (at + k)
  word_read n at k h =
      ap₂ (λ (x y : ℕ). x * 256 + y) (byte-read n at k (omega arith)) (byte-read n at (k + 1) h ∙ ap (λ (m : ℕ). get_or l m 0) (omega arith))

  pub time-read : (form : Form) (size : ℕ) → size ≡ event_size form → u32_at (take (i * size + 4 - i * size) (drop (i * size) l)) 0 ≡ (entry_at form l i).time
  time-read form size is =
      rw (is, add-sub_cancel_left (i * event_size form) 4)
      (ap₂ (λ (x y : ℕ). x * 65536 + y) (word_read 4 (i * event_size form) 0 (omega arith) ∙ ap (u16_at l) (omega arith)) (word_read 4 (i * event_size form) 2 (omega arith)))

  pub kind-read : (form : Form) (size : ℕ) → size ≡ event_size form → u16_at (take (i * size + 4 + 2 - (i * size + 4)) (drop (i * size + 4) l)) 0 ≡ (entry_at form l i).kind
  kind-read form size is =
      rw (is, add-sub_cancel_left (i * event_size form + 4) 2) (word_read 2 (i * event_size form + 4) 0 (omega arith) ∙ ap (u16_at l) (omega arith))

module _ (form : Form) (l : List ℕ) (n i : ℕ) where
  pub next-entry : (e : Entry) → e ≡ entry_at form l i → i < n → entries_from form l (n - i) i ≡ e ∷ entries_from form l (n - (i + 1)) (i + 1)
  unfolding entries_from
  next-entry e here h =
      let more : n - i ≡ suc (n - (i + 1)) = omega arith in
      rw (more, add-one i) (ap (λ (x : Entry). x ∷ entries_from form l (n - suc i) (suc i)) (sym here))

  pub no-entry : n ≤ i → entries_from form l (n - i) i ≡ []
  unfolding entries_from
  no-entry h = let none : n - i ≡ 0 = omega arith in rw none

-- The event that an entry is heard as, by the kind that it is heard as.
module _ (listens : ℕ) (r : List ℕ) (e : Entry) where
  pub heard-reply : kind_heard listens e ≡ 0 → (event_of listens r e ≡ Event.reply e.time (named r e)) × (e.kind ≡ 0)
  heard-reply h = go (foreign listens e) h
    where
      go : (b : Bool) → cond b 1 e.kind ≡ 0 → (cond b (Event.idle e.time) (said r e) ≡ Event.reply e.time (named r e)) × (e.kind ≡ 0)
      go true k = absurd (omega arith)
      go false k = (rw (eq-eqb e.kind 0 k), k)

  pub heard-idle : kind_heard listens e ≡ 1 → event_of listens r e ≡ Event.idle e.time
  heard-idle h = go (foreign listens e) h
    where
      go : (b : Bool) → cond b 1 e.kind ≡ 1 → cond b (Event.idle e.time) (said r e) ≡ Event.idle e.time
      go true k = refl
      go false k = rw (ne_eqb e.kind 0 (λ z. absurd (omega arith)), eq-eqb e.kind 1 k)

  pub idle-heard : e.kind ≡ 1 → kind_heard listens e ≡ 1
  idle-heard h = go (foreign listens e)
    where
      go : (b : Bool) → cond b 1 e.kind ≡ 1
      go true = refl
      go false = h

pub are-bytes : (l : List ℕ) → ((i : ℕ) → get_or l i 0 < 256) → every is_byte l ≡ true
are-bytes [] h = refl
are-bytes (x ∷ xs) h = rw (lt-ltb x 256 (h zero)) (are-bytes xs (λ i. h (suc i)))

module _ (r : List ℕ) (e : Entry) (time : e.time < 2 ^ 32) where
  pub sound-reply : every is_byte r ≡ true → e.kind ≡ 0 → sound r e ≡ (leb e.size 4095 && leb (e.offset + e.size) (length r))
  sound-reply bytes h =
      rw (
        le-leb e.time 4294967295 (omega arith),
        eq-eqb e.kind 0 h,
        every_take is_byte e.size (drop e.offset r) (every_drop is_byte e.offset r bytes),
        and-true,
      )

swap : (s a b : Bool) → (a && (s && b)) ≡ (s && (a && b))
swap true a b = refl
swap false a b = and-false a

-- Times that never fall, and sound events: what is left of the list says what all of it does.
abbrev pub limits : List ℕ → ℕ → List Entry → Bool
limits r t es = rising t es && every (sound r) es

module _ (form : Form) (r l : List ℕ) (n i t : ℕ) (e : Entry) (here : e ≡ entry_at form l i) (more : i < n) where
  pub limits-fall : e.time < t → limits r t (entries_from form l (n - i) i) ≡ false
  limits-fall h = rw (next-entry form l n i e here more, lt-leb t e.time h)

  pub limits-go : (s : Bool) → s ≡ sound r e → t ≤ e.time
      → limits r t (entries_from form l (n - i) i) ≡ (s && limits r e.time (entries_from form l (n - (i + 1)) (i + 1)))
  limits-go s p h = let rest = entries_from form l (n - (i + 1)) (i + 1) in
      rw (next-entry form l n i e here more, le-leb t e.time h, ← p) (swap s (rising e.time rest) (every (sound r) rest))

-- A sound reply ends inside the lent bytes.
sound-inside : (r : List ℕ) (e : Entry) → sound r e ≡ true → cond (eqb e.kind 0) (e.offset + e.size) 0 ≤ length r
sound-inside r e h = go (eqb e.kind 0) ((and-eq-true_iff (leb e.time 4294967295) _).0 h).1
  where
    go : (b : Bool)
        → cond b (leb e.size 4095 && leb (e.offset + e.size) (length r) && every is_byte (named r e).bytes)
        (leb e.kind 3 && leb e.size 65535 && eqb e.source 0) ≡ true → cond b (e.offset + e.size) 0 ≤ length r
    go true k =
        let small = leb e.size 4095 in
        let inside = leb (e.offset + e.size) (length r) in
        let tests = (and-eq-true_iff small inside).0 ((and-eq-true_iff (small && inside) _).0 k).0 in
        leb-true (e.offset + e.size) (length r) tests.1
    go false k = omega arith

-- A sound entry's reply begins inside the lent bytes.
pub beginning-inside : (r : List ℕ) (e : Entry) → sound r e ≡ true → beginning e ≤ length r
beginning-inside r e h = go (eqb e.kind 0) (sound-inside r e h)
  where
    go : (b : Bool) → cond b (e.offset + e.size) 0 ≤ length r → cond b e.offset 0 ≤ length r
    go true k = omega arith
    go false k = omega arith

-- All that it names is there.
pub sound-whole : (r : List ℕ) (e : Entry) → sound r e ≡ true → WholeReply r e
sound-whole r e h k =
    let inside = rw (eq-eqb e.kind 0 k) at (sound-inside r e h) in
    omega (arith, inside, length-take e.size (drop e.offset r), length-drop e.offset r)

-- The limits of the list, where its length is right.
module _ (form : Form) (l r : List ℕ) (whole : length l % event_size form ≡ 0) (few : length l / event_size form ≤ 512) where
  pub within : (b : Bool) → b ≡ limits r 0 (entries form l) → b ≡ within_limits form l r
  unfolding within_limits
  within b h = rw (eq-eqb (length l % event_size form) 0 whole, le-leb (length l / event_size form) 512 few) h

-- Of a list within its limits every entry is sound, and there are few.
module _ (form : Form) (l r : List ℕ) (h : within_limits form l r ≡ true) where
  abbrev in_order : Bool
  in_order = eqb (length l % event_size form) 0 && leb (length l / event_size form) 512 && rising 0 (entries form l)

  tests : (in_order ≡ true) × (every (sound r) (entries form l) ≡ true)
  unfolding within_limits
  tests = (and-eq-true_iff in_order (every (sound r) (entries form l))).0 h

  pub all_sound : every (sound r) (entries form l) ≡ true
  all_sound = tests.1

  pub few-entries : length l / event_size form ≤ 512
  few-entries =
      let few = leb (length l / event_size form) 512 in
      let counted = ((and-eq-true_iff (eqb (length l % event_size form) 0 && few) (rising 0 (entries form l))).0 tests.0).0 in
      leb-true (length l / event_size form) 512 ((and-eq-true_iff (eqb (length l % event_size form) 0) few).0 counted).1
