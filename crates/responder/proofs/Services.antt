-- Each service: what the code finds on its way is what the definition judges.
use Prim.Native.Nat.{ℕ, ◌+◌, ◌-◌, ◌/◌, ◌%◌, ◌≤◌, ◌<◌}
use native.Mathlib.Omega.{arith}
use mathlib.Core.Bool.{Bool, true, false, cond, ◌&&◌}
use mathlib.Core.Path.{◌≡◌, refl, sym, ◌∙◌, ap}
use mathlib.Core.Logic.{◌≢◌}
use mathlib.Core.List.{List, [], ◌∷◌, ◌++◌}
use borrow.Author.Tests.{le-leb, lt-leb, leb-true, eqb-true, eqb-false, eq-eqb, ne_eqb}
use lib.Dec.{leb, eqb}
use lib.ListN.{length, get_or, drop, length-take, length-drop, take}
use Rattle.std.proofs.lemmas.List.{take_all, take_rest, drop-drop}
use Rattle.rules.specs.Bytes.{value, two, u16_at}
use Rattle.rules.specs.Logs.{all, area}
use Rattle.rules.specs.Refusals.{between}
use Rattle.rules.specs.InOrder.{unless}
use Rattle.rules.proofs.Judging.{judge-ind}
use Rattle.bench.specs.Responder.{refuses, grants, keeps_silent, decision, place}
use Rattle.bench.specs.Stores.{Slot, store_of, slot_of, known, record_of, inside, memory_at, counted}
use Rattle.bench.proofs.Written.{record-fits}
use Rattle.std.specs.Prelude.{Some, None}
use Rattle.stores.specs.declared.Place.{Place}
use Rattle.stores.specs.Places.{record_in, held_in}
use Rattle.responder.specs.declared.Decision.{Decision}
use Rattle.responder.specs.declared.Decision.TheVariants.{Refuse, KeepSilent, Session, Reset, Present, Count, ReadRecord, WriteRecord, ReadMemory}
use Rattle.responder.specs.Decided.{sub_in, meaning, judged_as, functional_of, Unwritten, Decides}
use Rattle.responder.proofs.Judged.{too_short, inexact, out_of_range, too_long, granted, functional-means}
use Rattle.responder.proofs.Told.{unknown, standing, record_is, record-long, no-memory, remembered, memory-is, memory-long}

module _ (l q : List ℕ) where
  abbrev n : ℕ
  n = length q

  abbrev named : List ℕ
  named = get_or q 1 0 ∷ get_or q 2 0 ∷ []

  abbrev e : Slot
  e = slot_of (store_of l) (u16_at q 1)

  -- Services with a sub-function.
  session-short : length (0x50 ∷ sub_in q ∷ (store_of l).session) ≤ 4095
  unfolding store_of
  session-short = omega (arith, length-take 4 (drop 4 l))

  pub session-means : meaning l q (functional_of q 1 4 2 Session) ≡ judged_as l q 0x10
  unfolding judged_as
  session-means = functional-means l q 1 4 2 Session (between 1 4 (sub_in q)) (0x50 ∷ sub_in q ∷ []) (store_of l).session refl refl session-short

  reset-short : (b : Bool) → length (0x51 ∷ sub_in q ∷ cond b ((store_of l).power_down ∷ []) []) ≤ 4095
  reset-short true = omega arith
  reset-short false = omega arith

  pub reset-means : meaning l q (functional_of q 1 4 2 Reset) ≡ judged_as l q 0x11
  unfolding judged_as
  reset-means =
      functional-means l q 1 4 2 Reset (between 1 4 (sub_in q)) (0x51 ∷ sub_in q ∷ []) (cond (eqb (sub_in q) 4) ((store_of l).power_down ∷ []) []) refl refl
      (reset-short (eqb (sub_in q) 4))

  -- Between k and k is k.
  just : (k s : ℕ) → between k k s ≡ eqb s k
  just k s = go (eqb s k) refl
    where
      go : (b : Bool) → eqb s k ≡ b → between k k s ≡ b
      go true h = let same = eqb-true s k h in rw (le-leb k s (omega arith), le-leb s k (omega arith)) refl
      go false h = outer (leb k s) refl
        where
          outer : (t : Bool) → leb k s ≡ t → (t && leb s k) ≡ false
          outer true p = let low = leb-true k s p in lt-leb s k (omega (arith, eqb-false s k h))
          outer false p = refl

  pub present-means : meaning l q (functional_of q 0 0 2 Present) ≡ judged_as l q 0x3e
  unfolding judged_as
  present-means = functional-means l q 0 0 2 Present (eqb (sub_in q) 0) (0x7e ∷ 0x00 ∷ []) [] refl (just 0 (sub_in q)) (omega arith)

  pub count-means : meaning l q (functional_of q 1 1 3 Count) ≡ judged_as l q 0x19
  unfolding judged_as
  count-means =
      functional-means l q 1 1 3 Count (eqb (sub_in q) 1) (0x59 ∷ 0x01 ∷ []) ((store_of l).mask ∷ (store_of l).format ∷ two (counted (store_of l) (get_or q 2 0))) refl
      (just 1 (sub_in q)) (omega arith)

  -- 22 id
  module _ (wrong : n ≢ 3) where
    pub read-wrong-length : refuses 0x13 ≡ judged_as l q 0x22
    unfolding judged_as
    read-wrong-length = inexact 3 (eqb n 3) (known (store_of l) e) (0x62 ∷ named) (record_of (store_of l) e) n (ne_eqb n 3 wrong)

  module _ (exact : n ≡ 3) where
    pub read-unknown : None ≡ record_in l (u16_at q 1) → refuses 0x31 ≡ judged_as l q 0x22
    unfolding judged_as
    read-unknown h =
        out_of_range 3 (eqb n 3) (known (store_of l) e) (0x62 ∷ named) (record_of (store_of l) e) n (le-leb 3 n (omega arith)) (eq-eqb n 3 exact) (unknown l (u16_at q 1) h)

    module _ {p : Place} (found : Some p ≡ record_in l (u16_at q 1)) where
      pub read-too-long : 4092 < p.size → refuses 0x14 ≡ judged_as l q 0x22
      unfolding judged_as
      read-too-long h =
          let s = standing l (u16_at q 1) found in
          too_long 3 (eqb n 3) (known (store_of l) e) (0x62 ∷ named) (record_of (store_of l) e) n (le-leb 3 n (omega arith)) (eq-eqb n 3 exact) s.is_known
          (lt-leb (length (0x62 ∷ named ++ record_of (store_of l) e)) 4095 (omega (arith, record-long l (u16_at q 1) s)))

      pub read-granted : p.size ≤ 4092 → meaning l q (ReadRecord p) ≡ judged_as l q 0x22
      unfolding judged_as
      read-granted h =
          let s = standing l (u16_at q 1) found in
          ap (λ (d : List ℕ). grants (0x62 ∷ named) d) (record_is l (u16_at q 1) s) ∙
          granted 3 (eqb n 3) (known (store_of l) e) (0x62 ∷ named) (record_of (store_of l) e) n (le-leb 3 n (omega arith)) (eq-eqb n 3 exact) s.is_known
          (le-leb (length (0x62 ∷ named ++ record_of (store_of l) e)) 4095 (omega (arith, record-long l (u16_at q 1) s)))

  -- 2E id data
  abbrev fitting : Bool
  fitting = cond (known (store_of l) e) (eqb n (3 + e.size)) true

  pub write-too-short : n < 4 → refuses 0x13 ≡ judged_as l q 0x2e
  unfolding judged_as
  write-too-short h = too_short 4 fitting (known (store_of l) e) (0x6e ∷ named) [] n (lt-leb 4 n h)

  module _ (least : 4 ≤ n) where
    pub write-unknown : None ≡ record_in l (u16_at q 1) → refuses 0x31 ≡ judged_as l q 0x2e
    unfolding judged_as
    write-unknown h =
        let none = unknown l (u16_at q 1) h in
        out_of_range 4 fitting (known (store_of l) e) (0x6e ∷ named) [] n (le-leb 4 n least) (ap (λ (b : Bool). cond b (eqb n (3 + e.size)) true) none) none

    module _ {p : Place} (found : Some p ≡ record_in l (u16_at q 1)) where
      exactly : {b : Bool} → eqb n (3 + e.size) ≡ b → fitting ≡ b
      exactly h = let s = standing l (u16_at q 1) found in ap (λ (t : Bool). cond t (eqb n (3 + e.size)) true) s.is_known ∙ h

      pub write-wrong-length : n - 3 ≢ p.size → refuses 0x13 ≡ judged_as l q 0x2e
      unfolding judged_as
      write-wrong-length h =
          let s = standing l (u16_at q 1) found in
          inexact 4 fitting (known (store_of l) e) (0x6e ∷ named) [] n (exactly (ne_eqb n (3 + e.size) (λ z. h (omega (arith, s.size)))))

      module _ (exact : n - 3 ≡ p.size) where
        pub write_granted : meaning l q (WriteRecord p.at) ≡ judged_as l q 0x2e
        unfolding judged_as
        write_granted =
            let s = standing l (u16_at q 1) found in
            granted 4 fitting (known (store_of l) e) (0x6e ∷ named) [] n (le-leb 4 n least) (exactly (eq-eqb n (3 + e.size) (omega (arith, s.size)))) s.is_known refl

        pub write-placed : (p.at ≡ place l q) × (p.at + length (drop 3 q) ≤ length l)
        write-placed =
            let s = standing l (u16_at q 1) found in
            let d = length-drop 3 q in
            let fits = record-fits l e (drop 3 q) s.is_known (omega (arith, s.size)) in
            (s.place, omega (arith, s.place))

  -- 23 f addr size
  abbrev a : ℕ
  a = get_or q 1 0 % 16

  abbrev z : ℕ
  z = get_or q 1 0 / 16

  abbrev address : ℕ
  address = value (area q 2 a)

  abbrev size : ℕ
  size = value (area q (2 + a) z)

  abbrev ranged : Bool
  ranged = all (leb 1 a ∷ leb 1 z ∷ leb 1 size ∷ inside (store_of l) address size ∷ [])

  pub memory-too-short : n < 4 → refuses 0x13 ≡ judged_as l q 0x23
  unfolding judged_as
  memory-too-short h = too_short 4 (eqb n (2 + a + z)) ranged (0x63 ∷ []) (memory_at (store_of l) address size) n (lt-leb 4 n h)

  pub memory-wrong-length : n ≢ 2 + a + z → refuses 0x13 ≡ judged_as l q 0x23
  unfolding judged_as
  memory-wrong-length h = inexact 4 (eqb n (2 + a + z)) ranged (0x63 ∷ []) (memory_at (store_of l) address size) n (ne_eqb n (2 + a + z) h)

  module _ (least : 4 ≤ n) (exact : n ≡ 2 + a + z) where
    -- The two parts behind the format.
    pub two-parts : {front back : List ℕ} → front ≡ take a (take (n - 2) (drop 2 q)) → back ≡ drop a (take (n - 2) (drop 2 q)) →
        held_in l (value front) (value back) ≡ held_in l address size
    two-parts f b =
        let all : take z (drop (2 + a) q) ≡ drop (2 + a) q = take_all z (drop (2 + a) q) (omega (arith, length-drop (2 + a) q)) in
        rw (f, b, take_rest q 2, drop-drop, all)

    out : ranged ≡ false → refuses 0x31 ≡ judged_as l q 0x23
    unfolding judged_as
    out h = out_of_range 4 (eqb n (2 + a + z)) ranged (0x63 ∷ []) (memory_at (store_of l) address size) n (le-leb 4 n least) (eq-eqb n (2 + a + z) exact) h

    pub no_address : a < 1 → refuses 0x31 ≡ judged_as l q 0x23
    no_address h = out (rw (lt-leb 1 a h) refl)

    pub no_size : 1 ≤ a → z < 1 → refuses 0x31 ≡ judged_as l q 0x23
    no_size k h = out (rw (le-leb 1 a k, lt-leb 1 z h) refl)

    module _ (low : 1 ≤ a) (high : 1 ≤ z) where
      ranges : {b : Bool} → (leb 1 size && inside (store_of l) address size) ≡ b → ranged ≡ b
      ranges {b} h = rw (le-leb 1 a low, le-leb 1 z high) (go (leb 1 size) (inside (store_of l) address size) h)
        where
          go : (x y : Bool) → (x && y) ≡ b → (x && (y && true)) ≡ b
          go true true h = h
          go true false h = h
          go false y h = h

      pub memory-outside : None ≡ held_in l address size → refuses 0x31 ≡ judged_as l q 0x23
      memory-outside h = out (ranges (no-memory l address size h))

      module _ {p : Place} (held : Some p ≡ held_in l address size) where
        pub memory-too-long : 4094 < p.size → refuses 0x14 ≡ judged_as l q 0x23
        unfolding judged_as
        memory-too-long h =
            let s = remembered l address size held in
            too_long 4 (eqb n (2 + a + z)) ranged (0x63 ∷ []) (memory_at (store_of l) address size) n (le-leb 4 n least) (eq-eqb n (2 + a + z) exact) (ranges s.is_held)
            (lt-leb (length (0x63 ∷ memory_at (store_of l) address size)) 4095 (omega (arith, memory-long l address size s)))

        pub memory-granted : p.size ≤ 4094 → meaning l q (ReadMemory p) ≡ judged_as l q 0x23
        unfolding judged_as
        memory-granted h =
            let s = remembered l address size held in
            ap (λ (d : List ℕ). grants (0x63 ∷ []) d) (memory-is l address size s) ∙
            granted 4 (eqb n (2 + a + z)) ranged (0x63 ∷ []) (memory_at (store_of l) address size) n (le-leb 4 n least) (eq-eqb n (2 + a + z) exact) (ranges s.is_held)
            (le-leb (length (0x63 ∷ memory_at (store_of l) address size)) 4095 (omega (arith, memory-long l address size s)))

-- What a request is judged to be as one of its own service, is decided.
module _ (l : List ℕ) where
  pub decided-as : (q : List ℕ) (sid : ℕ) → 1 ≤ length q → get_or q 0 0 ≡ sid → judged_as l q sid ≡ decision (store_of l) q
  unfolding judged_as decision
  decided-as [] sid h e = absurd (omega arith)
  decided-as (x ∷ bs) sid h e = ap (λ (s : ℕ). judged_as l (x ∷ bs) s) (sym e)

  pub not-served : (q : List ℕ) → 1 ≤ length q →
      let sid = get_or q 0 0 in
      sid ≢ 0x10 → sid ≢ 0x11 → sid ≢ 0x3e → sid ≢ 0x19 → sid ≢ 0x22 → sid ≢ 0x2e → sid ≢ 0x23 → refuses 0x11 ≡ decision (store_of l) q
  unfolding decision
  not-served [] h n10 n11 n3e n19 n22 n2e n23 = absurd (omega arith)
  not-served (x ∷ bs) h n10 n11 n3e n19 n22 n2e n23 =
      rw (ne_eqb x 0x10 n10, ne_eqb x 0x11 n11, ne_eqb x 0x3e n3e, ne_eqb x 0x19 n19, ne_eqb x 0x22 n22, ne_eqb x 0x2e n2e, ne_eqb x 0x23 n23) refl

pub none-asked : (l q : List ℕ) → length q ≡ 0 → keeps_silent ≡ decision (store_of l) q
unfolding decision
none-asked l [] h = refl
none-asked l (x ∷ q) h = absurd (omega arith)

pub functional-unwritten : (q : List ℕ) (least most n : ℕ) (positive : Decision) → Unwritten positive → Unwritten (functional_of q least most n positive)
unfolding functional_of
functional-unwritten q least most n positive h =
    judge-ind Unwritten Refuse
    (unless (leb 2 (length q)) 0x13 ∷ unless (between least most (sub_in q)) 0x12 ∷ unless (eqb (length q) n) 0x13 ∷ [])
    (cond (leb 128 (get_or q 1 0)) KeepSilent positive)
    (λ code. tt)
    (λ p. go (leb 128 (get_or q 1 0)))
  where
    go : (b : Bool) → Unwritten (cond b KeepSilent positive)
    go true = tt
    go false = h

-- A request of this service, which is no write, is decided.
pub served : (l q : List ℕ) (sid : ℕ) {r : Decision} → length q ≢ 0 → get_or q 0 0 ≡ sid → sid ≢ 0x2e → (meaning l q r ≡ judged_as l q sid) × Unwritten r → Decides l q r
served l q sid some_byte is no_write h = record {
  means = h.0 ∙ decided-as l q sid (omega arith) is;
  writes = λ e. absurd (no_write (sym is ∙ e));
  reads = λ e. h.1;
}

pub none_written : (q : List ℕ) → length q ≡ 0 → get_or q 0 0 ≢ 0x2e
none_written [] h e = eqb-false 0 0x2e refl e
none_written (x ∷ q) h e = absurd (omega arith)
