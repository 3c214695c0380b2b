-- A record that is written into a laid-out store: what the store says afterwards.
use Prim.Native.Nat.{ℕ, zero, suc, ◌+◌, ◌*◌, ◌≤◌, ◌<◌}
use native.Mathlib.Omega.{arith}
use mathlib.Core.Bool.{true, ◌&&◌}
use mathlib.Core.Path.{◌≡◌, refl, sym, ◌∙◌, ap}
use mathlib.Core.Logic.{inl, inr}
use mathlib.Core.List.{List, [], ◌∷◌, ◌++◌, append_assoc}
use lib.Dec.{leb, eqb}
use lib.ListN.{length, get_or, take, drop, length-drop, length-take}
use lib.Seq.{take_at, drop_at, length-take-le}
use borrow.Author.Tests.{leb-true, eqb-true}
use Rattle.rules.specs.Bytes.{u16_at, every}
use Rattle.rules.specs.Logs.{all, area}
use Rattle.bench.specs.Lasting.{written, Apart}
use Rattle.bench.specs.Stores.{Slot, slot, slots_from, Store, records_at, store_of, known, record_of, store_tests, store_ok, put}
use Rattle.bench.proofs.Put.{put-long, put-before, area-before, area-behind, u16-before, u32-before, area-put}
use Rattle.bench.proofs.Shows.{known-inside}
use Rattle.bench.proofs.Tests.{all_hold}

-- A layout's numbers.
pub record Laid (l : List ℕ) : Type 0 where
  pub header : 36 ≤ length l
  pub slots : u16_at l 20 ≡ 36
  pub records : records_at l ≡ 36 + u16_at l 18 * 6
  pub memory : u16_at l 28 ≡ records_at l + u16_at l 22
  pub faults : u16_at l 32 ≡ u16_at l 28 + u16_at l 26
  pub total : length l ≡ u16_at l 32 + u16_at l 30 * 4

pub laid : (l : List ℕ) → store_ok l ≡ true → Laid l
unfolding store_ok
laid l h =
    let k = all_hold (store_tests l) h in
    let t = k.1.1.1 in
    record {
      header = leb-true 36 (length l) k.0;
      slots = eqb-true (u16_at l 20) 36 t.0;
      records = eqb-true (records_at l) (36 + u16_at l 18 * 6) t.1.0;
      memory = eqb-true (u16_at l 28) (records_at l + u16_at l 22) t.1.1.0;
      faults = eqb-true (u16_at l 32) (u16_at l 28 + u16_at l 26) t.1.1.1.0;
      total = sym (eqb-true (u16_at l 34) (length l) t.1.1.1.1.1.0) ∙ eqb-true (u16_at l 34) (u16_at l 32 + u16_at l 30 * 4) t.1.1.1.1.0;
    }

-- A known record lies in the area, damaged or not: the bytes of its length fit in its place.
pub record-fits : (l : List ℕ) (e : Slot) (bs : List ℕ) → known (store_of l) e ≡ true → length bs ≡ e.size → records_at l + e.offset + length bs ≤ length l
unfolding store_of
record-fits l e bs k same =
    let i = known-inside (store_of l) e k in
    let a = length-take (u16_at l 22) (drop (records_at l) l) in
    let b = length-drop (records_at l) l in
    omega (arith, i.inside, i.some_byte)

same-slots : (l l' : List ℕ) (n i most : ℕ) → ((k : ℕ) → k + 1 < most → u16_at l k ≡ u16_at l' k) → i + n * 6 ≤ most → slots_from l n i ≡ slots_from l' n i
unfolding slots_from
same-slots l l' zero i most same h = refl
same-slots l l' (suc n) i most same h =
    let a = same i (omega arith) in
    let b = same (i + 2) (omega arith) in
    let c = same (i + 4) (omega arith) in
    let es = same-slots l l' n (i + 6) most same (omega arith) in
    λ j. slot (a j) (b j) (c j) ∷ es j

-- A known slot of a good layout, and bytes of its length.
module _ (l : List ℕ) (ok : store_ok l ≡ true) (e : Slot) (bs : List ℕ) (k : known (store_of l) e ≡ true) (same : length bs ≡ e.size) where
  abbrev at : ℕ
  at = records_at l + e.offset

  abbrev after : List ℕ
  after = put l at bs

  fits : at + length bs ≤ length l
  fits = record-fits l e bs k same

  inside : (e.offset + length bs ≤ u16_at l 22) × (records_at l + u16_at l 22 ≤ length l) × (36 ≤ records_at l)
  unfolding store_of
  inside =
      let i = known-inside (store_of l) e k in
      let a = length-take (u16_at l 22) (drop (records_at l) l) in
      let p = laid l ok in
      (omega (arith, i.inside), omega (arith, p.total, p.faults, p.memory), omega (arith, p.records))

  u16-same : (i : ℕ) → i + 1 < records_at l → u16_at after i ≡ u16_at l i
  u16-same i h = u16-before l at bs fits i (omega arith)

  header-same : (i : ℕ) → i < 36 → get_or after i 0 ≡ get_or l i 0
  header-same i h = let z = inside.2 in put-before l at bs fits i (omega arith)

  field-same : (i : ℕ) → i + 1 < 36 → u16_at after i ≡ u16_at l i
  field-same i h = let z = inside.2 in u16-same i (omega arith)

  pub store-written : store_of after ≡ written (store_of l) e bs
  unfolding store_of
  store-written =
      let p = laid l ok in
      let z = inside in
      let c18 = field-same 18 (omega arith) in
      let c20 = field-same 20 (omega arith) in
      let c22 = field-same 22 (omega arith) in
      let c24 = field-same 24 (omega arith) in
      let c26 = field-same 26 (omega arith) in
      let c28 = field-same 28 (omega arith) in
      let c30 = field-same 30 (omega arith) in
      let c32 = field-same 32 (omega arith) in
      let mask = header-same 2 (omega arith) in
      let format = header-same 3 (omega arith) in
      let power = header-same 8 (omega arith) in
      let high = u32-before l at bs fits 10 (omega (arith, z.2)) in
      let low = u32-before l at bs fits 14 (omega (arith, z.2)) in
      let session = area-before l at bs fits 4 4 (omega (arith, z.2)) in
      let slots = (λ j. slots_from after (c18 j) (c20 j)) ∙ same-slots after l (u16_at l 18) (u16_at l 20) (records_at l) u16-same (omega (arith, p.slots, p.records)) in
      let records = (λ j. area after (c24 j) (c22 j)) ∙ area-put l (records_at l) (u16_at l 22) e.offset bs z.1 z.0 in
      let memory = (λ j. area after (c28 j) (c26 j)) ∙ area-behind l at bs fits (u16_at l 28) (u16_at l 26) (omega (arith, p.memory, z.0)) in
      let faults = (λ j. area after (c32 j) (c30 j * 4)) ∙ area-behind l at bs fits (u16_at l 32) (u16_at l 30 * 4) (omega (arith, p.faults, p.memory, z.0)) in
      λ j. record {
        mask = mask j;
        format = format j;
        session = session j;
        power_down = power j;
        first = high j * 4294967296 + low j;
        slots = slots j;
        records = records j;
        memory = memory j;
        faults = faults j;
      }

  records-long : length (put (store_of l).records e.offset bs) ≡ length (store_of l).records
  records-long = let i = known-inside (store_of l) e k in put-long (store_of l).records e.offset bs (omega (arith, i.inside))

  known_same : every (known (store_of after)) (store_of after).slots ≡ every (known (store_of l)) (store_of l).slots
  known_same =
      ap (λ (s : Store). every (known s) s.slots) store-written ∙
      ap (λ (n : ℕ). every (λ x. leb 1 x.size && leb (x.offset + x.size) n) (store_of l).slots) records-long

  pub stays-laid : store_ok after ≡ true
  unfolding store_ok
  stays-laid =
      let n = put-long l at bs fits in
      let c0 = field-same 0 (omega arith) in
      let c9 = header-same 9 (omega arith) in
      let c18 = field-same 18 (omega arith) in
      let c20 = field-same 20 (omega arith) in
      let c22 = field-same 22 (omega arith) in
      let c24 = field-same 24 (omega arith) in
      let c26 = field-same 26 (omega arith) in
      let c28 = field-same 28 (omega arith) in
      let c30 = field-same 30 (omega arith) in
      let c32 = field-same 32 (omega arith) in
      let c34 = field-same 34 (omega arith) in
      let w = known_same in
      let tests : store_tests after ≡ store_tests l = λ j.
      leb 36 (n j) ∷
      eqb (c0 j) 1 ∷
      eqb (c9 j) 0 ∷
      eqb (c20 j) 36 ∷
      eqb (c24 j) (36 + c18 j * 6) ∷
      eqb (c28 j) (c24 j + c22 j) ∷
      eqb (c32 j) (c28 j + c26 j) ∷
      eqb (c34 j) (c32 j + c30 j * 4) ∷
      eqb (c34 j) (n j) ∷
      w j ∷ []
      in
      ap all tests ∙ ok

-- What was written is the record; one that shares no byte with it stays.
module _ (s : Store) (e : Slot) (bs : List ℕ) (k : known s e ≡ true) (same : length bs ≡ e.size) where
  room : e.offset + length bs ≤ length s.records
  room = let i = known-inside s e k in omega (arith, i.inside)

  pub written_known : known (written s e bs) e ≡ true
  written_known = ap (λ (n : ℕ). leb 1 e.size && leb (e.offset + e.size) n) (put-long s.records e.offset bs room) ∙ k

  pub written-record : record_of (written s e bs) e ≡ bs
  written-record =
      let front = take e.offset s.records in
      let rest = drop (e.offset + length bs) s.records in
      let i = known-inside s e k in
      let long = length-take-le e.offset s.records (omega (arith, i.inside)) in
      ap (λ (l : List ℕ). take e.size (drop e.offset l)) (append_assoc front bs rest) ∙
      ap (λ (l : List ℕ). take e.size l) (drop_at front (bs ++ rest) e.offset long) ∙
      take_at bs rest e.size same

  pub other-record : (f : Slot) → Apart e f → record_of (written s e bs) f ≡ record_of s f
  other-record f (inl h) = area-behind s.records e.offset bs room f.offset f.size (omega arith)
  other-record f (inr h) = area-before s.records e.offset bs room f.offset f.size h
