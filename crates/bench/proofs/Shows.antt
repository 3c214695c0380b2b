-- For each of the seven calls: what a row grants is the table's strict positive, and is what the store holds.
use Prim.Native.Nat.{ℕ, ◌+◌, ◌-◌, ◌*◌, ◌/◌, ◌%◌, ◌≤◌, ◌<◌}
use native.Mathlib.Omega.{arith}
use mathlib.Core.Bool.{Bool, true, false, cond, false≢true}
use mathlib.Core.Path.{◌≡◌, refl, sym, ◌∙◌, ap, ap₂}
use mathlib.Core.List.{List, [], ◌∷◌, ◌++◌}
use mathlib.Core.Option.{some}
use lib.Dec.{leb, eqb}
use lib.ListN.{length, take, drop, length-drop}
use lib.Seq.{length-take-le, take-append_seam, take-length, drop-append-add, drop-append_seam}
use borrow.Author.Tests.{leb-true, eq-eqb, ne_eqb}
use Rattle.rules.specs.Bytes.{value, two, every, is_byte}
use Rattle.rules.specs.Calls.{Call, request, session, reset, security, tester_present, read_memory, write_memory, read_identifier, write_identifier, fault_count, routine, download, upload, transfer, transfer_exit, fault_list, Field, sent, format, sub_of, with_bit7, suppresses, request_of}
use Rattle.rules.specs.Layouts.{InRange}
use Rattle.rules.specs.Logs.{area}
use Rattle.rules.specs.Positives.{Positive}
use Rattle.rules.specs.Refusals.{width, lengths, arguments}
use Rattle.rules.proofs.Judging.{Pass, both, pass-append}
use Rattle.bench.specs.Promise.{Served, holds}
use Rattle.bench.specs.Responder.{Row, row_of, memory_row}
use Rattle.bench.specs.Stores.{Slot, Store, slot_of, known, record_of, inside, memory_at, counted}
use Rattle.bench.proofs.Bytes.{byte-cons, byte-two, every-area, part_length}
use Rattle.bench.proofs.Tests.{all_hold}

-- A known record: not empty, and inside the record bytes.
pub record Inside (s : Store) (e : Slot) : Type 0 where
  pub some_byte : 1 ≤ e.size
  pub inside : e.offset + e.size ≤ length s.records

pub known-inside : (s : Store) (e : Slot) → known s e ≡ true → Inside s e
known-inside s e h =
    let k = both (leb 1 e.size) (leb (e.offset + e.size) (length s.records)) h in
    record { some_byte = leb-true 1 e.size k.0; inside = leb-true (e.offset + e.size) (length s.records) k.1 }

-- The lengths of address and size are nibbles.
record Nibbles (a z : Field) : Type 0 where
  address : (1 ≤ length (sent a)) × (length (sent a) ≤ 15)
  size : (1 ≤ length (sent z)) × (length (sent z) ≤ 15)

nibbles : (a z : Field) → Pass (arguments (read_memory a z)) → Nibbles a z
nibbles a z p =
    let k = (pass-append (width a ++ width z) (lengths a z) p).1 in
    let x = both (leb 1 (length (sent a))) (leb (length (sent a)) 15) k.0 in
    let y = both (leb 1 (length (sent z))) (leb (length (sent z)) 15) k.1.0 in
    record {
      address = (leb-true 1 (length (sent a)) x.0, leb-true (length (sent a)) 15 x.1);
      size = (leb-true 1 (length (sent z)) y.0, leb-true (length (sent z)) 15 y.1);
    }

-- The responder takes the fields off the request as the client put them on.
module _ (a z : Field) (k : Nibbles a z) where
  abbrev q : List ℕ
  q = request_of false (read_memory a z)

  low : format a z % 16 ≡ length (sent a)
  low = omega (arith, k.address.1)

  high : format a z / 16 ≡ length (sent z)
  high = omega (arith, k.address.1)

  address-sent : area q 2 (format a z % 16) ≡ sent a
  address-sent = ap (λ (n : ℕ). take n (sent a ++ sent z)) low ∙ take-append_seam (sent a) (sent z)

  size-sent : area q (2 + format a z % 16) (format a z / 16) ≡ sent z
  size-sent =
      let front : List ℕ = 0x23 ∷ format a z ∷ [] in
      ap₂ (λ (i n : ℕ). take n (drop (2 + i) q)) low high ∙
      ap (λ (l : List ℕ). take (length (sent z)) l) (drop-append-add front (sent a ++ sent z) (length (sent a)) ∙ drop-append_seam (sent a) (sent z)) ∙
      take-length (sent z)

module _ (s : Store) where
  -- "63 + M bytes, M at least 1"
  memory-long : (n a z address size : ℕ) → (memory_row s n a z address size).range ≡ true → (length (memory_at s address size) ≡ size) × (1 ≤ length (memory_at s address size))
  memory-long n a z address size h =
      let r = all_hold (leb 1 a ∷ leb 1 z ∷ leb 1 size ∷ inside s address size ∷ []) h in
      let some_byte = leb-true 1 size r.1.1.0 in
      let i = both (leb s.first address) (leb (address + size) (s.first + length s.memory)) r.1.1.1.0 in
      let first = leb-true s.first address i.0 in
      let most = leb-true (address + size) (s.first + length s.memory) i.1 in
      let long = part_length s.memory (address - s.first) size (omega arith) in
      (long, omega arith)

  record-some : (e : Slot) → known s e ≡ true → 1 ≤ length (record_of s e)
  record-some e h =
      let k = known-inside s e h in
      let long = part_length s.records e.offset e.size k.inside in
      omega (arith, k.some_byte)

  -- What is needed of a sound store: bytes, and four session bytes.
  pub record Sound : Type 0 where
    pub mask : s.mask < 256
    pub format : s.format < 256
    pub session : every is_byte s.session ≡ true
    pub four : length s.session ≡ 4
    pub power_down : s.power_down < 256
    pub records : every is_byte s.records ≡ true
    pub memory : every is_byte s.memory ≡ true

  -- What a row is to a call: hushed where the client suppresses, its positive the call's, its data what the store holds, and all of it bytes.
  pub record Shown (quiet : Bool) (c : Call) (r : Row) : Type 0 where
    pub hushes : r.hushed ≡ suppresses (with_bit7 quiet (sub_of c))
    pub positive : r.range ≡ true → Positive c r.head r.payload
    pub held : r.payload ≡ holds s c
    pub of-bytes : InRange c → every is_byte (r.head ++ r.payload) ≡ true

  module _ (ok : Sound) where
    power_bytes : (b : Bool) → every is_byte (cond b (s.power_down ∷ []) []) ≡ true
    power_bytes true = byte-cons s.power_down [] ok.power_down refl
    power_bytes false = refl

    -- b is the sub-function as sent.
    module _ (quiet : Bool) (b sub : ℕ) (e : b % 128 ≡ sub % 128) (h : leb 128 b ≡ suppresses (with_bit7 quiet (some sub))) where
      sessions : Shown quiet (session sub) (row_of s (0x10 ∷ b ∷ []))
      sessions = record {
        hushes = h;
        positive = λ r. (ap (λ (v : ℕ). 0x50 ∷ v ∷ []) e, ok.four);
        held = refl;
        of-bytes = λ r. byte-cons (b % 128) s.session (omega arith) ok.session;
      }

      resets : Shown quiet (reset sub) (row_of s (0x11 ∷ b ∷ []))
      resets = record {
        hushes = h;
        positive = λ r. (ap (λ (v : ℕ). 0x51 ∷ v ∷ []) e, λ k. rw (eq-eqb (b % 128) 4 (e ∙ k)) refl, λ k. rw (ne_eqb (b % 128) 4 (λ m. k (sym e ∙ m))) refl);
        held = ap (λ (v : ℕ). cond (eqb v 4) (s.power_down ∷ []) []) e;
        of-bytes = λ r. byte-cons (b % 128) (cond (eqb (b % 128) 4) (s.power_down ∷ []) []) (omega arith) (power_bytes (eqb (b % 128) 4));
      }

    presents : (quiet : Bool) (b : ℕ) → leb 128 b ≡ suppresses (with_bit7 quiet (some 0)) → Shown quiet tester_present (row_of s (0x3e ∷ b ∷ []))
    presents quiet b h = record { hushes = h; positive = λ r. (refl, refl); held = refl; of-bytes = λ r. refl }

    counts : (quiet : Bool) (b mask : ℕ) → leb 128 b ≡ suppresses (with_bit7 quiet (some 1)) → Shown quiet (fault_count mask) (row_of s (0x19 ∷ b ∷ mask ∷ []))
    counts quiet b mask h = record {
      hushes = h;
      positive = λ r. (refl, refl);
      held = refl;
      of-bytes = λ r.
          byte-cons s.mask (s.format ∷ two (counted s mask)) ok.mask
          (byte-cons s.format (two (counted s mask)) ok.format (byte-two (counted s mask) [] (omega arith) refl));
    }

    same_id : (id : ℕ) → id / 256 * 256 + id % 256 ≡ id
    same_id id = omega arith

    reads : (quiet : Bool) (id : ℕ) → Shown quiet (read_identifier id) (row_of s (0x22 ∷ two id))
    reads quiet id = record {
      hushes = refl;
      positive = λ r. (refl, record-some (slot_of s (id / 256 * 256 + id % 256)) r);
      held = ap (λ (n : ℕ). record_of s (slot_of s n)) (same_id id);
      of-bytes = λ r.
          let e = slot_of s (id / 256 * 256 + id % 256) in
          byte-two id (record_of s e) r (every-area s.records e.offset e.size ok.records);
    }

    writes : (quiet : Bool) (id : ℕ) (d : List ℕ) → Shown quiet (write_identifier id d) (row_of s (0x2e ∷ two id ++ d))
    writes quiet id d = record { hushes = refl; positive = λ r. (refl, refl); held = refl; of-bytes = λ r. byte-two id [] r.0 refl }

    memories : (quiet : Bool) (a z : Field) → Nibbles a z → Shown quiet (read_memory a z) (row_of s (request_of quiet (read_memory a z)))
    memories quiet a z k =
        let n : ℕ = length (request_of quiet (read_memory a z)) in
        let f : ℕ = format a z in
        let address : ℕ = value (area (q a z k) 2 (f % 16)) in
        let size : ℕ = value (area (q a z k) (2 + f % 16) (f / 16)) in
        record {
          hushes = refl;
          positive = λ r. let m = memory-long n (f % 16) (f / 16) address size r in (refl, m.0 ∙ ap value (size-sent a z k), m.1);
          held = ap₂ (λ (x y : List ℕ). memory_at s (value x) (value y)) (address-sent a z k) (size-sent a z k);
          of-bytes = λ r. every-area s.memory (address - s.first) size ok.memory;
        }

    -- Every request that the client builds for these calls.
    pub shows : (quiet : Bool) (c : Call) → Served c → Pass (arguments c) → Shown quiet c (row_of s (request_of quiet c))
    shows quiet (request sid sub d) v p = absurd (false≢true v)
    shows true (session sub) v p = sessions true (sub % 128 + 128) sub (omega arith) refl
    shows false (session sub) v p = sessions false sub sub refl refl
    shows true (reset sub) v p = resets true (sub % 128 + 128) sub (omega arith) refl
    shows false (reset sub) v p = resets false sub sub refl refl
    shows quiet (security sub d) v p = absurd (false≢true v)
    shows true tester_present v p = presents true 0x80 refl
    shows false tester_present v p = presents false 0x00 refl
    shows quiet (read_memory a z) v p = memories quiet a z (nibbles a z p)
    shows quiet (write_memory a z d) v p = absurd (false≢true v)
    shows quiet (read_identifier id) v p = reads quiet id
    shows quiet (write_identifier id d) v p = writes quiet id d
    shows true (fault_count mask) v p = counts true 0x81 mask refl
    shows false (fault_count mask) v p = counts false 0x01 mask refl
    shows quiet (routine sub id d) v p = absurd (false≢true v)
    shows quiet (download c e a z) v p = absurd (false≢true v)
    shows quiet (upload c e a z) v p = absurd (false≢true v)
    shows quiet (transfer counter d) v p = absurd (false≢true v)
    shows quiet (transfer_exit d) v p = absurd (false≢true v)
    shows quiet (fault_list mask) v p = absurd (false≢true v)
