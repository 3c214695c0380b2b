-- The layouts, proved: each row of document 01's table against the standard's.
use Prim.Native.Nat.{ℕ, zero, suc, ◌+◌, ◌*◌, ◌/◌, ◌%◌, ◌^◌, ◌≤◌, ◌<◌}
use native.Mathlib.Nat.{suc-mul}
use native.Mathlib.Omega.{arith}
use mathlib.Core.Bool.{Bool, true, false, cond, ◌&&◌, false≢true}
use mathlib.Core.Path.{◌≡◌, refl, sym, ◌∙◌, ap, ap₂, subst⁻¹}
use mathlib.Core.Logic.{◌≢◌, ◌↔◌}
use mathlib.Core.List.{List, [], ◌∷◌, ◌++◌}
use mathlib.Core.Option.{Option, none, some}
use lib.Dec.{leb, eqb}
use lib.ListN.{length, take, drop, length-take, length-drop}
use lib.Seq.{take-append_seam, drop-append_seam, length-take-le}
use borrow.Author.Tests.{leb-true, leb-false, le-leb, lt-ltb, eqb-true, eqb-false}
use Rattle.rules.specs.Answers.{Part, part, negative}
use Rattle.rules.specs.Blocks.{block, counter, carried}
use Rattle.rules.specs.Bytes.{value, bytes_of, two, every, is_byte}
use Rattle.rules.specs.Calls.{Call, request, session, reset, security, tester_present, read_memory, write_memory, read_identifier, write_identifier}
use Rattle.rules.specs.Calls.{fault_count, routine, download, upload, transfer, transfer_exit, fault_list, or_none, byte, with_bit7, suppresses}
use Rattle.rules.specs.Calls.{Field, given, alfid, sent, memory, positive_sid, sid_of, request_of}
use Rattle.rules.specs.Client.{Result, call}
use Rattle.rules.specs.Conversations.{Waiting, notice, Closing, by_negative}
use Rattle.rules.specs.Demand3.{Refused}
use Rattle.rules.specs.Events.{Event, reply}
use Rattle.rules.specs.Iso as Iso
use Rattle.rules.specs.Layouts.{Bytes, OfBytes, Fields, direction, service, InRange, Recorded, Beyond, IsRow, transfer_of, Layouts}
use Rattle.rules.specs.Positives.{Loading, Asking}
use Rattle.rules.specs.Refusals.{between, width, methods, lengths, key, arguments}
use Rattle.rules.specs.Settings.{Setting, Lent, suppressing}
use Rattle.rules.proofs.Demand3.{accepted}
use Rattle.rules.proofs.Judging.{Pass, both, pass-append}
use Rattle.rules.proofs.Writing.{every_drop, every_take}

-- The sub-function as sent: the standard's bit 7, and the caller's low seven bits.
sub-byte : (quiet : Bool) (sub : ℕ) → sub < 256 → byte (with_bit7 quiet (some sub)) ≡ Iso.sub_function (suppresses (with_bit7 quiet (some sub))) (sub % 128) ∷ []
sub-byte true sub h = rw (le-leb 128 (sub % 128 + 128) (omega arith)) (ap (λ (b : ℕ). b ∷ []) (omega arith))
sub-byte false sub h = go (leb 128 sub) refl
  where
    go : (b : Bool) → leb 128 sub ≡ b → sub ∷ [] ≡ (cond b 128 0 + sub % 128) ∷ []
    go true e = ap (λ (x : ℕ). x ∷ []) (omega (arith, leb-true 128 sub e))
    go false e = ap (λ (x : ℕ). x ∷ []) (omega (arith, leb-false 128 sub e))

-- Two bytes of an identifier, as document 01 and as the standard writes them.
two_bytes : (id : ℕ) → id < 65536 → two id ≡ bytes_of 2 id
two_bytes id h = ap₂ (λ (x y : ℕ). x ∷ y ∷ []) (omega arith) (omega arith)

-- Bytes before bytes are bytes.
byte-cons : (x : ℕ) (l : List ℕ) → x < 256 → Bytes l → Bytes (x ∷ l)
byte-cons x l h k = rw (lt-ltb x 256 h) k

bytes-append : (a b : List ℕ) → Bytes a → Bytes b → Bytes (a ++ b)
bytes-append [] b h k = k
bytes-append (x ∷ a) b h k = let z = both (is_byte x) (every is_byte a) h in rw z.0 (bytes-append a b z.1 k)

number-bytes : (w v : ℕ) → Bytes (bytes_of w v)
number-bytes zero v = refl
number-bytes (suc w) v = byte-cons (v / 256 ^ w % 256) (bytes_of w v) (omega arith) (number-bytes w v)

field-bytes : (a : Field) → OfBytes a → Bytes (sent a)
field-bytes (given bs) h = h
field-bytes (alfid v w wide) h = number-bytes w v

sub-bytes : (quiet : Bool) (sub : ℕ) (l : List ℕ) → sub < 256 → Bytes l → Bytes (byte (with_bit7 quiet (some sub)) ++ l)
sub-bytes true sub l h k = byte-cons (sub % 128 + 128) l (omega arith) k
sub-bytes false sub l h k = byte-cons sub l h k

id-bytes : (id : ℕ) (l : List ℕ) → id < 65536 → Bytes l → Bytes (two id ++ l)
id-bytes id l h k = byte-cons (id / 256) (id % 256 ∷ l) (omega arith) (byte-cons (id % 256) l (omega arith) k)

-- What refusals 1 to 5 leave.
abbrev Lengths : Field → Field → Type 0
Lengths a s = Iso.FieldLength (sent a) × Iso.FieldLength (sent s)

between_in : (least most n : ℕ) → between least most n ≡ true → (least ≤ n) × (n ≤ most)
between_in least most n e = let h = both (leb least n) (leb n most) e in (leb-true least n h.0, leb-true n most h.1)

lengths-in : (a s : Field) → Pass (lengths a s) → Lengths a s
lengths-in a s p = (between_in 1 15 (length (sent a)) p.0, between_in 1 15 (length (sent s)) p.1.0)

memory-in : (a s : Field) → Pass (width a ++ width s ++ lengths a s) → Lengths a s
memory-in a s p = lengths-in a s (pass-append (width a ++ width s) (lengths a s) p).1

loads-in : (c e : ℕ) (a s : Field) → Pass (width a ++ width s ++ methods c e ++ lengths a s) → (c ≤ 15) × (e ≤ 15) × Lengths a s
loads-in c e a s p =
    let h = pass-append (width a ++ width s ++ methods c e) (lengths a s) p in
    let k = (pass-append (width a ++ width s) (methods c e) h.0).1 in
    (leb-true c 15 k.0, leb-true e 15 k.1.0, lengths-in a s h.1)

key_in : (sub : ℕ) (d : Option (List ℕ)) → Pass (key sub d) → (sub % 2 ≢ 1 → d ≢ some []) → sub % 2 ≢ 1 → 1 ≤ length (or_none d)
key_in sub none p k h = absurd (h (eqb-true (sub % 2) 1 p.0))
key_in sub (some []) p k h = absurd (k h refl)
key_in sub (some (x ∷ d)) p k h = omega arith

memory-bytes : (a s : Field) → Fields a s → Lengths a s → Bytes (memory a s)
memory-bytes a s n f =
    byte-cons (length (sent s) * 16 + length (sent a)) (sent a ++ sent s) (omega (arith, f.0.1, f.1.1))
    (bytes-append (sent a) (sent s) (field-bytes a n.0) (field-bytes s n.1))

messages : (quiet : Bool) (c : Call) → InRange c → Pass (arguments c) → Iso.Message (request_of quiet c)
messages q (request sid sub d) n p = absurd n
messages q (session sub) n p = sub-bytes q sub [] n refl
messages q (reset sub) n p = sub-bytes q sub [] n refl
messages q (security sub d) n p = sub-bytes q sub (or_none d) n.0 n.1
messages q tester_present n p = sub-bytes q 0 [] (omega arith) refl
messages q (read_memory a s) n p = memory-bytes a s n (memory-in a s p)
messages q (write_memory a s d) n p = bytes-append (memory a s) d (memory-bytes a s n.0 (memory-in a s p)) n.1
messages q (read_identifier id) n p = id-bytes id [] n refl
messages q (write_identifier id d) n p = id-bytes id d n.0 n.1
messages q (fault_count mask) n p = sub-bytes q 1 (mask ∷ []) (omega arith) (byte-cons mask [] n refl)
messages q (routine sub id d) n p = sub-bytes q sub (two id ++ or_none d) n.0 (id-bytes id (or_none d) n.1 n.2)
messages q (download c e a s) n p = let h = loads-in c e a s p in byte-cons (c * 16 + e) (memory a s) (omega (arith, h.0, h.1)) (memory-bytes a s n h.2)
messages q (upload c e a s) n p = let h = loads-in c e a s p in byte-cons (c * 16 + e) (memory a s) (omega (arith, h.0, h.1)) (memory-bytes a s n h.2)
messages q (transfer counter d) n p = byte-cons counter (or_none d) n.0 n.1
messages q (transfer_exit d) n p = n
messages q (fault_list mask) n p = sub-bytes q 2 (mask ∷ []) (omega arith) (byte-cons mask [] n refl)

module _ (w : Setting) where
  -- SID, sub-function and what follows.
  with-sub : (sid sub : ℕ) (d : List ℕ) → sub < 256
      → sid ∷ byte (with_bit7 w.quiet (some sub)) ++ d ≡ sid ∷ Iso.sub_function (suppresses (with_bit7 w.quiet (some sub))) (sub % 128) ∷ d
  with-sub sid sub d h = ap (λ (l : List ℕ). sid ∷ l ++ d) (sub-byte w.quiet sub h)

  security-request : (sub : ℕ) (d : List ℕ) (q b : Bool) (r : List ℕ) → eqb (sub % 2) 1 ≡ b → (sub % 2 ≢ 1 → 1 ≤ length d) → r ≡ 0x27 ∷ Iso.sub_function q (sub % 128) ∷ d
      → Iso.RequestFormat (cond b (Iso.RequestSeed q (sub % 128) d) (Iso.SendKey q (sub % 128) d)) r
  security-request sub d q true r e k h = (omega arith, omega (arith, eqb-true (sub % 2) 1 e), h)
  security-request sub d q false r e k h = (omega arith, omega (arith, eqb-false (sub % 2) 1 e), k (eqb-false (sub % 2) 1 e), h)

  request-format : (c : Call) → InRange c → Recorded c → Pass (arguments c) → Iso.RequestFormat (service w c) (request_of w.quiet c)
  request-format (request sid sub d) n k p = absurd n
  request-format (session sub) n k p = (omega arith, with-sub 0x10 sub [] n)
  request-format (reset sub) n k p = (omega arith, with-sub 0x11 sub [] n)
  request-format (security sub d) n k p = security-request sub (or_none d) _ (eqb (sub % 2) 1) _ refl (key_in sub d p k) (with-sub 0x27 sub (or_none d) n.0)
  request-format tester_present n k p = with-sub 0x3e 0 [] (omega arith)
  request-format (read_memory a s) n k p = let f = memory-in a s p in (f.0, f.1, refl)
  request-format (write_memory a s d) n k p = let f = memory-in a s p in (f.0, f.1, k, refl)
  request-format (read_identifier id) n k p = (n, ap (λ (l : List ℕ). 0x22 ∷ l) (two_bytes id n))
  request-format (write_identifier id d) n k p = (n.0, k, ap (λ (l : List ℕ). 0x2e ∷ l ++ d) (two_bytes id n.0))
  request-format (fault_count mask) n k p = with-sub 0x19 1 (mask ∷ []) (omega arith)
  request-format (routine sub id d) n k p = (
    omega arith,
    n.1,
    with-sub 0x31 sub (two id ++ or_none d) n.0 ∙
        ap (λ (l : List ℕ). 0x31 ∷ Iso.sub_function (suppresses (with_bit7 w.quiet (some sub))) (sub % 128) ∷ l ++ or_none d) (two_bytes id n.1),
  )
  request-format (download c e a s) n k p = let h = loads-in c e a s p in (h.0, h.1, h.2.0, h.2.1, refl)
  request-format (upload c e a s) n k p = let h = loads-in c e a s p in (h.0, h.1, h.2.0, h.2.1, refl)
  request-format (transfer counter d) n k p = refl
  request-format (transfer_exit d) n k p = refl
  request-format (fault_list mask) n k p = with-sub 0x19 2 (mask ∷ []) (omega arith)

  requests : (strict : Bool) (c : Call) (l : Lent) → InRange c → Recorded c → ¬ Refused (call strict w c l).answer.outcome →
      let n = length (request_of w.quiet c) in
      let left = (call strict w c l).buffer in
      Iso.Request (service w c) (take n left) × (drop n left ≡ drop n l.buffer)
  requests strict c l n k ok =
      let h = accepted strict w c l ok in
      let p = (pass-append (arguments c) _ h.pass).0 in
      let message = request_of w.quiet c in
      let rest = drop (length message) l.buffer in
      let left : (call strict w c l).buffer ≡ message ++ rest = ap (λ (y : Result). y.buffer) h.is in (
        subst⁻¹ (λ (r : List ℕ). Iso.Request (service w c) r) (ap (λ (r : List ℕ). take (length message) r) left ∙ take-append_seam message rest)
            (messages w.quiet c n p, request-format c n k p),
        ap (λ (r : List ℕ). drop (length message) r) left ∙ drop-append_seam message rest,
      )

  -- A row's head, put in its place.
  headed : (d : List ℕ) {head lit r : List ℕ} → head ≡ lit → r ≡ head ++ d → r ≡ lit ++ d
  headed d p e = e ∙ ap (λ (l : List ℕ). l ++ d) p

  none-beyond : {P : Type 0} → false ≡ true → P
  none-beyond e = absurd (false≢true e)

  asking-in : (x : Option (List ℕ)) (d : List ℕ) → Asking x d → Iso.TransferRecord (direction x) d
  asking-in none d h = h
  asking-in (some y) d h = tt

  asking-out : (x : Option (List ℕ)) (d : List ℕ) → Iso.TransferRecord (direction x) d → Asking x d
  asking-out none d h = h
  asking-out (some y) d h = tt

  -- Bytes in fours are the standard's records.
  split : (l : List ℕ) → length l % 4 ≡ 0 → (faults : List Iso.DTCAndStatus) × (l ≡ Iso.list_of_dtcand_status_record faults)
  split [] e = ([], refl)
  split (a ∷ []) e = absurd (omega arith)
  split (a ∷ b ∷ []) e = absurd (omega arith)
  split (a ∷ b ∷ c ∷ []) e = absurd (omega arith)
  split (a ∷ b ∷ c ∷ s ∷ l) e =
      let r = split l (omega arith) in
      (record { high = a; middle = b; low = c; status = s } ∷ r.0, ap (λ (k : List ℕ). a ∷ b ∷ c ∷ s ∷ k) r.1)

  reported : (d : List ℕ) → length d % 4 ≡ 1 → Iso.DTCReport d
  reported [] e = absurd (omega arith)
  reported (a ∷ l) e = let r = split l (omega arith) in (a, r.0, ap (λ (k : List ℕ). a ∷ k) r.1)

  in-fours : (faults : List Iso.DTCAndStatus) → length (Iso.list_of_dtcand_status_record faults) % 4 ≡ 0
  in-fours [] = refl
  in-fours (x ∷ faults) = omega (arith, in-fours faults)

  report-length : (d : List ℕ) → Iso.DTCReport d → length d % 4 ≡ 1
  report-length d r = omega (arith, ap (λ (l : List ℕ). length l) r.2, in-fours r.1)

  security-positive : (sub : ℕ) (x : Option (List ℕ)) (q b : Bool) (y r d : List ℕ) → eqb (sub % 2) 1 ≡ b
      → IsRow (security sub x) r d ↔ (Iso.ResponseFormat (cond b (Iso.RequestSeed q (sub % 128) y) (Iso.SendKey q (sub % 128) y)) r d × Beyond (security sub x) d)
  security-positive sub x q true y r d e =
      let odd = eqb-true (sub % 2) 1 e in (
        λ h. ((headed d h.1.0 h.2, h.1.1 odd), none-beyond),
        λ k. (0x67 ∷ sub % 128 ∷ [], (refl, λ z. k.0.1, λ z. absurd (omega arith)), k.0.0),
      )
  security-positive sub x q false y r d e =
      let even : sub % 2 ≡ 0 = omega (arith, eqb-false (sub % 2) 1 e) in (
        λ h. ((headed d h.1.0 h.2, h.1.2 even), none-beyond),
        λ k. (0x67 ∷ sub % 128 ∷ [], (refl, λ z. absurd (omega arith), λ z. k.0.1), k.0.0),
      )

  module _ (r d : List ℕ) where
    loading-in : (sid : ℕ) (head : List ℕ) → Loading sid head d → r ≡ head ++ d → Iso.BlockLength sid d r × (true ≡ true → (3 ≤ value d) × (value d < 2 ^ 64))
    loading-in sid head l e =
        let form : sid ∷ (length d * 16) ∷ d ≡ sid ∷ Iso.nibbles (length d) 0 ∷ d = ap (λ (n : ℕ). sid ∷ n ∷ d) (omega arith) in
        (((l.least, l.most), headed d l.form e ∙ form), λ z. (l.three, l.fits))

    loading-out : (sid : ℕ) → Iso.BlockLength sid d r → (true ≡ true → (3 ≤ value d) × (value d < 2 ^ 64))
        → Loading sid (sid ∷ (length d * 16) ∷ []) d × (r ≡ sid ∷ (length d * 16) ∷ d)
    loading-out sid b k = (
      record { form = refl; least = b.0.0; most = b.0.1; three = (k refl).0; fits = (k refl).1 },
      b.1 ∙ ap (λ (n : ℕ). sid ∷ n ∷ d) (omega arith),
    )

    response-format : (c : Call) → InRange c → IsRow c r d ↔ (Iso.ResponseFormat (service w c) r d × Beyond c d)
    response-format (request sid sub x) n = absurd n
    response-format (session sub) n =
        (λ h. ((headed d h.1.0 h.2, h.1.1), none-beyond), λ k. (0x50 ∷ sub % 128 ∷ [], (refl, k.0.1), k.0.0))
    response-format (reset sub) n =
        (λ h. ((headed d h.1.0 h.2, (h.1.1, h.1.2)), none-beyond), λ k. (0x51 ∷ sub % 128 ∷ [], (refl, k.0.1.0, k.0.1.1), k.0.0))
    response-format (security sub x) n = security-positive sub x (suppressing w (security sub x)) (eqb (sub % 2) 1) (or_none x) r d refl
    response-format tester_present n =
        (λ h. ((headed d h.1.0 h.2, h.1.1), none-beyond), λ k. (0x7e ∷ 0x00 ∷ [], (refl, k.0.1), k.0.0))
    response-format (read_memory a s) n =
        (λ h. ((headed d h.1.0 h.2, h.1.1, h.1.2), none-beyond), λ k. (0x63 ∷ [], (refl, k.0.1, k.0.2), k.0.0))
    response-format (write_memory a s x) n =
        (λ h. ((headed d h.1.0 h.2, h.1.1), none-beyond), λ k. (0x7d ∷ [], (refl, k.0.1), k.0.0))
    response-format (read_identifier id) n =
        let bytes = two_bytes id n in (
          λ h. ((headed d (h.1.0 ∙ ap (λ (l : List ℕ). 0x62 ∷ l) bytes) h.2, h.1.1), none-beyond),
          λ k. (0x62 ∷ bytes_of 2 id, (ap (λ (l : List ℕ). 0x62 ∷ l) (sym bytes), k.0.1), k.0.0),
        )
    response-format (write_identifier id x) n =
        let bytes = two_bytes id n.0 in (
          λ h. ((headed d (h.1.0 ∙ ap (λ (l : List ℕ). 0x6e ∷ l) bytes) h.2, h.1.1), none-beyond),
          λ k. (0x6e ∷ bytes_of 2 id, (ap (λ (l : List ℕ). 0x6e ∷ l) (sym bytes), k.0.1), k.0.0),
        )
    response-format (fault_count mask) n =
        (λ h. ((headed d h.1.0 h.2, h.1.1), none-beyond), λ k. (0x59 ∷ 0x01 ∷ [], (refl, k.0.1), k.0.0))
    response-format (routine sub id x) n =
        let bytes = two_bytes id n.1 in (
          λ h. (headed d (h.1 ∙ ap (λ (l : List ℕ). 0x71 ∷ sub % 128 ∷ l) bytes) h.2, none-beyond),
          λ k. (0x71 ∷ sub % 128 ∷ bytes_of 2 id, ap (λ (l : List ℕ). 0x71 ∷ sub % 128 ∷ l) (sym bytes), k.0),
        )
    response-format (download c e a s) n =
        (λ h. loading-in 0x74 h.0 h.1 h.2, λ k. let l = loading-out 0x74 k.0 k.1 in (0x74 ∷ (length d * 16) ∷ [], l.0, l.1))
    response-format (upload c e a s) n =
        (λ h. loading-in 0x75 h.0 h.1 h.2, λ k. let l = loading-out 0x75 k.0 k.1 in (0x75 ∷ (length d * 16) ∷ [], l.0, l.1))
    response-format (transfer counter x) n = (
      λ h. ((headed d h.1.0 h.2, asking-in x d h.1.1), none-beyond),
      λ k. (0x76 ∷ counter ∷ [], (refl, asking-out x d k.0.1), k.0.0),
    )
    response-format (transfer_exit x) n = (λ h. (headed d h.1 h.2, none-beyond), λ k. (0x77 ∷ [], refl, k.0))
    response-format (fault_list mask) n = (
      λ h. ((headed d h.1.0 h.2, reported d h.1.1), none-beyond),
      λ k. (0x59 ∷ 0x02 ∷ [], (refl, report-length d k.0.1), k.0.0),
    )

    positives : (c : Call) → InRange c → Iso.Message r → IsRow c r d ↔ (Iso.Response (service w c) r d × Beyond c d)
    positives c n m = let f = response-format c n in (λ h. let k = f.0 h in ((m, k.0), k.1), λ k. f.1 (k.0.1, k.1))

  module _ (c : Call) where
    negative-in : (notices : List ℕ) (p : Part) (code : ℕ) → Closing w c notices p (negative code) → (p.bytes ≡ 0x7f ∷ sid_of c ∷ code ∷ []) × (code ≢ Iso.response_pending)
    negative-in notices p code (by_negative n e) = (e, n)

    negatives : (notices : List ℕ) (p : Part) (code : ℕ) → Iso.Message p.bytes
        → Closing w c notices p (negative code) ↔ (Iso.NegativeResponse (request_of w.quiet c) code p.bytes × (code ≢ Iso.response_pending))
    negatives notices p code m = (λ h. let k = negative-in notices p code h in ((m, k.0), k.1), λ k. by_negative k.1 k.0.1)

    abbrev Noticed : ℕ → Part → List Event → List ℕ → Type 0
    Noticed t p es times =
        (later : List ℕ) × (times ≡ t ∷ later) × Iso.NegativeResponse (request_of w.quiet c) Iso.response_pending p.bytes × Waiting (sid_of c) es later

    notice-in : (t : ℕ) (p : Part) (es : List Event) (times : List ℕ) → Iso.Message p.bytes → Waiting (sid_of c) (reply t p ∷ es) times → Noticed t p es times
    notice-in t p es times m (notice {ts = later} v) = (later, refl, (m, refl), v)

    notices : (t : ℕ) (p : Part) (es : List Event) (times : List ℕ) → Iso.Message p.bytes → Waiting (sid_of c) (reply t p ∷ es) times ↔ Noticed t p es times
    notices t p es times m = (
      notice-in t p es times m,
      λ k. subst⁻¹ (λ (l : List ℕ). Waiting (sid_of c) (reply t p ∷ es) l) k.1
          (subst⁻¹ (λ (r : List ℕ). Waiting (sid_of c) (reply t (part p.at r) ∷ es) (t ∷ k.0)) k.2.1 (notice {at = p.at} k.3)),
    )

  -- A block's transfer, which has two bytes before the block.
  module _ (bytes : List ℕ) (n k : ℕ) (h : 3 ≤ n) where
    abbrev left : List ℕ
    left = drop (k * carried n) bytes

    block-fits : length (block bytes n k) ≤ carried n
    unfolding block
    block-fits = omega (arith, length-take (carried n) left)

    block-full : (k + 1) * carried n < length bytes → length (block bytes n k) ≡ carried n
    unfolding block
    block-full b = length-take-le (carried n) left (simp length-drop (omega (arith, suc-mul k (carried n))))

    block-bytes : Bytes bytes → Bytes (block bytes n k)
    unfolding block
    block-bytes b = every_take is_byte (carried n) left (every_drop is_byte (k * carried n) bytes b)

    blocks : Bytes bytes →
        let c = transfer_of bytes n k in
        let r = request_of w.quiet c in
        Iso.Request (service w c) r × Iso.WithinBlockLength n r × ((k + 1) * carried n < length bytes → length r ≡ n)
    blocks b = (
      (byte-cons (counter k) (block bytes n k) (omega arith) (block-bytes b), refl),
      omega (arith, block-fits),
      λ z. omega (arith, block-full z),
    )

-- A test that holds of every number below n.
abbrev below : ℕ → (ℕ → Bool) → Bool
below zero p = true
below (suc n) p = p n && below n p

at_each : (n : ℕ) (p : ℕ → Bool) → below n p ≡ true → (i : ℕ) → i < n → p i ≡ true
at_each zero p h i k = absurd (omega arith)
at_each (suc n) p h i k =
    let g = both (p n) (below n p) h in
    go (eqb i n) refl g.0 (at_each n p g.1 i)
  where
    go : (b : Bool) → eqb i n ≡ b → p n ≡ true → (i < n → p i ≡ true) → p i ≡ true
    go true e g f = ap p (eqb-true i n e) ∙ g
    go false e g f = f (omega (arith, eqb-false i n e))

positive-sid : (sid : ℕ) → sid < 256 → positive_sid sid ≡ Iso.response_sid sid
positive-sid sid h = eqb-true (positive_sid sid) (Iso.response_sid sid) (at_each 256 (λ s. eqb (positive_sid s) (Iso.response_sid s)) refl sid h)

pub layouts : Layouts
layouts = record {
  requests = λ strict w. requests w strict;
  positives = λ w c n r d. positives w r d c n;
  positive-sid = positive-sid;
  negatives = negatives;
  notices = notices;
  blocks = λ w bytes n k b h z. blocks w bytes n k h b;
  no_more = λ n r h k. omega arith;
}
