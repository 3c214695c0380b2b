-- The table's rows, both ways: what passes a call's strict checks is the table's strict positive, and hands out its data; and back.
use Prim.Native.Nat.{ℕ, suc, ◌+◌, ◌-◌, ◌*◌, ◌/◌, ◌%◌, ◌^◌, ◌≤◌, ◌<◌}
use native.Mathlib.Omega.{arith}
use mathlib.Core.Bool.{Bool, true, false, cond}
use mathlib.Core.Path.{◌≡◌, refl, sym, ◌∙◌, ap, ap₂, subst, subst⁻¹}
use mathlib.Core.Logic.{◌≢◌, ◌⊎◌, inl, inr}
use mathlib.Core.List.{List, [], ◌∷◌, ◌++◌}
use mathlib.Core.Option.{Option, none, some}
use lib.Dec.{leb, eqb}
use lib.ListN.{length, get_or, take, drop, length-append, length-drop, take-append-drop}
use lib.Seq.{drop-cons, take_all, take-append_seam, drop-append_seam}
use borrow.Author.Tests.{leb-true, ltb-true, eqb-true, eqb-false, lt-ltb, le-leb, eq-eqb}
use Rattle.rules.specs.After.{bounds, exactly, reset_length, transfer_length, length_bytes, block_length, loading, service_checks, first, handed}
use Rattle.rules.specs.Answers.{part, behind}
use Rattle.rules.specs.Bytes.{value, u16_at, two, every, is_byte}
use Rattle.rules.specs.Calls.{Call, request, session, reset, security, tester_present, read_memory, write_memory, read_identifier, write_identifier, fault_count, routine, download, upload, transfer, transfer_exit, fault_list, Field, sent, format, memory, sid_of, sub_of, positive_sid}
use Rattle.rules.specs.Demand3.{Named}
use Rattle.rules.specs.Positives.{Loading, Asking, Positive}
use Rattle.rules.proofs.Judging.{Pass, both}
use Rattle.rules.proofs.Opened.{opened1, opened2, opened3, opened4, empty, same_true, same_self, byte_at, only-all}

-- A reply echoes the request's sub-function, bit 7 cleared.
abbrev pub Echo : Option ℕ → List ℕ → Type 0
Echo none r = Unit {0}
Echo (some sub) r = (2 ≤ length r) × (get_or r 1 0 ≡ sub % 128)

-- The reply r is a row's positive: its head and its data, and the data is what the call hands out, at its place.
pub record Row (c : Call) (at : ℕ) (r : List ℕ) : Type 0 where
  pub front : List ℕ
  pub data' : List ℕ
  pub row : Positive c front data'
  pub form : r ≡ front ++ data'
  pub hands : handed c (part at r) ≡ part (at + length front) data'

within : (n : ℕ) (r : List ℕ) → (exactly true n r).test ≡ true → length r ≡ n
within n r e =
    let h = both (leb n (length r)) (leb (length r) n) e in
    let low = leb-true n (length r) h.0 in
    let high = leb-true (length r) n h.1 in
    omega arith

from : (n : ℕ) (r : List ℕ) → (bounds true n none r).test ≡ true → n ≤ length r
from n r e = leb-true n (length r) (both (leb n (length r)) true e).0

module _ (at : ℕ) (r : List ℕ) (bytes : every is_byte r ≡ true) where
  -- A pair of bytes that reads as the identifier is its two bytes.
  pair-at : (i id : ℕ) → u16_at r i ≡ id → (get_or r i 0 ≡ id / 256) × (get_or r (i + 1) 0 ≡ id % 256)
  pair-at i id e =
      let low = byte_at r bytes (i + 1) in
      (omega arith, omega arith)

  loads : (sid : ℕ) → get_or r 0 0 ≡ sid → Pass (loading true r (length_bytes r) (value (block_length r)))
      → Loading sid (sid ∷ (length (drop 2 r) * 16) ∷ []) (drop 2 r) × (r ≡ sid ∷ (length (drop 2 r) * 16) ∷ drop 2 r) × (take (length_bytes r) (drop 2 r) ≡ drop 2 r)
  loads sid e p =
      let n : ℕ = get_or r 1 0 / 16 in
      let some-length = leb-true 2 (length r) p.0 in
      let low = eqb-true (get_or r 1 0 % 16) 0 p.1.0 in
      let none-zero = ltb-true 0 n p.1.1.0 in
      let h = both (leb (n + 2) (length r)) (leb (length r) (n + 2)) p.1.1.1.0 in
      let least = leb-true (n + 2) (length r) h.0 in
      let most = leb-true (length r) (n + 2) h.1 in
      let size : length (drop 2 r) ≡ n = length-drop 2 r ∙ omega arith in
      let byte = byte_at r bytes 1 in
      let form : get_or r 1 0 ≡ length (drop 2 r) * 16 = omega arith in
      let whole : take n (drop 2 r) ≡ drop 2 r = take_all n (drop 2 r) (omega arith) in (
        record {
          form = refl;
          least = omega arith;
          most = omega arith;
          three = subst (λ (l : List ℕ). 3 ≤ value l) whole (leb-true 3 (value (take n (drop 2 r))) p.1.1.1.1.0);
          fits = subst (λ (l : List ℕ). value l < 2 ^ 64) whole (ltb-true (value (take n (drop 2 r))) (2 ^ 64) p.1.1.1.1.1.0);
        },
        opened2 r some-length ∙ ap₂ (λ (x y : ℕ). x ∷ y ∷ drop 2 r) e form,
        whole,
      )

  -- The reply with its SID, and with the sub-function that it echoes.
  after-sid : (x : ℕ) → get_or r 0 0 ≡ x → 1 ≤ length r → r ≡ x ∷ drop 1 r
  after-sid x e h = opened1 r h ∙ ap (λ (y : ℕ). y ∷ drop 1 r) e

  after-sub : (x sub : ℕ) → get_or r 0 0 ≡ x → Echo (some sub) r → r ≡ x ∷ sub % 128 ∷ drop 2 r
  after-sub x sub e h = opened2 r h.0 ∙ ap₂ (λ (y z : ℕ). y ∷ z ∷ drop 2 r) e h.1

  after-id : (x id : ℕ) → get_or r 0 0 ≡ x → 3 ≤ length r → u16_at r 1 ≡ id → r ≡ x ∷ two id ++ drop 3 r
  after-id x id e h i =
      let p = pair-at 1 id i in
      opened3 r h ∙ ap₂ (λ (y : ℕ) (l : List ℕ). y ∷ l) e (ap₂ (λ (y z : ℕ). y ∷ z ∷ drop 3 r) p.0 p.1)

  long : (k n : ℕ) → length r ≡ n → length (drop k r) ≡ n - k
  long k n e = length-drop k r ∙ ap (λ (m : ℕ). m - k) e

  none_left : (k : ℕ) → length r ≡ k → drop k r ≡ []
  none_left k e = empty (drop k r) (long k k e ∙ omega arith)

  -- A row whose data begins behind its first k bytes.
  made : (c : Call) (front : List ℕ) (k : ℕ) → Positive c front (drop k r) → r ≡ front ++ drop k r → handed c (part at r) ≡ part (at + length front) (drop k r) → Row c at r
  made c front k p f h = record { front = front; data' = drop k r; row = p; form = f; hands = h }

  placed : {d : List ℕ} (k : ℕ) → d ≡ drop k r → part (at + k) d ≡ part (at + k) (drop k r)
  placed k e = ap (λ (l : List ℕ). part (at + k) l) e

  reset-row : (sub : ℕ) (b : Bool) → eqb (sub % 128) 4 ≡ b → length r ≡ cond b 3 2 → get_or r 0 0 ≡ 0x51 → Echo (some sub) r → Row (reset sub) at r
  reset-row sub true t e f h =
      made (reset sub) (0x51 ∷ sub % 128 ∷ []) 2 (refl, λ y. long 2 3 e, λ n. absurd (n (eqb-true (sub % 128) 4 t))) (after-sub 0x51 sub f h)
      (placed 2 (only-all 1 (drop 2 r) (inl (long 2 3 e))))
  reset-row sub false t e f h =
      made (reset sub) (0x51 ∷ sub % 128 ∷ []) 2 (refl, λ y. absurd (eqb-false (sub % 128) 4 t y), λ n. none_left 2 e) (after-sub 0x51 sub f h)
      (placed 2 (only-all 1 (drop 2 r) (inr (long 2 2 e))))

  security-row : (sub : ℕ) (x : Option (List ℕ)) (b : Bool) → eqb (sub % 2) 1 ≡ b → (cond b (bounds true 3 none r) (exactly true 2 r)).test ≡ true → get_or r 0 0 ≡ 0x67
      → Echo (some sub) r → handed (security sub x) (part at r) ≡ cond b (behind 2 (part at r)) (first 0 (behind 2 (part at r))) → Row (security sub x) at r
  security-row sub x true t e f h g =
      made (security sub x) (0x67 ∷ sub % 128 ∷ []) 2
      (refl, λ y. rw (length-drop 2 r) (omega (arith, from 3 r e)), λ n. absurd (omega (arith, eqb-true (sub % 2) 1 t)))
      (after-sub 0x67 sub f h)
      g
  security-row sub x false t e f h g =
      let rest = none_left 2 (within 2 r e) in
      made (security sub x) (0x67 ∷ sub % 128 ∷ []) 2 (refl, λ y. absurd (eqb-false (sub % 2) 1 t y), λ n. rest) (after-sub 0x67 sub f h)
      (g ∙ placed 2 (sym rest))

  asking : (x : Option (List ℕ)) → transfer_length x ≤ length r → Asking x (drop 2 r)
  asking none h = rw (length-drop 2 r) (omega arith)
  asking (some d) h = tt

  pub row_in : (c : Call) → Named c → get_or r 0 0 ≡ positive_sid (sid_of c) → 1 ≤ length r → Echo (sub_of c) r → Pass (service_checks true c r) → Row c at r
  row_in (request sid sub x) n e o h p = absurd (n refl)
  row_in (session sub) n e o h p =
      let four = long 2 6 (within 6 r p.0) in
      made (session sub) (0x50 ∷ sub % 128 ∷ []) 2 (refl, four) (after-sub 0x50 sub e h) (placed 2 (only-all 4 (drop 2 r) (inl four)))
  row_in (reset sub) n e o h p = reset-row sub (eqb (sub % 128) 4) refl (within (reset_length sub) r p.0) e h
  row_in (security sub x) n e o h p = security-row sub x (eqb (sub % 2) 1) refl p.0 e h refl
  row_in tester_present n e o h p =
      let rest = none_left 2 (within 2 r p.0) in
      made tester_present (0x7e ∷ 0x00 ∷ []) 2 (refl, rest) (after-sub 0x7e 0 e h) (placed 2 (sym rest))
  row_in (read_memory a s) n e o h p =
      let record-length = eqb-true (length (drop 1 r)) (value (sent s)) p.0 in
      let two-long = leb-true 2 (length r) p.1.0 in
      made (read_memory a s) (0x63 ∷ []) 1 (refl, record-length, rw (length-drop 1 r) (omega arith)) (after-sid 0x63 e o) refl
  row_in (write_memory a s x) n e o h p =
      let la : ℕ = length (sent a) in
      let size = within (2 + la + length (sent s)) r p.0 in
      let f = eqb-true (get_or r 1 0) (format a s) p.1.0 in
      let address = same_true (take la (drop 2 r)) (sent a) p.1.1.0 in
      let memory-size = same_true (drop la (drop 2 r)) (sent s) p.1.1.1.0 in
      let fields : drop 2 r ≡ sent a ++ sent s = sym (take-append-drop la (drop 2 r)) ∙ ap₂ (λ (k l : List ℕ). k ++ l) address memory-size in
      made (write_memory a s x) (0x7d ∷ []) 1 (refl, drop-cons r 1 0 (omega arith) ∙ ap₂ (λ (y : ℕ) (l : List ℕ). y ∷ l) f fields) (after-sid 0x7d e o) refl
  row_in (read_identifier id) n e o h p =
      let four = from 4 r p.0 in
      made (read_identifier id) (0x62 ∷ two id) 3 (refl, rw (length-drop 3 r) (omega arith))
      (after-id 0x62 id e (omega arith) (eqb-true (u16_at r 1) id p.1.1.0))
      refl
  row_in (write_identifier id x) n e o h p =
      let three = within 3 r p.0 in
      let rest = none_left 3 three in
      made (write_identifier id x) (0x6e ∷ two id) 3 (refl, rest) (after-id 0x6e id e (omega arith) (eqb-true (u16_at r 1) id p.1.1.0)) (placed 3 (sym rest))
  row_in (fault_count mask) n e o h p =
      let four = long 2 6 (eqb-true (length r) 6 (both (leb 6 (length r)) (eqb (length r) 6) p.0).1) in
      made (fault_count mask) (0x59 ∷ 0x01 ∷ []) 2 (refl, four) (after-sub 0x59 1 e h) (placed 2 (take_all 4 (drop 2 r) (omega arith)))
  row_in (routine sub id x) n e o h p =
      let i = pair-at 2 id (eqb-true (u16_at r 2) id p.1.0) in
      made (routine sub id x) (0x71 ∷ sub % 128 ∷ two id) 4 refl
      (opened4 r (leb-true 4 (length r) p.0) ∙
      ap₂ (λ (y : ℕ) (l : List ℕ). y ∷ l) e (ap₂ (λ (y : ℕ) (l : List ℕ). y ∷ l) h.1 (ap₂ (λ (y z : ℕ). y ∷ z ∷ drop 4 r) i.0 i.1)))
      refl
  row_in (download c k a s) n e o h p =
      let q = loads 0x74 e p in made (download c k a s) (0x74 ∷ (length (drop 2 r) * 16) ∷ []) 2 q.0 q.1 (placed 2 q.2)
  row_in (upload c k a s) n e o h p =
      let q = loads 0x75 e p in made (upload c k a s) (0x75 ∷ (length (drop 2 r) * 16) ∷ []) 2 q.0 q.1 (placed 2 q.2)
  row_in (transfer counter x) n e o h p =
      made (transfer counter x) (0x76 ∷ counter ∷ []) 2 (refl, asking x (from (transfer_length x) r p.0))
      (opened2 r (leb-true 2 (length r) p.1.0) ∙ ap₂ (λ (y z : ℕ). y ∷ z ∷ drop 2 r) e (eqb-true (get_or r 1 0) counter p.1.1.0))
      refl
  row_in (transfer_exit x) n e o h p = made (transfer_exit x) (0x77 ∷ []) 1 refl (after-sid 0x77 e o) refl
  row_in (fault_list mask) n e o h p =
      let whole = eqb-true (length r % 4) 3 p.0 in
      let size = length-drop 2 r in
      made (fault_list mask) (0x59 ∷ 0x02 ∷ []) 2 (refl, omega arith) (after-sub 0x59 2 e h)
      (placed 2 (take_all ((length (drop 2 r) - 1) / 4 * 4 + 1) (drop 2 r) (omega arith)))

-- The other way: a row's positive passes all strict checks, and its data is handed out at its place.
pub record Fits (c : Call) (at : ℕ) (front d : List ℕ) : Type 0 where
  pub sid : get_or (front ++ d) 0 0 ≡ positive_sid (sid_of c)
  pub no-refusal : get_or (front ++ d) 0 0 ≢ 0x7f
  pub some_byte : 0 < length (front ++ d)
  pub echo : Echo (sub_of c) (front ++ d)
  pub pass : Pass (service_checks true c (front ++ d))
  pub hands : handed c (part at (front ++ d)) ≡ part (at + length front) d

is-exactly : (n : ℕ) (r : List ℕ) → length r ≡ n → (exactly true n r).test ≡ true
is-exactly n r e = rw (le-leb n (length r) (omega arith)) (le-leb (length r) n (omega arith))

is-from : (n : ℕ) (r : List ℕ) → n ≤ length r → (bounds true n none r).test ≡ true
is-from n r h = rw (le-leb n (length r) h)

-- Two bytes of an identifier read back as it.
id-back : (id : ℕ) → eqb (id / 256 * 256 + id % 256) id ≡ true
id-back id = eq-eqb (id / 256 * 256 + id % 256) id (omega arith)

module _ (at : ℕ) where
  in_place : {d e : List ℕ} (k : ℕ) → d ≡ e → part (at + k) d ≡ part (at + k) e
  in_place k e = ap (λ (l : List ℕ). part (at + k) l) e

  reset-fits : (sub : ℕ) (d : List ℕ) (b : Bool) → eqb (sub % 128) 4 ≡ b → (sub % 128 ≡ 4 → length d ≡ 1) → (sub % 128 ≢ 4 → d ≡ [])
      → (length (0x51 ∷ sub % 128 ∷ d) ≡ cond b 3 2) × ((length d ≡ 1) ⊎ (length d ≡ 0))
  reset-fits sub d true t f g = let e = f (eqb-true (sub % 128) 4 t) in (omega arith, inl e)
  reset-fits sub d false t f g = let e = ap (λ (l : List ℕ). length l) (g (eqb-false (sub % 128) 4 t)) in (omega arith, inr e)

  security-fits : (sub : ℕ) (d : List ℕ) (b : Bool) → eqb (sub % 2) 1 ≡ b → (sub % 2 ≡ 1 → 1 ≤ length d) → (sub % 2 ≡ 0 → d ≡ [])
      → ((cond b (bounds true 3 none (0x67 ∷ sub % 128 ∷ d)) (exactly true 2 (0x67 ∷ sub % 128 ∷ d))).test ≡ true)
      × (cond b (part (at + 2) d) (part (at + 2) []) ≡ part (at + 2) d)
  security-fits sub d true t f g =
      let e = f (eqb-true (sub % 2) 1 t) in (is-from 3 (0x67 ∷ sub % 128 ∷ d) (omega arith), refl)
  security-fits sub d false t f g =
      let even : sub % 2 ≡ 0 = omega (arith, eqb-false (sub % 2) 1 t) in
      let e = ap (λ (l : List ℕ). length l) (g even) in
      (is-exactly 2 (0x67 ∷ sub % 128 ∷ d) (omega arith), in_place 2 (sym (g even)))

  transfer-fits : (counter : ℕ) (x : Option (List ℕ)) (d : List ℕ) → Asking x d → transfer_length x ≤ length (0x76 ∷ counter ∷ d)
  transfer-fits counter none d h = omega arith
  transfer-fits counter (some y) d h = omega arith

  loading-fits : (sid : ℕ) (d : List ℕ) → Loading sid (sid ∷ (length d * 16) ∷ []) d
      → Pass (loading true (sid ∷ (length d * 16) ∷ d) (length d * 16 / 16) (value (take (length d * 16 / 16) d))) × (take (length d * 16 / 16) d ≡ d)
  loading-fits sid d l =
      let n = l.least in
      let size : length d * 16 / 16 ≡ length d = omega arith in
      let whole : take (length d) d ≡ d = take_all (length d) d (omega arith) in
      rw (size, whole) (
        (
          le-leb 2 (suc (suc (length d))) (omega arith),
          (
            eq-eqb (length d * 16 % 16) 0 (omega arith),
            (
              lt-ltb 0 (length d) n,
              (
                rw (le-leb (length d + 2) (suc (suc (length d))) (omega arith)) (le-leb (suc (suc (length d))) (length d + 2) (omega arith)),
                (le-leb 3 (value d) l.three, (lt-ltb (value d) (2 ^ 64) l.fits, tt)),
              ),
            ),
          ),
        ),
        refl,
      )

  -- A row's positive, with a sub-function and without: its checks and its data.
  with-sub : (c : Call) (x sub : ℕ) (k d : List ℕ) {front : List ℕ} → front ≡ x ∷ sub % 128 ∷ k → x ≡ positive_sid (sid_of c) → eqb x 0x7f ≡ false → sub_of c ≡ some sub
      → Pass (service_checks true c (x ∷ sub % 128 ∷ k ++ d)) → handed c (part at (x ∷ sub % 128 ∷ k ++ d)) ≡ part (at + length (x ∷ sub % 128 ∷ k)) d → Fits c at front d
  with-sub c x sub k d e s n o p h =
      subst⁻¹ (λ (f : List ℕ). Fits c at f d) e
      (record {
        sid = s;
        no-refusal = eqb-false x 0x7f n;
        some_byte = omega arith;
        echo = subst⁻¹ (λ (y : Option ℕ). Echo y (x ∷ sub % 128 ∷ k ++ d)) o (omega arith, refl);
        pass = p;
        hands = h;
      })

  without : (c : Call) (x : ℕ) (k d : List ℕ) {front : List ℕ} → front ≡ x ∷ k → x ≡ positive_sid (sid_of c) → eqb x 0x7f ≡ false → sub_of c ≡ none
      → Pass (service_checks true c (x ∷ k ++ d)) → handed c (part at (x ∷ k ++ d)) ≡ part (at + length (x ∷ k)) d → Fits c at front d
  without c x k d e s n o p h =
      subst⁻¹ (λ (f : List ℕ). Fits c at f d) e
      (record { sid = s; no-refusal = eqb-false x 0x7f n; some_byte = omega arith; echo = subst⁻¹ (λ (y : Option ℕ). Echo y (x ∷ k ++ d)) o tt; pass = p; hands = h })

  -- Where the data is fixed too.
  fixed : (c : Call) (front : List ℕ) {d e : List ℕ} → d ≡ e → Fits c at front e → Fits c at front d
  fixed c front q f = subst⁻¹ (λ (l : List ℕ). Fits c at front l) q f

  memory-fits : (a s : Field) (x : List ℕ) → Pass (service_checks true (write_memory a s x) (0x7d ∷ memory a s))
  memory-fits a s x =
      let joined = length-append (sent a) (sent s) in (
        is-exactly (2 + length (sent a) + length (sent s)) (0x7d ∷ memory a s) (omega arith),
        (
          eq-eqb (format a s) (format a s) refl,
          (
            rw (take-append_seam (sent a) (sent s)) (same_self (sent a)),
            (rw (drop-append_seam (sent a) (sent s)) (same_self (sent s)), tt),
          ),
        ),
      )

  pub row_out : (c : Call) (front d : List ℕ) → Positive c front d → Fits c at front d
  row_out (request sid sub x) front d p = absurd p
  row_out (session sub) front d p =
      let four = p.1 in
      with-sub (session sub) 0x50 sub [] d p.0 refl refl refl (is-exactly 6 (0x50 ∷ sub % 128 ∷ d) (omega arith), tt) (in_place 2 (only-all 4 d (inl four)))
  row_out (reset sub) front d p =
      let h = reset-fits sub d (eqb (sub % 128) 4) refl p.1 p.2 in
      with-sub (reset sub) 0x51 sub [] d p.0 refl refl refl (is-exactly (reset_length sub) (0x51 ∷ sub % 128 ∷ d) h.0, tt) (in_place 2 (only-all 1 d h.1))
  row_out (security sub x) front d p =
      let h = security-fits sub d (eqb (sub % 2) 1) refl p.1 p.2 in with-sub (security sub x) 0x67 sub [] d p.0 refl refl refl (h.0, tt) h.1
  row_out tester_present front d p = fixed tester_present front p.1 (with-sub tester_present 0x7e 0 [] [] p.0 refl refl refl (refl, tt) refl)
  row_out (read_memory a s) front d p =
      let one = p.2 in
      without (read_memory a s) 0x63 [] d p.0 refl refl refl (eq-eqb (length d) (value (sent s)) p.1, (le-leb 2 (suc (length d)) (omega arith), tt)) refl
  row_out (write_memory a s x) front d p =
      fixed (write_memory a s x) front p.1 (without (write_memory a s x) 0x7d [] (memory a s) p.0 refl refl refl (memory-fits a s x) refl)
  row_out (read_identifier id) front d p =
      let one = p.1 in
      without (read_identifier id) 0x62 (two id) d p.0 refl refl refl
      (is-from 4 (0x62 ∷ two id ++ d) (omega arith), (le-leb 3 (length (0x62 ∷ two id ++ d)) (omega arith), (id-back id, tt)))
      refl
  row_out (write_identifier id x) front d p =
      fixed (write_identifier id x) front p.1
      (without (write_identifier id x) 0x6e (two id) [] p.0 refl refl refl (refl, (refl, (id-back id, tt))) refl)
  row_out (fault_count mask) front d p =
      let four = p.1 in
      with-sub (fault_count mask) 0x59 1 [] d p.0 refl refl refl
      (rw (le-leb 6 (suc (suc (length d))) (omega arith)) (eq-eqb (suc (suc (length d))) 6 (omega arith)), tt)
      (in_place 2 (take_all 4 d (omega arith)))
  row_out (routine sub id x) front d p =
      with-sub (routine sub id x) 0x71 sub (two id) d p refl refl refl
      (le-leb 4 (length (0x71 ∷ sub % 128 ∷ two id ++ d)) (omega arith), (id-back id, tt))
      refl
  row_out (download c k a s) front d p =
      let h = loading-fits 0x74 d (subst (λ (f : List ℕ). Loading 0x74 f d) p.form p) in
      without (download c k a s) 0x74 ((length d * 16) ∷ []) d p.form refl refl refl h.0 (in_place 2 h.1)
  row_out (upload c k a s) front d p =
      let h = loading-fits 0x75 d (subst (λ (f : List ℕ). Loading 0x75 f d) p.form p) in
      without (upload c k a s) 0x75 ((length d * 16) ∷ []) d p.form refl refl refl h.0 (in_place 2 h.1)
  row_out (transfer counter x) front d p =
      without (transfer counter x) 0x76 (counter ∷ []) d p.0 refl refl refl (
        is-from (transfer_length x) (0x76 ∷ counter ∷ d) (transfer-fits counter x d p.1),
        (le-leb 2 (suc (suc (length d))) (omega arith), (eq-eqb counter counter refl, tt)),
      )
      refl
  row_out (transfer_exit x) front d p = without (transfer_exit x) 0x77 [] d p refl refl refl tt refl
  row_out (fault_list mask) front d p =
      let whole = p.1 in
      with-sub (fault_list mask) 0x59 2 [] d p.0 refl refl refl
      (eq-eqb (suc (suc (length d)) % 4) 3 (omega arith), (le-leb 3 (suc (suc (length d))) (omega arith), tt))
      (in_place 2 (take_all ((length d - 1) / 4 * 4 + 1) d (omega arith)))
