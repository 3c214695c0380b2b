-- What stands afterwards, proved.
use Prim.Native.Nat.{ℕ, zero, suc, ◌+◌, ◌*◌, ◌/◌, ◌%◌, ◌≤◌}
use native.Mathlib.Omega.{arith}
use mathlib.Core.Bool.{Bool, true, false, cond}
use mathlib.Core.Path.{◌≡◌, refl, sym, ◌∙◌, ap, subst, subst⁻¹}
use mathlib.Core.Logic.{◌≢◌}
use mathlib.Core.List.{List, [], ◌∷◌, ◌++◌}
use lib.Dec.{leb, eqb}
use lib.ListN.{length, get_or, drop, length-append, length-drop, length-take}
use borrow.Author.Tests.{leb-true, le-leb, eqb-true, eqb-false, eq-eqb}
use Rattle.rules.specs.Bytes.{value, two, u16_at, every, is_byte}
use Rattle.rules.specs.Calls.{read_identifier, write_identifier}
use Rattle.rules.specs.Settings.{Setting}
use Rattle.rules.specs.Faults.{select, statuses, shares}
use Rattle.rules.specs.InOrder.{unless}
use Rattle.rules.proofs.Faults.{selector}
use Rattle.rules.proofs.Judging.{Pass, judge-ind, judge-pass}
use Rattle.rules.proofs.Opened.{byte_at}
use Rattle.rules.proofs.Writing.{every_drop}
use Rattle.bench.specs.Lasting.{written, wrote, Apart, Lasting}
use Rattle.bench.specs.Promise.{sends, decides, responds, Roomy}
use Rattle.bench.specs.Responder.{Row, row_by, row_of, checks, Decision, refuses, grants, keeps_silent, decision, reply_to, place, stored, replied, silent, refused, response_to, Responded, responded, respond}
use Rattle.bench.specs.Stores.{Slot, Store, store_of, slot_of, known, record_of, counted, SoundStore, put}
use Rattle.bench.proofs.Promise.{room-decided}
use Rattle.bench.proofs.Put.{put-long, put-bytes}
use Rattle.bench.proofs.Tests.{judge-tested}
use Rattle.bench.proofs.Written.{laid, record-fits, store-written, stays-laid, written_known, written-record, other-record}

-- The service that a request names, by its row.
module _ (s : Store) (sid : ℕ) (bs : List ℕ) where
  abbrev q : List ℕ
  q = sid ∷ bs

  abbrev slot_named : Slot
  slot_named = slot_of s (u16_at q 1)

  -- A write that passes its checks: a known record, and bytes of its length.
  pub record Writing : Type 0 where
    pub is_known : known s slot_named ≡ true
    pub fits : length (drop 3 q) ≡ slot_named.size

  write-row : eqb sid 0x2e ≡ true → row_of s q ≡ row_by s q 0x2e (get_or q 1 0) (length q) slot_named
  write-row h = ap (λ (x : ℕ). row_by s q x (get_or q 1 0) (length q) slot_named) (eqb-true sid 0x2e h)

  pub writing : eqb sid 0x2e ≡ true → Pass (checks (row_of s q) (length q)) → Writing
  writing h p =
      let k = subst (λ (r : Row). Pass (checks r (length q))) (write-row h) p in
      let is_known = k.1.1.1.1.0 in
      let exact : eqb (length q) (3 + slot_named.size) ≡ true = sym (ap (λ (b : Bool). cond b (eqb (length q) (3 + slot_named.size)) true) is_known) ∙ k.1.1.1.0 in
      let long = eqb-true (length q) (3 + slot_named.size) exact in
      let d = length-drop 3 q in
      record { is_known = is_known; fits = omega arith }

  -- Its positive says so, and no other does.
  write-says : eqb sid 0x2e ≡ true → (row_of s q).head ++ (row_of s q).payload ≡ wrote q
  write-says h = ap (λ (r : Row). r.head ++ r.payload) (write-row h)

  others-say : (row_of s q).served ≡ true → get_or ((row_of s q).head ++ (row_of s q).payload) 0 0 ≡ 0x6e → eqb sid 0x2e ≡ true
  others-say = go (eqb sid 0x10) (eqb sid 0x11) (eqb sid 0x3e) (eqb sid 0x19) (eqb sid 0x22) (eqb sid 0x2e) (eqb sid 0x23)
    where
      b : ℕ
      b = get_or q 1 0

      go : (t10 t11 t3e t19 t22 t2e t23 : Bool) →
          let r =
          cond t10 (row_by s q 0x10 b (length q) slot_named)
          (cond t11 (row_by s q 0x11 b (length q) slot_named)
          (cond t3e (row_by s q 0x3e b (length q) slot_named)
          (cond t19 (row_by s q 0x19 b (length q) slot_named)
          (cond t22 (row_by s q 0x22 b (length q) slot_named)
          (cond t2e (row_by s q 0x2e b (length q) slot_named) (cond t23 (row_by s q 0x23 b (length q) slot_named) (row_by s q 0 b (length q) slot_named)))))))
          in
          r.served ≡ true → get_or (r.head ++ r.payload) 0 0 ≡ 0x6e → t2e ≡ true
      go true t11 t3e t19 t22 t2e t23 v e = absurd (eqb-false 0x50 0x6e refl e)
      go false true t3e t19 t22 t2e t23 v e = absurd (eqb-false 0x51 0x6e refl e)
      go false false true t19 t22 t2e t23 v e = absurd (eqb-false 0x7e 0x6e refl e)
      go false false false true t22 t2e t23 v e = absurd (eqb-false 0x59 0x6e refl e)
      go false false false false true t2e t23 v e = absurd (eqb-false 0x62 0x6e refl e)
      go false false false false false true t23 v e = refl
      go false false false false false false true v e = absurd (eqb-false 0x63 0x6e refl e)
      go false false false false false false false v e = absurd (mathlib.Core.Bool.false≢true v)

-- What is decided: a negative, silence, or a positive behind checks that all pass.
module _ (s : Store) (P : List ℕ → Decision → Type 0) (negative : (q : List ℕ) (code : ℕ) → P q (refuses code)) (silence : (q : List ℕ) → P q keeps_silent)
    (positive : (sid : ℕ) (bs : List ℕ) → Pass (checks (row_of s (sid ∷ bs)) (length (sid ∷ bs))) → P (sid ∷ bs) (grants (row_of s (sid ∷ bs)).head (row_of s (sid ∷ bs)).payload)) where
  pub decision-by : (q : List ℕ) → P q (decision s q)
  unfolding decision
  decision-by [] = silence []
  decision-by (sid ∷ bs) =
      judge-ind (P (sid ∷ bs)) refuses (checks (row_of s (sid ∷ bs)) (length (sid ∷ bs))) _ (negative (sid ∷ bs)) (λ p. go (row_of s (sid ∷ bs)).hushed (positive sid bs p))
    where
      go : (b : Bool) → P (sid ∷ bs) (grants (row_of s (sid ∷ bs)).head (row_of s (sid ∷ bs)).payload)
          → P (sid ∷ bs) (cond b keeps_silent (grants (row_of s (sid ∷ bs)).head (row_of s (sid ∷ bs)).payload))
      go true h = silence (sid ∷ bs)
      go false h = h

-- What holds of both ends of `respond` holds of it.
pub respond-by : (l q room : List ℕ) (P : Responded → Type 0) →
    let x = decision (store_of l) q in
    (length (reply_to q x) ≤ length room → P (responded (response_to q x) (reply_to q x ++ drop (length (reply_to q x)) room) (stored l q x))) → P (responded (refused 13) room l)
    → P (respond l q room)
unfolding respond
respond-by l q room P does kept =
    let x = decision (store_of l) q in
    judge-tested (λ n. eqb n 13) P (λ n. responded (refused n) room l) (unless (leb (length (reply_to q x)) (length room)) 13 ∷ []) _ refl
    (λ n e. subst⁻¹ (λ (k : ℕ). P (responded (refused k) room l)) (eqb-true n 13 e) kept)
    (λ p. does (leb-true (length (reply_to q x)) (length room) p.0))

no-silence : (r : List ℕ) → silent ≡ replied r → ⊥
no-silence r e = let z : ◌≡◌ {A = ℕ} 0 1 = cc in omega arith

same-reply : (r r' : List ℕ) → replied r ≡ replied r' → r ≡ r'
same-reply r r' e = cc

no-refusal : (q : List ℕ) (x : Decision) (n : ℕ) → response_to q x ≡ refused n → ⊥
no-refusal q (refuses code) n e = let z : ◌≡◌ {A = ℕ} 0 1 = cc in omega arith
no-refusal q (grants head d) n e = let z : ◌≡◌ {A = ℕ} 0 1 = cc in omega arith
no-refusal q keeps_silent n e = let z : ◌≡◌ {A = ℕ} 0 1 = cc in omega arith

not-wrote : (q : List ℕ) (n : ℕ) → refused n ≡ replied (wrote q) → ⊥
not-wrote q n e = let z : ◌≡◌ {A = ℕ} 0 1 = cc in omega arith

module _ (l : List ℕ) where
  abbrev s : Store
  s = store_of l

  abbrev slot_in : List ℕ → Slot
  slot_in q = slot_of s (u16_at q 1)

  -- A request that is answered by 6E id is a write that passed its checks.
  Wrote : List ℕ → Decision → Type 0
  Wrote q x = response_to q x ≡ replied (wrote q) → (stored l q x ≡ put l (place l q) (drop 3 q)) × (known s (slot_in q) ≡ true) × (length (drop 3 q) ≡ (slot_in q).size)

  wrote_by : (q : List ℕ) → Wrote q (decision s q)
  unfolding Wrote
  wrote_by q = decision-by s Wrote by-negative (λ p e. absurd (no-silence (wrote p) e)) by-positive q
    where
      by-negative : (p : List ℕ) (code : ℕ) → Wrote p (refuses code)
      by-negative p code e =
          let k = same-reply (reply_to p (refuses code)) (wrote p) e in
          absurd (eqb-false 0x7f 0x6e refl (ap (λ (r : List ℕ). get_or r 0 0) k))

      by-positive : (sid : ℕ) (bs : List ℕ) → Pass (checks (row_of s (sid ∷ bs)) (length (sid ∷ bs))) → Wrote (sid ∷ bs) (grants (row_of s (sid ∷ bs)).head (row_of s (sid ∷ bs)).payload)
      by-positive sid bs p e =
          let r = row_of s (sid ∷ bs) in
          let k = same-reply (r.head ++ r.payload) (wrote (sid ∷ bs)) e in
          let is = others-say s sid bs p.0 (ap (λ (x : List ℕ). get_or x 0 0) k) in
          let w = writing s sid bs is p in
          (rw is refl, w.is_known, w.fits)

  keeps-by : (q : List ℕ) → response_to q (decision s q) ≢ replied (wrote q) → stored l q (decision s q) ≡ l
  keeps-by = decision-by s (λ q x. response_to q x ≢ replied (wrote q) → stored l q x ≡ l) (λ q code n. refl) (λ q n. refl) (λ sid bs p. go sid bs (eqb sid 0x2e) refl)
    where
      go : (sid : ℕ) (bs : List ℕ) (b : Bool) → eqb sid 0x2e ≡ b → replied ((row_of s (sid ∷ bs)).head ++ (row_of s (sid ∷ bs)).payload) ≢ replied (wrote (sid ∷ bs))
          → cond b (put l (place l (sid ∷ bs)) (drop 3 (sid ∷ bs))) l ≡ l
      go sid bs true e n = absurd (n (ap replied (write-says s sid bs e)))
      go sid bs false e n = refl

  -- Written or as it was.
  changes : (q : List ℕ) (P : List ℕ → Type 0) → P l → (known s (slot_in q) ≡ true → length (drop 3 q) ≡ (slot_in q).size → P (put l (place l q) (drop 3 q))) → P (stored l q (decision s q))
  changes q P kept does =
      decision-by s (λ p x. P l → (known s (slot_in p) ≡ true → length (drop 3 p) ≡ (slot_in p).size → P (put l (place l p) (drop 3 p))) → P (stored l p x))
      (λ p code k d. k)
      (λ p k d. k)
      (λ sid bs pass k d. go sid bs pass (eqb sid 0x2e) refl k d)
      q kept does
    where
      go : (sid : ℕ) (bs : List ℕ) → Pass (checks (row_of s (sid ∷ bs)) (length (sid ∷ bs))) → (b : Bool) → eqb sid 0x2e ≡ b → P l
          → (known s (slot_in (sid ∷ bs)) ≡ true → length (drop 3 (sid ∷ bs)) ≡ (slot_in (sid ∷ bs)).size → P (put l (place l (sid ∷ bs)) (drop 3 (sid ∷ bs))))
          → P (cond b (put l (place l (sid ∷ bs)) (drop 3 (sid ∷ bs))) l)
      go sid bs pass true e k d = let w = writing s sid bs e pass in d w.is_known w.fits
      go sid bs pass false e k d = k

module _ (l q room : List ℕ) where
  writes-both : (respond l q room).response ≡ replied (wrote q)
      → ((respond l q room).store ≡ put l (place l q) (drop 3 q)) × (known (store_of l) (slot_in l q) ≡ true) × (length (drop 3 q) ≡ (slot_in l q).size)
  unfolding Wrote
  writes-both =
      respond-by l q room
      (λ y. y.response ≡ replied (wrote q) → (y.store ≡ put l (place l q) (drop 3 q)) × (known (store_of l) (slot_in l q) ≡ true) × (length (drop 3 q) ≡ (slot_in l q).size))
      (λ h. wrote_by l q)
      (λ e. absurd (not-wrote q 13 e))

  writes-record : SoundStore l → (respond l q room).response ≡ replied (wrote q)
      → store_of (respond l q room).store ≡ written (store_of l) (slot_in l q) (drop 3 q)
  writes-record ok e =
      let w = writes-both e in
      ap store_of w.0 ∙ store-written l ok.laid (slot_in l q) (drop 3 q) w.1 w.2

  stays-sound : SoundStore l → every is_byte q ≡ true → SoundStore (respond l q room).store
  stays-sound ok b =
      respond-by l q room (λ y. SoundStore y.store)
      (λ h. changes l q SoundStore ok (λ k f. record {
        bytes = put-bytes l (place l q) (drop 3 q) (record-fits l (slot_in l q) (drop 3 q) k f) ok.bytes (every_drop is_byte 3 q b);
        laid = stays-laid l ok.laid (slot_in l q) (drop 3 q) k f;
      }))
      ok

  keeps : (respond l q room).response ≢ replied (wrote q) → (respond l q room).store ≡ l
  keeps = respond-by l q room (λ y. y.response ≢ replied (wrote q) → y.store ≡ l) (λ h. keeps-by l q) (λ n. refl)

  refused-keeps : (n : ℕ) → (respond l q room).response ≡ refused n → (n ≡ 13) × ((respond l q room).buffer ≡ room) × ((respond l q room).store ≡ l)
  refused-keeps n =
      respond-by l q room (λ y. y.response ≡ refused n → (n ≡ 13) × (y.buffer ≡ room) × (y.store ≡ l))
      (λ h e. absurd (no-refusal q (decision (store_of l) q) n e))
      (λ e. (cc, refl, refl))

  as_long : (length (respond l q room).buffer ≡ length room) × (length (respond l q room).store ≡ length l)
  as_long =
      respond-by l q room (λ y. (length y.buffer ≡ length room) × (length y.store ≡ length l))
      (λ h.
      let r = reply_to q (decision (store_of l) q) in
      let a = length-append r (drop (length r) room) in
      let b = length-drop (length r) room in
      (omega arith, changes l q (λ y. length y ≡ length l) refl (λ k f. put-long l (place l q) (drop 3 q) (record-fits l (slot_in l q) (drop 3 q) k f))))
      (refl, refl)

  others : (id : ℕ) → SoundStore l → (respond l q room).response ≡ replied (wrote q) → Apart (slot_in l q) (slot_of (store_of l) id)
      → record_of (store_of (respond l q room).store) (slot_of (store_of l) id) ≡ record_of (store_of l) (slot_of (store_of l) id)
  others id ok e a =
      let w = writes-both e in
      ap (λ (y : Store). record_of y (slot_of (store_of l) id)) (writes-record ok e) ∙
      other-record (store_of l) (slot_in l q) (drop 3 q) w.1 w.2 (slot_of (store_of l) id) a

read_back : (l room : List ℕ) (h n : ℕ) (d : List ℕ) → let q : List ℕ = 0x2e ∷ h ∷ n ∷ d in
    SoundStore l → (respond l q room).response ≡ replied (wrote q) → length d ≤ 4092
    → decision (store_of (respond l q room).store) (0x22 ∷ h ∷ n ∷ []) ≡ grants (0x62 ∷ h ∷ n ∷ []) d
unfolding decision
read_back l room h n d ok e short =
    let q : List ℕ = 0x2e ∷ h ∷ n ∷ d in
    let p : List ℕ = 0x22 ∷ h ∷ n ∷ [] in
    let w = writes-both l q room e in
    let x = slot_in l q in
    let t = written (store_of l) x d in
    let same = written-record (store_of l) x d w.1 w.2 in
    let long : length ((row_of t p).head ++ (row_of t p).payload) ≤ 4095 = omega (arith, ap (λ (k : List ℕ). length k) same) in
    ap (λ (y : Store). decision y p) (writes-record l q room ok e) ∙
    judge-pass refuses (checks (row_of t p) 3) (grants (row_of t p).head (row_of t p).payload)
    (refl, (refl, (refl, (refl, (written_known (store_of l) x d w.1 w.2, (le-leb (length ((row_of t p).head ++ (row_of t p).payload)) 4095 long, tt)))))) ∙
    ap (λ (k : List ℕ). grants (0x62 ∷ h ∷ n ∷ []) k) same

-- A write that is granted and has room is answered by 6E id.
granted-wrote : (s : Store) (bs head e : List ℕ) → decision s (0x2e ∷ bs) ≡ grants head e → head ++ e ≡ wrote (0x2e ∷ bs)
granted-wrote s bs head e =
    decision-by s (λ q x. get_or q 0 0 ≡ 0x2e → x ≡ grants head e → head ++ e ≡ wrote q)
    (λ q code i h. absurd (no-grant (refuses code) h tt))
    (λ q i h. absurd (no-grant keeps_silent h tt))
    (λ sid rest p i h. same sid rest i h)
    (0x2e ∷ bs)
    refl
  where
    NoGrant : Decision → Type 0
    NoGrant (refuses code) = Unit {0}
    NoGrant (grants h d) = ⊥
    NoGrant keeps_silent = Unit {0}

    no-grant : (x : Decision) → x ≡ grants head e → NoGrant x → ⊥
    no-grant x h n = subst NoGrant h n

    same : (sid : ℕ) (rest : List ℕ) → sid ≡ 0x2e → grants (row_of s (sid ∷ rest)).head (row_of s (sid ∷ rest)).payload ≡ grants head e → head ++ e ≡ wrote (sid ∷ rest)
    same sid rest i h =
        let a : (row_of s (sid ∷ rest)).head ≡ head = cc in
        let b : (row_of s (sid ∷ rest)).payload ≡ e = cc in
        sym (λ j. a j ++ b j) ∙ write-says s sid rest (eq-eqb sid 0x2e i)

client-reads : (w : Setting) (id : ℕ) (d l room head e : List ℕ) → SoundStore l → decides w (write_identifier id d) l ≡ grants head e
    → Roomy (responds w (write_identifier id d) l room) → length d ≤ 4092
    → decides w (read_identifier id) (respond l (sends w (write_identifier id d)) room).store ≡ grants (0x62 ∷ two id) d
client-reads w id d l room head e ok g h short =
    let q = sends w (write_identifier id d) in
    let answered : (respond l q room).response ≡ replied (wrote q) =
    room-decided l q room h ∙ ap (response_to q) g ∙ ap replied (granted-wrote (store_of l) (two id ++ d) head e g)
    in
    read_back l room (id / 256) (id % 256) d ok answered short

-- A selector takes at most all records.
few-statuses : (mask : ℕ) (bs : List ℕ) (n i : ℕ) → statuses mask bs n i ≤ n
few-statuses mask bs zero i = omega arith
few-statuses mask bs (suc n) i = go (shares mask (get_or bs (i * 4 + 3) 0)) (few-statuses mask bs n (suc i))
  where
    go : (b : Bool) → statuses mask bs n (suc i) ≤ n → cond b 1 0 + statuses mask bs n (suc i) ≤ suc n
    go true h = omega arith
    go false h = omega arith

counts : (l : List ℕ) (mask : ℕ) → SoundStore l → value (two (counted (store_of l) mask)) ≡ length (select mask (store_of l).faults)
unfolding store_of
counts l mask ok =
    let p = laid l ok.laid in
    let bs = (store_of l).faults in
    let few = few-statuses mask bs (length bs / 4) 0 in
    let same = selector.counted mask bs in
    let a = length-take (u16_at l 30 * 4) (drop (u16_at l 32) l) in
    let b = byte_at l ok.bytes 30 in
    let c = byte_at l ok.bytes 31 in
    omega arith

many : (s : Store) (mask : ℕ) → 65535 ≤ length (select mask s.faults) → two (counted s mask) ≡ 0xff ∷ 0xff ∷ []
many s mask h = let z : counted s mask ≡ 65535 = omega arith in ap two z

pub lasting : Lasting
lasting = record {
  writes = λ l q room e. (writes-both l q room e).0;
  writes-record = writes-record;
  stays-sound = stays-sound;
  keeps = keeps;
  refused-keeps = refused-keeps;
  as_long = as_long;
  read_back = read_back;
  client-reads = client-reads;
  others = others;
  counts = counts;
  many = many;
}
