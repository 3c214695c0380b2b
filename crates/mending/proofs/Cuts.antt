-- Laws of a log that was cut: its header and areas, the call that it asks, and events that stay within the limits.
use Prim.Native.Nat.{ℕ, zero, suc, ◌+◌, ◌*◌, ◌-◌, ◌/◌, ◌%◌, ◌≤◌}
use native.Mathlib.Nat.{sub-zero}
use native.Mathlib.Omega.{arith}
use mathlib.Core.Bool.{Bool, true, false, cond, ◌&&◌}
use mathlib.Core.List.{List, [], ◌∷◌, ◌++◌}
use mathlib.Core.Path.{◌≡◌, refl, sym, ◌∙◌, ap}
use lib.Dec.{leb, eqb}
use lib.ListN.{length, get_or, take, drop}
use lib.Seq.{take-nil, take-take, take-add, drop-drop}
use borrow.Author.Tests.{le-leb, eqb-true, eq-eqb}
use Rattle.rules.specs.After.{after}
use Rattle.rules.specs.Answers.{Outcome, positive, suppressed, negative, timeout, pending_limit, disconnected, transport, fault, refused}
use Rattle.rules.specs.Bytes.{every, is_byte}
use Rattle.rules.specs.Calls.{Call, tester_present, given, request_of}
use Rattle.rules.specs.Client.{Result, asked, events_in, refuse, answered, call}
use Rattle.rules.specs.Conversations.{Every}
use Rattle.rules.specs.Demand3.{Refused}
use Rattle.rules.specs.Events.{Form, event_size, Entry, entries, named, sound, rising, within_limits}
use Rattle.rules.specs.Exchange.{exchange}
use Rattle.rules.specs.Logs.{Header, header_size, form_in, header_of, flag, some?, area, choices, call_of}
use Rattle.rules.specs.Refusals.{refusals}
use Rattle.rules.specs.Settings.{Setting, Lent}
use Rattle.rules.specs.Writing.{put_header}
use Rattle.rules.proofs.Demand1.{demand1}
use Rattle.rules.proofs.Judging.{both, Pass, judge-pass}
use Rattle.rules.proofs.Writing.{writing, every_drop, every_take}
use Rattle.mending.specs.Mend.{arguments_in}
use Rattle.mending.proofs.Runs.{Fits, whole-exact, whole-rest}
use Rattle.mending.proofs.Written.{sayable}

module _ {A : Type 0} where
  drop-take : (i n : ℕ) (l : List A) → drop i (take n l) ≡ take (n - i) (drop i l)
  drop-take zero n l = rw (sub-zero n)
  drop-take (suc i) zero l = let none : 0 - suc i ≡ 0 = omega arith in rw none
  drop-take (suc i) (suc n) [] = sym (take-nil (suc n - suc i))
  drop-take (suc i) (suc n) (x ∷ l) = let one : suc n - suc i ≡ n - i = omega arith in rw one (drop-take i n l)

  take-swap : (a b : ℕ) (l : List A) → take a (take b l) ≡ take b (take a l)
  take-swap zero b l = sym (take-nil b)
  take-swap (suc a) zero l = refl
  take-swap (suc a) (suc b) [] = refl
  take-swap (suc a) (suc b) (x ∷ l) = ap (λ (t : List A). x ∷ t) (take-swap a b l)

  -- As many are taken as there are.
  pub take-taken : (n : ℕ) (l : List A) → take (length (take n l)) l ≡ take n l
  take-taken zero l = refl
  take-taken (suc n) [] = refl
  take-taken (suc n) (x ∷ l) = ap (λ (t : List A). x ∷ t) (take-taken n l)

-- An area of the first n bytes is the front of the area; a part of an area is a part of the whole.
module _ (l : List ℕ) where
  pub area-cut : (n i k : ℕ) → area (take n l) i k ≡ take (n - i) (area l i k)
  area-cut n i k = ap (take k) (drop-take i n l) ∙ take-swap k (n - i) (drop i l)

  area_in : (i a j k : ℕ) → j + k ≤ a → area l (i + j) k ≡ area (area l i a) j k
  area_in i a j k h =
      sym (ap (take k) (drop-take j a (drop i l)) ∙ take-take k (a - j) (drop j (drop i l)) (omega arith) ∙ ap (take k) (drop-drop j i l))

-- The header stands in its own bytes.
pub header-cut : (l : List ℕ) (n : ℕ) → every is_byte l ≡ true → let size = header_size (form_in (header_of l)) in size ≤ length l → size ≤ n → header_of (take n l) ≡ header_of l
header-cut l n bytes long h =
    let size = header_size (form_in (header_of l)) in
    let rest = take (n - size) (drop size l) in
    let split : take n l ≡ put_header (header_of l) ++ rest =
    ap (λ (k : ℕ). take k l) (let e : n ≡ size + (n - size) = omega arith in e) ∙
    take-add size (n - size) l ∙
    ap (λ (front : List ℕ). front ++ rest) (sym (writing.header-written l bytes long))
    in
    ap header_of split ∙ writing.header_read (header_of l) rest (sayable l bytes)

-- The call that a log asks goes by its header and its argument bytes.
module _ (h : Header) (l m : List ℕ) (lengths : h.address_length + h.size_length ≤ h.arguments) (same : arguments_in h l ≡ arguments_in h m) where
  part_same : (i j k : ℕ) → i ≡ header_size (form_in h) + j → j + k ≤ h.arguments → area l i k ≡ area m i k
  part_same i j k e inside =
      ap (λ (x : ℕ). area l x k) e ∙
      area_in l (header_size (form_in h)) h.arguments j k inside ∙
      ap (λ (bs : List ℕ). area bs j k) same ∙
      sym (area_in m (header_size (form_in h)) h.arguments j k inside) ∙
      sym (ap (λ (x : ℕ). area m x k) e)

  pub call_same : call_of h l ≡ call_of h m
  call_same =
      let size = header_size (form_in h) in
      let a = h.address_length in
      let s = h.size_length in
      let address = part_same size 0 a (omega arith) (omega arith) in
      let sizes = part_same (size + a) a s refl (omega arith) in
      let more = part_same (size + a + s) (a + s) (h.arguments - (a + s)) (omega arith) (omega arith) in
      λ i. get_or (choices h.value h.sub (some? (eqb (flag 16 h) 1) h.sub) (given (address i)) (given (sizes i)) (some? (eqb (flag 32 h) 1) (more i))) h.call tester_present

-- A call that passes every refusal's test is not refused: what it sends is not empty.
a-number : (o : Outcome) → Refused o → (n : ℕ) × (o ≡ refused n)
a-number (positive p) r = absurd r
a-number suppressed r = absurd r
a-number (negative n) r = absurd r
a-number timeout r = absurd r
a-number pending_limit r = absurd r
a-number disconnected r = absurd r
a-number (transport n) r = absurd r
a-number (fault f) r = absurd r
a-number (refused n) r = (n, refl)

pub passes : (strict : Bool) (w : Setting) (c : Call) (l : Lent) → Pass (refusals c (request_of w.quiet c) l.buffer l.form l.events l.replies)
    → ¬ Refused (call strict w c l).answer.outcome
unfolding call
passes strict w c l p r =
    let x = answered w c l (request_of w.quiet c) (after strict c (exchange strict (asked w c) w.overall (events_in l))) in
    let is = judge-pass (refuse w l) (refusals c (request_of w.quiet c) l.buffer l.form l.events l.replies) x p in
    let n = a-number (call strict w c l).answer.outcome r in
    let sent = ap (λ (y : Result). y.sent) is in
    let none = (demand1 strict w c l n.0 n.1).sent in
    omega arith

-- Some of the first events that are within the limits, with all their reply bytes among those that are left.
pub rising-take : (k t : ℕ) (es : List Entry) → rising t es ≡ true → rising t (take k es) ≡ true
rising-take zero t es h = refl
rising-take (suc k) t [] h = refl
rising-take (suc k) t (e ∷ es) h = let g = both (leb t e.time) (rising e.time es) h in rw g.0 (rising-take k e.time es g.1)

sound-left : (replies left : List ℕ) (e : Entry) → every is_byte left ≡ true → sound replies e ≡ true → Fits (length left) e → sound left e ≡ true
sound-left replies left e bytes s f =
    let a = both (leb e.time 4294967295) _ s in
    rw a.0 (go (eqb e.kind 0) refl a.1)
  where
    other : Bool
    other = leb e.kind 3 && leb e.size 65535 && eqb e.source 0

    inside : List ℕ → Bool
    inside r = leb e.size 4095 && leb (e.offset + e.size) (length r) && every is_byte (named r e).bytes

    go : (b : Bool) → eqb e.kind 0 ≡ b → cond b (inside replies) other ≡ true → cond b (inside left) other ≡ true
    go true z k =
        let u = (both (leb e.size 4095 && leb (e.offset + e.size) (length replies)) _ k).0 in
        let small = (both (leb e.size 4095) (leb (e.offset + e.size) (length replies)) u).0 in
        rw (
          small,
          le-leb (e.offset + e.size) (length left) (f.1 (eqb-true e.kind 0 z)),
          every_take is_byte e.size (drop e.offset left) (every_drop is_byte e.offset left bytes),
        )
    go false z k = k

pub sounds-left : (replies left : List ℕ) (es : List Entry) → every is_byte left ≡ true → every (sound replies) es ≡ true → Every (Fits (length left)) es → every (sound left) es ≡ true
sounds-left replies left [] bytes s f = refl
sounds-left replies left (e ∷ es) bytes s f =
    let a = both (sound replies e) (every (sound replies) es) s in
    rw (sound-left replies left e bytes a.0 f.0) (sounds-left replies left es bytes a.1 f.1)

pub within : (form : Form) (k : ℕ) (events replies : List ℕ) → length events ≡ k * event_size form → k ≤ 512 → rising 0 (entries form events) ≡ true
    → every (sound replies) (entries form events) ≡ true → within_limits form events replies ≡ true
unfolding within_limits
within form k events replies long few rises sounds =
    let rest = eq-eqb (length events % event_size form) 0 (whole-rest form k (length events) long) in
    let count = whole-exact form k (length events) long in
    let most = le-leb (length events / event_size form) 512 (omega arith) in
    rw (rest, most, rises, sounds)
