-- At most one conversation, and at least one of each kind, proved.
use Prim.Native.Nat.{ℕ, ◌+◌, ◌≤◌, max}
use native.Mathlib.Omega.{arith}
use mathlib.Core.Bool.{false≢true, cond}
use mathlib.Core.Path.{◌≡◌, refl, sym, ◌∙◌, ap, ap₂}
use mathlib.Core.Logic.{◌≢◌, inl, inr}
use mathlib.Core.List.{List, [], ◌∷◌, ◌++◌}
use lib.ListN.{length, get_or}
use Rattle.rules.specs.After.{handed, checked}
use Rattle.rules.specs.Answers.{Part, part, Outcome, positive, negative, Answer, answer}
use Rattle.rules.specs.Calls.{Call, sid_of}
use Rattle.rules.specs.Client.{call}
use Rattle.rules.specs.Conversations.{Waiting, none, idles, notice, Paced, Closing, by_negative, by_positive, Closed, Silent, Conversation, IsIdle, Every}
use Rattle.rules.specs.Events.{Event, reply, idle, time_of, within_limits, entries_from}
use Rattle.rules.specs.Exchange.{look, settle, exchange}
use Rattle.rules.specs.Settings.{Setting, suppressing}
use Rattle.rules.specs.Unique.{Unique, samples, Witnessed}
use Rattle.rules.proofs.Rows.{row_out}
use Rattle.rules.proofs.Within.{within-zero}

-- Reading on to the closing: the first reply that is no notice.
module _ (sid : ℕ) where
  abbrev Notice : List ℕ
  Notice = 0x7f ∷ sid ∷ 0x78 ∷ []

  abbrev Same : List Event → List Event → List ℕ → List ℕ → ℕ → ℕ → List Event → List Event → Part → Part → Type 0
  Same b b' ts ts' t t' r r' p p' = (b ≡ b') × (ts ≡ ts') × (t ≡ t') × (r ≡ r') × (p ≡ p')

  same-split : {b b' : List Event} {ts ts' : List ℕ} → Waiting sid b ts → Waiting sid b' ts' → (t t' : ℕ) (p p' : Part) (r r' : List Event)
      → p.bytes ≢ Notice → p'.bytes ≢ Notice → b ++ (reply t p ∷ r) ≡ b' ++ (reply t' p' ∷ r') → Same b b' ts ts' t t' r r' p p'
  same-split none none t t' p p' r r' n n' e = (refl, refl, cc, cc, cc)
  same-split none (idles v) t t' p p' r r' n n' e = absurd (let z : ◌≡◌ {A = ℕ} 0 1 = cc in omega arith)
  same-split none (notice {at = at} v) t t' p p' r r' n n' e = absurd (n (let z : p ≡ part at Notice = cc in ap (λ (q : Part). q.bytes) z))
  same-split (idles v) none t t' p p' r r' n n' e = absurd (let z : ◌≡◌ {A = ℕ} 0 1 = cc in omega arith)
  same-split (idles {t = u} {es = l} v) (idles {t = u'} {es = l'} v') t t' p p' r r' n n' e =
      let h = same-split v v' t t' p p' r r' n n' cc in
      let time : u ≡ u' = cc in
      (ap₂ (λ (k : ℕ) (m : List Event). idle k ∷ m) time h.0, h.1, h.2, h.3, h.4)
  same-split (idles v) (notice v') t t' p p' r r' n n' e = absurd (let z : ◌≡◌ {A = ℕ} 0 1 = cc in omega arith)
  same-split (notice {at = at} v) none t t' p p' r r' n n' e = absurd (n' (let z : part at Notice ≡ p' = cc in sym (ap (λ (q : Part). q.bytes) z)))
  same-split (notice v) (idles v') t t' p p' r r' n n' e = absurd (let z : ◌≡◌ {A = ℕ} 0 1 = cc in omega arith)
  same-split (notice {t = u} {at = at} v) (notice {t = u'} {at = at'} v') t t' p p' r r' n n' e =
      let h = same-split v v' t t' p p' r r' n n' cc in
      let time : u ≡ u' = cc in
      let place : part at Notice ≡ part at' Notice = cc in
      (λ i. reply (time i) (place i) ∷ h.0 i, ap₂ (λ (k : ℕ) (m : List ℕ). k ∷ m) time h.1, h.2, h.3, h.4)

-- A closing is no notice.
no-notice : (w : Setting) (c : Call) {ts : List ℕ} {p : Part} {o : Outcome} → Closing w c ts p o → p.bytes ≢ 0x7f ∷ sid_of c ∷ 0x78 ∷ []
no-notice w c (by_negative {code = code} k e) f = k (let z : 0x7f ∷ sid_of c ∷ code ∷ [] ≡ 0x7f ∷ sid_of c ∷ 0x78 ∷ [] = sym e ∙ f in cc)
no-notice w c (by_positive head d row hush e) f =
    (row_out 0 c head d row).no-refusal (ap (λ (l : List ℕ). get_or l 0 0) (sym e ∙ f))

-- Two closed conversations over the same events stand at the same places, and one reply closes both.
same-places : (w : Setting) (c : Call) (es : List Event) (x y : Answer) (f : Closed w c es x) (g : Closed w c es y)
    → Same (sid_of c) f.before g.before f.times g.times f.at g.at f.rest g.rest x.reply y.reply
same-places w c es x y f g =
    same-split (sid_of c) f.waits g.waits f.at g.at x.reply y.reply f.rest g.rest (no-notice w c f.closes) (no-notice w c g.closes) (sym f.begins ∙ g.begins)

places : (w : Setting) (c : Call) (es : List Event) (x y : Answer) (f : Closed w c es x) (g : Closed w c es y)
    → (f.before ≡ g.before) × (f.times ≡ g.times) × (f.at ≡ g.at) × (f.rest ≡ g.rest)
places w c es x y f g = let h = same-places w c es x y f g in (h.0, h.1, h.2, h.3)

-- The first notice or closing stands at a time up to P2, and is no idle.
not-hushed : {sid : ℕ} {before : List Event} {ts : List ℕ} → Waiting sid before ts → (d star t : ℕ) (p : Part) (rest : List Event) → Paced d star (ts ++ (t ∷ []))
    → Every (λ e. time_of e ≤ d → IsIdle e) (before ++ (reply t p ∷ rest)) → ⊥
not-hushed none d star t p rest k h = h.0 k.0
not-hushed (idles v) d star t p rest k h = not-hushed v d star t p rest k h.1
not-hushed (notice v) d star t p rest k h = h.0 k.0

apart : (w : Setting) (c : Call) (es : List Event) (x y : Answer) → Closed w c es x → Silent w c es y → ⊥
apart w c es x y f s =
    not-hushed f.waits w.timing.p2 w.timing.star f.at x.reply f.rest f.paced
    (mathlib.Core.Path.subst (λ (l : List Event). Every (λ e. time_of e ≤ w.timing.p2 → IsIdle e) l) f.begins s.hush)

-- The closing reply has one outcome: a negative's code is its third byte, a positive's data what the call hands out of it.
closes-with : (w : Setting) (c : Call) {ts ts' : List ℕ} {p p' : Part} {o o' : Outcome} → Closing w c ts p o → Closing w c ts' p' o' → p ≡ p' → o ≡ o'
closes-with w c (by_negative {code = code} k e) (by_negative {code = code'} k' e') same =
    let bytes : 0x7f ∷ sid_of c ∷ code ∷ [] ≡ 0x7f ∷ sid_of c ∷ code' ∷ [] = sym e ∙ ap (λ (q : Part). q.bytes) same ∙ e' in
    ap negative (let z : code ≡ code' = cc in z)
closes-with w c (by_negative k e) (by_positive head d row hush e') same =
    absurd ((row_out 0 c head d row).no-refusal (ap (λ (l : List ℕ). get_or l 0 0) (sym e' ∙ ap (λ (q : Part). q.bytes) (sym same) ∙ e)))
closes-with w c (by_positive head d row hush e) (by_negative k e') same =
    absurd ((row_out 0 c head d row).no-refusal (ap (λ (l : List ℕ). get_or l 0 0) (sym e ∙ ap (λ (q : Part). q.bytes) same ∙ e')))
closes-with w c {p = p} {p' = p'} (by_positive head d row hush e) (by_positive head' d' row' hush' e') same =
    let one : handed c p ≡ part (p.at + length head) d = ap (λ (l : List ℕ). handed c (part p.at l)) e ∙ (row_out p.at c head d row).hands in
    let other : handed c p' ≡ part (p'.at + length head') d' = ap (λ (l : List ℕ). handed c (part p'.at l)) e' ∙ (row_out p'.at c head' d' row').hands in
    ap positive (sym one ∙ ap (handed c) same ∙ other)

same_answer : {x y : Answer} → x.outcome ≡ y.outcome → x.time ≡ y.time → x.events ≡ y.events → x.notices ≡ y.notices → x.reply ≡ y.reply → x ≡ y
same_answer o t e n p = λ i. answer (o i) (t i) (e i) (n i) (p i)

answers : (w : Setting) (c : Call) (es : List Event) (x y : Answer) → Conversation w c es x → Conversation w c es y → x ≡ y
answers w c es x y (inl f) (inl g) =
    let h = same-places w c es x y f g in
    same_answer (closes-with w c f.closes g.closes h.4)
    (f.time ∙ ap (λ (t : ℕ). cond (suppressing w c) (max t w.timing.p2) t) h.2 ∙ sym g.time)
    (f.events ∙ ap (λ (l : List Event). length l + 1) h.0 ∙ sym g.events)
    (f.notices ∙ ap (λ (l : List ℕ). length l) h.1 ∙ sym g.notices)
    h.4
answers w c es x y (inl f) (inr s) = absurd (apart w c es x y f s)
answers w c es x y (inr s) (inl f) = absurd (apart w c es y x f s)
answers w c es x y (inr s) (inr z) =
    same_answer (s.outcome ∙ sym z.outcome) (s.time ∙ sym z.time) (s.events ∙ sym z.events) (s.notices ∙ sym z.notices) (s.reply ∙ sym z.reply)

pub unique : Unique
unique = record { places = places; apart = apart; answers = answers }

pub witnessed : Witnessed
unfolding samples call within_limits entries_from exchange settle look checked
witnessed = record {
  negatives = λ w c. record {
    before = [];
    times = [];
    at = 0;
    rest = [];
    begins = refl;
    waits = none;
    paced = (omega arith, tt);
    closes = by_negative {code = 0x10} (λ e. omega arith) refl;
    time = refl;
    events = refl;
    notices = refl;
    patient = within-zero w.limit;
  };
  silences = λ w c e. record { asked = e; hush = tt; outcome = refl; time = refl; events = refl; notices = refl; reply = refl };
  positives = λ w c head d row one. record {
    before = reply 0 (part 0 (0x7f ∷ sid_of c ∷ 0x78 ∷ [])) ∷ [];
    times = 0 ∷ [];
    at = 0;
    rest = [];
    begins = refl;
    waits = notice none;
    paced = (omega arith, (omega arith, tt));
    closes = by_positive head d row (λ e n. mathlib.Core.List.cons≢nil n) refl;
    time = refl;
    events = refl;
    notices = refl;
    patient = one;
  };
  at_once = λ w c head d row loud. record {
    before = [];
    times = [];
    at = 0;
    rest = [];
    begins = refl;
    waits = none;
    paced = (omega arith, tt);
    closes = by_positive head d row (λ e. absurd (false≢true (sym loud ∙ e))) refl;
    time = rw loud refl;
    events = refl;
    notices = refl;
    patient = within-zero w.limit;
  };
  services = refl;
  answered = refl;
}
