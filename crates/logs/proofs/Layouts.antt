-- Laws of the layout: one test more, one event more, and the whole decision.
use Prim.Native.Nat.{ℕ, ◌+◌, ◌-◌, ◌≤◌, ◌<◌, zero, suc}
use native.Mathlib.Numerals.{add-one}
use native.Mathlib.Omega.{arith}
use mathlib.Core.Bool.{Bool, true, false, cond, ◌&&◌, ◌||◌, and-true}
use mathlib.Core.List.{List, [], ◌∷◌}
use mathlib.Core.Path.{◌≡◌, refl, sym, ap, ◌∙◌}
use borrow.Author.Tests.{lt-ltb, ne_eqb}
use lib.Dec.{leb, ltb, eqb}
use lib.ListN.{length, get_or, drop, drop_of_length-le}
use lib.Seq.{drop-cons}
use Rattle.rules.specs.Bytes.{every}
use Rattle.rules.specs.Events.{Form, entry_at, entries_from, entries}
use Rattle.rules.specs.Logs.{Header, header_size, form_in, all, areas_ok, event_ok, event_bytes, laid_out, data_of, flag, some?}
use Rattle.logs.specs.declared.header.Header as Code
use Rattle.logs.specs.Layout.{said, data_bytes}

pub all-turn : (l : List Bool) (i : ℕ) (b : Bool) → i < length l → get_or l i false ≡ b → all (drop i l) ≡ (b && all (drop (i + 1) l))
all-turn l i b h e = rw (drop-cons l i false h, add-one, e)

pub all_end : (l : List Bool) (i : ℕ) → length l ≤ i → all (drop i l) ≡ true
all_end l i h = rw (drop_of_length-le l h)

-- One test more, behind tests of which p says whether all passed.
pub all_more : (l : List Bool) (i : ℕ) (p q : Bool) → i < length l → (p && all (drop i l)) ≡ q → ((p && get_or l i false) && all (drop (i + 1) l)) ≡ q
all_more l i true q h e = sym (all-turn l i (get_or l i false) h refl) ∙ e
all_more l i false q h e = e

-- A number that is none of the first k.
abbrev pub NoneOf : ℕ → ℕ → Type 0
NoneOf zero c = Unit {0}
NoneOf (suc k) c = NoneOf k c × (c ≡ k → ⊥)

pub above : (c k : ℕ) → NoneOf k c → k ≤ c
above c zero n = omega arith
above c (suc k) n = omega (arith, above c k n.0, n.1)

pub event-turn : (form : Form) (bs : List ℕ) (i n : ℕ) (b : Bool) → i < n → event_ok (entry_at form bs i) ≡ b
    → every event_ok (entries_from form bs (n - i) i) ≡ (b && every event_ok (entries_from form bs (n - (i + 1)) (i + 1)))
unfolding entries_from
event-turn form bs i n b h e =
    let more : n - i ≡ suc (n - (i + 1)) = omega arith in
    rw (more, e, add-one)

pub events-end : (form : Form) (bs : List ℕ) (i n : ℕ) → n ≤ i → every event_ok (entries_from form bs (n - i) i) ≡ true
unfolding entries_from
events-end form bs i n h =
    let done : n - i ≡ 0 = omega arith in
    rw done

-- What was passed up to event i and what is left say what all do.
pub events-more : (form : Form) (bs : List ℕ) (i n : ℕ) (p b q : Bool) → i < n → b ≡ event_ok (entry_at form bs i)
    → (p && every event_ok (entries_from form bs (n - i) i)) ≡ q → ((p && b) && every event_ok (entries_from form bs (n - (i + 1)) (i + 1))) ≡ q
events-more form bs i n true b q h e k = sym (event-turn form bs i n b h (sym e)) ∙ k
events-more form bs i n false b q h e k = k

pub events-last : (form : Form) (bs : List ℕ) (i n : ℕ) (p q : Bool) → n ≤ i → (p && every event_ok (entries_from form bs (n - i) i)) ≡ q → p ≡ q
events-last form bs i n p q h k = sym (and-true p) ∙ sym (ap (λ (b : Bool). p && b) (events-end form bs i n h)) ∙ k

-- An event's unused fields, asked whatever its kind: a kind 3 has its number in place of a length.
pub none-used : (k o s : ℕ) → ((eqb k 0 || ltb 3 k) || (eqb o 0 && eqb (cond (eqb k 3) 0 s) 0)) ≡
    cond (eqb k 1 || eqb k 2) (eqb o 0 && eqb s 0) (cond (eqb k 3) (eqb o 0) true)
none-used zero o s = refl
none-used (suc zero) o s = refl
none-used (suc (suc zero)) o s = refl
none-used (suc (suc (suc zero))) o s = and-true (eqb o 0)
none-used (suc (suc (suc (suc k)))) o s =
    let n = suc (suc (suc (suc k))) in
    rw (lt-ltb 3 n (omega arith), ne_eqb n 0 (λ e. omega arith), ne_eqb n 1 (λ e. omega arith), ne_eqb n 2 (λ e. omega arith), ne_eqb n 3 (λ e. omega arith))

-- The whole decision, from what the parts of the header, the events and the areas told.
pub laid : (l bs : List ℕ) (h : Header) {form : Form} {n : ℕ} {t q r : Bool} → form ≡ form_in h → n ≡ header_size (form_in h) → t ≡ (eqb h.version 1 || eqb h.version 2)
    → q ≡ areas_ok h (length l) → bs ≡ event_bytes h l → r ≡ every event_ok (entries form bs) → all (leb n (length l) ∷ t ∷ leb h.call 15 ∷ q ∷ r ∷ []) ≡ laid_out h l
laid l bs h ef en et eq eb er = rw (en, et, eq, er, eb, ef)

pub data-bytes : (h : Header) (l : List ℕ) → data_of h l ≡ some? (eqb (flag 32 h) 1) (data_bytes h l)
data-bytes h l = refl

-- What a header says determines it.
pub said-once : (a b : Code.Header) → said a ≡ said b → a ≡ b
said-once a b e = λ i. record {
  version = (e i).version;
  call = (e i).call;
  flags = (e i).flags;
  value = (e i).value;
  sub = (e i).sub;
  address_length = (e i).address_length;
  size_length = (e i).size_length;
  listens = (e i).listens;
  arguments = (e i).arguments;
  arguments_at = (e i).arguments_at;
  events = (e i).events;
  events_at = (e i).events_at;
  replies = (e i).replies;
  replies_at = (e i).replies_at;
  total = (e i).total;
  p2 = (e i).p2;
  star = (e i).star;
  overall = (e i).overall;
}
