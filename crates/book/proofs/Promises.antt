-- What request Thirteen promises, of every answer that fits the contracts of `add`, `find` and `summarize`: at most one does.
use Prim.Native.Nat.{ℕ, ◌+◌}
use native.Mathlib.Omega.{arith}
use mathlib.Core.Bool.{Bool, true, false, cond}
use mathlib.Core.List.{List, [], ◌∷◌, ◌++◌}
use mathlib.Core.Path.{◌≡◌, refl, sym, ◌∙◌, ap, ap₂, subst}
use lib.Dec.{leb}
use lib.ListN.{length, take, drop}
use lib.Seq.{take_at}
use Rattle.rules.specs.Logs.{area}
use Rattle.wire.specs.Buffers.{with}
use Rattle.exchange.specs.declared.types.Place.{Place}
use Rattle.bookkeeping.specs.Layout.{logs_in}
use Rattle.bookkeeping.specs.Summary.{afresh, raised}
use Rattle.bookkeeping.specs.Book as bookkeeping
use Rattle.bookkeeping.specs.Book.{is_book, added_to}
use Rattle.bookkeeping.proofs.Books.{adding-gives-a-book}
use Rattle.bookkeeping.proofs.Counting.{raises}
use Rattle.bookkeeping.proofs.Finding as finding
use Rattle.std.specs.Prelude.{Result, Ok, Err}
use Rattle.wire.specs.Refusing.{refusal_number}
use Rattle.wire.specs.declared.refusal.Refusal.{Refusal}
use Rattle.wire.proofs.Refusals.{same-refusal}
use Rattle.book.specs.declared.BookError.{BookError}
use Rattle.book.specs.declared.BookError.TheVariants.{Refused, NoRoom}
use Rattle.book.specs.declared.Entry.{Entry}
use Rattle.book.specs.Answered as answered
use Rattle.book.specs.Answered.{Finds, Why, why, entry_of, added_of, answered, left, counts, Adds, summed_of, Sums}

never : {P : Type 0} → ◌≡◌ {A = ℕ} 0 1 → P
never e = absurd (omega arith)

-- What an answer of `add` means.
abbrev Told : Type 0
Told = Result (ℕ × bookkeeping.Added) Why

-- The code's answer is determined by what it means.
same-entry : (a b : Entry) → entry_of a ≡ entry_of b → a ≡ b
same-entry a b e =
    let call : a.call ≡ b.call = ap (λ (x : bookkeeping.Added). x.call) e in
    let number : a.number ≡ b.number = ap (λ (x : bookkeeping.Added). x.number) e in
    let place : a.place ≡ b.place = ap (λ (x : bookkeeping.Added). x.place) e in
    λ i. record { call = call i; number = number i; place = place i }

same-why : (x y : BookError) → why x ≡ why y → x ≡ y
same-why (Refused r) (Refused s) e = let number : refusal_number r ≡ refusal_number s = cc in ap Refused (same-refusal r s number)
same-why (Refused r) NoRoom e = never (cc)
same-why NoRoom (Refused s) e = never (cc)
same-why NoRoom NoRoom e = refl

same-added : (a b : Result (ℕ × Entry) BookError) → added_of a ≡ added_of b → a ≡ b
same-added (Ok (n, x)) (Ok (m, y)) e =
    let both : ◌≡◌ {A = ℕ × bookkeeping.Added} (n, entry_of x) (m, entry_of y) = cc in
    let long : n ≡ m = ap (λ (t : ℕ × bookkeeping.Added). t.0) both in
    let entry = same-entry x y (ap (λ (t : ℕ × bookkeeping.Added). t.1) both) in
    λ i. Ok (long i, entry i)
same-added (Ok (n, x)) (Err v) e = never (cc)
same-added (Err u) (Ok (m, y)) e = never (cc)
same-added (Err u) (Err v) e = let same : why u ≡ why v = cc in ap Err (same-why u v same)

same-summed : (a b : Result (Unit {0}) BookError) → summed_of a ≡ summed_of b → a ≡ b
same-summed (Ok x) (Ok y) e = refl
same-summed (Ok x) (Err v) e = never (cc)
same-summed (Err u) (Ok y) e = never (cc)
same-summed (Err u) (Err v) e = let same : why u ≡ why v = cc in ap Err (same-why u v same)

-- At most one answer, buffer and summary fit the contract of `add`.
pub added-once : (b log buffer summary : List ℕ) (r r' : Result (ℕ × Entry) BookError) (z z' s s' : List ℕ)
    → Adds b log buffer summary r z s → Adds b log buffer summary r' z' s' → (r ≡ r') × (z ≡ z') × (s ≡ s')
added-once b log buffer summary r r' z z' s s' p q =
    (same-added r r' (p.answer ∙ sym q.answer), p.book ∙ sym q.book, p.summary-is ∙ sym q.summary-is)

pub summed-once : (b before : List ℕ) (r r' : Result (Unit {0}) BookError) (s s' : List ℕ) → Sums b before r s → Sums b before r' s' → (r ≡ r') × (s ≡ s')
summed-once b before r r' s s' p q = (same-summed r r' (p.answer ∙ sym q.answer), p.summary ∙ sym q.summary)

pub found-once : (b : List ℕ) (c k : ℕ) (r r' : Result Place Refusal) → Finds b c k r → Finds b c k r' → r ≡ r'
found-once b c k (Ok p) (Ok q) x y =
    let at : p.at ≡ q.at = x.place.0 ∙ sym y.place.0 in
    let bytes : area b p.at p.len ≡ area b q.at q.len = let same = x.answer ∙ sym y.answer in cc in
    let len : p.len ≡ q.len = x.place.1 ∙ ap (λ (l : List ℕ). length l) bytes ∙ sym y.place.1 in
    λ i. Ok (record { at = at i; len = len i })
found-once b c k (Ok p) (Err m) x y = let same = x.answer ∙ sym y.answer in never (cc)
found-once b c k (Err n) (Ok q) x y = let same = x.answer ∙ sym y.answer in never (cc)
found-once b c k (Err n) (Err m) x y =
    let same = x.answer ∙ sym y.answer in
    let number : refusal_number n ≡ refusal_number m = cc in
    ap Err (same-refusal n m number)

module _ (b log buffer summary z s : List ℕ) where
  -- "the book unchanged", and the summary.
  pub untouched : (r : Refusal) → Adds b log buffer summary (Err (Refused r)) z s
      → (bookkeeping.add b log ≡ bookkeeping.refused (refusal_number r)) × (z ≡ buffer) × (s ≡ summary)
  untouched r p = go (bookkeeping.add b log) refl p.answer p.book p.summary-is
    where
      n : ℕ
      n = refusal_number r

      go : (a : bookkeeping.Answer) → bookkeeping.add b log ≡ a → Err (answered.refused n) ≡ answered a (added_to b log) (length buffer) → z ≡ left a buffer
          → s ≡ counts a log (length buffer) summary → (bookkeeping.add b log ≡ bookkeeping.refused n) × (z ≡ buffer) × (s ≡ summary)
      go (bookkeeping.refused k) is e q t = (let same : k ≡ n = cc in is ∙ ap bookkeeping.refused same, q, t)
      go (bookkeeping.gives new) is e q t = by-room (leb (length new) (length buffer)) e
        where
          by-room : {P : Type 0} (t : Bool) → ◌≡◌ {A = Told} (Err (answered.refused n)) (cond t (Ok (length new, added_to b log)) (Err answered.no_room)) → P
          by-room true e = never (cc)
          by-room false e = never (cc)

  -- The longer book stands at the buffer's front, the log is told as it is found, and its counter is raised.
  pub record Stands (m : ℕ) (e : Entry) : Type 0 where
    pub is : bookkeeping.add b log ≡ bookkeeping.gives (take m z)
    pub told : entry_of e ≡ added_to b log
    pub counted : s ≡ raised summary log

  pub stands : (m : ℕ) (e : Entry) → Adds b log buffer summary (Ok (m, e)) z s → Stands m e
  unfolding with
  stands m e p = go (bookkeeping.add b log) refl p.answer p.book p.summary-is
    where
      there : (new : List ℕ) → bookkeeping.add b log ≡ bookkeeping.gives new → (t : Bool) → leb (length new) (length buffer) ≡ t
          → ◌≡◌ {A = Told} (Ok (m, entry_of e)) (cond t (Ok (length new, added_to b log)) (Err answered.no_room)) → z ≡ with buffer 0 new
          → s ≡ cond t (raised summary log) summary → Stands m e
      there new is true fits a q t =
          let both : ◌≡◌ {A = ℕ × bookkeeping.Added} (m, entry_of e) (length new, added_to b log) = cc in
          let long : m ≡ length new = ap (λ (t : ℕ × bookkeeping.Added). t.0) both in
          let told : entry_of e ≡ added_to b log = ap (λ (t : ℕ × bookkeeping.Added). t.1) both in
          let zero : 0 + length new ≡ length new = omega arith in
          let put : z ≡ new ++ drop (length new) buffer = q ∙ rw (zero, fits) in
          let front : take m z ≡ new = ap₂ take long put ∙ take_at new (drop (length new) buffer) (length new) refl in
          record { is = is ∙ ap bookkeeping.gives (sym front); told = told; counted = t }
      there new is false fits a q t = never (cc)

      go : (x : bookkeeping.Answer) → bookkeeping.add b log ≡ x → ◌≡◌ {A = Told} (Ok (m, entry_of e)) (answered x (added_to b log) (length buffer)) → z ≡ left x buffer
          → s ≡ counts x log (length buffer) summary → Stands m e
      go (bookkeeping.refused n) is a q t = never (cc)
      go (bookkeeping.gives new) is a q t = there new is (leb (length new) (length buffer)) refl a q t

  -- Without room nothing changes either.
  pub no_room_lem : Adds b log buffer summary (Err NoRoom) z s → (z ≡ buffer) × (s ≡ summary)
  unfolding with
  no_room_lem p = go (bookkeeping.add b log) p.answer p.book p.summary-is
    where
      by-room : (new : List ℕ) (t : Bool) → leb (length new) (length buffer) ≡ t → ◌≡◌ {A = Told} (Err answered.no_room) (cond t (Ok (length new, added_to b log)) (Err answered.no_room))
          → z ≡ with buffer 0 new → s ≡ cond t (raised summary log) summary → (z ≡ buffer) × (s ≡ summary)
      by-room new true f a q t = never (cc)
      by-room new false f a q t = let zero : 0 + length new ≡ length new = omega arith in (q ∙ rw (zero, f), t)

      go : (x : bookkeeping.Answer) → Err answered.no_room ≡ answered x (added_to b log) (length buffer) → z ≡ left x buffer → s ≡ counts x log (length buffer) summary
          → (z ≡ buffer) × (s ≡ summary)
      go (bookkeeping.refused n) a q t = never (cc)
      go (bookkeeping.gives new) a q t = by-room new (leb (length new) (length buffer)) refl a q t

-- A buffer, how many bytes at its front are the book, and the counters beside it.
pub record State : Type 0 where
  pub buffer : List ℕ
  pub long : ℕ
  pub summary : List ℕ

abbrev pub book : State → List ℕ
book x = take x.long x.buffer

-- How many they are after an answer of `add`.
abbrev pub long_after : Result (ℕ × Entry) BookError → ℕ → ℕ
long_after (Ok (m, e)) n = m
long_after (Err x) n = n

-- A log that is handed over, and what `add` answered and left.
pub record Step : Type 0 where
  pub log : List ℕ
  pub answer : Result (ℕ × Entry) BookError
  pub buffer : List ℕ
  pub summary : List ℕ

abbrev pub after : State → Step → State
after x t = record { buffer = t.buffer; long = long_after t.answer x.long; summary = t.summary }

-- Any sequence of additions, whatever was answered to each; and where it ends.
abbrev pub Ran : State → List Step → Type 0
Ran x [] = Unit {0}
Ran x (t ∷ ts) = Adds (book x) t.log x.buffer x.summary t.answer t.buffer t.summary × Ran (after x t) ts

abbrev pub last : State → List Step → State
last x [] = x
last x (t ∷ ts) = last (after x t) ts

-- A book with the summary beside it that is worked out afresh.
pub record Right (x : State) : Type 0 where
  pub is : is_book (book x) ≡ true
  pub summary : x.summary ≡ afresh (logs_in (book x))

one : (y : State) (log : List ℕ) (r : Result (ℕ × Entry) BookError) (buffer summary : List ℕ) → Right y → Adds (book y) log y.buffer y.summary r buffer summary
    → Right (record { buffer = buffer; long = long_after r y.long; summary = summary })
one y log (Ok (m, e)) buffer summary k p =
    let s = stands (book y) log y.buffer y.summary buffer summary m e p in
    record {
      is = (adding-gives-a-book (book y) log (take m buffer) s.is).0;
      summary = s.counted ∙ ap (λ (t : List ℕ). raised t log) k.summary ∙ raises (book y) log (take m buffer) k.is s.is;
    }
one y log (Err (Refused r)) buffer summary k p =
    let u = untouched (book y) log y.buffer y.summary buffer summary r p in
    let same : take y.long y.buffer ≡ take y.long buffer = ap (take y.long) (sym u.1) in
    record { is = subst (λ (b : List ℕ). is_book b ≡ true) same k.is; summary = u.2 ∙ k.summary ∙ ap (λ (b : List ℕ). afresh (logs_in b)) same }
one y log (Err NoRoom) buffer summary k p =
    let u = no_room_lem (book y) log y.buffer y.summary buffer summary p in
    let same : take y.long y.buffer ≡ take y.long buffer = ap (take y.long) (sym u.0) in
    record { is = subst (λ (b : List ℕ). is_book b ≡ true) same k.is; summary = u.1 ∙ k.summary ∙ ap (λ (b : List ℕ). afresh (logs_in b)) same }

-- "it always equals one worked out afresh"
pub summary-stays : (x : State) (ts : List Step) → Ran x ts → Right x → Right (last x ts)
summary-stays x [] p k = k
summary-stays x (t ∷ ts) p k = summary-stays (after x t) ts p.1 (one x t.log t.answer t.buffer t.summary k p.0)

-- What was just added is found where it was told, and what was found before is found as before: of the bytes that stand in the buffer.
pub finds-the-new : (b log buffer summary z s : List ℕ) (m : ℕ) (e : Entry) → Adds b log buffer summary (Ok (m, e)) z s
    → bookkeeping.find (take m z) e.call e.number ≡ bookkeeping.gives log
finds-the-new b log buffer summary z s m e p =
    let k = stands b log buffer summary z s m e p in
    ap₂ (λ (c n : ℕ). bookkeeping.find (take m z) c n) (ap (λ (x : bookkeeping.Added). x.call) k.told) (ap (λ (x : bookkeeping.Added). x.number) k.told) ∙
    finding.finds-the-new b log (take m z) k.is

pub finds-the-old : (b log buffer summary z s : List ℕ) (m : ℕ) (e : Entry) → Adds b log buffer summary (Ok (m, e)) z s
    → (c k : ℕ) (x : List ℕ) → bookkeeping.find b c k ≡ bookkeeping.gives x → bookkeeping.find (take m z) c k ≡ bookkeeping.gives x
finds-the-old b log buffer summary z s m e p = finding.finds-the-old b log (take m z) (stands b log buffer summary z s m e p).is

-- The place that `find` tells holds that log.
pub finds-that-log : (b : List ℕ) (c k : ℕ) (p : Place) → Finds b c k (Ok p) → bookkeeping.find b c k ≡ bookkeeping.gives (area b p.at p.len)
finds-that-log b c k p f = sym f.answer
