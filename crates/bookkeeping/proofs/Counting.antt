-- The summary that is kept is the one worked out afresh: at most 1,489 logs fit in a book, so that no counter gets to its largest number.
use Prim.Native.Nat.{ℕ, zero, suc, ◌+◌, ◌-◌, ◌*◌, ◌≤◌, ◌<◌}
use native.Mathlib.Nat.{add-zero, add-suc, suc-add, zero-add}
use native.Mathlib.Omega.{arith}
use mathlib.Core.Bool.{Bool, true, false, cond}
use mathlib.Core.List.{List, [], ◌∷◌, ◌++◌, append-nil}
use mathlib.Core.Logic.{◌≢◌}
use mathlib.Core.Path.{◌≡◌, refl, sym, ◌∙◌, ap, subst}
use lib.Dec.{leb, eqb}
use lib.ListN.{length, get_or, set, length-set, length-append, replicate}
use lib.Seq.{append_snoc, ext_get_or, get_or-set_same, get_or-set_other}
use borrow.Author.Tests.{eqb-true, eqb-false, leb-true, leb-false, lt-ltb, ne_eqb}
use Rattle.rules.specs.Bytes.{every}
use Rattle.rules.specs.Events.{Form, plain, addressed}
use Rattle.rules.specs.Logs.{header_size, form_in, header_of, laid_out, layout_ok, fields_ok, uses_of}
use Rattle.rules.proofs.Judging.{both}
use Rattle.bookkeeping.specs.Layout.{joined, logs_in}
use Rattle.bookkeeping.specs.Book.{is_book, Answer, refused, gives, add, Kept, kept, after, adding, adding_all}
use Rattle.bookkeeping.specs.Summary.{suppressed, timed_out, deviating, other, slot, class_at, place_of, count, tally, afresh, more, raised}
use Rattle.bookkeeping.specs.Promises.{SummaryStays, CountersFit, SaysItsClass}
use Rattle.bookkeeping.proofs.Books.{Book, opened, adding-gives-a-book}
use Rattle.bookkeeping.proofs.Layouts.{length-book}

count-append : (i : ℕ) (ls : List (List ℕ)) (l : List ℕ) → count i (ls ++ (l ∷ [])) ≡ count i ls + cond (eqb (place_of l) i) 1 0
count-append i [] l = omega arith
count-append i (x ∷ ls) l = omega (arith, count-append i ls l)

count-few : (i : ℕ) (ls : List (List ℕ)) → count i ls ≤ length ls
count-few i [] = omega arith
count-few i (l ∷ ls) = go (eqb (place_of l) i) (count-few i ls)
  where
    go : (t : Bool) → count i ls ≤ length ls → cond t 1 0 + count i ls ≤ suc (length ls)
    go true h = omega arith
    go false h = omega arith

length-tally : (ls : List (List ℕ)) (n i : ℕ) → length (tally ls n i) ≡ n
unfolding tally
length-tally ls zero i = refl
length-tally ls (suc n) i = ap suc (length-tally ls n (suc i))

tally-at : (ls : List (List ℕ)) (n i j : ℕ) → j < n → get_or (tally ls n i) j 0 ≡ count (i + j) ls
unfolding tally
tally-at ls zero i j h = absurd (omega arith)
tally-at ls (suc n) i zero h = rw (add-zero i)
tally-at ls (suc n) i (suc j) h = rw (add-suc i j, ← (suc-add i j)) (tally-at ls n (suc i) j (omega arith))

pub length-afresh : (ls : List (List ℕ)) → length (afresh ls) ≡ 4176
length-afresh ls = length-tally ls 4176 0

pub afresh-at : (ls : List (List ℕ)) (i : ℕ) → i < 4176 → get_or (afresh ls) i 0 ≡ count i ls
afresh-at ls i h = rw (zero-add i) at (tally-at ls 4176 0 i h)

-- One log more raises its counter, and no other.
pub one_more : (ls : List (List ℕ)) (l : List ℕ) → length ls < 65535 → afresh (ls ++ (l ∷ [])) ≡ raised (afresh ls) l
one_more ls l few =
    ext_get_or 0 (afresh (ls ++ (l ∷ []))) (raised s l)
    (length-afresh (ls ++ (l ∷ [])) ∙ sym (length-set s p (more (get_or s p 0)) ∙ length-afresh ls))
    (λ i h. at i (rw (length-afresh (ls ++ (l ∷ []))) at h))
  where
    s : List ℕ
    s = afresh ls

    p : ℕ
    p = place_of l

    raise : (i : ℕ) → i < 4176 → more (get_or s i 0) ≡ count i ls + 1
    raise i h = rw (afresh-at ls i h, lt-ltb (count i ls) 65535 (omega (arith, few, count-few i ls)))

    go : (i : ℕ) → i < 4176 → (b : Bool) → eqb p i ≡ b → count i ls + cond b 1 0 ≡ get_or (set s p (more (get_or s p 0))) i 0
    go i h true e =
        let q : p ≡ i = eqb-true p i e in
        subst (λ (x : ℕ). count x ls + 1 ≡ get_or (set s p (more (get_or s p 0))) x 0) q
        (sym (get_or-set_same s p (more (get_or s p 0)) 0 (omega (arith, length-afresh ls)) ∙ raise p (omega arith)))
    go i h false e =
        let q : p ≢ i = eqb-false p i e in
        omega (arith, get_or-set_other s p i (more (get_or s p 0)) 0 (λ z. q (sym z)), afresh-at ls i h)

    at : (i : ℕ) → i < 4176 → get_or (afresh (ls ++ (l ∷ []))) i 0 ≡ get_or (set s p (more (get_or s p 0))) i 0
    at i h = afresh-at (ls ++ (l ∷ [])) i h ∙ count-append i ls l ∙ go i h (eqb p i) refl

-- The logs one by one.
abbrev pub raised_all : List ℕ → List (List ℕ) → List ℕ
raised_all s [] = s
raised_all s (l ∷ ls) = raised_all (raised s l) ls

behind : (done ls : List (List ℕ)) → length done + length ls < 65535 → raised_all (afresh done) ls ≡ afresh (done ++ ls)
behind done [] h = ap afresh (sym (append-nil done))
behind done (l ∷ ls) h =
    let snoc : done ++ (l ∷ []) ++ ls ≡ done ++ (l ∷ ls) = append_snoc done l ls in
    ap (λ (s : List ℕ). raised_all s ls) (sym (one_more done l (omega arith))) ∙
    behind (done ++ (l ∷ [])) ls (omega (arith, length-append done (l ∷ []))) ∙
    ap afresh snoc

-- Counters of no logs are zeros.
pub zeros : (n i : ℕ) → tally [] n i ≡ replicate n 0
unfolding tally
zeros zero i = refl
zeros (suc n) i = ap (λ (l : List ℕ). 0 ∷ l) (zeros n (suc i))

pub one_by_one : (ls : List (List ℕ)) → length ls < 65535 → raised_all (afresh []) ls ≡ afresh ls
one_by_one ls h = behind [] ls (omega arith)

-- A log has a header.
pub has-header : (l : List ℕ) → layout_ok l ≡ true → 36 ≤ length l
unfolding layout_ok
has-header l h =
    let laid = (both (laid_out (header_of l) l) (fields_ok (header_of l) (uses_of (header_of l).call)) h).0 in
    let size = header_size (form_in (header_of l)) in
    omega (arith, leb-true size (length l) (both (leb size (length l)) _ laid).0, least (form_in (header_of l)))
  where
    least : (form : Form) → 36 ≤ header_size form
    least plain = omega arith
    least addressed = omega arith

long : (ls : List (List ℕ)) → every layout_ok ls ≡ true → length ls * 36 ≤ length (joined ls)
long [] h = omega arith
long (l ∷ ls) h =
    let z = both (layout_ok l) (every layout_ok ls) h in
    omega (arith, has-header l z.0, long ls z.1, length-append l (joined ls))

pub few-logs : (b : List ℕ) → Book b → length (logs_in b) ≤ 1489
few-logs b k = omega (arith, long (logs_in b) k.sound, length-book (logs_in b), ap (λ (x : List ℕ). length x) k.is, k.fits)

pub counters-fit : CountersFit
counters-fit b h = (few-logs b (opened b h), λ i. omega (arith, few-logs b (opened b h), count-few i (logs_in b)))

-- The summary of the longer book is the raised one.
pub raises : (b log new : List ℕ) → is_book b ≡ true → add b log ≡ gives new → raised (afresh (logs_in b)) log ≡ afresh (logs_in new)
raises b log new h e =
    sym (one_more (logs_in b) log (omega (arith, few-logs b (opened b h)))) ∙ ap afresh (sym (adding-gives-a-book b log new e).1)

-- A book with the summary that is worked out afresh beside it.
abbrev Right : Kept → Type 0
Right x = (is_book x.book ≡ true) × (x.summary ≡ afresh (logs_in x.book))

stays : (x : Kept) (log : List ℕ) → Right x → Right (adding x log)
stays x log r = go (add x.book log) refl
  where
    go : (a : Answer) → add x.book log ≡ a → Right (after a x log)
    go (refused n) e = r
    go (gives new) e = (
      (adding-gives-a-book x.book log new e).0,
      ap (λ (s : List ℕ). raised s log) r.1 ∙ raises x.book log new r.0 e,
    )

all_stay : (x : Kept) (logs : List (List ℕ)) → Right x → Right (adding_all x logs)
all_stay x [] r = r
all_stay x (log ∷ logs) r = all_stay (adding x log) logs (stays x log r)

pub summary-stays : SummaryStays
summary-stays b logs h = all_stay (kept b (afresh (logs_in b))) logs (h, refl)

pub says-its-class : SaysItsClass
says-its-class zero h = refl
says-its-class (suc i) h = go (leb (suc i) 256) refl
  where
    some : eqb (suc i) 0 ≡ false
    some = ne_eqb (suc i) 0 (λ z. omega arith)

    last : (n : ℕ) → n ≡ suc i - 257 → 256 < suc i → slot (get_or (suppressed ∷ timed_out ∷ deviating ∷ []) n other) ≡ suc i
    last zero e k = omega arith
    last (suc zero) e k = omega arith
    last (suc (suc zero)) e k = omega arith
    last (suc (suc (suc n))) e k = omega arith

    go : (t : Bool) → leb (suc i) 256 ≡ t → slot (class_at (suc i)) ≡ suc i
    go true e = rw (some, e) (omega arith)
    go false e = rw (some, e) (last (suc i - 257) refl (leb-false (suc i) 256 e))
