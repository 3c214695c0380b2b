-- Laws of finding and of the summary, by a walk through the logs of a book.
use Rattle.std.specs.List.{count_by}
use Rattle.std.proofs.lemmas.List.Recursion.{is_count_by}
use Prim.Native.Nat.{ℕ, zero, suc, ◌+◌, ◌-◌, ◌<◌}
use native.Mathlib.Omega.{arith}
use mathlib.Core.Bool.{Bool, true, false, cond}
use mathlib.Core.List.{List, [], ◌∷◌, ◌++◌, append_assoc}
use mathlib.Core.Path.{◌≡◌, refl, sym, ◌∙◌, ap}
use lib.Dec.{ltb, eqb}
use lib.ListN.{length, get_or, drop, replicate, length-append}
use lib.Seq.{drop_at, drop-drop}
use borrow.Author.Tests.{eq-eqb, ne_eqb, lt-ltb, le-ltb, ltb-true, ltb-false}
use Rattle.rules.specs.Bytes.{u16_at, every}
use Rattle.rules.specs.InOrder.{unless, judge}
use Rattle.rules.specs.Logs.{layout_ok}
use Rattle.bookkeeping.specs.Layout.{call_byte, joined, directory, start, header, logs_in}
use Rattle.bookkeeping.specs.Book.{is_book, of_call, Answer, refused, gives, find, summary}
use Rattle.bookkeeping.specs.Summary.{afresh}
use Rattle.bookkeeping.proofs.Books.{opened}
use Rattle.bookkeeping.proofs.Counting.{raised_all, zeros, one_by_one, few-logs}
use Rattle.bookkeeping.proofs.Layouts.{length-directory, length-book}
use Rattle.book_layout.proofs.Walks.{as_many}
use Rattle.book.specs.Answered.{stands_at}

module _ (b : List ℕ) where
  pub no_book : (c k : ℕ) → is_book b ≡ false → find b c k ≡ refused 25
  unfolding find
  no_book c k h = rw h

  pub no_summary : is_book b ≡ false → summary b ≡ refused 25
  unfolding summary
  no_summary h = rw h

  pub sums : is_book b ≡ true → summary b ≡ gives (afresh (logs_in b))
  unfolding summary
  sums h = rw h

  -- The logs of a book are all that is behind its directory.
  module _ (is : is_book b ≡ true) where
    counted : length (logs_in b) ≡ u16_at b 4
    counted = as_many (drop 20 b) (u16_at b 4) (drop (start (u16_at b 4)) b)

    pub behind : joined (logs_in b) ≡ drop (start (u16_at b 4)) b
    behind =
        let ls = logs_in b in
        let n = length ls in
        let front = header n (length (joined ls)) ++ directory (start n) ls in
        let long : length front ≡ start n = omega (arith, length-append (header n (length (joined ls))) (directory (start n) ls), length-directory (start n) ls) in
        sym (drop_at front (joined ls) (start n) long) ∙
        ap (drop (start n)) (append_assoc (header n (length (joined ls))) (directory (start n) ls) (joined ls) ∙ (opened b is).is) ∙
        ap (λ (m : ℕ). drop (start m) b) counted

    pub whole : start (u16_at b 4) + length (joined (logs_in b)) ≡ length b
    whole =
        ap (λ (m : ℕ). start m + length (joined (logs_in b))) (sym counted) ∙
        sym (length-book (logs_in b)) ∙
        ap (λ (x : List ℕ). length x) (opened b is).is

-- The logs of a call, as they are counted.
pub by_call : (c : ℕ) (ls : List (List ℕ)) → length (of_call c ls) ≡ count_by (λ (l : List ℕ). eqb (call_byte l) c) ls
by_call c ls =
    is_count_by (λ (xs : List (List ℕ)). length (of_call c xs)) (λ (l : List ℕ). eqb (call_byte l) c) refl
    (λ l xs. one (eqb (call_byte l) c) l (of_call c xs)) ls
  where
    one : (t : Bool) (l : List ℕ) (xs : List (List ℕ)) → length (cond t (l ∷ xs) xs) ≡ cond t (1 + length xs) (length xs)
    one true l xs = omega arith
    one false l xs = refl

-- The k-th log of a call, or none.
abbrev pub nth : ℕ → ℕ → List (List ℕ) → Answer
nth c k ls = judge refused (unless (ltb k (length (of_call c ls))) 24 ∷ []) (gives (get_or (of_call c ls) k []))

pub finds : (b : List ℕ) (c k : ℕ) → is_book b ≡ true → nth c k (logs_in b) ≡ find b c k
unfolding find
finds b c k h = rw h

pub finds-none : (c k : ℕ) → nth c k [] ≡ refused 24
finds-none c k = rw (le-ltb k 0 (omega arith))

ltb-suc : (k n : ℕ) → ltb (suc k) (suc n) ≡ ltb k n
ltb-suc k n = go (ltb k n) refl
  where
    go : (t : Bool) → ltb k n ≡ t → ltb (suc k) (suc n) ≡ ltb k n
    go true q = lt-ltb (suc k) (suc n) (omega (arith, ltb-true k n q)) ∙ sym q
    go false q = le-ltb (suc k) (suc n) (omega (arith, ltb-false k n q)) ∙ sym q

-- A log in front of others, by whether it is of the call: what is sought among those behind it, and where it stands.
module _ (c k : ℕ) (l : List ℕ) (ls : List (List ℕ)) (at : ℕ) where
  pub passed : (call_byte l ≡ c → ⊥) → (nth c k (l ∷ ls) ≡ nth c k ls) × (stands_at c k at (l ∷ ls) ≡ stands_at c k (at + length l) ls)
  passed other = go k
    where
      e : eqb (call_byte l) c ≡ false
      e = ne_eqb (call_byte l) c other

      go : (j : ℕ) → (nth c j (l ∷ ls) ≡ nth c j ls) × (stands_at c j at (l ∷ ls) ≡ stands_at c j (at + length l) ls)
      go zero = (rw e, rw e)
      go (suc j) = (rw e, rw e)

  pub one_less : call_byte l ≡ c → 0 < k → (nth c k (l ∷ ls) ≡ nth c (k - 1) ls) × (stands_at c k at (l ∷ ls) ≡ stands_at c (k - 1) (at + length l) ls)
  one_less this h = go k h
    where
      e : eqb (call_byte l) c ≡ true
      e = eq-eqb (call_byte l) c this

      go : (j : ℕ) → 0 < j → (nth c j (l ∷ ls) ≡ nth c (j - 1) ls) × (stands_at c j at (l ∷ ls) ≡ stands_at c (j - 1) (at + length l) ls)
      go zero z = absurd (omega (arith, z))
      go (suc j) z =
          let less : j ≡ suc j - 1 = omega arith in
          let one : nth c (suc j) (l ∷ ls) ≡ nth c j ls = rw (e, ltb-suc j (length (of_call c ls))) in
          let there : stands_at c (suc j) at (l ∷ ls) ≡ stands_at c j (at + length l) ls = rw e in
          (one ∙ ap (λ (m : ℕ). nth c m ls) less, there ∙ ap (λ (m : ℕ). stands_at c m (at + length l) ls) less)

-- What is behind it in the book.
pub next-behind : (b : List ℕ) (at : ℕ) (l : List ℕ) (ls : List (List ℕ)) → joined (l ∷ ls) ≡ drop at b → joined ls ≡ drop (at + length l) b
next-behind b at l ls e = sym (drop_at l (joined ls) (length l) refl) ∙ ap (drop (length l)) e ∙ drop-drop (length l) at b

-- The logs of a book, counted one by one from zeros on.
module _ (b : List ℕ) (is : is_book b ≡ true) where
  pub all_sound : every layout_ok (logs_in b) ≡ true
  all_sound = (opened b is).sound

  pub from_zeros : raised_all (replicate 4176 0) (logs_in b) ≡ afresh (logs_in b)
  from_zeros =
      ap (λ (s : List ℕ). raised_all s (logs_in b)) (sym (zeros 4176 0)) ∙ one_by_one (logs_in b) (omega (arith, few-logs b (opened b is)))
