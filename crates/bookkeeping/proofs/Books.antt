-- What is a book, and that adding gives one.
use Prim.Native.Nat.{ℕ, ◌+◌, ◌*◌, ◌≤◌}
use native.Mathlib.Omega.{arith}
use mathlib.Core.Bool.{Bool, true, ◌&&◌}
use mathlib.Core.List.{List, [], ◌∷◌, ◌++◌}
use mathlib.Core.Path.{◌≡◌, refl, sym, ◌∙◌, ap, subst, subst⁻¹}
use lib.Dec.{leb}
use lib.ListN.{length}
use borrow.Author.Tests.{leb-true, le-leb, lt-leb}
use Rattle.rules.specs.Bytes.{every, same}
use Rattle.rules.specs.Logs.{layout_ok}
use Rattle.rules.proofs.Judging.{both, judge-inv}
use Rattle.rules.proofs.Opened.{same_true, same_self}
use Rattle.bookkeeping.specs.Layout.{book_of, logs_in}
use Rattle.bookkeeping.specs.Book.{is_book, Answer, refused, gives, addable, add}
use Rattle.bookkeeping.specs.Promises.{WhatABookIs, AddingGivesABook, Filled}
use Rattle.bookkeeping.proofs.Layouts.{reads-back, length-longer}

every_append : {A : Type 0} (p : A → Bool) (xs ys : List A) → every p xs ≡ true → every p ys ≡ true → every p (xs ++ ys) ≡ true
every_append p [] ys h k = k
every_append p (x ∷ xs) ys h k = let z = both (p x) (every p xs) h in rw z.0 (every_append p xs ys z.1 k)

-- The parts of the test.
pub record Book (b : List ℕ) : Type 0 where
  pub sound : every layout_ok (logs_in b) ≡ true
  pub is : book_of (logs_in b) ≡ b
  pub fits : length b ≤ 65536

pub opened : (b : List ℕ) → is_book b ≡ true → Book b
unfolding is_book
opened b h =
    let x = both (every layout_ok (logs_in b) && same (book_of (logs_in b)) b) (leb (length b) 65536) h in
    let y = both (every layout_ok (logs_in b)) (same (book_of (logs_in b)) b) x.0 in
    record { sound = y.0; is = same_true (book_of (logs_in b)) b y.1; fits = leb-true (length b) 65536 x.1 }

pub written : (ls : List (List ℕ)) → every layout_ok ls ≡ true → length (book_of ls) ≤ 65536 → is_book (book_of ls) ≡ true
unfolding is_book
written ls h n =
    let b = book_of ls in
    let front : every layout_ok (logs_in b) ≡ true = subst⁻¹ (λ (x : List (List ℕ)). every layout_ok x ≡ true) (reads-back ls) h in
    let back : same (book_of (logs_in b)) b ≡ true = subst⁻¹ (λ (x : List (List ℕ)). same (book_of x) b ≡ true) (reads-back ls) (same_self b) in
    join (every layout_ok (logs_in b)) (same (book_of (logs_in b)) b) (leb (length b) 65536) front back (le-leb (length b) 65536 n)
  where
    join : (a b c : Bool) → a ≡ true → b ≡ true → c ≡ true → (a && b && c) ≡ true
    join a b c x y z = rw (x, y, z)

-- What an addition comes of.
pub record Came (b log new : List ℕ) : Type 0 where
  pub book : Book b
  pub sound : layout_ok log ≡ true
  pub room : length b + 8 + length log ≤ 65536
  pub is : book_of (logs_in b ++ (log ∷ [])) ≡ new

pub came : (b log new : List ℕ) → add b log ≡ gives new → Came b log new
unfolding add
came b log new e =
    let p = judge-inv refused (addable b log) {x = gives (book_of (logs_in b ++ (log ∷ [])))} {y = gives new} never e in
    record {
      book = opened b p.0.0;
      sound = p.0.1.0;
      room = leb-true (length b + 8 + length log) 65536 p.0.1.1.0;
      is = same_gives (book_of (logs_in b ++ (log ∷ []))) p.1;
    }
  where
    never : (f : ℕ) → refused f ≡ gives new → ⊥
    never f z = let y : ◌≡◌ {A = ℕ} 0 1 = cc in omega arith

    same_gives : (x : List ℕ) → gives x ≡ gives new → x ≡ new
    same_gives x z = cc

pub longer : (b log : List ℕ) → Book b → layout_ok log ≡ true → length b + 8 + length log ≤ 65536 → is_book (book_of (logs_in b ++ (log ∷ []))) ≡ true
longer b log k h n =
    let ls = logs_in b in
    written (ls ++ (log ∷ [])) (every_append layout_ok ls (log ∷ []) k.sound (rw h))
    (omega (arith, n, length-longer ls log, ap (λ (x : List ℕ). length x) k.is))

pub what-a-book-is : WhatABookIs
what-a-book-is b = (
  λ h. let k = opened b h in (logs_in b, k.sound, k.is, k.fits),
  λ x. subst (λ (y : List ℕ). is_book y ≡ true) x.2 (written x.0 x.1 (subst⁻¹ (λ (y : List ℕ). length y ≤ 65536) x.2 x.3)),
)

pub adding-gives-a-book : AddingGivesABook
adding-gives-a-book b log new e =
    let c = came b log new e in
    subst (λ (y : List ℕ). (is_book y ≡ true) × (logs_in y ≡ logs_in b ++ (log ∷ []))) c.is
    (longer b log c.book c.sound c.room, reads-back (logs_in b ++ (log ∷ [])))

-- The empty book.
pub empty-book : is_book (book_of []) ≡ true
empty-book = written [] refl (omega arith)

pub filled : Filled
unfolding add
filled log h = (
  λ n. rw (empty-book, h, le-leb (20 + 8 + length log) 65536 (omega arith)),
  λ n. rw (empty-book, h, lt-leb (20 + 8 + length log) 65536 (omega arith)),
)
