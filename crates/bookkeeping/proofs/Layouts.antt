-- What is written is read back, and how long it is.
use Prim.Native.Nat.{ℕ, zero, suc, ◌+◌, ◌*◌, ◌/◌, ◌%◌, ◌≤◌}
use native.Mathlib.Omega.{arith}
use mathlib.Core.List.{List, [], ◌∷◌, ◌++◌}
use mathlib.Core.Path.{◌≡◌, refl, sym, ◌∙◌, ap, ap₂}
use lib.ListN.{length, take, drop, length-append}
use lib.Seq.{take_at, drop_at, drop-drop}
use Rattle.rules.proofs.Writing.{two_back}
use Rattle.bookkeeping.specs.Layout.{call_byte, joined, entry, directory, start, header, book_of, logs_from, logs_in}
use Rattle.bookkeeping.specs.Promises.{ReadsBack}

pub length-directory : (at : ℕ) (ls : List (List ℕ)) → length (directory at ls) ≡ length ls * 8
length-directory at [] = omega arith
length-directory at (l ∷ ls) = omega (arith, length-directory (at + length l) ls)

pub length-book : (ls : List (List ℕ)) → length (book_of ls) ≡ start (length ls) + length (joined ls)
length-book ls = let at = start (length ls) in omega (arith, length-append (directory at ls) (joined ls), length-directory at ls)

from_back : (at : ℕ) (ls : List (List ℕ)) (more : List ℕ) → logs_from (directory at ls ++ more) (length ls) (joined ls) ≡ ls
from_back at [] more = refl
from_back at (l ∷ ls) more =
    rw (two_back (length l))
    (ap₂ (λ (x : List ℕ) (xs : List (List ℕ)). x ∷ xs) (take_at l (joined ls) (length l) refl)
    (ap (logs_from (directory (at + length l) ls ++ more) (length ls)) (drop_at l (joined ls) (length l) refl) ∙ from_back (at + length l) ls more))

pub reads-back : ReadsBack
reads-back ls =
    let at = start (length ls) in
    let d = directory at ls in
    rw (two_back (length ls))
    (ap (logs_from (d ++ joined ls) (length ls))
    (sym (drop-drop (length ls * 8) 20 (book_of ls)) ∙ drop_at d (joined ls) (length ls * 8) (length-directory at ls))
    ∙ from_back at ls (joined ls))

pub joined-append : (xs ys : List (List ℕ)) → length (joined (xs ++ ys)) ≡ length (joined xs) + length (joined ys)
joined-append [] ys = omega arith
joined-append (x ∷ xs) ys = omega (arith, length-append x (joined (xs ++ ys)), length-append x (joined xs), joined-append xs ys)

-- With one log more.
pub length-longer : (ls : List (List ℕ)) (log : List ℕ) → length (book_of (ls ++ (log ∷ []))) ≡ length (book_of ls) + 8 + length log
length-longer ls log =
    let more = ls ++ (log ∷ []) in
    omega (arith, length-book more, length-book ls, length-append ls (log ∷ []), joined-append ls (log ∷ []), length-append log [])
