-- From what `book` answers, and the text that is put, to what both streams get.
use Prim.Native.Nat.{ℕ, zero, suc, ◌+◌, ◌≤◌}
use native.Mathlib.Omega.{arith}
use mathlib.Core.Bool.{Bool, true, false, cond, false≢true, ◌&&◌}
use mathlib.Core.List.{List, [], ◌∷◌, ◌++◌}
use mathlib.Core.Path.{◌≡◌, refl, sym, ◌∙◌, ap, ap₂}
use lib.Dec.{leb, eqb}
use lib.ListN.{length, take, drop, length-take}
use lib.Seq.{take_at, take-take}
use borrow.Author.Tests.{le-leb, eq-eqb}
use Rattle.std.specs.Prelude as option
use Rattle.std.specs.Prelude.{Some, None, Result, Ok, Err}
use Rattle.std.specs.Option.{unwrap_or}
use Rattle.rules.specs.Logs.{area}
use Rattle.text.specs.Written.{Put, put}
use Rattle.wire.specs.Buffers.{with}
use Rattle.wire.specs.Refusing.{refusal_number}
use Rattle.wire.specs.declared.refusal.Refusal.{Refusal}
use Rattle.exchange.specs.declared.types.Place.{Place}
use Rattle.bookkeeping.specs.Layout.{book_of, logs_in}
use Rattle.bookkeeping.specs.Summary.{afresh, raised}
use Rattle.bookkeeping.specs.Book as bookkeeping
use Rattle.bookkeeping.specs.Book.{is_book, added_to, add}
use Rattle.bookkeeping.specs.Said as Said
use Rattle.bookkeeping.specs.Said.{lines_from, refusal}
use Rattle.bookkeeping.proofs.Books.{came, opened, what-a-book-is, adding-gives-a-book}
use Rattle.bookkeeping.proofs.Counting.{raises}
use Rattle.book.specs.Answered as code
use Rattle.book.specs.declared.BookError.{BookError}
use Rattle.book.specs.declared.BookError.TheVariants.{Refused, NoRoom}
use Rattle.book.specs.declared.Entry.{Entry}
use Rattle.book.proofs.Promises.{stands, untouched}
use Rattle.book.proofs.Walks.{sums, no_summary}
use Rattle.book_text.specs.Texts.{added_text, Puts}

never : {P : Type 0} → ◌≡◌ {A = ℕ} 0 1 → P
never e = absurd (omega arith)

-- What was put at the front stands there, where there was room.
put_front : (l bs m : List ℕ) (n : ℕ) → Put l 0 bs m n → take n m ≡ bs
unfolding put
put_front l bs m n p = ap (take n) p.line ∙ take_at bs (drop (0 + length bs) l) n (omega (arith, p.next))

pub at_front : {room : Bool} {bs : List ℕ} (l m : List ℕ) (n : option.Option ℕ) → room ≡ true → Puts room l bs m n → take (unwrap_or n 0) m ≡ bs
at_front {room = true} {bs = bs} l m (Some n) e p = put_front l bs m n p
at_front {room = true} l m None e p = absurd p
at_front {room = false} l m n e p = absurd (false≢true e)

-- A part that is whole in the first bytes is that part of all.
whole_part : (l : List ℕ) (n i k : ℕ) → k ≡ length (area (take n l) i k) → area (take n l) i k ≡ area l i k
whole_part l n zero k e = take-take k n l (omega (arith, e, length-take k (take n l), length-take n l))
whole_part l zero (suc i) zero e = refl
whole_part l zero (suc i) (suc k) e = absurd (omega (arith, e))
whole_part [] (suc n) (suc i) k e = refl
whole_part (x ∷ l) (suc n) (suc i) k e = whole_part l n i k e

is-a-book : (b log new : List ℕ) → add b log ≡ bookkeeping.gives new → is_book b ≡ true
is-a-book b log new e = let k = (came b log new e).book in (what-a-book-is b).1 (logs_in b, k.sound, k.is, k.fits)

-- The summary of a book, where there are counters for it.
summary-of : (b before after : List ℕ) (r : Result (Unit {0}) BookError) → is_book b ≡ true → length before ≡ 4176 → code.Sums b before r after
    → after ≡ afresh (logs_in b)
summary-of b before after r is long p = p.summary ∙ rw (sums b is, eq-eqb (length before) 4176 long)

-- `new`
pub begun : (buffer z : List ℕ) (r : option.Option ℕ) → 20 ≤ length buffer → code.Begins buffer r z → take (unwrap_or r 0) z ≡ book_of []
unfolding with
begun buffer z r room p =
    let fits = le-leb 20 (length buffer) room in
    let long : r ≡ Some 20 = p.answer ∙ rw fits in
    let stands : z ≡ book_of [] ++ drop 20 buffer = p.book ∙ rw fits in
    ap₂ (λ (k : option.Option ℕ) (l : List ℕ). take (unwrap_or k 0) l) long stands

-- What both streams get, and what they should.
pub record Both (a b a' b' : List ℕ) : Type 0 where
  pub out : a ≡ a'
  pub said : b ≡ b'

-- `add`
module _ (b log buffer before summary z s : List ℕ) where
  pub added : (sum : Result (Unit {0}) BookError) (m : ℕ) (r : option.Option ℕ) (e : Entry) (text said : List ℕ) → 200 ≤ length text → length before ≡ 4176
      → length s ≤ 4176 → code.Sums b before sum summary → code.Adds b log buffer summary (Ok (m, e)) z s
      → Puts (leb 200 (length text) && leb (length s) 4176) text (added_text e.call e.number e.place s) said r
      → Both (take m z) (take (unwrap_or r 0) said) (Said.add_out b (add b log)) (Said.add_said (added_to b log) (add b log))
  unfolding Said.add_out Said.add_said
  added sum m r e text said wide long few p q t =
      let k = stands b log buffer summary z s m e q in
      let is = is-a-book b log (take m z) k.is in
      let now : s ≡ afresh (logs_in (take m z)) =
      k.counted ∙ ap (λ (x : List ℕ). raised x log) (summary-of b before summary sum is long p) ∙ raises b log (take m z) is k.is
      in
      let line : bookkeeping.Added → List ℕ → List ℕ = λ (x : bookkeeping.Added) (c : List ℕ). added_text x.call x.number x.place c in
      let room : (leb 200 (length text) && leb (length s) 4176) ≡ true = rw (le-leb 200 (length text) wide, le-leb (length s) 4176 few) in
      record {
        out = ap (Said.add_out b) (sym k.is);
        said = at_front text said r room t ∙ ap₂ line k.told now ∙ ap (Said.add_said (added_to b log)) (sym k.is);
      }

  pub refused : (x : Refusal) (n : ℕ) → code.Adds b log buffer summary (Err (Refused x)) z s → b ≡ take n buffer
      → Both (take (cond (eqb (refusal_number x) 25) 0 n) z) (refusal (refusal_number x)) (Said.add_out b (add b log)) (Said.add_said (added_to b log) (add b log))
  unfolding Said.add_out Said.add_said
  refused x n q is =
      let u = untouched b log buffer summary z s x q in
      record {
        out = kept (eqb (refusal_number x) 25) (ap (take n) u.1 ∙ sym is) ∙ ap (Said.add_out b) (sym u.0);
        said = ap (Said.add_said (added_to b log)) (sym u.0);
      }
    where
      kept : (t : Bool) → take n z ≡ b → take (cond t 0 n) z ≡ cond t [] b
      kept true e = refl
      kept false e = e

  -- There is always room.
  pub room-enough : 65536 ≤ length buffer → code.Adds b log buffer summary (Err NoRoom) z s → ⊥
  room-enough room q = go (add b log) refl q.answer
    where
      go : (a : bookkeeping.Answer) → add b log ≡ a → Err code.no_room ≡ code.answered a (added_to b log) (length buffer) → ⊥
      go (bookkeeping.refused k) is e = never (cc)
      go (bookkeeping.gives new) is e =
          let short = (opened new (adding-gives-a-book b log new is).0).fits in
          let fits : leb (length new) (length buffer) ≡ true = le-leb (length new) (length buffer) (omega (arith, short, room)) in
          let there : ◌≡◌ {A = Result (ℕ × bookkeeping.Added) code.Why} (Err code.no_room) (Ok (length new, added_to b log)) = rw fits at e in
          never (cc)

-- `find`
module _ (book : List ℕ) (n c k : ℕ) where
  pub found-log : (p : Place) → code.Finds (take n book) c k (Ok p)
      → Both (area book p.at p.len) [] (Said.out (bookkeeping.find (take n book) c k)) (Said.said (bookkeeping.find (take n book) c k))
  unfolding Said.out Said.said
  found-log p f = record { out = sym (whole_part book n p.at p.len f.place.1) ∙ ap Said.out f.answer; said = ap Said.said f.answer }

  pub not_found : (x : Refusal) → code.Finds (take n book) c k (Err x)
      → Both [] (refusal (refusal_number x)) (Said.out (bookkeeping.find (take n book) c k)) (Said.said (bookkeeping.find (take n book) c k))
  unfolding Said.out Said.said
  not_found x f = record { out = ap Said.out f.answer; said = ap Said.said f.answer }

-- `summary`
module _ (b before after : List ℕ) (long : length before ≡ 4176) where
  by-book : (r : Result (Unit {0}) BookError) → code.Sums b before r after → (t : Bool) → is_book b ≡ t
      → (code.summed_of r ≡ cond t (Ok tt) (Err (code.refused 25)))
      × (bookkeeping.summary b ≡ cond t (bookkeeping.gives (afresh (logs_in b))) (bookkeeping.refused 25))
  by-book r p true e = (p.answer ∙ rw (sums b e, eq-eqb (length before) 4176 long), sums b e)
  by-book r p false e = (p.answer ∙ rw (no_summary b e), no_summary b e)

  pub summed-up : (r : option.Option ℕ) (l text : List ℕ) → 100224 ≤ length l → length after ≤ 4176 → code.Sums b before (Ok tt) after
      → Puts (leb 100224 (length l) && leb (length after) 4176) l (lines_from 0 after) text r
      → Both (take (unwrap_or r 0) text) [] (Said.summary_out (bookkeeping.summary b)) (Said.said (bookkeeping.summary b))
  unfolding Said.summary_out Said.said
  summed-up r l text wide few p t = go (is_book b) refl
    where
      go : (x : Bool) → is_book b ≡ x → Both (take (unwrap_or r 0) text) [] (Said.summary_out (bookkeeping.summary b)) (Said.said (bookkeeping.summary b))
      go true e =
          let same = summary-of b before after (Ok tt) e long p in
          let room : (leb 100224 (length l) && leb (length after) 4176) ≡ true = rw (le-leb 100224 (length l) wide, le-leb (length after) 4176 few) in
          record {
            out = at_front l text r room t ∙ ap (lines_from 0) same ∙ ap Said.summary_out (sym (sums b e));
            said = ap Said.said (sym (sums b e));
          }
      go false e = let z = (by-book (Ok tt) p false e).0 in never (cc)

  pub no-sum : (n : Refusal) → code.Sums b before (Err (Refused n)) after
      → Both [] (refusal (refusal_number n)) (Said.summary_out (bookkeeping.summary b)) (Said.said (bookkeeping.summary b))
  unfolding Said.summary_out Said.said
  no-sum n p = go (is_book b) refl
    where
      go : (x : Bool) → is_book b ≡ x → Both [] (refusal (refusal_number n)) (Said.summary_out (bookkeeping.summary b)) (Said.said (bookkeeping.summary b))
      go true e = let z = (by-book (Err (Refused n)) p true e).0 in never (cc)
      go false e =
          let z = (by-book (Err (Refused n)) p false e).0 in
          let same : refusal_number n ≡ 25 = cc in
          record { out = ap Said.summary_out (sym (no_summary b e)); said = ap refusal same ∙ ap Said.said (sym (no_summary b e)) }

  pub never-short : code.Sums b before (Err NoRoom) after → ⊥
  never-short p = go (is_book b) refl
    where
      go : (x : Bool) → is_book b ≡ x → ⊥
      go true e = let z = (by-book (Err NoRoom) p true e).0 in never (cc)
      go false e = let z = (by-book (Err NoRoom) p false e).0 in never (cc)
