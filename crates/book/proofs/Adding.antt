-- Laws of what is answered where a log is added, by the checks in their order.
use Prim.Native.Nat.{ℕ, zero, suc, ◌+◌, ◌≤◌, ◌<◌}
use native.Mathlib.Nat.{zero-add}
use native.Mathlib.Omega.{arith}
use mathlib.Core.Bool.{true, false}
use mathlib.Core.List.{List, [], ◌∷◌, ◌++◌}
use mathlib.Core.Path.{◌≡◌, refl, sym, ◌∙◌, ap, subst}
use lib.Dec.{leb}
use lib.ListN.{length, take}
use borrow.Author.Tests.{le-leb, lt-leb}
use Rattle.rules.specs.Logs.{layout_ok}
use Rattle.wire.specs.Buffers.{with}
use Rattle.bookkeeping.specs.Layout.{book_of, logs_in}
use Rattle.bookkeeping.specs.Summary.{raised}
use Rattle.bookkeeping.specs.Book as bookkeeping
use Rattle.bookkeeping.specs.Book.{is_book, added_to, add}
use Rattle.bookkeeping.proofs.Books.{opened}
use Rattle.bookkeeping.proofs.Layouts.{length-longer}
use Rattle.std.specs.Prelude as code
use Rattle.std.specs.Prelude.{Some, None, Result, Ok, Err}
use Rattle.std.specs.Option.{ok_or}
use Rattle.book_counters.specs.Counted.{CountsAt}
use Rattle.wire.specs.Refusing.{refusal_number}
use Rattle.wire.specs.declared.refusal.Refusal.{Refusal}
use Rattle.wire.specs.declared.refusal.Refusal.TheVariants.{BookFull, BadLog, NoBook}
use Rattle.book.specs.Answered.{entry_of, added_of, answered, left, counts, Adds}
use Rattle.book.specs.declared.BookError.{BookError}
use Rattle.book.specs.declared.BookError.TheVariants.{Refused, NoRoom}
use Rattle.book.specs.declared.Entry.{Entry}

-- What is taken, by its own length.
pub take-taken : {A : Type 0} (n : ℕ) (l : List A) → take (length (take n l)) l ≡ take n l
take-taken zero l = refl
take-taken (suc n) [] = refl
take-taken {A = A} (suc n) (x ∷ l) = ap (λ (t : List A). x ∷ t) (take-taken n l)

-- What `ok_or` says of the counter.
module _ (l : List ℕ) (o : code.Option ℕ) (x : Refusal) (k : CountsAt l o) where
  pub is-counted : (p : ℕ) → ok_or o x ≡ Ok p → CountsAt l (Some p)
  is-counted p e = go o e k
    where
      go : (q : code.Option ℕ) → ok_or q x ≡ Ok p → CountsAt l q → CountsAt l (Some p)
      go (Some n) e k = let same : n ≡ p = cc in (k.0, sym same ∙ k.1)
      go None e k = cc

  pub is-bad : (y : Refusal) → ok_or o x ≡ Err y → (layout_ok l ≡ false) × (x ≡ y)
  is-bad y e = go o e k
    where
      go : (q : code.Option ℕ) → ok_or q x ≡ Err y → CountsAt l q → (layout_ok l ≡ false) × (x ≡ y)
      go (Some n) e k = cc
      go None e k = (k, cc)

-- Of a book that is named otherwise.
pub of-same : {b b' log buffer summary buffer' summary' : List ℕ} {r : Result (ℕ × Entry) BookError} → b ≡ b' → Adds b log buffer summary r buffer' summary'
    → Adds b' log buffer summary r buffer' summary'
of-same {log = log} {buffer = buffer} {summary = summary} {buffer' = buffer'} {summary' = summary'} {r = r} e p =
    subst (λ (x : List ℕ). Adds x log buffer summary r buffer' summary') e p

module _ (b log buffer summary : List ℕ) where
  -- By what the definition gives.
  by : (x : bookkeeping.Answer) → add b log ≡ x → (r : Result (ℕ × Entry) BookError) (buffer' summary' : List ℕ) → added_of r ≡ answered x (added_to b log) (length buffer)
      → buffer' ≡ left x buffer → summary' ≡ counts x log (length buffer) summary → Adds b log buffer summary r buffer' summary'
  by x e r buffer' summary' p q s = record {
    answer = p ∙ ap (λ (y : bookkeeping.Answer). answered y (added_to b log) (length buffer)) (sym e);
    book = q ∙ ap (λ (y : bookkeeping.Answer). left y buffer) (sym e);
    summary-is = s ∙ ap (λ (y : bookkeeping.Answer). counts y log (length buffer) summary) (sym e);
  }

  refuses : (x : Refusal) → add b log ≡ bookkeeping.refused (refusal_number x) → Adds b log buffer summary (Err (Refused x)) buffer summary
  refuses x e = by (bookkeeping.refused (refusal_number x)) e (Err (Refused x)) buffer summary refl refl refl

  gives-25 : is_book b ≡ false → add b log ≡ bookkeeping.refused 25
  unfolding add
  gives-25 h = rw h

  pub no-book : is_book b ≡ false → Adds b log buffer summary (Err (Refused NoBook)) buffer summary
  no-book h = refuses NoBook (gives-25 h)

  module _ (is : is_book b ≡ true) where
    gives-23 : layout_ok log ≡ false → add b log ≡ bookkeeping.refused 23
    unfolding add
    gives-23 h = rw (is, h)

    pub bad-log : layout_ok log ≡ false → Adds b log buffer summary (Err (Refused BadLog)) buffer summary
    bad-log h = refuses BadLog (gives-23 h)

    module _ (sound : layout_ok log ≡ true) where
      gives-22 : 65536 < length b + 8 + length log → add b log ≡ bookkeeping.refused 22
      unfolding add
      gives-22 h = rw (is, sound, lt-leb (length b + 8 + length log) 65536 h)

      pub no_room : 65536 < length b + 8 + length log → Adds b log buffer summary (Err (Refused BookFull)) buffer summary
      no_room h = refuses BookFull (gives-22 h)

      module _ (room : length b + 8 + length log ≤ 65536) where
        abbrev new : List ℕ
        new = book_of (logs_in b ++ (log ∷ []))

        gives : add b log ≡ bookkeeping.gives new
        unfolding add
        gives = rw (is, sound, le-leb (length b + 8 + length log) 65536 room)

        pub new-long : length new ≡ length b + 8 + length log
        new-long = length-longer (logs_in b) log ∙ ap (λ (x : List ℕ). length x + 8 + length log) (opened b is).is

        untouched : leb (length new) (length buffer) ≡ false → buffer ≡ with buffer 0 new
        unfolding with
        untouched short = rw (zero-add (length new), short)

        pub too_short : length buffer < length b + 8 + length log → Adds b log buffer summary (Err NoRoom) buffer summary
        too_short h =
            let short = lt-leb (length new) (length buffer) (omega (arith, h, new-long)) in
            by (bookkeeping.gives new) gives (Err NoRoom) buffer summary (rw short) (untouched short) (rw short)

        pub added : length b + 8 + length log ≤ length buffer → (m : ℕ) → m ≡ length b + 8 + length log → (e : Entry) → entry_of e ≡ added_to b log
            → (buffer' summary' : List ℕ) → buffer' ≡ with buffer 0 new → summary' ≡ raised summary log → Adds b log buffer summary (Ok (m, e)) buffer' summary'
        added h m long e is-e buffer' summary' p q =
            let fits = le-leb (length new) (length buffer) (omega (arith, h, new-long)) in
            let there : m ≡ length new = long ∙ sym new-long in
            by (bookkeeping.gives new) gives (Ok (m, e)) buffer' summary' (rw fits (λ i. Ok (there i, is-e i))) p (rw fits q)
