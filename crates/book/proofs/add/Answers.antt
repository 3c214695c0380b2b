-- `add` meets its contract.
use native.Mathlib.Omega.{arith}
use Rattle.std.proofs.lemmas.Result.{err_from_is_err_and}
use Rattle.book.proofs.Adding as adding
use Rattle.book.proofs.Adding.{take-taken, is-counted, is-bad}
use Rattle.book.proofs.Walks.{by_call}
use Rattle.bookkeeping.proofs.Books.{opened}
use Rattle.bookkeeping.specs.Book.{Added, is_book, of_call, added_to}
use Rattle.bookkeeping.specs.Summary.{raised_at}
use Rattle.bookkeeping.specs.Layout.{book_of, logs_in}
use Rattle.wire.specs.Buffers.{with}
use lib.ListN.{length, take}
use mathlib.Core.Path.{◌≡◌, refl, sym, ◌∙◌, ap}
use mathlib.Core.List.{List, [], ◌∷◌, ◌++◌}
use Prim.Native.Nat.{ℕ}
use Rattle.book.proofs.add.Goals as goal

pub returns-then-not-is_book : goal.returns-then-not-is_book
returns-then-not-is_book c =
    let x = c.args in
    adding.of-same c.part-old.ensures
    (adding.no-book c.part-old.result.now x.log.now x.book.now x.summary.now (sym c.is_book.ensures ∙ c.if-not-is_book.true))

pub returns-in_err-place : goal.returns-in_err-place
returns-in_err-place c =
    let x = c.args in
    let is = sym c.is_book.ensures ∙ c.if-not-is_book.false in
    let bad = is-bad x.log.now c.counted_at.result _ c.counted_at.ensures _ (sym c.ok_or.ensures.value ∙ c.in_err-place.was) in
    let p = err_from_is_err_and c.from_residual.result c.from_residual.ensures.1 in
    rw (p.1, p.2, ← bad.1) (adding.of-same c.part-old.ensures (adding.bad-log c.part-old.result.now x.log.now x.book.now x.summary.now is bad.0))

pub overflow_add-longer-2 : goal.overflow_add-longer-2
overflow_add-longer-2 c = omega (arith, opened c.part-old.result.now (sym c.is_book.ensures ∙ c.if-not-is_book.false))

pub returns-then-longer-gt-MOST : goal.returns-then-longer-gt-MOST
returns-then-longer-gt-MOST c =
    let x = c.args in
    let is = sym c.is_book.ensures ∙ c.if-not-is_book.false in
    let counted = is-counted x.log.now c.counted_at.result _ c.counted_at.ensures _ (sym c.ok_or.ensures.value ∙ c.in_ok-place.was) in
    adding.of-same c.part-old.ensures (adding.no_room c.part-old.result.now x.log.now x.book.now x.summary.now is counted.0 (omega arith))

pub returns-then-longer-book : goal.returns-then-longer-book
returns-then-longer-book c =
    let x = c.args in
    let is = sym c.is_book.ensures ∙ c.if-not-is_book.false in
    let counted = is-counted x.log.now c.counted_at.result _ c.counted_at.ensures _ (sym c.ok_or.ensures.value ∙ c.in_ok-place.was) in
    adding.of-same c.part-old.ensures
    (adding.too_short c.part-old.result.now x.log.now x.book.now x.summary.now is counted.0 (omega arith) c.if-longer-book.true)

pub insert-requires : goal.insert-requires
insert-requires c =
    let z = c.args.book.now in
    let old = c.part-old.result.now in
    let taken : take (length old) z ≡ old = ap (λ (l : List ℕ). take (length l) z) c.part-old.ensures ∙ take-taken c.args.n z ∙ sym c.part-old.ensures in
    (ap is_book taken ∙ sym c.is_book.ensures ∙ c.if-not-is_book.false, omega arith, omega arith)

pub returns : goal.returns
returns c =
    let x = c.args in
    let z = x.book.now in
    let log = x.log.now in
    let old = c.part-old.result.now in
    let is = sym c.is_book.ensures ∙ c.if-not-is_book.false in
    let counted = is-counted log c.counted_at.result _ c.counted_at.ensures _ (sym c.ok_or.ensures.value ∙ c.in_ok-place.was) in
    let taken : take (length old) z ≡ old = ap (λ (l : List ℕ). take (length l) z) c.part-old.ensures ∙ take-taken x.n z ∙ sym c.part-old.ensures in
    let book : c.insert.new.book ≡ with z 0 (book_of (logs_in old ++ (log ∷ []))) =
    c.insert.ensures ∙ ap (λ (l : List ℕ). with z 0 (book_of (logs_in l ++ (log ∷ [])))) taken
    in
    let raised = c.raise.ensures ∙ ap (λ (p : ℕ). raised_at x.summary.now p) counted.1 in
    let number =
    c.count_of-number.ensures ∙ sym (by_call c.call_in-call.result (logs_in old)) ∙ ap (λ (k : ℕ). length (of_call k (logs_in old))) c.call_in-call.ensures
    in
    let entry : ◌≡◌ {A = Added} (record {
      call = c.call_in-call.result;
      number = c.count_of-number.result;
      place = c.in_ok-place.place;
    }) (added_to old log) = λ i. record { call = c.call_in-call.ensures i; number = number i; place = counted.1 i } in
    adding.of-same c.part-old.ensures
    (adding.added old log z x.summary.now is counted.0 (omega arith) c.if-longer-book.false _ refl _ entry _ _ book raised)
