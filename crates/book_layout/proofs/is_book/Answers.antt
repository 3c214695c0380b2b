-- `is_book` meets its contract: what is left to be tested is all that there was to test.
use Rattle.book_layout.proofs.Walks.{left_ok, no-head, with-head, fails, goes_on, none-ok}
use Rattle.bookkeeping.specs.Layout.{start}
use Rattle.exchange.proofs.Entries.{are-bytes}
use mathlib.Core.Path.{sym, ◌∙◌, ap, ap₂}
use native.Mathlib.Omega.{arith}
use Prim.Native.Nat.{ℕ, ◌+◌}
use Rattle.book_layout.proofs.is_book.Goals as goal

pub returns-then-not-header_ok : goal.returns-then-not-header_ok
returns-then-not-header_ok c =
    let b = c.args.book.now in
    sym (no-head b (are-bytes b (λ i. omega (arith, c.type_inv.book i))) (sym c.header_ok.ensures ∙ c.if-not-header_ok.true))

pub loop-i-init : goal.loop-i-init
loop-i-init c =
    let b = c.args.book.now in
    let n = c.log_count-count.ensures.0 in
    let head = with-head b (are-bytes b (λ i. omega (arith, c.type_inv.book i))) (sym c.header_ok.ensures ∙ c.if-not-header_ok.false) in (
      omega (arith, c.start-at.ensures, c.log_count-count.ensures.1),
      ap₂ (λ (m at : ℕ). left_ok b m 0 at) n (c.start-at.ensures ∙ ap start n) ∙ head,
    )

pub returns-then-not-entry_ok : goal.returns-then-not-entry_ok
returns-then-not-entry_ok c =
    let l = c.loop-i in
    sym (fails c.args.book.now c.log_count-count.result l.i l.at c.loop-i-test.true (sym c.entry_ok.ensures ∙ c.if-not-entry_ok.true)) ∙ l.invariant.1

pub loop-i-preserved : goal.loop-i-preserved
loop-i-preserved c =
    let l = c.loop-i in
    let b = c.args.book.now in
    let n = c.log_count-count.result in
    let on = goes_on b n l.i l.at c.loop-i-test.true (sym c.entry_ok.ensures ∙ c.if-not-entry_ok.false) in (
      omega (arith, l.invariant.0, c.log_size-at.ensures.1),
      ap (λ (s : ℕ). left_ok b n (l.i + 1) (l.at + s)) c.log_size-at.ensures.0 ∙ sym on ∙ l.invariant.1,
    )

pub returns : goal.returns
returns c = let l = c.loop-i in sym (none-ok c.args.book.now c.log_count-count.result l.i l.at (omega arith)) ∙ l.invariant.1
