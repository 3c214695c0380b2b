-- `number_in` meets its contract.
use native.Mathlib.Omega.{arith}
use mathlib.Core.Path.{sym, ◌∙◌}
use borrow.Author.Tests.{eqb-true, eqb-false}
use Rattle.book_words.proofs.Digits.{not-digit, no_word, no-digits, too_much, ends}
use Rattle.book_words.proofs.number_in.Goals as goal

pub returns-then-is_empty : goal.returns-then-is_empty
returns-then-is_empty c = no_word c.args.word.now (eqb-true _ 0 (sym c.is_empty.ensures ∙ c.if-is_empty.true))

pub returns-then-not-is_ascii_digit : goal.returns-then-not-is_ascii_digit
returns-then-not-is_ascii_digit c =
    let l = c.loop-byte in
    no-digits c.args.word.now (omega arith)
    (sym l.invariant.2 ∙ not-digit c.args.word.now l.byte-index (omega arith) (sym c.is_ascii_digit.ensures.value ∙ c.if-not-is_ascii_digit.true))

pub returns-in_err-checked_mul : goal.returns-in_err-checked_mul
returns-in_err-checked_mul c =
    let l = c.loop-byte in
    c.from_residual.ensures ∙ too_much c.args.word.now (omega arith) l.value l.byte-index (omega arith) l.invariant.1 (omega arith)

pub returns-in_err-value : goal.returns-in_err-value
returns-in_err-value c =
    let l = c.loop-byte in
    c.from_residual-in_err-value.ensures ∙ too_much c.args.word.now (omega arith) l.value l.byte-index (omega arith) l.invariant.1 (omega arith)

pub returns : goal.returns
returns c =
    let l = c.loop-byte in
    let some = eqb-false _ 0 (sym c.is_empty.ensures ∙ c.if-is_empty.false) in
    ends c.args.word.now (omega (arith, some)) l.value l.byte-index (omega arith) (omega arith) l.invariant.1 l.invariant.2
