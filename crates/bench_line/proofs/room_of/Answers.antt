-- `bench_line::room_of` meets its contract.
use Rattle.std.proofs.Common.{length, sym, arith}
use borrow.Author.Tests.{eqb-true, eqb-false}
use Rattle.bench_line.proofs.Reading.{too_few, too_many, no_number, already_large, all-more, digit-more, digits-done}
use Rattle.bench_line.proofs.room_of.Goals.{then-is_empty-via-then-is_empty, then-is_empty-via-else-is_empty+then-number-gt4}
use Rattle.bench_line.proofs.room_of.Goals as goal

pub returns-then-is_empty : goal.returns-then-is_empty
returns-then-is_empty c =
    elim c.then-is_empty.branch [
      | then-is_empty-via-then-is_empty w ↦ let none = eqb-true (length c.args.number.now) 0 (sym w.if-is_empty.ensures) in too_few _ (omega arith)
      | then-is_empty-via-else-is_empty+then-number-gt4 w ↦ too_many _ w.if-number-gt4.true
    ]

pub returns-then-not-is_ascii_digit : goal.returns-then-not-is_ascii_digit
returns-then-not-is_ascii_digit c =
    let some = eqb-false (length c.args.number.now) 0 (sym c.if-is_empty.ensures) in
    no_number c.args.number.now (omega arith) c.if-number-gt4.false c.loop-c.c-index c.loop-c-test.true (sym c.if-not-is_ascii_digit.ensures.value) c.loop-c.invariant.digits

pub returns-then-value-gt4095 : goal.returns-then-value-gt4095
returns-then-value-gt4095 c =
    let some = eqb-false (length c.args.number.now) 0 (sym c.if-is_empty.ensures) in
    already_large c.args.number.now (omega arith) c.if-number-gt4.false c.loop-c.c-index c.loop-c.value c.loop-c.invariant.read c.loop-c-test.true c.if-value-gt4095.true

pub loop-c-preserved : goal.loop-c-preserved
loop-c-preserved c = record {
  small = c.if-value-gt4095.false;
  digits = all-more _ _ c.loop-c-test.true (sym c.if-not-is_ascii_digit.ensures.value) c.loop-c.invariant.digits;
  read = digit-more _ _ _ c.loop-c.invariant.read c.loop-c-test.true;
}

pub returns : goal.returns
returns c =
    let some = eqb-false (length c.args.number.now) 0 (sym c.if-is_empty.ensures) in
    digits-done c.args.number.now (omega arith) c.if-number-gt4.false _ _ c.loop-c.invariant.read c.loop-c-test.false c.loop-c.invariant.digits c.loop-c.invariant.small
