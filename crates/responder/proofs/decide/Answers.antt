-- `responder::decide` meets its contract.
use Rattle.std.proofs.Common.{length, refl, ◌∙◌, arith, sym}
use borrow.Author.Tests.{eqb-false, eqb-true}
use Rattle.responder.specs.declared.Decision.TheVariants.{Session, Reset, Present, Count}
use Rattle.responder.proofs.Services.{session-means, reset-means, present-means, count-means, decided-as, not-served, none-asked, none_written, functional-unwritten, served}
use Rattle.responder.proofs.decide.Goals as goal

pub returns-then-is_empty : goal.returns-then-is_empty
returns-then-is_empty c =
    let none = eqb-true (length c.args.request.now) 0 (sym c.if-is_empty.ensures) in
    record {
      means = none-asked c.args.store.now c.args.request.now none;
      writes = λ e. absurd (none_written c.args.request.now none e);
      reads = λ e. tt;
    }

pub returns-in-16 : goal.returns-in-16
returns-in-16 c =
    let l = c.args.store.now in
    let q = c.args.request.now in
    rw c.with_sub_function.ensures
    (served l q 0x10 (eqb-false (length q) 0 (sym c.if-is_empty.ensures)) c.in-16.is (eqb-false 0x10 0x2e refl) (session-means l q, functional-unwritten q 1 4 2 Session tt))

pub returns-in-17 : goal.returns-in-17
returns-in-17 c =
    let l = c.args.store.now in
    let q = c.args.request.now in
    rw c.with_sub_function-in-17.ensures
    (served l q 0x11 (eqb-false (length q) 0 (sym c.if-is_empty.ensures)) c.in-17.is (eqb-false 0x11 0x2e refl) (reset-means l q, functional-unwritten q 1 4 2 Reset tt))

pub returns-in-62 : goal.returns-in-62
returns-in-62 c =
    let l = c.args.store.now in
    let q = c.args.request.now in
    rw c.with_sub_function-in-62.ensures
    (served l q 0x3e (eqb-false (length q) 0 (sym c.if-is_empty.ensures)) c.in-62.is (eqb-false 0x3e 0x2e refl) (present-means l q, functional-unwritten q 0 0 2 Present tt))

pub returns-in-25 : goal.returns-in-25
returns-in-25 c =
    let l = c.args.store.now in
    let q = c.args.request.now in
    rw c.with_sub_function-in-25.ensures
    (served l q 0x19 (eqb-false (length q) 0 (sym c.if-is_empty.ensures)) c.in-25.is (eqb-false 0x19 0x2e refl) (count-means l q, functional-unwritten q 1 1 3 Count tt))

pub returns-in-34 : goal.returns-in-34
returns-in-34 c =
    let l = c.args.store.now in
    let q = c.args.request.now in
    served l q 0x22 (eqb-false (length q) 0 (sym c.if-is_empty.ensures)) c.in-34.is (eqb-false 0x22 0x2e refl) c.read_record.ensures

pub returns-in-35 : goal.returns-in-35
returns-in-35 c =
    let l = c.args.store.now in
    let q = c.args.request.now in
    served l q 0x23 (eqb-false (length q) 0 (sym c.if-is_empty.ensures)) c.in-35.is (eqb-false 0x23 0x2e refl) c.read_memory.ensures

pub returns-in-46 : goal.returns-in-46
returns-in-46 c =
    let some = eqb-false (length c.args.request.now) 0 (sym c.if-is_empty.ensures) in
    record {
      means = c.write_record.ensures.0 ∙ decided-as c.args.store.now c.args.request.now 0x2e (omega arith) c.in-46.is;
      writes = λ e. c.write_record.ensures.1;
      reads = λ e. absurd (e c.in-46.is);
    }

pub returns-in_default : goal.returns-in_default
returns-in_default c =
    let some = eqb-false (length c.args.request.now) 0 (sym c.if-is_empty.ensures) in
    record {
      means = not-served c.args.store.now c.args.request.now (omega arith) (omega arith) (omega arith) (omega arith) (omega arith) (omega arith) (omega arith) (omega arith);
      writes = λ e. tt;
      reads = λ e. tt;
    }
