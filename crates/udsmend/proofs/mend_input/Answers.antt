-- `mend_input` meets its contract: there is always room.
use native.Mathlib.Omega.{arith}
use mathlib.Core.Logic.{inr}
use Rattle.exchange.proofs.Entries.{are-bytes}
use Rattle.mend.proofs.Promises.{room-enough}
use Rattle.udsmend.proofs.Holding.{logged, refused}
use Rattle.udsmend.proofs.mend_input.Goals as goal

pub unreachable-requires : goal.unreachable-requires
unreachable-requires c =
    let read = c.args.read.now in
    room-enough read c.args.out.now (are-bytes read (λ i. omega (arith, c.type_inv.read i))) (inr c.requires.0) c.mend.new.out
    (rw c.in-Err-NoRoom.field-0-is at c.in-Err-NoRoom.ensures)

pub returns-in-Ok : goal.returns-in-Ok
returns-in-Ok c =
    let x = c.args in
    logged x.read.now x.out.now c.mend.new.out x.said.now c.put_report.new.text c.in-Ok.n c.put_report.result c.in-Ok.report c.in-Ok.ensures c.put_report.ensures

pub returns-in-Err-Refused : goal.returns-in-Err-Refused
returns-in-Err-Refused c =
    let x = c.args in
    refused x.read.now x.out.now c.mend.new.out x.said.now c.put_refusal.new.text c.in-Err-Refused.refusal c.put_refusal.result
    (rw c.in-Err-Refused.field-0-is at c.in-Err-Refused.ensures) c.put_refusal.ensures
