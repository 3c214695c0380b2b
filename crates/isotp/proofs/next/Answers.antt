-- `isotp::next` meets its contract.
use Prim.Native.Nat.{ℕ, ◌+◌, ◌-◌, ◌%◌, ◌≤◌}
use mathlib.Core.List.{List, ◌++◌}
use lib.ListN.{take, drop}
use Rattle.std.proofs.Common.{arith}
use Rattle.std.proofs.lemmas.Grind.{common_steps}
use Rattle.isotp.proofs.Held.{goes_on_does}
use Rattle.isotp.proofs.next.Goals as goal

pub returns-else-due-le7 : goal.returns-else-due-le7
returns-else-due-le7 c =
    let j = c.in_ok-due.field-0 in
    let room : j.have + j.due ≤ 4095 = grind (arith, common_steps) in
    let number : j.next ≤ 15 = grind (arith, common_steps) in
    let bytes : List ℕ = take j.have c.args.buffer.now ++ take c.min-n.result (drop 1 c.args.frame.now) in
    goes_on_does {due = j.due - 7} {n = (j.next + 1) % 16} {bs = bytes}
    (grind (arith, common_steps)) (omega arith) (grind (arith, common_steps)) (omega arith)
    (grind (arith, common_steps)) (grind (arith, common_steps))
