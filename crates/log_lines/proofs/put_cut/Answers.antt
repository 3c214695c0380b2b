-- `put_cut` meets its contract.
use Rattle.std.proofs.Common.{rules, arith}
use Prim.Native.Nat.{◌≤◌, ◌<◌, ◌^◌}
use mathlib.Core.Path.{◌≡◌}
use Rattle.log_lines.specs.Batches.{following}
use Rattle.log_lines.proofs.Saying.{cut-put}
use Rattle.log_lines.proofs.Batching.{not-cut, cut-told}
use Rattle.log_lines.proofs.put_cut.Goals.{then-n-left-2, else-n-left-2}
use Rattle.log_lines.proofs.put_cut.Goals as goal

pub returns-then-n-left : goal.returns-then-n-left
returns-then-n-left c = not-cut c.args.left c.args.logs c.args.n c.args.said.now c.if-said-lt-SAID.false c.if-n-left.true

pub returns : goal.returns
returns c =
    let x = c.args in
    let m = c.if-n-left-2.log in
    let inside : x.n < x.left → m ≡ x.logs = λ h. elim c.if-n-left-2.branch [ then-n-left-2 w ↦ w.log-is | else-n-left-2 w ↦ absurd (omega arith) ] in
    let past : x.left ≤ x.n → m ≡ following x.logs =
    λ h. elim c.if-n-left-2.branch [ then-n-left-2 w ↦ absurd (omega arith) | else-n-left-2 w ↦ search rules ] in
    let small : m < 2 ^ 64 = elim c.if-n-left-2.branch [ then-n-left-2 w ↦ omega arith | else-n-left-2 w ↦ omega arith ] in
    cut-told x.left x.logs x.n x.said.now c.if-said-lt-SAID.false _ c.put_item.result m c.if-n-left.false inside past
    (cut-put x.said.now _ m c.put_item.result c.if-said-lt-SAID.false small c.put_item.ensures)
