-- `put_line_of` meets its contract.
use Prim.Native.Nat.{ℕ, ◌<◌}
use native.Mathlib.Omega.{arith}
use lib.ListN.{get_or}
use Rattle.log_lines.proofs.Lining.{ends-inside, put-behind}
use Rattle.log_lines.proofs.put_line_of.Goals as goal

pub returns : goal.returns
returns c =
    let x = c.args in
    let bytes : (i : ℕ) → get_or x.log.now i 0 < 256 = λ i. omega (arith, c.type_inv.log i) in
    rw c.unwrap_or.ensures (
      put-behind x.out.now x.at c.requires x.log.now bytes c.line_of.ensures,
      ends-inside x.out.now x.at c.requires x.log.now bytes c.line_of.ensures c.line_of.auto.line,
    )
