-- `report::put_pair` meets its contract.
use Prim.Native.Nat.{◌+◌, ◌≤◌}
use native.Mathlib.Omega.{arith}
use lib.ListN.{length}
use Rattle.udsmend.proofs.Texts.{two-end, line-put}
use Rattle.udsmend.proofs.report.put_pair.Goals as goal

pub returns : goal.returns
returns c =
    let ends : let x = c.args in c.put_counted-b.result + 1 ≤ x.at + length x.word.now + length x.between.now + 13 = let x = c.args in
    two-end x.text.now c.put_counted-a.new.line c.put_counted-b.new.line x.word.now x.between.now x.at x.first x.second
    c.put_counted-a.result c.put_counted-b.result (omega arith) (omega arith) c.requires c.put_counted-a.ensures c.put_counted-b.ensures in
    let x = c.args in
    record {
      put = line-put x.text.now c.put_counted-a.new.line c.put_counted-b.new.line x.word.now x.between.now x.at x.first x.second
          c.put_counted-a.result c.put_counted-b.result (omega arith) (omega arith) c.requires c.put_counted-a.ensures c.put_counted-b.ensures
          c.copy_into.ensures;
      upper_bound = ends;
    }
