-- `udsbench::kept::Kept::push` meets its contract.
use Rattle.std.proofs.Common.{[], ◌∷◌, ◌++◌, take, sym, add-one, length-append, arith}
use lib.Seq.{take-suc-set, take_all, take_at, length-take-le}
use Rattle.udsbench.proofs.kept.Kept.push.Goals as goal

pub returns-then-self-lt-KEPT : goal.returns-then-self-lt-KEPT
returns-then-self-lt-KEPT c =
    let k = c.args.self.now in
    let long = length-take-le k.len k.bytes (omega arith) in
    rw (add-one, take-suc-set k.bytes k.len c.args.byte (omega arith)) (sym (take_all 8197 (take k.len k.bytes ++ (c.args.byte ∷ [])) (omega (arith, length-append (take k.len k.bytes) (c.args.byte ∷ [])))))

pub returns-else-self-lt-KEPT : goal.returns-else-self-lt-KEPT
returns-else-self-lt-KEPT c =
    let k = c.args.self.now in
    let long = length-take-le k.len k.bytes (omega arith) in
    sym (take_at (take k.len k.bytes) (c.args.byte ∷ []) 8197 (omega arith))
