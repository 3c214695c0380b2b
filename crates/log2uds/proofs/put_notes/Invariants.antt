-- `log2uds::put_notes` meets its contract.
use Rattle.log2uds.proofs.Notes.{Copied}
use Rattle.log2uds.proofs.put_notes.Given as goal

abbrev pub invariant-loop-i : goal.invariant-loop-i
invariant-loop-i l = Copied l.lines l.out l.keep l.n l.i
