-- `candump::identifier` meets its contract.
use Rattle.candump.proofs.Words.{Digits}
use Rattle.candump.proofs.identifier.Given as goal

abbrev pub invariant-loop-c : goal.invariant-loop-c
invariant-loop-c l = Digits l.word l.c-index l.v
