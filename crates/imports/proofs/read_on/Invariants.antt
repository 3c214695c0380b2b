-- `imports::read_on` meets its contract.
use mathlib.Core.Path.{◌≡◌}
use lib.ListN.{length, take}
use Rattle.importing.specs.Kept.{stream, bytes}
use Rattle.imports.specs.Held.{going_of, stream_of}
use Rattle.imports.proofs.read_on.Given as goal

abbrev pub invariant-loop-c : goal.invariant-loop-c
invariant-loop-c l =
    let b = l.initial in
    let f = l.fn in
    stream l.reader (going_of l.import l.lent l.out) ≡ bytes (length b.out) l.ids.ask l.ids.answer (stream_of f.s f.lent f.out) (take l.c-index l.chunk)
