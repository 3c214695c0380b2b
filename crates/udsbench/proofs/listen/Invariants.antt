-- `udsbench::listen` meets its contract. What came was heard, and what is said of it is written; no input uses the turns up.
use mathlib.Core.List.{[]}
use Rattle.udsbench.specs.Hearing.{bench, bench_of}
use Rattle.udsbench.proofs.Reading.{Came}
use Rattle.udsbench.proofs.listen.Given as goal

abbrev pub invariant-loop : goal.invariant-loop
invariant-loop g l =
    Came (g.R.Read.remaining l.initial.requests) (g.R.Read.remaining l.requests) (g.W.Write.contents l.initial.lines) (g.W.Write.contents l.lines)
    (bench l.initial.store []) (bench_of l.store l.kept) l.counter
