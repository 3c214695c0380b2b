-- `log2uds::read_text` meets its contract.
use mathlib.Core.Bool.{false}
use mathlib.Core.Path.{◌≡◌}
use lib.ListN.{length}
use Rattle.std.specs.Io.KnownBytes.{Consumes}
use Rattle.importing.specs.Kept.{start}
use Rattle.imports.specs.Held.{stream_of, settled_in}
use Rattle.log2uds.specs.Runs.{Came}
use Rattle.log2uds.proofs.read_text.Given as goal

abbrev pub invariant-loop : goal.invariant-loop
invariant-loop g l =
    ((p : Came (length l.initial.out) l.ids.ask l.ids.answer start (stream_of l.stream l.lent l.out)) ×
    Consumes (g.R.Read.remaining l.initial.text) (g.R.Read.remaining l.text) p.text) × (settled_in l.stream ≡ false)
