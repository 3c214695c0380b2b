-- `layout::all` meets its contract: what passed up to i and what is left say what all do.
use mathlib.Core.Bool.{◌&&◌}
use mathlib.Core.Path.{◌≡◌}
use lib.ListN.{drop}
use Rattle.rules.specs.Logs.{all}
use Rattle.logs.proofs.layout.all.Given as goal

abbrev pub invariant-loop-test : goal.invariant-loop-test
invariant-loop-test l = (l.passed && all (drop l.test-index l.tests)) ≡ all l.tests
