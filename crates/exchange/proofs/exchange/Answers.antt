-- `exchange::exchange` meets its contract.
use native.Mathlib.Omega.{arith}
use mathlib.Core.Path.{sym, ◌∙◌}
use borrow.Author.Tests.{not-true, not-false}
use Rattle.exchange.specs.Guarded.{guarded}
use Rattle.exchange.proofs.exchange.Goals as goal

pub returns-then-not-within_limits : goal.returns-then-not-within_limits
unfolding guarded
returns-then-not-within_limits c = record { means = rw (c.from.ensures, sym c.within_limits.ensures ∙ not-true _ c.if-not-within_limits.true-raw); outcome = tt; reply = omega arith }

pub returns : goal.returns
unfolding guarded
returns c = rw (sym c.within_limits.ensures ∙ not-false _ c.if-not-within_limits.false-raw) c.settle.ensures
