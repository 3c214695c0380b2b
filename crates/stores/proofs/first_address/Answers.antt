-- `stores::first_address` meets its contract.
use native.Mathlib.Omega.{arith}
use Rattle.bench.specs.Stores.{store_of}
use Rattle.stores.proofs.first_address.Goals as goal

pub returns : goal.returns
unfolding store_of
returns c = omega (arith, c.u32_at.ensures, c.u32_at-2.ensures)
