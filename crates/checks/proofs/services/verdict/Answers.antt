-- `checks::services::verdict` meets its contract.
use native.Mathlib.Omega.{arith}
use mathlib.Core.Path.{◌∙◌, ap}
use lib.ListN.{length, length-take}
use Rattle.checks.proofs.services.verdict.Goals as goal

pub write_memory_by_address-requires : goal.write_memory_by_address-requires
write_memory_by_address-requires c = omega (
  arith,
  ap length c.part-address.ensures ∙ length-take 15
      (c.args.address.now),
  ap length
      c.part-size.ensures ∙ length-take 15
      (c.args.size.now),
)
