-- `exchange::events::sound_alone` meets its contract.
use native.Mathlib.Omega.{arith}
use Rattle.exchange.proofs.Entries.{are-bytes}
use Rattle.exchange.proofs.events.sound_alone.Goals as goal

pub sound-requires : goal.sound-requires
sound-requires c = are-bytes c.args.replies.now (λ i. omega (arith, c.shared_slice_known-1.given i))
