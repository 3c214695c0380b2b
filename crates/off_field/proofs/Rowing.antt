-- Bounds of a header's numbers.
use Rattle.logs.proofs.Forms.{moved-little, few_bytes}
use Rattle.exchange.proofs.Entries.{size-some, size_small}

pub ruleset little = (moved-little, few_bytes, size-some, size_small)
