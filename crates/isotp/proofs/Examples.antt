-- The examples come out, by computing.
use mathlib.Core.Path.{refl}
use Rattle.isotp.specs.Joining.{feed, join}
use Rattle.isotp.specs.Examples.{examples, Examples}

pub come-out : Examples
unfolding examples join feed
come-out = refl
