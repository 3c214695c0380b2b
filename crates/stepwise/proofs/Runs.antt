-- The runs, by computing.
use mathlib.Core.Path.{refl}
use Rattle.rules.specs.After.{checked}
use Rattle.rules.specs.Exchange.{look, settle}
use Rattle.stepwise.specs.Engine.{step, begin}
use Rattle.stepwise.specs.Runs.{plays, runs, Runs}

pub runs-hold : Runs
unfolding runs plays step begin look settle checked
runs-hold = refl
