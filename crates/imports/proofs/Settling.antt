-- What is settled, by the code's values.
use mathlib.Core.Bool.{◌||◌}
use Rattle.std.specs.Prelude.{Result, Ok, Err, is_err}
use mathlib.Core.Path.{◌≡◌, refl}
use Rattle.candump.specs.Reading.{hopeless}
use Rattle.importing.specs.Kept.{refused_in}
use Rattle.imports.specs.Held.{going_of, Settled}
use Rattle.imports.specs.declared.Import.{Import}
use Rattle.imports.specs.declared.RefusedLine.{RefusedLine}

pub settled-held : Settled
settled-held s lent out = go s.import
  where
    go : (r : Result Import RefusedLine) → (is_err r || hopeless s.reader.phase) ≡ (refused_in (going_of r lent out) || hopeless s.reader.phase)
    go (Ok i) = refl
    go (Err e) = refl
