-- What stands at the front of the buffers that are written to the two streams.
use Rattle.std.specs.Prelude.{ℕ, cond, List, [], ◌∷◌, ◌++◌, ◌≡◌, eqb, take}
use Rattle.mending.specs.Mend.{mend}
use Rattle.mending.specs.Said as Said
use Rattle.text.specs.Written.{counted}
use Rattle.udsmend.specs.declared.Streams.{Streams}

-- `field` of `Said`, with its name as bytes.
abbrev pub field_text : List ℕ → ℕ → ℕ → List ℕ
field_text name old new = cond (eqb old new) [] (counted name old ++ counted [] new ++ (10 ∷ []))

-- Of all that was read: the mended log, and what is said of it.
pub record Holds (read : List ℕ) (r : Streams) (out said : List ℕ) : Type 0 where
  pub log : take r.out out ≡ Said.put (mend read)
  pub report : take r.said said ≡ Said.said (mend read)
