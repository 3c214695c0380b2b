-- "For a bad log it says the first field that is off and what it should be": the line.
use Rattle.std.specs.Prelude.{ℕ, cond, List, [], ◌∷◌, ◌++◌, eqb}
use Rattle.std.proofs.Math.Option.{Option, none, some}
use Rattle.rules.specs.Lines.{ascii, decimal}
use Rattle.log_fields.specs.Fields.{Read, whole, bit, byte, pair, four, Field, first_off}

abbrev pub should : ℕ → Option ℕ → List ℕ
should least none = decimal least ++ ascii " or more"
should least (some most) = cond (eqb least most) (decimal least) (decimal least ++ ascii " to " ++ decimal most)

-- The number found, where it stands.
abbrev pub holds : ℕ → ℕ → List ℕ
holds at n = ascii " (byte " ++ decimal at ++ ascii ") is " ++ decimal n ++ ascii " and should be "

-- The log's own length stands nowhere.
abbrev pub found : Read → ℕ → ℕ → List ℕ
found whole at n = ascii " has " ++ decimal n ++ ascii " bytes and should have "
found (bit weight) at n = holds at n
found byte at n = holds at n
found pair at n = holds at n
found four at n = holds at n

unfoldable pub off_text : Field → List ℕ
off_text f = ascii "This is no log: " ++ f.name ++ found f.read f.at f.found ++ should f.least f.most ++ ascii ".\n"

abbrev pub text_of : Option Field → List ℕ
text_of none = []
text_of (some f) = off_text f

-- Of a log; nothing where no field is off.
unfoldable pub off_line : List ℕ → List ℕ
off_line l = text_of (first_off l)
