-- A field's numbers, as the code holds them, and the words made of them.
use Rattle.std.specs.Prelude as code
use Rattle.std.specs.Prelude.{Some, None}
use Rattle.std.specs.Prelude.{ℕ, Bool, cond, ◌&&◌, List, [], ◌∷◌, ◌++◌, map, take, leb}
use Rattle.std.proofs.Math.Option.{Option, some}
use Rattle.rules.specs.Lines.{ascii, decimal}
use Rattle.rules.specs.Logs.{Header, uses_of}
use Rattle.log_fields.specs.Fields.{Field, header_fields}
use Rattle.log_fields.specs.Words.{should, holds}
use Rattle.off_field.specs.declared.Row.{Row}

-- A field's name, where it stands, what was found, the least and the most.
abbrev pub Numbers : Type 0
Numbers = List ℕ × ℕ × ℕ × ℕ × Option ℕ

abbrev pub row_of : Row → Numbers
row_of r = (r.name.now, r.at, r.found, r.least, some r.most)

abbrev pub numbers_of : Field → Numbers
numbers_of f = (f.name, f.at, f.found, f.least, f.most)

-- The header's fields but for the last, the file's length, of which nothing is read in the header.
abbrev pub named_fields : Header → List Numbers
named_fields h = map numbers_of (take 17 (header_fields h (uses_of h.call) 0))

-- A row that is not off.
abbrev pub lies : Row → Bool
lies r = leb r.least r.found && leb r.found r.most

abbrev pub first_row : List Row → code.Option Row
first_row [] = None
first_row (r ∷ rs) = cond (lies r) (first_row rs) (Some r)

-- Behind a name.
abbrev pub behind : Row → List ℕ
behind r = holds r.at r.found ++ should r.least (some r.most) ++ ascii ".\n"

-- Of the file's length.
abbrev pub file_text : ℕ → ℕ → List ℕ → List ℕ
file_text n least tail = ascii "This is no log: the file has " ++ decimal n ++ ascii " bytes and should have " ++ decimal least ++ tail
