-- `codes::name_number` meets its contract: the table holds the decision for the 256 bytes, as the rows of `rules` have them.
use Prim.Native.Nat.{ℕ}
use native.Mathlib.Omega.{arith}
use mathlib.Core.List.{List}
use mathlib.Core.Path.{◌∙◌, sym, ap}
use lib.ListN.{get_or}
use Rattle.rules.specs.Codes.{name_number}
use Rattle.rules.specs.CodeRows.{numbers}
use Rattle.rules.proofs.CodeRows.{code-rows-hold}
use Rattle.codes.proofs.Entries.{entry}
use Rattle.codes.proofs.name_number.Goals as goal

pub returns : goal.returns
unfolding numbers
returns c =
    let code = c.args.code in
    ap (λ (l : List ℕ). get_or l code 0) (sym code-rows-hold) ∙ entry name_number 256 code (omega arith)
