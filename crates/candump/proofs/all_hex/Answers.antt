-- `candump::all_hex` meets its contract.
use Rattle.std.proofs.Common.{rules, sym, ◌∙◌}
use Rattle.std.proofs.lemmas.Iterator.{YieldsList-from_slice}
use Rattle.std.proofs.lemmas.Iterator.Search.{all_from_yields_List}
use Rattle.candump.specs.Text.{Hex, is}
use Rattle.candump.proofs.Words.{every_all}
use Rattle.candump.proofs.all_hex.Goals as goal

pub returns : goal.returns
unfolding is
returns c =
    all_from_yields_List (is Hex) _ _ _ c.all.ensures.ran (YieldsList-from_slice c.args.word.now cc) (λ x b q k. search rules)
    ∙ sym (every_all (is Hex) c.args.word.now)
