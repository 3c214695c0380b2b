-- `story_checks::put_checks` meets its contract.
use mathlib.Core.Path.{sym, ◌∙◌}
use Rattle.text.proofs.Adding.{nothing, saying}
use Rattle.story_checks.proofs.Heard.{none_told}
use Rattle.story_checks.proofs.put_checks.Goals as goal

pub returns-then-not-is_positive : goal.returns-then-not-is_positive
returns-then-not-is_positive c =
    let x = c.args in
    saying (none_told x.strict x.call x.address x.size x.reply.now _ _ (sym c.is_positive.ensures ∙ c.if-not-is_positive.true)) (nothing _ _)
