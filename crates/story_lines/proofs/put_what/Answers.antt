-- `story_lines::put_what` meets its contract.
use Rattle.std.proofs.Common.{rules, arith}
use mathlib.Core.Path.{ap, ◌∙◌}
use borrow.Author.Tests.{eq-eqb, ne_eqb}
use Rattle.telling.specs.Words.{what, shown}
use Rattle.text.proofs.Adding.{appends, both, saying}
use Rattle.text.proofs.Numerals.{two-bytes}
use Rattle.story_lines.proofs.put_what.Goals as goal

pub returns-in-0 : goal.returns-in-0
unfolding what
returns-in-0 c =
    rw (eq-eqb _ 0 c.in-0.is, ← c.whose.ensures)
    (both (appends c.append-a.ensures) (saying (ap shown (c.part.ensures ∙ ap (λ p. p.bytes) c.named-place.ensures.means)) c.put_shown.ensures))

pub returns-in-1 : goal.returns-in-1
unfolding what
returns-in-1 c = search (rules, appends)

pub returns-in-2 : goal.returns-in-2
unfolding what
returns-in-2 c = search (rules, appends)

pub returns-in_default : goal.returns-in_default
unfolding what
returns-in_default c =
    let kind = c.args.event.kind in
    let number = c.to_be_bytes.ensures ∙ two-bytes c.args.event.size (omega arith) in
    rw (ne_eqb kind 0 (omega arith), ne_eqb kind 1 (omega arith), ne_eqb kind 2 (omega arith))
    (both (appends c.append-a-in_default.ensures) (saying (ap shown number) c.put_shown-in_default.ensures))
