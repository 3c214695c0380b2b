-- `story_lines::put_on` meets its contract.
use Rattle.std.proofs.Common.{◌≡◌, ◌∙◌, ap, ℕ, List, ◌++◌, Bor}
use borrow.Author.Tests.{eq-eqb, ne_eqb}
use Rattle.rules.specs.Lines.{ascii}
use Rattle.exchange.specs.Meaning.{entry_of}
use Rattle.telling.specs.Words.{on_text, tail}
use Rattle.text.proofs.Adding.{appends, both, saying}
use Rattle.story_lines.proofs.put_on.Goals.{then-event-ne0, else-event-ne0+then-event-listens, else-event-ne0+else-event-listens}
use Rattle.story_lines.proofs.put_on.Goals as goal

pub returns : goal.returns
unfolding on_text
returns c =
    let x = c.args in
    let all : Bor (List ℕ) × ℕ × Bor (List ℕ) → List ℕ = λ t. t.0.now ++ tail t.1 t.2.now x.before (ascii " -> ") x.next.deadline in
    let words : all c.if-event-ne0.count ≡ on_text x.listens (entry_of x.event) x.before x.next.read.all x.next.notices.all x.next.deadline =
    elim c.if-event-ne0.branch [
      | then-event-ne0 w ↦ ap all w.count-is ∙ rw (ne_eqb _ 0 w.if-event-ne0.true)
      | else-event-ne0+then-event-listens w ↦ ap all w.count-is ∙ rw (eq-eqb _ 0 w.if-event-ne0.false, ne_eqb _ _ w.if-event-listens.true)
      | else-event-ne0+else-event-listens w ↦ ap all w.count-is ∙ rw (eq-eqb _ 0 w.if-event-ne0.false, eq-eqb _ _ w.if-event-listens.false)
    ]
    in
    saying words (both (appends c.append-a.ensures) c.put_tail.ensures)
