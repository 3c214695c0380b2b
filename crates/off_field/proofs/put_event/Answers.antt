-- `off_field::put_event` meets its contract.
use Rattle.std.proofs.Common.{◌≡◌, ◌++◌, ◌∙◌, ap, List, ℕ}
use Rattle.rules.specs.Lines.{ascii, decimal}
use Rattle.exchange.specs.Meaning.{entry_of}
use Rattle.log_fields.specs.Fields.{entry_fields, first}
use Rattle.log_fields.specs.Words.{text_of}
use Rattle.text.proofs.Adding.{appends, both, saying}
use Rattle.off_field.specs.declared.Row.{Row}
use Rattle.off_field.specs.Numbers.{behind}
use Rattle.off_field.proofs.Events.{offset-line, length-line}
use Rattle.off_field.proofs.put_event.Goals.{then-event-ne0, else-event-ne0}
use Rattle.off_field.proofs.put_event.Goals as goal

pub returns : goal.returns
returns c =
    let x = c.args in
    let all : Row → List ℕ = λ r. ascii "This is no log: event " ++ decimal x.number ++ (r.name.now ++ behind r) in
    let line : all c.if-event-ne0.row ≡ text_of (first (entry_fields x.number x.begins (entry_of x.event))) =
    elim c.if-event-ne0.branch [
      | then-event-ne0 w ↦ ap all w.row-is ∙ offset-line x.number x.begins (entry_of x.event) c.requires.1 w.if-event-ne0.true
      | else-event-ne0 w ↦ ap all w.row-is ∙ length-line x.number x.begins (entry_of x.event) c.requires.1 w.if-event-ne0.false
    ]
    in
    saying line (both (both (appends c.append-a.ensures) (appends c.append_decimal-b.ensures)) c.put_row.ensures)
