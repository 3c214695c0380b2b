-- `calls::run_alfid` meets its contract: a width refuses, or address and size are handed on as bytes.
use mathlib.Core.Path.{ap, ◌∙◌}
use Rattle.requests.specs.declared.rows.Row.{Row}
use Rattle.requests.specs.Rows.{takes_memory}
use Rattle.calls.specs.Meaning.{lent_of}
use Rattle.calls.proofs.Widths.{given-of, turned-by-address, turned-by-size, handed-on, laid-out}
use Rattle.calls.proofs.run_alfid.Goals as goal

pub returns-in-Err : goal.returns-in-Err
returns-in-Err c =
    let x = c.args in
    let lent = lent_of x.ask.channel x.request.now x.events.now x.replies.now in
    let given = given-of x.session x.ask x.address x.size x.address_width x.size_width x.wide x.«data».now lent in
    -- Whether the call takes address and size.
    let takes = c.takes_memory-takes.ensures ∙ ap (λ (r : Row). takes_memory r.takes) c.row_of-row.ensures in
    rw c.refused.ensures (turned-by-address given takes c.in-Err.refusal c.in-Err.ensures)

pub returns-in-Err-field_bytes : goal.returns-in-Err-field_bytes
returns-in-Err-field_bytes c =
    let x = c.args in
    let lent = lent_of x.ask.channel x.request.now x.events.now x.replies.now in
    let given = given-of x.session x.ask x.address x.size x.address_width x.size_width x.wide x.«data».now lent in
    -- Whether the call takes address and size.
    let takes = c.takes_memory-takes.ensures ∙ ap (λ (r : Row). takes_memory r.takes) c.row_of-row.ensures in
    rw c.refused-in-Err-field_bytes.ensures (turned-by-size given takes c.in-Ok.ensures c.in-Err-field_bytes.refusal c.in-Err-field_bytes.ensures)

pub returns : goal.returns
returns c =
    let x = c.args in
    let lent = lent_of x.ask.channel x.request.now x.events.now x.replies.now in
    let given = given-of x.session x.ask x.address x.size x.address_width x.size_width x.wide x.«data».now lent in
    -- Whether the call takes address and size.
    let takes = c.takes_memory-takes.ensures ∙ ap (λ (r : Row). takes_memory r.takes) c.row_of-row.ensures in
    handed-on given takes (laid-out given takes _ _ c.in-Ok.ensures) (laid-out given takes _ _ c.in-Ok-field_bytes.ensures)
    c.part-address.ensures c.part-size.ensures c.run.ensures
