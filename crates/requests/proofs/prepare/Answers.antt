-- `requests::prepare` meets its contract.
use mathlib.Core.Path.{◌≡◌, ap, ◌∙◌}
use Rattle.std.proofs.Common.{rules}
use Rattle.std.specs.Prelude.{Err}
use Rattle.wire.specs.Refusing.{refusal_number}
use Rattle.requests.specs.Parameters.{arguments_of}
use Rattle.requests.specs.Prepared.{prepared_of}
use Rattle.requests.specs.declared.rows.Row.{Row}
use Rattle.requests.proofs.Requests.{InHand, refused-arguments, refused-size, ready}
use Rattle.requests.proofs.prepare.Goals as goal

pub returns-in_err-sent : goal.returns-in_err-sent
returns-in_err-sent c =
    let a = c.args in
    let asked = ap (λ (r : Row). arguments_of r.takes a.address.now a.size.now) c.row_of-row.ensures in
    let told : Err (refusal_number c.in_err-sent.field-0.0) ≡ prepared_of a.call a.quiet a.address.now a.size.now a.«data».now a.room = refused-arguments a.call a.quiet a.address.now a.size.now a.«data».now a.room (c.in_err-sent.ensures ∙ asked) in
    search (rules, told)

pub returns-in_err-length : goal.returns-in_err-length
returns-in_err-length c =
    let a = c.args in
    let hand : InHand a.call a.quiet a.address.now a.size.now a.«data».now a.room c.row_of-row.result c.with_bit7-sub.result c.in_ok-sent.sent c.opening-opened.result c.when-a.result.now c.when-s.result.now c.when_given-d.result.now = record {
      is_row = c.row_of-row.ensures;
      is-sub = c.with_bit7-sub.ensures;
      sent = c.in_ok-sent.ensures;
      is-head = c.opening-opened.ensures;
      is_address = c.when-a.ensures;
      is-size = c.when-s.ensures;
      is-data = c.when_given-d.ensures;
    } in
    let told : Err (refusal_number c.in_err-length.field-0.0) ≡ prepared_of a.call a.quiet a.address.now a.size.now a.«data».now a.room = refused-size hand c.in_err-length.ensures in
    search (rules, told)

pub returns : goal.returns
returns c =
    let a = c.args in
    let hand : InHand a.call a.quiet a.address.now a.size.now a.«data».now a.room c.row_of-row.result c.with_bit7-sub.result c.in_ok-sent.sent c.opening-opened.result c.when-a.result.now c.when-s.result.now c.when_given-d.result.now = record {
      is_row = c.row_of-row.ensures;
      is-sub = c.with_bit7-sub.ensures;
      sent = c.in_ok-sent.ensures;
      is-head = c.opening-opened.ensures;
      is_address = c.when-a.ensures;
      is-size = c.when-s.ensures;
      is-data = c.when_given-d.ensures;
    } in
    ready hand c.in_ok-length.ensures
