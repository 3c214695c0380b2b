-- `off_field::put_off` meets its contract.
use Prim.Native.Nat.{ℕ, ◌≤◌}
use native.Mathlib.Omega.{arith}
use mathlib.Core.Path.{sym, ◌∙◌, ap}
use lib.ListN.{length}
use Rattle.rules.specs.Lines.{ascii}
use Rattle.rules.specs.Logs.{header_size, form_in}
use Rattle.logs.specs.Layout.{said}
use Rattle.text.proofs.Adding.{appends, both, saying}
use Rattle.off_field.specs.Numbers.{file_text}
use Rattle.off_field.proofs.Saying.{short, row_line, file-line, event-line}
use Rattle.off_field.proofs.put_off.Goals as goal

pub returns-then-log-size : goal.returns-then-log-size
returns-then-log-size c =
    saying (ap (λ (k : ℕ). file_text (length c.args.log.now) k (ascii " or more.\n")) c.header_size-size.ensures ∙
    short c.args.log.now (said c.read_header-h.result) c.read_header-h.ensures (omega (arith, c.header_size-size.ensures, c.if-log-size.true)))
    c.put_file.ensures

pub returns-in-Some : goal.returns-in-Some
returns-in-Some c =
    let l = c.args.log.now in
    let long : header_size (form_in (said c.read_header-h.result)) ≤ length l = omega (arith, c.header_size-size.ensures, c.if-log-size.false) in
    saying (row_line l (said c.read_header-h.result) c.read_header-h.ensures long c.rows.result c.rows.ensures (sym c.first_row.ensures ∙ c.in-Some.is))
    (both (appends c.append-a.ensures) c.put_row.ensures)

pub returns-in-None : goal.returns-in-None
returns-in-None c =
    let l = c.args.log.now in
    let long : header_size (form_in (said c.read_header-h.result)) ≤ length l = omega (arith, c.header_size-size.ensures, c.if-log-size.false) in
    saying (file-line l (said c.read_header-h.result) c.read_header-h.ensures long c.rows.result c.rows.ensures (sym c.first_row.ensures ∙ c.in-None.is) c.if-log-h.true)
    c.put_file-in-None.ensures

pub returns-in-None-2 : goal.returns-in-None-2
returns-in-None-2 c =
    let l = c.args.log.now in
    let long : header_size (form_in (said c.read_header-h.result)) ≤ length l = omega (arith, c.header_size-size.ensures, c.if-log-size.false) in
    saying (event-line l (said c.read_header-h.result) c.read_header-h.ensures long c.rows.result c.rows.ensures (sym c.first_row.ensures ∙ c.in-None.is) c.if-log-h.false
    c.form_in.ensures c.events_of.ensures) c.put_events.ensures
