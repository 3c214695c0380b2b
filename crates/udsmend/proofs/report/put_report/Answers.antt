-- `report::put_report` meets its contract: the lines stand one behind the other.
use Rattle.std.proofs.Common.{List, [], ℕ, ◌∷◌, ◌++◌, append_assoc, subst, arith}
use Rattle.rules.specs.Lines.{ascii}
use Rattle.text.specs.Written.{Put, counted}
use Rattle.text.proofs.Writing.{then}
use Rattle.mending.specs.Said.{rewrote}
use Rattle.mend.specs.Answered.{report_of}
use Rattle.udsmend.proofs.report.put_report.Goals as goal

pub returns : goal.returns
returns c =
    let r = c.args.report in
    let head = counted (ascii "kept") r.new.events ++ counted (ascii " promised") r.old.events in
    let fields =
    then (omega arith) c.put_field-b.ensures.put
    (then (omega arith) c.put_field-c.ensures.put
    (then (omega arith) c.put_field-d.ensures.put
    (then (omega arith) c.put_field-e.ensures.put
    (then (omega arith) c.put_field-f.ensures.put c.put_field.ensures.put))))
    in
    subst (λ (bs : List ℕ). Put c.args.text.now 0 bs c.put_field.new.text c.put_field.result) (append_assoc head (10 ∷ []) (rewrote (report_of r)))
    (then (omega arith) c.put_pair-a.ensures.put fields)
