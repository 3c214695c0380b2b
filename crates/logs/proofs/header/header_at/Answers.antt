-- `header::header_at` meets its contract.
use native.Mathlib.Omega.{arith}
use mathlib.Core.Path.{◌∙◌, ap}
use lib.ListN.{length, drop, length-drop}
use lib.Seq.{take_all}
use Rattle.rules.specs.Logs.{header_of}
use Rattle.logs.proofs.header.header_at.Goals as goal

pub returns : goal.returns
returns c =
    let l = c.args.log.now in
    let at = c.args.at in
    let whole = take_all (length l) (drop at l) (simp length-drop (omega arith)) in
    c.header_in.ensures ∙ ap header_of (c.part.ensures ∙ whole)
