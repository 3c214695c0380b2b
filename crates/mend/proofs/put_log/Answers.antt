-- `put_log` meets its contract.
use Prim.Native.Nat.{◌-◌, ◌≤◌}
use native.Mathlib.Omega.{arith}
use mathlib.Core.Path.{sym, ◌∙◌}
use lib.ListN.{length}
use lib.Seq.{length-take-le}
use Rattle.std.proofs.lemmas.Grind.{common_steps}
use Rattle.logs.specs.Layout.{said}
use Rattle.mending.specs.Mend.{events_in}
use Rattle.mend.proofs.Places.{kept-cut, events-whole, all-put}
use Rattle.mend.proofs.put_log.Goals as goal

pub slice_bounds-copy_from_slice-length-3 : goal.slice_bounds-copy_from_slice-length-3
slice_bounds-copy_from_slice-length-3 c =
    let a = c.args in
    let whole = events-whole a.new (said a.old) a.log.now c.requires.new in
    rw c.events_in.ensures (sym (length-take-le _ (events_in (said a.old) a.log.now) whole))

pub copy_from_slice-requires-2 : goal.copy_from_slice-requires-2
copy_from_slice-requires-2 c =
    let a = c.args in
    let whole : a.new.replies_at - a.new.events_at ≤ length c.events_in.result.now = rw c.events_in.ensures (events-whole a.new (said a.old) a.log.now c.requires.new) in
    grind (arith, common_steps)

pub returns : goal.returns
returns c =
    let a = c.args in
    all-put a.new (said a.old) a.log.now c.requires.new c.requires.whole c.requires.room c.put_header.ensures
    (c.copy_from_slice.ensures.after ∙ c.arguments_in.ensures)
    (c.copy_from_slice-2.ensures.after ∙ rw c.events_in.ensures (kept-cut a.new (said a.old) a.log.now c.requires.new))
    (c.copy_from_slice-3.ensures.after ∙ c.left_in.ensures)
