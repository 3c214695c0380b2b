-- `put_log` meets its contract.
use Prim.Native.Nat.{◌+◌, ◌-◌}
use native.Mathlib.Omega.{arith}
use borrow.Author.Rules.{rules}
use borrow.Rule.Slice.PartMut.{put_mid}
use mathlib.Core.List.{map}
use mathlib.Core.Path.{◌≡◌, ◌∙◌}
use lib.ListN.{length}
use Rattle.rules.specs.Events.{plain, entries}
use Rattle.rules.specs.Logs.{form_in}
use Rattle.rules.specs.Writing.{put_header, put_entries}
use Rattle.rules.proofs.Writing.{writing}
use Rattle.logs.specs.Layout.{said}
use Rattle.mend.proofs.Copies.{four}
use Rattle.captured.specs.Capture.{from}
use Rattle.captured.proofs.Written.{put-long}
use Rattle.captured.proofs.put_log.Goals as goal

pub returns : goal.returns
returns c =
    let x = c.args in
    let h = said x.h in
    let events = put_entries (form_in h) (map (from x.h.listens) (entries plain x.events.now)) in
    let long = put-long (form_in h) x.h.listens (entries plain x.events.now) in
    let put : c.put_events.new.out ≡ events = rw c.form_in.ensures at c.put_events.ensures in
    let at = c.requires in
    let whole : length x.out.now ≡ 65535 = search rules in
    (λ i.
    put_mid x.h.replies_at (x.h.replies_at + length x.replies.now - x.h.replies_at)
    (put_mid x.h.events_at (x.h.replies_at - x.h.events_at)
    (put_mid x.h.arguments_at (x.h.events_at - x.h.arguments_at) c.put_header.new.buffer (c.copy_from_slice.ensures.after i)) (put i))
    (c.copy_from_slice-2.ensures.after i)) ∙
    four (put_header h) x.arguments.now events x.replies.now x.out.now
    (omega (arith, at.end, long, whole, writing.header-long h)) c.put_header.ensures (omega (arith, at.arguments, writing.header-long h))
    (omega (arith, at.arguments, at.events)) (omega (arith, at.events, at.replies, long)) (omega (arith, at.arguments, at.events))
    (omega (arith, at.events, at.replies, long)) (omega arith)
