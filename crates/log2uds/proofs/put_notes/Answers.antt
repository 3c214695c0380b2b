-- `log2uds::put_notes` meets its contract.
use native.Mathlib.Omega.{arith}
use mathlib.Core.Bool.{cond, not}
use mathlib.Core.List.{List, [], ◌∷◌, ◌++◌, append-nil}
use native.Mathlib.Numerals.{add-one}
use lib.Seq.{take-suc-set, take_all}
use mathlib.Core.Path.{◌≡◌, sym, ◌∙◌, ap}
use Prim.Native.Nat.{ℕ, ◌+◌, ◌-◌, ◌≤◌}
use lib.Dec.{eqb}
use lib.ListN.{length, get_or, take, drop, length-drop}
use borrow.Author.Tests.{eq-eqb, ne_eqb}
use Rattle.log2uds.specs.Streams.{is_reply}
use Rattle.log2uds.proofs.Notes.{one-copied, all-copied}
use Rattle.log2uds.proofs.put_notes.Goals as goal
use Rattle.log2uds.proofs.put_notes.Goals.{then-keep, else-keep, then-c-eq10, else-c-eq10}

pub loop-i-preserved : goal.loop-i-preserved
loop-i-preserved c =
    let l = c.loop-i in
    let b = get_or c.args.lines.now l.i 0 in
    let put : take c.if-keep.n c.if-keep.out ≡ take l.n l.out ++ cond l.keep (b ∷ []) [] =
    elim c.if-keep.branch [
      | then-keep w ↦ rw (w.n-is, w.out-is, w.if-keep.true) (rw add-one (take-suc-set l.out l.n b (omega (arith, l.invariant.less, l.auto.out, c.requires))))
      | else-keep w ↦ rw (w.n-is, w.out-is, w.if-keep.false) (sym (append-nil (take l.n l.out)))
    ] in
    let few : c.if-keep.n ≤ l.n + 1 = elim c.if-keep.branch [ then-keep w ↦ omega arith | else-keep w ↦ omega arith ] in
    let behind : List ℕ = drop (l.i + 1) c.args.lines.now in
    let rest : take (length c.args.lines.now - (l.i + 1)) behind ≡ behind = take_all _ behind (omega (arith, length-drop (l.i + 1) c.args.lines.now)) in
    let keep : c.if-c-eq10.keep ≡ cond (eqb b 10) (not (is_reply (drop (l.i + 1) c.args.lines.now))) l.keep =
    elim c.if-c-eq10.branch [
      | then-c-eq10 w ↦ rw (eq-eqb b 10 w.if-c-eq10.true, w.keep-is) (ap not (w.is_reply-keep-then-c-eq10.ensures ∙ ap is_reply rest))
      | else-c-eq10 w ↦ rw (ne_eqb b 10 w.if-c-eq10.false) w.keep-is
    ] in
    one-copied c.loop-i-test.true l.invariant put few keep

pub returns : goal.returns
returns c = (all-copied c.loop-i-test.false c.loop-i.invariant, omega (arith, c.loop-i.invariant.less, c.loop-i.invariant.inside))
