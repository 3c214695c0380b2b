-- `find` meets its contract: a log that is passed, or counted off.
use native.Mathlib.Omega.{arith}
use Rattle.book.proofs.Walks.{nth, passed, one_less, next-behind}
use Rattle.book_layout.specs.Left.{left}
use Rattle.book.specs.Answered.{stands_at}
use Rattle.bookkeeping.specs.Book as bookkeeping
use Rattle.bookkeeping.specs.Layout.{joined, start, logs_in}
use Rattle.rules.specs.Bytes.{u16_at}
use lib.ListN.{length, length-append}
use mathlib.Core.Path.{◌≡◌, sym, ◌∙◌, ap, subst⁻¹}
use mathlib.Core.List.{List}
use Prim.Native.Nat.{ℕ, ◌+◌}
use Rattle.book.proofs.find.Goals as goal
use Rattle.book.proofs.find.Goals.{then-call_in-call+else-left-eq0, else-call_in-call}

pub loop-log-preserved : goal.loop-log-preserved
loop-log-preserved c =
    let l = c.loop-log in
    let x = c.args in
    let b = x.book.now in
    let log = c.in-Some.log.now in
    let ls = left c.next.new.self in
    let split = c.in-Some.ensures.steps in
    let sought = sym (ap (nth x.call l.left) split) ∙ l.invariant.2 in
    let place = sym (ap (stands_at x.call l.left l.at) split) ∙ l.invariant.3 in
    let Goal : ℕ → Type 0 = λ (k : ℕ). (nth x.call k ls ≡ bookkeeping.find b x.call x.k) ×
    (stands_at x.call k (l.at + length log) ls ≡ stands_at x.call x.k (start (u16_at b 4)) (logs_in b)) in
    let on : Goal c.if-call_in-call.left =
    elim c.if-call_in-call.branch [
      | then-call_in-call+else-left-eq0 w ↦
          let less = one_less x.call l.left log ls l.at (sym c.call_in.ensures ∙ w.if-call_in-call.true) (omega (arith, w.if-left-eq0.false)) in
          subst⁻¹ Goal w.left-is (sym less.0 ∙ sought, sym less.1 ∙ place)
      | else-call_in-call w ↦
          let by = passed x.call l.left log ls l.at (λ e. w.if-call_in-call.false (c.call_in.ensures ∙ e)) in
          subst⁻¹ Goal w.left-is (sym by.0 ∙ sought, sym by.1 ∙ place)
    ]
    in (
      omega (arith, l.invariant.0, ap (λ (y : List (List ℕ)). length (joined y)) split, length-append log (joined ls)),
      next-behind b l.at log ls (sym (ap joined split) ∙ l.invariant.1),
      on.0,
      on.1,
    )
