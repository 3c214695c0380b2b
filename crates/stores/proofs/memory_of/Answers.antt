-- `stores::memory_of` meets its contract.
use Rattle.std.proofs.Common.{ℕ, List, sym, ◌∙◌, ap, arith}
use lib.ListN.{length, drop, length-take}
use Rattle.lengths.proofs.Values.{told, high}
use Rattle.stores.proofs.Held.{held-of, near-told, empty, outside, far-outside, within}
use Rattle.stores.proofs.memory_of.Goals.{then-count-lt1-via-then-count-lt1, then-count-lt1-via-else-count-lt1+then-from-held, then-count-lt1-via-else-count-lt1+else-from-held+then-count-held}
use Rattle.stores.proofs.memory_of.Goals as goal

pub returns-in_err-from : goal.returns-in_err-from
returns-in_err-from c =
    let l = c.args.store.now in
    let held = held-of l c.part-held.ensures c.u16_at-memory.ensures c.u16_at.ensures in
    let few = length-take c.u16_at.result (drop c.u16_at-memory.result l) in
    c.from_residual.ensures ∙ far-outside l _ _ c.first_address.ensures held (omega (arith, few, ap (λ (p : List ℕ). length p) c.part-held.ensures)) c.in_err-from.ensures

pub returns-in_err-count : goal.returns-in_err-count
returns-in_err-count c =
    let l = c.args.store.now in
    let held = held-of l c.part-held.ensures c.u16_at-memory.ensures c.u16_at.ensures in
    let n = near-told _ _ c.in_ok-from.ensures in
    c.from_residual-in_err-count.ensures ∙ outside l _ _ c.first_address.ensures held n.1 n.0 (omega (arith, high _ (sym c.in_err-count.ensures)))

pub returns-then-count-lt1 : goal.returns-then-count-lt1
returns-then-count-lt1 c =
    let l = c.args.store.now in
    let held = held-of l c.part-held.ensures c.u16_at-memory.ensures c.u16_at.ensures in
    let n = near-told _ _ c.in_ok-from.ensures in
    let many = told _ _ (sym c.in_ok-count.ensures) in
    elim c.then-count-lt1.branch [
      | then-count-lt1-via-then-count-lt1 w ↦ empty l _ _ c.first_address.ensures held (omega arith)
      | then-count-lt1-via-else-count-lt1+then-from-held w ↦ outside l _ _ c.first_address.ensures held n.1 n.0 (omega arith)
      | then-count-lt1-via-else-count-lt1+else-from-held+then-count-held w ↦ outside l _ _ c.first_address.ensures held n.1 n.0 (omega arith)
    ]

pub returns : goal.returns
returns c =
    let l = c.args.store.now in
    let held = held-of l c.part-held.ensures c.u16_at-memory.ensures c.u16_at.ensures in
    let n = near-told _ _ c.in_ok-from.ensures in
    let many = told _ _ (sym c.in_ok-count.ensures) in
    rw (← many) (within l _ _ c.first_address.ensures held n.1 n.0 c.u16_at-memory.ensures (omega arith) (omega arith))
