-- `stores::distance_to` meets its contract.
use Rattle.std.proofs.Common.{◌≡◌, ◌-◌, sym, ◌∙◌, arith}
use Rattle.rules.specs.Bytes.{value}
use Rattle.lengths.proofs.Values.{told, high}
use Rattle.stores.proofs.Addresses.{parts, back-below, beyond, before, behind, near}
use Rattle.stores.proofs.distance_to.Goals as goal

pub returns-in_err-high : goal.returns-in_err-high
returns-in_err-high c =
    let s = c.split_at.ensures in
    let h = high (value c.split_at.result.0.now) (sym c.in_err-high.ensures) in
    c.from_residual.ensures ∙ beyond _ _ (omega (arith, h, parts c.args.address.now c.saturating_sub.ensures s.front s.back))

pub returns-in_err-low : goal.returns-in_err-low
returns-in_err-low c =
    let s = c.split_at.ensures in
    let h = high (value c.split_at.result.1.now) (sym c.in_err-low.ensures) in
    absurd (omega (arith, h, back-below c.args.address.now c.saturating_sub.ensures s.front s.back (λ i. omega (arith, c.type_inv.address i))))

pub returns-in_err-checked_sub : goal.returns-in_err-checked_sub
returns-in_err-checked_sub c =
    let s = c.split_at.ensures in
    let h = told _ _ (sym c.in_ok-high.ensures) in
    let k = told _ _ (sym c.in_ok-low.ensures) in
    c.from_residual-in_err-checked_sub.ensures ∙ before _ _ (omega (arith, c.in_err-checked_sub.ensures, h, k, parts c.args.address.now c.saturating_sub.ensures s.front s.back))

pub returns : goal.returns
returns c =
    let s = c.split_at.ensures in
    let h = told _ _ (sym c.in_ok-high.ensures) in
    let k = told _ _ (sym c.in_ok-low.ensures) in
    let p = parts c.args.address.now c.saturating_sub.ensures s.front s.back in
    let d = c.in_ok-checked_sub.ensures in
    let away : c.in_ok-checked_sub.field-0 ≡ value c.args.address.now - c.args.first = omega arith in
    c.ok.ensures.value ∙ near _ _ c.try_from.ensures ∙ rw away (behind _ _ (omega arith))
