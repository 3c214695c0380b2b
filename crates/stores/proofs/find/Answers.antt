-- `stores::find` meets its contract: what is left to look through holds what the whole list does.
use Rattle.std.proofs.Common.{sym, ◌∙◌, ap, arith}
use Rattle.bench.specs.Stores.{Slot}
use Rattle.stores.proofs.Slots.{all_left, hits, misses, unfound}
use Rattle.stores.proofs.find.Goals as goal

pub loop-i-init : goal.loop-i-init
loop-i-init c = rw all_left

pub returns-then-slot-id : goal.returns-then-slot-id
returns-then-slot-id c = c.slot_at-slot.ensures ∙ sym (hits c.args.store.now c.loop-i.i (omega arith) c.args.id (sym (ap (λ (e : Slot). e.id) c.slot_at-slot.ensures) ∙ c.if-slot-id.true)) ∙ c.loop-i.invariant

pub loop-i-preserved : goal.loop-i-preserved
loop-i-preserved c =
    sym (misses c.args.store.now c.loop-i.i (omega arith) c.args.id (λ e. c.if-slot-id.false (ap (λ (x : Slot). x.id) c.slot_at-slot.ensures ∙ e))) ∙ c.loop-i.invariant

pub returns : goal.returns
returns c = sym (unfound c.args.store.now c.loop-i.i (omega arith) c.args.id) ∙ c.loop-i.invariant
