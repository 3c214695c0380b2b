-- `stores::all_known` meets its contract.
use Rattle.std.proofs.Common.{rules, ℕ, ◌∙◌, refl, arith, tests}
use Rattle.std.proofs.lemmas.Iterator.{YieldsList-from_range}
use Rattle.std.proofs.lemmas.Iterator.Search.{all_from_yields_List}
use Rattle.bench.specs.Stores.{store_of, known}
use Rattle.stores.specs.Places.{slot_in}
use Rattle.stores.proofs.Slots.{all_numbered}
use Rattle.stores.proofs.all_known.Goals as goal

pub returns : goal.returns
returns c =
    let l = c.args.store.now in
    let n : ℕ = c.u16_at.result in
    all_from_yields_List (λ (i : ℕ). known (store_of l) (slot_in l i)) _ _ c.all.result c.all.ensures.ran (YieldsList-from_range 0 n n refl (omega arith)) (λ x b q k. search (rules, tests)) ∙ rw c.u16_at.ensures (all_numbered l (known (store_of l)))
