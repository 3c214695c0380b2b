-- `bench_line::space_at` meets its contract.
use Rattle.std.proofs.Common.{rules, tests, ℕ, refl}
use Rattle.std.proofs.lemmas.Iterator.{YieldsList-from_slice}
use Rattle.std.proofs.lemmas.Iterator.Search.{position_from_yields_List}
use lib.Dec.{eqb}
use Rattle.bench_line.proofs.Reading.{first_space, space-inside}
use Rattle.bench_line.proofs.space_at.Goals as goal

pub returns : goal.returns
returns c =
    let l = c.args.line.now in
    let found = position_from_yields_List (λ (b : ℕ). eqb b 32) _ _ c.position.result c.position.ensures.ran (YieldsList-from_slice l c.iter.ensures.rest) (λ x b q k. search (rules, tests)) in
    rw (c.unwrap_or.ensures, found, first_space l) (refl, space-inside l)
