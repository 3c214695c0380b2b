-- `log2uds::import` meets its contract.
use mathlib.Core.Path.{sym, ◌∙◌, subst}
use Prim.Native.Nat.{ℕ}
use lib.ListN.{length}
use Rattle.std.specs.Io.KnownBytes.{Consumes}
use Rattle.importing.specs.Kept.{ended}
use Rattle.imports.specs.Held.{stream_of, Finished}
use Rattle.imports.proofs.Settling.{settled-held}
use Rattle.log2uds.proofs.Runs.{all-came, not-so}
use Rattle.log2uds.proofs.import.Goals as goal

pub returns : goal.returns
returns g c =
    let x = c.args in
    let r = c.in_ok-reached.reached in
    let lent = c.read_text.new.lent in
    let out = c.read_text.new.out in
    all-came (length x.out.now) x.ids.ask x.ids.answer r.ended (Consumes _ _) c.in_ok-reached.ensures.came.0 c.in_ok-reached.ensures.came.1
    (λ e. sym (settled-held r.stream lent out) ∙ not-so c.in_ok-reached.ensures.stops e)
    (subst (λ (n : ℕ). Finished (ended n x.ids.ask x.ids.answer (stream_of r.stream lent out)) c.finish.result c.finish.new.out c.finish.new.lent.log)
    c.read_text.auto.out c.finish.ensures)
