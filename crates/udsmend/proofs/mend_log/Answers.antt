-- What is written is the mended log of what was read, and what is said of it.
use Rattle.std.proofs.Common.{◌≡◌, ℕ, List, length, take, subst, ap, ◌∙◌, arith}
use Rattle.std.specs.Io.KnownBytes.{Appends}
use Rattle.mending.specs.Mend.{mend}
use Rattle.mending.specs.Said as Said
use Rattle.streams.proofs.Ends.{on_ok, if_some}
use Rattle.udsmend.proofs.mend_log.Goals as goal

pub returns : goal.returns
returns g c =
    let long : length c.read_full.new.buf ≡ 65536 = omega (arith, c.read_full.auto.buf) in
    on_ok c.write_full-2.result
    (λ told.
    if_some (g.R.Read.remaining c.args.damaged.now)
    (λ bytes front.
    let same : take c.in_ok-n.n c.read_full.new.buf ≡ take 65536 bytes = front ∙ ap (λ (k : ℕ). take k bytes) long in (
      subst (Appends _ _) (c.part.ensures ∙ c.mend_input-ends.ensures.log ∙ ap (λ (l : List ℕ). Said.put (mend l)) same) c.in_ok-write_full.ensures,
      subst (Appends _ _) (c.part-2.ensures ∙ c.mend_input-ends.ensures.report ∙ ap (λ (l : List ℕ). Said.said (mend l)) same) told,
    ))
    c.in_ok-n.ensures.front)
    c.write_full-2.ensures
