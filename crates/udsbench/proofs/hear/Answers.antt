-- `udsbench::hear` meets its contract: some bytes were heard, and what is said of them is written.
use Rattle.std.proofs.Common.{refl, subst}
use Rattle.std.specs.Io.KnownBytes.{Appends}
use Rattle.std.proofs.KnownBytes.{Appends-nil, Appends-trans}
use Rattle.udsbench.specs.Hearing.{hearing, saying}
use Rattle.udsbench.proofs.Hearing.{heard-more, said-more}
use Rattle.udsbench.proofs.hear.Goals as goal

pub loop-byte-init : goal.loop-byte-init
unfolding hearing saying
loop-byte-init g c = record { stands = refl; said = Appends-nil _ }

pub loop-byte-preserved : goal.loop-byte-preserved
loop-byte-preserved g c =
    let v = c.loop-byte.invariant in
    record {
      stands = heard-more _ c.args.input.now c.loop-byte.byte-index c.loop-byte-test.true v.stands c.in_ok-hear_byte.ensures.0;
      said =
          subst (Appends _ _) (said-more _ c.args.input.now c.loop-byte.byte-index c.loop-byte-test.true v.stands)
          (Appends-trans _ _ _ _ _ v.said c.in_ok-hear_byte.ensures.1);
    }
