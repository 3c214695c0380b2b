-- `udsbench::read_on` meets its contract: where nothing more comes all stays as it was.
use Rattle.std.proofs.Common.{ℕ, [], take, ap, refl, subst, arith}
use Rattle.std.specs.Io.KnownBytes.{Consumes}
use Rattle.std.proofs.KnownBytes.{Appends-nil}
use Rattle.udsbench.specs.Hearing.{saying}
use Rattle.udsbench.proofs.read_on.Goals as goal

pub returns-then-n-eq0 : goal.returns-then-n-eq0
unfolding saying
returns-then-n-eq0 g c =
    let none = c.if-n-eq0.true in (
      [],
      subst (Consumes _ _) (ap (λ (n : ℕ). take n c.read.new.buf) none) c.in_ok-n.ensures.bytes.0,
      Appends-nil _,
      (c.in_ok-n.ensures.bytes.1 none (omega (arith, c.read.auto.buf)), refl, refl),
    )
