-- `log2uds::read_more` meets its contract.
use mathlib.Core.Path.{◌≡◌, ◌∙◌, sym, subst}
use Prim.Native.Nat.{ℕ}
use borrow.Author.Tests.{eqb-true}
use Rattle.std.specs.Io.KnownBytes.{Consumes}
use Rattle.log2uds.proofs.read_more.Goals as goal

pub returns : goal.returns
returns g c =
    let n = c.in_ok-n.n in (
      record {
        came = record { text = c.part.result.now; is = c.read_on.ensures };
        none = λ e. c.part.ensures ∙ (let z : n ≡ 0 = eqb-true n 0 e in rw z);
      },
      subst (Consumes _ _) (sym c.part.ensures) c.in_ok-n.ensures.bytes,
    )
