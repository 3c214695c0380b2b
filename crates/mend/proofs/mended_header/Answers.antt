-- `mended_header` meets its contract.
use Prim.Native.Nat.{ℕ}
use native.Mathlib.Omega.{arith}
use borrow.Author.Rules.{rules}
use mathlib.Core.List.{List}
use mathlib.Core.Path.{◌≡◌, ap}
use lib.ListN.{length}
use Rattle.logs.specs.Layout.{said}
use Rattle.mending.specs.Mend.{left_in, kept}
use Rattle.mending.proofs.Written.{length-mended, no_longer}
use Rattle.mend.proofs.mended_header.Goals as goal

pub corrected-requires : goal.corrected-requires
corrected-requires c =
    let old = said c.args.old in
    let log = c.args.log.now in
    let left : length c.left_in-left.result.now ≡ length (left_in old log) = ap (λ (x : List ℕ). length x) c.left_in-left.ensures in
    let events : c.kept-events.result ≡ kept old log = search rules in
    rw (events, left) (omega (arith, length-mended old log c.requires.whole, no_longer old log c.requires.whole, c.requires.short))
