-- `imports::all_told` meets its contract.
use native.Mathlib.Omega.{arith}
use mathlib.Core.Path.{◌≡◌}
use Prim.Native.Nat.{◌*◌, min}
use lib.ListN.{length, drop, length-drop}
use borrow.Author.Rules.{rules}
use Rattle.std.proofs.lemmas.List.{take_min}
use Rattle.imports.proofs.all_told.Goals as goal

pub returns : goal.returns
returns c =
    let t = c.args.t in
    let log = c.args.log.now in
    let whole : length log ≡ 70655 = search rules in
    let events : c.min-2.result ≡ min (t.events * 10) (length log) = omega (arith, c.saturating_mul.ensures, c.min-2.ensures, whole) in
    let replies : c.min-3.result ≡ min t.bytes (length (drop 5120 log)) = omega (arith, c.min-3.ensures, whole, length-drop 5120 log) in
    record {
      says = rw (events, replies) (rw (c.saturating_sub.ensures, c.min.ensures) (simp take_min));
      inside = (omega arith, (omega arith, omega (arith, length-drop 5120 log)));
    }
