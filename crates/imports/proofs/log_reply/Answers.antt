-- `imports::log_reply` meets its contract.
use Prim.Native.Nat.{◌+◌, ◌*◌, ◌-◌}
use borrow.Author.Rules.{rules}
use native.Mathlib.Omega.{arith}
use lib.ListN.{length}
use mathlib.Core.Path.{◌≡◌, refl, ◌∙◌, ap}
use borrow.Rule.Slice.PartMut.{put_mid}
use Rattle.imports.proofs.Noting.{fitted}
use Rattle.imports.proofs.Logging.{copied-there, grown, put_in}
use Rattle.imports.specs.Held.{held_log}
use Rattle.imports.proofs.log_reply.Goals as goal

pub returns : goal.returns
returns c =
    let x = c.args in
    let small = fitted x.t.events x.t.bytes x.ms (length x.message.now) c.fits.ensures c.if-not-fits.false in
    let at = 5120 + x.t.bytes in
    let n = at + length x.message.now - at in
    let m = c.put_event.new.buffer in
    let whole : length m ≡ 70655 = search rules in
    let after = put_mid at n m c.copy_from_slice.new.self in
    let there = copied-there m x.message.now at n (omega arith) (omega arith) in
    put_in x.t x.ms x.message.now x.log.now c.fits.ensures after c.if-not-fits.false
    (ap (λ l. held_log ((x.t.events + 1) * 10) (x.t.bytes + length x.message.now) (put_mid at n m l)) c.copy_from_slice.ensures.after ∙
    grown x.log.now m (put_mid at n m x.message.now) _ x.message.now x.t.events x.t.bytes (search rules) refl small.0 small.1 c.put_event.ensures there)
