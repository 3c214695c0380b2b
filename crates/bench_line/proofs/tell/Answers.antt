-- `bench_line::tell` meets its contract.
use Rattle.std.proofs.Common.{ℕ, List, [], ◌∷◌, length, drop, length-take, ap, arith}
use Rattle.rules.specs.Lines.{hex}
use Rattle.text.proofs.Numerals.{hex-length}
use Rattle.text.proofs.Writing.{then, was-put}
use Rattle.bench_line.proofs.tell.Goals as goal

pub returns-in-Ok-Some : goal.returns-in-Ok-Some
returns-in-Ok-Some c =
    let front = ap (λ (k : List ℕ). length k) c.part.ensures in
    let few = length-take c.in-Ok-Some.n (drop 0 c.args.buffer.now) in
    let digits = hex-length c.part.result.now in
    let put = was-put (hex c.part.result.now) c.args.line.now 0 (omega (arith, front, few, digits)) c.append_hex-m.ensures in
    let both = then (omega arith) put (was-put (10 ∷ []) c.append_hex-m.new.line c.append_hex-m.result (omega (arith, c.append_hex-m.auto.line, put.next, front, few, digits)) c.append.ensures) in
    rw (c.in-Ok-Some.is, rw c.in-Ok-Some.is at c.in-Ok-Some.field-0-is) (rw c.part.ensures at both)
