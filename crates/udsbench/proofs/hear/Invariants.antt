-- `udsbench::hear` meets its contract: some bytes were heard, and what is said of them is written.
use Rattle.std.proofs.Common.{◌≡◌, take}
use Rattle.std.specs.Io.KnownBytes.{Appends}
use Rattle.udsbench.specs.Hearing.{bench_of, hearing, saying}
use Rattle.udsbench.proofs.hear.Given as goal

abbrev pub invariant-loop-byte : goal.invariant-loop-byte
invariant-loop-byte g l = record {
  stands : bench_of l.store l.kept ≡ hearing (bench_of l.initial.store l.initial.kept) (take l.byte-index l.input);
  said : Appends (g.W.Write.contents l.initial.lines) (g.W.Write.contents l.lines) (saying (bench_of l.initial.store l.initial.kept) (take l.byte-index l.input));
}
