-- `bench_line::room_of` meets its contract: some digits are read.
use Rattle.std.proofs.Common.{◌≡◌, ◌≤◌, drop}
use Rattle.rules.specs.Bytes.{every}
use Rattle.bench.specs.Talk.{is_digit, number_from}
use Rattle.bench_line.proofs.room_of.Given as goal

abbrev pub invariant-loop-c : goal.invariant-loop-c
invariant-loop-c l = record {
  small : l.value ≤ 4095;
  digits : every is_digit (drop l.c-index l.number) ≡ every is_digit l.number;
  read : number_from l.value (drop l.c-index l.number) ≡ number_from 0 l.number;
}
