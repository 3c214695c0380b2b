-- `bench_line::read_hex` meets its contract: the bytes of i pairs stand at the front.
use Rattle.std.proofs.Common.{◌≡◌, ◌*◌, take, drop}
use Rattle.rules.specs.Bytes.{every}
use Rattle.bench.specs.Talk.{is_hex_digit, unhex}
use Rattle.bench_line.proofs.read_hex.Given as goal

abbrev pub invariant-loop-i : goal.invariant-loop-i
invariant-loop-i l = record {
  digits : every is_hex_digit (drop (l.i * 2) l.digits) ≡ every is_hex_digit l.digits;
  read : take l.i l.request ≡ unhex (take (l.i * 2) l.digits);
}
