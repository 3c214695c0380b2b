-- `number_in` meets its contract.
use Prim.Native.Nat.{◌<◌, ◌^◌}
use mathlib.Core.Path.{◌≡◌}
use lib.ListN.{drop}
use Rattle.rules.specs.Bytes.{every}
use Rattle.book_words.specs.Words.{is_digit, value_from}
use Rattle.book_words.proofs.number_in.Given as goal

abbrev pub invariant-loop-byte : goal.invariant-loop-byte
invariant-loop-byte l =
    (l.value < 2 ^ 64) × (value_from l.value (drop l.byte-index l.word) ≡ value_from 0 l.word)
    × (every is_digit (drop l.byte-index l.word) ≡ every is_digit l.word)
