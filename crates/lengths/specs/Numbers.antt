-- A number that 64 bits hold, or an overflow.
use Rattle.std.specs.Prelude as code
use Rattle.std.specs.Prelude.{Some, None}
use Rattle.std.specs.Prelude.{ℕ, ◌^◌, cond, ltb}

abbrev pub number_of : ℕ → code.Option ℕ
number_of v = cond (ltb v (2 ^ 64)) (Some v) None
