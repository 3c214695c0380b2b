-- A number in an `alfid` form: its bytes, high byte first, or refusal 6 or 7.
use Rattle.std.specs.Prelude.{ℕ, ◌-◌, Bool, ◌++◌, replicate, Result, Ok, Err}
use Rattle.rules.specs.Bytes.{bytes_of}
use Rattle.rules.specs.Calls.{alfid}
use Rattle.rules.specs.InOrder.{judge}
use Rattle.rules.specs.Refusals.{width}
use Rattle.wire.specs.declared.MemoryBytes.{MemoryBytes}

unfoldable pub memory_bytes : ℕ → ℕ → Bool → Result MemoryBytes ℕ
memory_bytes v w wide = judge Err (width (alfid v w wide)) (Ok (record { len = w; bytes = bytes_of w v ++ replicate (15 - w) 0 }))
