-- Refusals 4 and 5, "compression, encryption method above 15", and the byte in which the two methods are joined.
use Rattle.std.specs.Prelude.{ℕ, ◌+◌, ◌*◌, ◌%◌, cond, leb, Result, Ok, Err}
use Rattle.wire.specs.declared.types.CompressionMethod.{CompressionMethod}
use Rattle.wire.specs.declared.types.EncryptionMethod.{EncryptionMethod}

abbrev pub compression : ℕ → Result CompressionMethod ℕ
compression c = cond (leb c 15) (Ok (record { 0 = c })) (Err 4)

abbrev pub encryption : ℕ → Result EncryptionMethod ℕ
encryption e = cond (leb e 15) (Ok (record { 0 = e })) (Err 5)

-- "m = compression × 16 + encryption", each by its low nibble.
abbrev pub data_format : ℕ → ℕ → ℕ
data_format c e = c % 16 * 16 + e % 16
