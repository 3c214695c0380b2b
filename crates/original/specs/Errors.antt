-- error.rs, and of `crate::Error` what the client gives.
use Rattle.std.specs.Prelude.{ℕ, List}
use Rattle.std.proofs.Math.Option.{Option}

-- `enum ProtocolDeviation` (error.rs 36-82): expected, actual; or minimum, maximum. Its `InvalidResponseLength` is `InvalidLength` here, since
-- `enum Error` (error.rs 85-117) has a case of that name too; `Error::ProtocolDeviation` is `Deviation`.
pub data ProtocolDeviation : Type 0 where
  InvalidServiceId : ℕ → ℕ → ProtocolDeviation
  InvalidRequestServiceId : ℕ → ℕ → ProtocolDeviation
  InvalidSubFunction : ℕ → ℕ → ProtocolDeviation
  UnexpectedPositiveResponse : ProtocolDeviation
  InvalidDataIdentifier : ℕ → ℕ → ProtocolDeviation
  InvalidRoutineIdentifier : ℕ → ℕ → ProtocolDeviation
  InvalidBlockSequenceCounter : ℕ → ℕ → ProtocolDeviation
  InvalidLength : ℕ → Option ℕ → ProtocolDeviation
  InvalidLengthFormat : ℕ → ProtocolDeviation
  InvalidLengthFormatIdentifier : ℕ → ProtocolDeviation
  InvalidMaxNumberOfBlockLength : ℕ → ProtocolDeviation
  InvalidAddressAndLengthFormatIdentifier : ℕ → ℕ → ProtocolDeviation
  InvalidMemoryAddress : List ℕ → List ℕ → ProtocolDeviation
  InvalidMemorySize : List ℕ → List ℕ → ProtocolDeviation
  InvalidMemoryRecordLength : ℕ → ℕ → ProtocolDeviation

-- `Timeout`, `Disconnected` and the transport's own error, by its number, are `crate::Error`'s; the others `enum Error`'s, in its order. (Five of
-- its cases are made nowhere.)
pub data Error : Type 0 where
  Timeout : Error
  Disconnected : Error
  Transport : ℕ → Error
  Deviation : ProtocolDeviation → List ℕ → Error
  InvalidResponseLength : Error
  InvalidCompressionMethod : ℕ → Error
  InvalidEncryptionMethod : ℕ → Error
  InvalidMemoryValueWidth : ℕ → Error
  MemoryValueOverflow : ℕ → ℕ → Error
  BlockLengthOverflow : ℕ → List ℕ → Error
  NegativeResponse : ℕ → Error
