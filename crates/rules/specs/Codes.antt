-- Document 02, request Four: "each holding the name's number in declaration order from 1, or 0 for a code without a name". The names are
-- those of the Rust's `NegativeResponseCode`, in its order and spelling.
use Rattle.std.specs.Prelude.{ℕ, zero, suc, ◌+◌, cond, List, [], ◌∷◌, eqb}

-- Each code that has a name, with the name's number.
abbrev pub named : List (ℕ × ℕ)
named =
    (0x10, 1) ∷  -- GeneralReject
    (0x11, 2) ∷  -- ServiceNotSupported
    (0x12, 3) ∷  -- SubFunctionNotSupported
    (0x13, 4) ∷  -- IncorrectMessageLengthOrInvalidFormat
    (0x14, 5) ∷  -- ResponseTooLong
    (0x21, 6) ∷  -- BusyRepeatRequest
    (0x22, 7) ∷  -- ConditionsNotCorrect
    (0x24, 8) ∷  -- RequestSequenceError
    (0x25, 9) ∷  -- NoResponseFromSubnetComponent
    (0x26, 10) ∷  -- FailurePreventsExecutionOfRequestedAction
    (0x31, 11) ∷  -- RequestOutOfRange
    (0x33, 12) ∷  -- SecurityAccessDenied
    (0x35, 13) ∷  -- InvalidKey
    (0x36, 14) ∷  -- ExeedNumberOfAttempts
    (0x37, 15) ∷  -- RequiredTimeDelayNotExpired
    (0x70, 16) ∷  -- UploadDownloadNotAccepted
    (0x71, 17) ∷  -- TransferDataSuspended
    (0x72, 18) ∷  -- GeneralProgrammingFailure
    (0x73, 19) ∷  -- WrongBlockSequenceCounter
    (0x78, 20) ∷  -- RequestCorrectlyReceivedResponsePending
    (0x7e, 21) ∷  -- SubFunctionNotSupportedInActiveSession
    (0x7f, 22) ∷ []  -- ServiceNotSupportedInActiveSession

-- The number beside the code, or 0.
abbrev pub beside : ℕ → List (ℕ × ℕ) → ℕ
beside code [] = 0
beside code (row ∷ rows) = cond (eqb code row.0) row.1 (beside code rows)

abbrev pub name_number : ℕ → ℕ
name_number code = beside code named

-- n numbers from m on; the bytes.
abbrev pub count_from : ℕ → ℕ → List ℕ
count_from m zero = []
count_from m (suc n) = m ∷ count_from (m + 1) n

abbrev pub code_bytes : List ℕ
code_bytes = count_from 0 256
