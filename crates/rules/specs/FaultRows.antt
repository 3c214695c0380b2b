-- Rows for call 15 and the selector, by the words of document 02, request One.
use Rattle.std.specs.Prelude.{ℕ, Bool, true, false, ◌≡◌, List, [], ◌∷◌, map}
use Rattle.std.proofs.Math.Option.{none}
use Rattle.rules.specs.Answers.{Part, part, deviation, deviation8, bad_length, positive, suppressed, fault}
use Rattle.rules.specs.Calls.{Call, fault_list}
use Rattle.rules.specs.Examples.{Said, says, setting, gives, Example, row, one}
use Rattle.rules.specs.Faults.{record_at, select}
use Rattle.rules.specs.Pins.{Hold}
use Rattle.rules.specs.Readings.{faulty}

abbrev pub asks : Call
asks = fault_list 0x08

unfoldable pub listings : List Example
listings =
    -- The exchange's own checks first: SID, length 1, sub-function.
    faulty true asks (0x58 ∷ 0x02 ∷ 0xff ∷ []) (deviation 1) ∷
    faulty true asks (0x59 ∷ []) (deviation8 2 none) ∷
    faulty true asks (0x59 ∷ 0x01 ∷ 0xff ∷ []) (deviation 3) ∷
    -- "Strict total length must be 3 plus a multiple of 4": 3 and 7, not 2, 4, 5, 6.
    faulty true asks (0x59 ∷ 0x02 ∷ []) (deviation8 3 none) ∷
    one true asks (0x59 ∷ 0x02 ∷ 0xff ∷ []) (gives (positive (part 2 (0xff ∷ []))) 10 1 0 0) ∷
    faulty true asks (0x59 ∷ 0x02 ∷ 0xff ∷ 0x12 ∷ []) (deviation8 3 none) ∷
    faulty true asks (0x59 ∷ 0x02 ∷ 0xff ∷ 0x12 ∷ 0x34 ∷ []) (deviation8 3 none) ∷
    faulty true asks (0x59 ∷ 0x02 ∷ 0xff ∷ 0x12 ∷ 0x34 ∷ 0x56 ∷ []) (deviation8 3 none) ∷
    one true asks (0x59 ∷ 0x02 ∷ 0xff ∷ 0x12 ∷ 0x34 ∷ 0x56 ∷ 0x08 ∷ []) (gives (positive (part 2 (0xff ∷ 0x12 ∷ 0x34 ∷ 0x56 ∷ 0x08 ∷ []))) 10 1 0 0) ∷
    -- A status outside either mask is handed out all the same.
    one true asks (0x59 ∷ 0x02 ∷ 0x00 ∷ 0x12 ∷ 0x34 ∷ 0x56 ∷ 0x40 ∷ []) (gives (positive (part 2 (0x00 ∷ 0x12 ∷ 0x34 ∷ 0x56 ∷ 0x40 ∷ []))) 10 1 0 0) ∷
    -- "lenient drops a broken tail; fewer than one byte after the sub-function is a length outcome."
    one false asks (0x59 ∷ 0x02 ∷ 0xff ∷ 0x12 ∷ 0x34 ∷ 0x56 ∷ []) (gives (positive (part 2 (0xff ∷ []))) 10 1 0 0) ∷
    one false asks (0x59 ∷ 0x02 ∷ 0xff ∷ 0x12 ∷ 0x34 ∷ 0x56 ∷ 0x08 ∷ 0x9a ∷ []) (gives (positive (part 2 (0xff ∷ 0x12 ∷ 0x34 ∷ 0x56 ∷ 0x08 ∷ []))) 10 1 0 0) ∷
    faulty false asks (0x59 ∷ 0x02 ∷ []) bad_length ∷
    -- "It has a suppressed form."
    row true (setting none true) asks [] (gives suppressed 50 0 0 0) ∷
    row true (setting none true) asks (says 10 (0x59 ∷ 0x02 ∷ 0xff ∷ []) ∷ []) (gives (fault (deviation 4)) 10 1 0 0) ∷
    row false (setting none true) asks (says 10 (0x59 ∷ 0x02 ∷ 0xff ∷ []) ∷ []) (gives (positive (part 2 (0xff ∷ []))) 50 1 0 0) ∷
    row true (setting none true) asks (says 5 (0x7f ∷ 0x19 ∷ 0x78 ∷ []) ∷ says 10 (0x59 ∷ 0x02 ∷ 0xff ∷ 0x12 ∷ []) ∷ [])
    (gives (fault (deviation8 3 none)) 50 2 1 0) ∷ []

-- Two equal records, one whose status is 40, and a broken tail.
unfoldable pub stored : List ℕ
stored = 0x12 ∷ 0x34 ∷ 0x56 ∷ 0x08 ∷ 0x12 ∷ 0x34 ∷ 0x56 ∷ 0x08 ∷ 0x9a ∷ 0xbc ∷ 0xde ∷ 0x40 ∷ 0x01 ∷ 0x02 ∷ 0x03 ∷ []

abbrev pub selections : List (ℕ × List Part)
selections =
    (0x08, record_at stored 0 ∷ record_at stored 1 ∷ []) ∷
    (0x40, record_at stored 2 ∷ []) ∷
    (0xff, record_at stored 0 ∷ record_at stored 1 ∷ record_at stored 2 ∷ []) ∷
    (0x37, []) ∷ []

abbrev pub FaultRows : Type 0
FaultRows = Hold listings × (map (λ p. select p.0 stored) selections ≡ map (λ p. p.1) selections)
