-- "the checks behind a positive as they were passed or failed": a line for each that was made, in their order.
use Rattle.std.specs.Prelude.{ℕ, Bool, true, false, cond, List, [], ◌∷◌, ◌++◌, eqb}
use Rattle.std.proofs.Math.Option.{Option, none, some}
use Rattle.rules.specs.After.{service_checks}
use Rattle.rules.specs.Answers.{Fault, deviation, deviation8, bad_length, overflow, Outcome, positive, suppressed, negative, timeout, pending_limit, disconnected, transport, fault, refused, if_positive}
use Rattle.rules.specs.Calls.{Call, numbered}
use Rattle.rules.specs.InOrder.{Check}
use Rattle.rules.specs.Lines.{ascii, decimal}
use Rattle.telling.specs.Words.{pick}

-- What a check wants of a reply, by the deviation that it finds; 16 is no deviation but an overflow, 17 the first length of call 15.
abbrev pub wanted_words : List (ℕ × List ℕ)
wanted_words =
    (5, ascii "the identifier asked for") ∷
    (6, ascii "the routine asked for") ∷
    (7, ascii "the counter sent") ∷
    (9, ascii "a block length of one byte or more") ∷
    (10, ascii "a low half byte of 0") ∷
    (11, ascii "a block length of 3 or more") ∷
    (12, ascii "the format byte sent") ∷
    (13, ascii "the address sent") ∷
    (14, ascii "the size sent") ∷
    (15, ascii "as many bytes as asked for") ∷
    (16, ascii "a block length of at most 64 bits") ∷
    (17, ascii "a length of 3 plus a multiple of 4") ∷ []

unfoldable pub wanted_by : ℕ → List ℕ
wanted_by n = pick wanted_words (ascii "a length") n

-- "(minimum, maximum)": document 01 has no bounds but one length, and a least one.
unfoldable pub length? : ℕ → Option ℕ → List ℕ
length? least none = ascii "length " ++ decimal least ++ ascii " or more"
length? least (some most) = ascii "length " ++ decimal least

abbrev pub wanted : Fault → List ℕ
wanted (deviation n) = wanted_by n
wanted (deviation8 least most) = length? least most
wanted bad_length = wanted_by 0
wanted overflow = wanted_by 16

abbrev pub verdict : Bool → List ℕ
verdict true = ascii ": passed.\n"
verdict false = ascii ": failed.\n"

abbrev pub check_line : List ℕ → Bool → List ℕ
check_line what passed = ascii "Check, " ++ what ++ verdict passed

-- The first that fails decides: those behind it are not made.
unfoldable pub told : List (Check Fault) → List ℕ
told [] = []
told (c ∷ cs) = check_line (wanted c.fault) c.test ++ cond c.test (told cs) []

-- What the first check of a call wants. Document 02 of call 15: "Strict total length must be 3 plus a multiple of 4, else deviation 8 (3, none)": these bounds do
-- not say what it wants, since a reply of 6 bytes keeps them.
abbrev pub first_wanted : Call → Fault → List ℕ
first_wanted c f = cond (eqb (numbered c) 15) (wanted_by 17) (wanted f)

-- The checks of a call.
unfoldable pub told_of : Call → List (Check Fault) → List ℕ
told_of c [] = []
told_of c (x ∷ xs) = check_line (first_wanted c x.fault) x.test ++ cond x.test (told xs) []

-- Lenient makes only those checks without which it could not read the data: lengths, and behind them, of calls 11 and 12, whether the number has at most 64 bits.
unfoldable pub lenient_line : Bool → List ℕ
lenient_line passed = check_line (ascii "the lengths that lenient needs") passed

abbrev pub is_positive : Outcome → Bool
is_positive o = if_positive o (λ p. true) false

abbrev pub too_wide : Fault → Bool
too_wide (deviation n) = false
too_wide (deviation8 least most) = false
too_wide bad_length = false
too_wide overflow = true

abbrev pub overflows : Outcome → Bool
overflows (positive p) = false
overflows suppressed = false
overflows (negative n) = false
overflows timeout = false
overflows pending_limit = false
overflows disconnected = false
overflows (transport n) = false
overflows (fault f) = too_wide f
overflows (refused n) = false

-- A number that is too large was read, so that the lengths were right.
unfoldable pub lenient_text : Outcome → List ℕ
lenient_text after = cond (overflows after) (lenient_line true ++ check_line (wanted_by 16) false) (lenient_line (is_positive after))

-- Of a reply that was heard as a positive, and what became of it.
abbrev pub checks_text : Bool → Call → List ℕ → Outcome → Outcome → List ℕ
checks_text true c r heard after = if_positive heard (λ p. told_of c (service_checks true c r)) []
checks_text false c r heard after = if_positive heard (λ p. lenient_text after) []
