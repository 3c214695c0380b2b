-- Rows: a log, and what is said of it.
use Rattle.std.specs.Prelude.{ℕ, List, [], ◌∷◌, ◌++◌, map, ◌≡◌, take}
use Prim.Native.String.{String}
use Rattle.rules.specs.Addresses.{log2}
use Rattle.rules.specs.Examples.{idles, closes, raw, entry, log}
use Rattle.rules.specs.Lines.{ascii}
use Rattle.rules.specs.LogRows.{changed, log_of}
use Rattle.log_fields.specs.Words.{off_line}

abbrev pub Row : Type 0
Row = List ℕ × String

-- Document 01's log of call 7 with bytes put in the place of others, each by its index; and version 2's.
abbrev pub wrong : List (ℕ × ℕ) → String → Row
wrong bytes text = (changed bytes log, text)

abbrev pub wrong2 : List (ℕ × ℕ) → String → Row
wrong2 bytes text = (changed bytes log2, text)

-- Nothing is said of a sound log. The length of a file: too short for a header, cut, or with a byte too many.
unfoldable pub lengths : List Row
lengths =
    wrong [] "" ∷
    wrong2 [] "" ∷
    ([], "This is no log: the file has 0 bytes and should have 36 or more.\n") ∷
    (take 12 log, "This is no log: the file has 12 bytes and should have 36 or more.\n") ∷
    (take 36 log2, "This is no log: the file has 36 bytes and should have 37 or more.\n") ∷
    (take 36 log, "This is no log: the file has 36 bytes and should have 64.\n") ∷
    (take 62 log, "This is no log: the file has 62 bytes and should have 64.\n") ∷
    (log2 ++ (0 ∷ []), "This is no log: the file has 85 bytes and should have 84.\n") ∷ []

-- A row or more for each field of the header, in their order; what a field should be goes by the call and its flags.
unfoldable pub headers : List Row
headers =
    wrong ((1, 0) ∷ []) "This is no log: version (byte 0) is 0 and should be 1 to 2.\n" ∷
    wrong ((0, 1) ∷ []) "This is no log: version (byte 0) is 257 and should be 1 to 2.\n" ∷
    wrong ((2, 16) ∷ []) "This is no log: call (byte 2) is 16 and should be 0 to 15.\n" ∷
    wrong ((3, 0x43) ∷ []) "This is no log: flags (byte 3) is 67 and should be 0 to 31.\n" ∷
    (log_of 8 0x01 0xf190 0 0 0 0 [] [], "This is no log: flags (byte 3) is 1 and should be 32 to 63.\n") ∷
    (log_of 14 0x81 0 0 0 0 0 [] [], "This is no log: flags (byte 3) is 129 and should be 0 to 63.\n") ∷
    wrong ((3, 0x13) ∷ []) "This is no log: flag-16 (byte 3) is 1 and should be 0.\n" ∷
    (log_of 9 0x01 300 0 0 0 0 [] [], "This is no log: value (byte 4) is 300 and should be 0 to 255.\n") ∷
    wrong ((6, 5) ∷ []) "This is no log: sub-function (byte 6) is 5 and should be 0.\n" ∷
    (log_of 0 0x01 0x2f 1 0 0 0 [] [], "This is no log: sub-function (byte 6) is 1 and should be 0.\n") ∷
    (log_of 0 0x11 0x2f 255 0 0 0 [] [], "") ∷
    wrong ((7, 1) ∷ []) "This is no log: address-length (byte 7) is 1 and should be 0.\n" ∷
    wrong ((8, 255) ∷ []) "This is no log: size-length (byte 8) is 255 and should be 0.\n" ∷
    wrong ((9, 7) ∷ []) "This is no log: listening-address (byte 9) is 7 and should be 0.\n" ∷
    wrong2 ((9, 255) ∷ (10, 255) ∷ []) "" ∷
    wrong ((11, 1) ∷ []) "This is no log: arguments-count (byte 10) is 1 and should be 0.\n" ∷
    wrong2 ((12, 1) ∷ []) "This is no log: arguments-count (byte 11) is 1 and should be 0.\n" ∷
    (log_of 6 0x21 0 0 1 2 0 (0x20 ∷ 0x10 ∷ []) [], "This is no log: arguments-count (byte 10) is 2 and should be 3 to 65499.\n") ∷
    (log_of 6 0x21 0 0 1 2 0 (0x20 ∷ []) [], "This is no log: arguments-count (byte 10) is 1 and should be 3 to 65499.\n") ∷
    (changed ((10, 255) ∷ (11, 220) ∷ []) (log_of 3 0x21 0 2 0 0 0 [] []), "This is no log: arguments-count (byte 10) is 65500 and should be 0 to 65499.\n") ∷
    wrong ((13, 37) ∷ []) "This is no log: arguments-offset (byte 12) is 37 and should be 36.\n" ∷
    wrong2 ((14, 36) ∷ []) "This is no log: arguments-offset (byte 13) is 36 and should be 37.\n" ∷
    wrong ((14, 255) ∷ (15, 255) ∷ []) "This is no log: events-count (byte 14) is 65535 and should be 0 to 6549.\n" ∷
    wrong ((14, 0x19) ∷ (15, 0x96) ∷ []) "This is no log: events-count (byte 14) is 6550 and should be 0 to 6549.\n" ∷
    wrong ((14, 0x19) ∷ (15, 0x95) ∷ []) "This is no log: replies-offset (byte 20) is 56 and should be 65526.\n" ∷
    wrong2 ((15, 255) ∷ (16, 255) ∷ []) "This is no log: events-count (byte 15) is 65535 and should be 0 to 5458.\n" ∷
    wrong ((17, 56) ∷ []) "This is no log: events-offset (byte 16) is 56 and should be 36.\n" ∷
    (changed ((17, 36) ∷ []) (log_of 3 0x21 0 2 0 0 0 (1 ∷ 2 ∷ []) []), "This is no log: events-offset (byte 16) is 36 and should be 38.\n") ∷
    wrong2 ((18, 56) ∷ []) "This is no log: events-offset (byte 17) is 56 and should be 37.\n" ∷
    wrong ((18, 255) ∷ (19, 255) ∷ []) "This is no log: replies-count (byte 18) is 65535 and should be 0 to 65479.\n" ∷
    wrong ((18, 255) ∷ (19, 200) ∷ []) "This is no log: replies-count (byte 18) is 65480 and should be 0 to 65479.\n" ∷
    wrong ((18, 255) ∷ (19, 199) ∷ []) "This is no log: total (byte 22) is 64 and should be 65535.\n" ∷
    wrong2 ((19, 255) ∷ (20, 255) ∷ []) "This is no log: replies-count (byte 19) is 65535 and should be 0 to 65462.\n" ∷
    wrong ((21, 57) ∷ []) "This is no log: replies-offset (byte 20) is 57 and should be 56.\n" ∷
    wrong2 ((22, 67) ∷ []) "This is no log: replies-offset (byte 21) is 67 and should be 73.\n" ∷
    wrong ((19, 7) ∷ []) "This is no log: total (byte 22) is 64 and should be 63.\n" ∷
    wrong2 ((24, 85) ∷ []) "This is no log: total (byte 23) is 85 and should be 84.\n" ∷
    wrong ((32, 1) ∷ []) "This is no log: T (byte 32) is 16777216 and should be 0.\n" ∷
    wrong2 ((36, 1) ∷ []) "This is no log: T (byte 33) is 1 and should be 0.\n" ∷
    wrong ((3, 0x0b) ∷ (32, 1) ∷ []) "" ∷ []

-- Kinds 1 and 2 use neither field, kind 3 the length alone; kind 0 and an unknown kind have no unused field.
unfoldable pub events : List Row
events =
    (log_of 4 0x01 0 0 0 0 0 [] (raw (entry 20 1 1 2) ∷ []), "This is no log: event 1: offset (byte 42) is 1 and should be 0.\n") ∷
    (log_of 4 0x01 0 0 0 0 0 [] (raw (entry 20 1 0 2) ∷ []), "This is no log: event 1: length (byte 44) is 2 and should be 0.\n") ∷
    (log_of 4 0x01 0 0 0 0 0 [] (idles 20 ∷ raw (entry 20 2 65535 0) ∷ []), "This is no log: event 2: offset (byte 52) is 65535 and should be 0.\n") ∷
    (log_of 4 0x01 0 0 0 0 0 [] (idles 20 ∷ raw (entry 20 2 0 3) ∷ []), "This is no log: event 2: length (byte 54) is 3 and should be 0.\n") ∷
    (log_of 4 0x01 0 0 0 0 0 [] (idles 20 ∷ closes 20 ∷ raw (entry 20 3 5 7) ∷ []), "This is no log: event 3: offset (byte 62) is 5 and should be 0.\n") ∷
    (log_of 4 0x01 0 0 0 0 0 [] (raw (entry 20 3 0 7) ∷ raw (entry 20 4 5 7) ∷ raw (entry 20 0 5 7) ∷ []), "") ∷
    wrong2 ((54, 1) ∷ []) "This is no log: event 2: offset (byte 55) is 3 and should be 0.\n" ∷
    wrong2 ((54, 1) ∷ (56, 0) ∷ []) "This is no log: event 2: length (byte 57) is 3 and should be 0.\n" ∷ []

-- Of two fields that are off, neighbours in the log, the one that stands before.
unfoldable pub in_order : List Row
in_order =
    (changed ((0, 1) ∷ []) (take 12 log), "This is no log: the file has 12 bytes and should have 36 or more.\n") ∷
    wrong ((1, 3) ∷ (2, 16) ∷ []) "This is no log: version (byte 0) is 3 and should be 1 to 2.\n" ∷
    wrong ((2, 17) ∷ (3, 0x43) ∷ []) "This is no log: call (byte 2) is 17 and should be 0 to 15.\n" ∷
    wrong ((3, 0x53) ∷ []) "This is no log: flags (byte 3) is 83 and should be 0 to 31.\n" ∷
    (log_of 9 0x11 300 0 0 0 0 [] [], "This is no log: flag-16 (byte 3) is 1 and should be 0.\n") ∷
    (log_of 9 0x01 300 1 0 0 0 [] [], "This is no log: value (byte 4) is 300 and should be 0 to 255.\n") ∷
    wrong ((6, 2) ∷ (7, 1) ∷ []) "This is no log: sub-function (byte 6) is 2 and should be 0.\n" ∷
    wrong ((7, 2) ∷ (8, 1) ∷ []) "This is no log: address-length (byte 7) is 2 and should be 0.\n" ∷
    wrong ((8, 2) ∷ (9, 1) ∷ []) "This is no log: size-length (byte 8) is 2 and should be 0.\n" ∷
    wrong ((9, 2) ∷ (11, 1) ∷ []) "This is no log: listening-address (byte 9) is 2 and should be 0.\n" ∷
    wrong ((11, 2) ∷ (13, 1) ∷ []) "This is no log: arguments-count (byte 10) is 2 and should be 0.\n" ∷
    wrong ((13, 2) ∷ (14, 255) ∷ []) "This is no log: arguments-offset (byte 12) is 2 and should be 36.\n" ∷
    wrong ((14, 255) ∷ (17, 1) ∷ []) "This is no log: events-count (byte 14) is 65282 and should be 0 to 6549.\n" ∷
    wrong ((17, 2) ∷ (18, 255) ∷ []) "This is no log: events-offset (byte 16) is 2 and should be 36.\n" ∷
    wrong ((18, 255) ∷ (19, 255) ∷ (21, 1) ∷ []) "This is no log: replies-count (byte 18) is 65535 and should be 0 to 65479.\n" ∷
    wrong ((21, 2) ∷ (23, 1) ∷ []) "This is no log: replies-offset (byte 20) is 2 and should be 56.\n" ∷
    wrong ((23, 2) ∷ (35, 1) ∷ []) "This is no log: total (byte 22) is 2 and should be 64.\n" ∷
    (take 63 (changed ((35, 1) ∷ []) log), "This is no log: T (byte 32) is 1 and should be 0.\n") ∷
    (take 63 (changed ((41, 1) ∷ []) log), "This is no log: the file has 63 bytes and should have 64.\n") ∷
    wrong ((51, 1) ∷ (41, 1) ∷ []) "This is no log: event 1: length (byte 44) is 3 and should be 0.\n" ∷ []

abbrev pub Hold : List Row → Type 0
Hold rows = map (λ r. off_line r.0) rows ≡ map (λ r. ascii r.1) rows

abbrev pub Rows : Type 0
Rows = Hold lengths × Hold headers × Hold events × Hold in_order
