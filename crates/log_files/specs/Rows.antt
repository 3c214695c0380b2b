-- Files whose lines, and what is said of them, were worked out by hand: with no log, with bad logs inside, cut, and with lengths that no log has.
use Rattle.std.specs.Prelude.{ℕ, List, [], ◌∷◌, ◌++◌, map, ◌≡◌}
use Prim.Native.String.{String}
use Rattle.rules.specs.Lines.{ascii, badlog}
use Rattle.log_files.specs.Files.{lines_of}
use Rattle.log_files.specs.Said.{said_of}

-- Document 01's call 4 without an event: 36 bytes, no answer within 50 ms.
abbrev silent : List ℕ
silent =
    0 ∷ 1 ∷ 4 ∷ 1 ∷ 0 ∷ 0 ∷ 0 ∷ 0 ∷ 0 ∷ 0 ∷ 0 ∷ 0 ∷ 0 ∷ 36 ∷ 0 ∷ 0 ∷ 0 ∷ 36 ∷ 0 ∷ 0 ∷ 0 ∷ 36 ∷ 0 ∷ 36 ∷ 0 ∷ 0 ∷ 0 ∷ 50 ∷ 0 ∷ 0 ∷ 19 ∷ 136 ∷ 0 ∷ 0 ∷ 0 ∷ 0 ∷ []

abbrev timeout : List ℕ
timeout = ascii "timeout 50 0 0 -" ++ (10 ∷ [])

abbrev pub files : List (List ℕ)
files =
    [] ∷
    (0 ∷ 0 ∷ 0 ∷ 36 ∷ silent) ∷
    (0 ∷ 0 ∷ 0 ∷ 0 ∷ 0 ∷ 0 ∷ 0 ∷ 36 ∷ silent) ∷
    (0 ∷ 0 ∷ 0 ∷ 36 ∷ silent ++ (0 ∷ 0 ∷ 0 ∷ 1 ∷ 7 ∷ 0 ∷ 0 ∷ 0 ∷ 36 ∷ silent)) ∷
    (0 ∷ 0 ∷ 0 ∷ 36 ∷ silent ++ (0 ∷ 0 ∷ 0 ∷ [])) ∷
    (0 ∷ 0 ∷ 0 ∷ 37 ∷ silent) ∷
    (0 ∷ 0 ∷ 0 ∷ 35 ∷ silent) ∷
    (1 ∷ 0 ∷ 0 ∷ 36 ∷ silent) ∷ []

abbrev pub lines : List (List ℕ)
lines =
    [] ∷
    timeout ∷
    (badlog ++ timeout) ∷
    (timeout ++ badlog ++ timeout) ∷
    (timeout ++ badlog) ∷
    badlog ∷
    (badlog ++ badlog) ∷
    badlog ∷ []

abbrev pub Examples : Type 0
Examples = map lines_of files ≡ lines

-- What is said of each.
abbrev say : String → List ℕ
say line = ascii line ++ (10 ∷ [])

abbrev pub said : List (List ℕ)
said =
    [] ∷
    [] ∷
    [] ∷
    [] ∷
    say "cut 2" ∷
    say "cut 1" ∷
    say "cut 2" ∷
    (say "length 1 16777252" ++ say "cut 1") ∷ []

-- Only the four bytes of a length that no log has; three of them; and 65,535, which is a length.
abbrev pub lengths : List (List ℕ)
lengths = (0 ∷ 1 ∷ 0 ∷ 0 ∷ []) ∷ (0 ∷ 1 ∷ 0 ∷ []) ∷ (0 ∷ 0 ∷ 255 ∷ 255 ∷ []) ∷ (0 ∷ 0 ∷ 0 ∷ 0 ∷ 255 ∷ 255 ∷ 255 ∷ 255 ∷ 7 ∷ []) ∷ []

abbrev pub said_of_lengths : List (List ℕ)
said_of_lengths =
    (say "length 1 65536" ++ say "cut 1") ∷
    say "cut 1" ∷
    say "cut 1" ∷
    (say "length 2 4294967295" ++ say "cut 2") ∷ []

abbrev pub Said : Type 0
Said = map said_of files ≡ said

abbrev pub SaidOfLengths : Type 0
SaidOfLengths = map said_of lengths ≡ said_of_lengths
