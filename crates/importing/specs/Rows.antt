-- Rows of texts: requests of 7E0, replies of 7E8.
use Rattle.std.specs.Prelude.{ℕ, List, [], ◌∷◌, ◌++◌, map, ◌≡◌}
use Prim.Native.String.{String}
use Rattle.rules.specs.Lines.{ascii}
use Rattle.importing.specs.Import.{request, reply, dropped, Imported, refused_line, refused, told, imported}

pub record Row : Type 0 where
  pub text : List ℕ
  pub gives : Imported

abbrev pub row : List ℕ → Imported → Row
row t g = record { text = t; gives = g }

-- A line and its LF.
abbrev pub lf : String → List ℕ
lf s = ascii s ++ (10 ∷ [])

unfoldable pub rows : List Row
rows =
    -- Programs.md's example.
    row (lf "(1700000000.100000) can0 7E8#023E00 R" ++
    lf "(1700000000.200000) can0 7E0#0322F190 T" ++
    lf "(1700000000.201500) can0 123#DEADBEEF R" ++
    lf "(1700000000.220400) can0 7E8#037F2278AAAAAAAA R" ++
    lf "(1700000000.900000) can0 7E8#100962F190414243 R" ++
    lf "(1700000000.900500) can0 7E0#300000 T" ++
    lf "(1700000000.901000) can0 7E8#22AABBCC R" ++
    lf "(1700000001.100000) can0 7E8#100962F190414243 R" ++
    lf "(1700000001.100250) can0 7E0#300000 T" ++
    lf "(1700000001.101000) can0 7E8#21444546 R")
    (told (request 2 (0x22 ∷ 0xf1 ∷ 0x90 ∷ []) ∷ reply 20 (0x7f ∷ 0x22 ∷ 0x78 ∷ []) ∷ dropped 7 ∷ reply 901 (0x62 ∷ 0xf1 ∷ 0x90 ∷ 0x41 ∷ 0x42 ∷ 0x43 ∷ 0x44 ∷ 0x45 ∷ 0x46 ∷ []) ∷ [])) ∷
    -- A line that goes back by a microsecond, before one that can't be read.
    row (lf "(1.000500) c 123#" ++
    (10 ∷ []) ++
    lf "(1.000499) c 123#R" ++
    lf "x")
    (refused_line 16 3) ∷
    -- The other way round.
    row (lf "(1.000500) c 123#" ++
    lf "x" ++
    lf "(1.000499) c 123#R")
    (refused_line 14 2) ∷
    -- No request.
    row (lf "(1.000000) c 7E8#0101" ++
    lf "(1.000000) c 7E8##0" ++
    lf "(1.000000) c 000007E0#0101")
    (refused 15) ∷
    -- Nothing.
    row (ascii "")
    (refused 15) ∷
    -- Differences are rounded down.
    row (lf "(1.000999) c 7E0#0101" ++
    ascii "(1.001998) c 7E8#0102" ++ (13 ∷ []) ++ (10 ∷ []) ++
    ascii "(1.001999) c 7E8#0103")
    (told (request 1 (0x01 ∷ []) ∷ reply 0 (0x02 ∷ []) ∷ reply 1 (0x03 ∷ []) ∷ [])) ∷
    -- The limit of a time.
    row (lf "(0.000000) c 7E0#0101" ++
    lf "(4294967.295999) c 7E8#0102")
    (told (request 1 (0x01 ∷ []) ∷ reply 4294967295 (0x02 ∷ []) ∷ [])) ∷
    -- Past it.
    row (lf "(0.000000) c 7E0#0101" ++
    lf "(4294967.296000) c 7E8#0102")
    (refused 17) ∷
    -- Neither a reply past the limit nor a text without a request so far is the end of it: a line behind them that is refused comes first.
    row (lf "(0.000000) c 7E0#0101" ++
    lf "(4294967.296000) c 7E8#0102" ++
    lf "x")
    (refused_line 14 3) ∷
    row (lf "(1.000000) c 7E8#0101" ++
    lf "(0.999999) c 7E8#0101")
    (refused_line 16 2) ∷
    -- A request of two frames starts the clock at its last, and a reply begun before it counts.
    row (lf "(0.000000) c 7E0#1008010203040506" ++
    lf "(0.003000) c 7E8#10080A0B0C0D0E0F" ++
    lf "(0.007000) c 7E0#210708" ++
    lf "(0.009000) c 7E8#211011")
    (told (request 3 (0x01 ∷ 0x02 ∷ 0x03 ∷ 0x04 ∷ 0x05 ∷ 0x06 ∷ 0x07 ∷ 0x08 ∷ []) ∷ reply 2 (0x0a ∷ 0x0b ∷ 0x0c ∷ 0x0d ∷ 0x0e ∷ 0x0f ∷ 0x10 ∷ 0x11 ∷ []) ∷ [])) ∷
    -- A request sent again, and frames of it: later requests give no event, and their drops are told.
    row (lf "(1.000000) c 7E0#0101" ++
    lf "(1.000500) c 7E0#1008010203040506" ++
    lf "(1.001000) c 7E0#2207" ++
    lf "(1.002000) c 7E8#0102")
    (told (request 1 (0x01 ∷ []) ∷ dropped 3 ∷ reply 2 (0x02 ∷ []) ∷ [])) ∷
    []

abbrev pub Rows : Type 0
Rows = map (λ (x : Row). imported 0x7e0 0x7e8 x.text) rows ≡ map (λ (x : Row). x.gives) rows
