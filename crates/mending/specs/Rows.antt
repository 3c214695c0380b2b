-- Rows of mending: a damaged log, what is written in its place, and what is reported.
use Rattle.std.specs.Prelude.{ℕ, List, [], ◌∷◌, ◌++◌, map, ◌≡◌, take}
use Prim.Native.String.{String}
use Rattle.rules.specs.Addresses.{log2}
use Rattle.rules.specs.Bytes.{two}
use Rattle.rules.specs.Examples.{entry, log}
use Rattle.rules.specs.Lines.{ascii}
use Rattle.rules.specs.LogRows.{changed}
use Rattle.rules.specs.Logs.{line_of}
use Rattle.mending.specs.Mend.{mend}
use Rattle.mending.specs.Said.{said, put}

pub record Row : Type 0 where
  pub damaged : List ℕ
  pub mended : List ℕ
  pub reported : String

abbrev pub row : List ℕ → List ℕ → String → Row
row damaged mended reported = record { damaged = damaged; mended = mended; reported = reported }

abbrev pub refused : List ℕ → String → Row
refused damaged reported = row damaged [] reported

-- What stands between the listening address and P2: count and offset of arguments, events and replies, and the total.
abbrev pub areas : ℕ → ℕ → ℕ → ℕ → ℕ → ℕ → ℕ → List ℕ
areas arguments arguments_at events events_at replies replies_at total =
    two arguments ++ two arguments_at ++ two events ++ two events_at ++ two replies ++ two replies_at ++ two total

-- A log of version 1 whose other fields all differ, none of them what its call would have: so much of it mending leaves alone.
abbrev pub plainly : List ℕ → List ℕ → List ℕ
plainly numbers rest =
    (0x00 ∷ 0x01 ∷ 0x0f ∷ 0xff ∷ 0xab ∷ 0xcd ∷ 0x11 ∷ 0x22 ∷ 0x33 ∷ 0x44 ∷ []) ++
    numbers ++
    (0x01 ∷ 0x02 ∷ 0x03 ∷ 0x04 ∷ 0x05 ∷ 0x06 ∷ 0x07 ∷ 0x08 ∷ 0x09 ∷ 0x0a ∷ 0x0b ∷ 0x0c ∷ []) ++
    rest

-- The same of version 2, listening to 4455.
abbrev pub addressedly : List ℕ → List ℕ → List ℕ
addressedly numbers rest =
    (0x00 ∷ 0x02 ∷ 0x0f ∷ 0xff ∷ 0xab ∷ 0xcd ∷ 0x11 ∷ 0x22 ∷ 0x33 ∷ 0x44 ∷ 0x55 ∷ []) ++
    numbers ++
    (0x01 ∷ 0x02 ∷ 0x03 ∷ 0x04 ∷ 0x05 ∷ 0x06 ∷ 0x07 ∷ 0x08 ∷ 0x09 ∷ 0x0a ∷ 0x0b ∷ 0x0c ∷ []) ++
    rest

-- A reply of three bytes, one of five behind it, and the eight.
abbrev pub first : List ℕ
first = entry 20 0 0 3

abbrev pub second : List ℕ
second = entry 900 0 3 5

abbrev pub eight : List ℕ
eight = 0x7f ∷ 0x22 ∷ 0x78 ∷ 0x62 ∷ 0xf1 ∷ 0x90 ∷ 0x41 ∷ 0x42 ∷ []

abbrev pub source : List ℕ
source = 0x07 ∷ 0xe8 ∷ []

-- Nothing to mend; cut in the replies, in the events, behind the header; bytes behind the last area.
unfoldable pub cuts : List Row
cuts =
    row log log "kept 2 promised 2\n" ∷
    row log2 log2 "kept 3 promised 3\n" ∷
    row (log ++ (0xaa ∷ 0xbb ∷ [])) log "kept 2 promised 2\n" ∷
    row (take 62 log) (changed ((15, 1) ∷ (19, 6) ∷ (21, 46) ∷ (23, 52) ∷ []) (take 46 log ++ take 6 eight))
    "kept 1 promised 2\nevents-count 2 1\nreplies-count 8 6\nreplies-offset 56 46\ntotal 64 52\n" ∷
    row (take 50 log) (changed ((15, 0) ∷ (19, 0) ∷ (21, 36) ∷ (23, 36) ∷ []) (take 36 log))
    "kept 0 promised 2\nevents-count 2 0\nreplies-count 8 0\nreplies-offset 56 36\ntotal 64 36\n" ∷
    row (take 36 log) (changed ((15, 0) ∷ (19, 0) ∷ (21, 36) ∷ (23, 36) ∷ []) (take 36 log))
    "kept 0 promised 2\nevents-count 2 0\nreplies-count 8 0\nreplies-offset 56 36\ntotal 64 36\n" ∷
    row (take 76 log2) (changed ((16, 1) ∷ (20, 3) ∷ (22, 49) ∷ (24, 52) ∷ []) (take 49 log2 ++ take 3 eight))
    "kept 1 promised 3\nevents-count 3 1\nreplies-count 11 3\nreplies-offset 73 49\ntotal 84 52\n" ∷
    row (plainly (areas 0 36 3 36 9 66 75) (entry 20 1 0 0 ++ entry 20 2 0 0 ++ take 9 (entry 20 1 0 0))) (plainly (areas 0 36 2 36 0 56 56) (entry 20 1 0 0 ++ entry 20 2 0 0))
    "kept 2 promised 3\nevents-count 3 2\nreplies-count 9 0\nreplies-offset 66 56\ntotal 75 56\n" ∷ []

-- "Areas are found from the counts": no offset, nor the total, is believed, in either version. Reply bytes that no kept event names stay.
unfoldable pub placed : List Row
placed =
    row (plainly (areas 2 1 2 2 8 3 4) (0xa1 ∷ 0xa2 ∷ first ++ second ++ eight)) (plainly (areas 2 36 2 38 8 58 66) (0xa1 ∷ 0xa2 ∷ first ++ second ++ eight))
    "kept 2 promised 2\narguments-offset 1 36\nevents-offset 2 38\nreplies-offset 3 58\ntotal 4 66\n" ∷
    row (addressedly (areas 2 1 1 2 8 3 4) (0xa1 ∷ 0xa2 ∷ first ++ source ++ eight)) (addressedly (areas 2 37 1 39 8 51 59) (0xa1 ∷ 0xa2 ∷ first ++ source ++ eight))
    "kept 1 promised 1\narguments-offset 1 37\nevents-offset 2 39\nreplies-offset 3 51\ntotal 4 59\n" ∷
    row (plainly (areas 0 36 1 36 8 46 54) (entry 20 4 0 0 ++ eight)) (plainly (areas 0 36 0 36 8 36 44) eight)
    "kept 0 promised 1\nevents-count 1 0\nreplies-offset 46 36\ntotal 54 44\n" ∷
    row (plainly (areas 0 36 1 36 3 46 49) (first ++ eight)) (plainly (areas 0 36 1 36 3 46 49) (first ++ take 3 eight)) "kept 1 promised 1\n" ∷
    row (plainly (areas 0 36 65535 36 65535 0 0) (first ++ second)) (plainly (areas 0 36 0 36 0 36 36) [])
    "kept 0 promised 65535\nevents-count 65535 0\nreplies-count 65535 0\nreplies-offset 0 36\ntotal 0 36\n" ∷
    row (plainly (areas 2 36 0 38 0 38 38) (0xa1 ∷ 0xa2 ∷ [])) (plainly (areas 2 36 0 38 0 38 38) (0xa1 ∷ 0xa2 ∷ [])) "kept 0 promised 0\n" ∷ []

-- Three events, of which so many are kept.
abbrev pub three : List ℕ → List ℕ → List ℕ → List ℕ
three a b c = plainly (areas 0 36 3 36 8 66 74) (a ++ b ++ c ++ eight)

abbrev pub keeps_all : List ℕ → List ℕ → List ℕ → Row
keeps_all a b c = row (three a b c) (three a b c) "kept 3 promised 3\n"

abbrev pub keeps_one : List ℕ → List ℕ → List ℕ → Row
keeps_one a b c = row (three a b c) (plainly (areas 0 36 1 36 8 46 54) (a ++ eight)) "kept 1 promised 3\nevents-count 3 1\nreplies-offset 66 46\ntotal 74 54\n"

-- "of known kind, with times that don't fall and with their reply bytes inside": these and no more. A later event that would do is not kept.
unfoldable pub runs : List Row
runs =
    keeps_all first second (entry 900 0 8 0) ∷
    keeps_all (entry 0 0 0 8) (entry 0 1 0 0) (entry 0 2 0 0) ∷
    keeps_all (entry 4294967295 3 0 65535) (entry 4294967295 1 7 65535) (entry 4294967295 2 65535 1) ∷
    keeps_one first (entry 900 4 0 0) second ∷
    keeps_one first (entry 900 256 0 0) second ∷
    keeps_one (entry 20 1 0 0) (entry 19 1 0 0) (entry 20 1 0 0) ∷
    keeps_one first (entry 900 0 4 5) second ∷
    keeps_one first (entry 900 0 9 0) second ∷
    keeps_one first (entry 900 0 0 9) second ∷
    keeps_one first (entry 900 0 65535 65535) second ∷
    row (addressedly (areas 0 37 2 37 8 61 69) (entry 20 1 0 0 ++ source ++ entry 19 1 0 0 ++ source ++ eight)) (addressedly (areas 0 37 1 37 8 49 57) (entry 20 1 0 0 ++ source ++ eight))
    "kept 1 promised 2\nevents-count 2 1\nreplies-offset 61 49\ntotal 69 57\n" ∷ []

-- 18 for a header that is short, or of another version or call; 19 for arguments that are not whole; 18 first.
unfoldable pub refusals : List Row
refusals =
    refused [] "refused 18\n" ∷
    refused (0 ∷ []) "refused 18\n" ∷
    refused (0 ∷ 1 ∷ []) "refused 18\n" ∷
    refused (take 35 log) "refused 18\n" ∷
    refused (take 36 log2) "refused 18\n" ∷
    refused (changed ((1, 0) ∷ []) log) "refused 18\n" ∷
    refused (changed ((1, 3) ∷ []) log) "refused 18\n" ∷
    refused (changed ((0, 1) ∷ []) log) "refused 18\n" ∷
    refused (changed ((0, 1) ∷ (1, 2) ∷ []) log) "refused 18\n" ∷
    refused (changed ((2, 16) ∷ []) log) "refused 18\n" ∷
    refused (changed ((2, 16) ∷ (11, 29) ∷ []) log) "refused 18\n" ∷
    refused (changed ((11, 29) ∷ []) log) "refused 19\n" ∷
    refused (plainly (areas 3 36 0 39 0 39 39) (0xa1 ∷ 0xa2 ∷ [])) "refused 19\n" ∷
    refused (addressedly (areas 65535 37 0 37 0 37 37) []) "refused 19\n" ∷ []

-- What both streams of `udsmend` get of a damaged log, and what the row says.
abbrev pub gets : Row → List ℕ × List ℕ
gets r = (put (mend r.damaged), said (mend r.damaged))

abbrev pub says : Row → List ℕ × List ℕ
says r = (r.mended, ascii r.reported)

abbrev pub Hold : List Row → Type 0
Hold rows = map gets rows ≡ map says rows

-- Nothing says that a mended log runs: damage other than a cut may leave what `udslog` calls bad or refuses. Here a flag that no call has, an idle event with a
-- length, and in version 2 an idle event with an address; nothing is there to be mended.
unfoldable pub damages : List (List ℕ × String)
damages =
    (changed ((3, 0x43) ∷ []) log, "badlog 0 0 0 -\n") ∷
    (changed ((41, 1) ∷ []) log, "badlog 0 0 0 -\n") ∷
    (changed ((66, 1) ∷ (68, 0) ∷ (70, 0) ∷ []) log2, "refused 0 0 0 0a\n") ∷ []

abbrev pub NotTaken : Type 0
NotTaken = (map (λ d. put (mend d.0)) damages ≡ map (λ d. d.0) damages) × (map (λ d. line_of d.0) damages ≡ map (λ d. ascii d.1) damages)

abbrev pub Rows : Type 0
Rows = Hold cuts × Hold placed × Hold runs × Hold refusals × NotTaken
