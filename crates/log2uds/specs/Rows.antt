-- Captures with a call: what goes to standard output, and what to standard error. Requests of 7E0, replies of 7E8.
use Rattle.std.specs.Prelude.{ℕ, List, [], ◌∷◌, ◌++◌, map, ◌≡◌}
use Prim.Native.String.{String}
use Rattle.rules.specs.Lines.{ascii}
use Rattle.candump.specs.Text.{pairs}
use Rattle.importing.specs.Import.{imported}
use Rattle.importing.specs.Rows.{lf}
use Rattle.log2uds.specs.Runs.{log_output, log_errors}

pub record Row : Type 0 where
  pub call : List ℕ
  pub text : List ℕ
  pub output : List ℕ
  pub errors : List ℕ

abbrev pub row : String → List ℕ → String → List ℕ → Row
row call text output errors = record { call = pairs (ascii call); text = text; output = pairs (ascii output); errors = errors }

unfoldable pub rows : List Row
rows =
    -- examples/captures/a-lost-frame.log, and a call that reads F190: the frame that was lost is said.
    row "00010703f190000000000000002400000024000000240024000000320000138800000000"
    (lf "(1700000020.000000) can0 7E0#0322F19000000000 T" ++
    lf "(1700000020.012000) can0 7E8#101462F190484F49 R" ++
    lf "(1700000020.012300) can0 7E0#3000000000000000 T" ++
    lf "(1700000020.014200) can0 7E8#224520303030303A R" ++
    lf "(1700000021.000000) can0 7E0#0322F19000000000 T" ++
    lf "(1700000021.012000) can0 7E8#101462F190484F49 R" ++
    lf "(1700000021.012300) can0 7E0#3000000000000000 T" ++
    lf "(1700000021.013100) can0 7E8#2153542044524956 R" ++
    lf "(1700000021.014200) can0 7E8#224520303030303A R")
    "00010703f1900000000000000024000100240014002e0042000000320000138800000000000003f600000000001462f190484f49535420445249564520303030303a"
    (lf "request 1 22f190" ++ lf "dropped 4") ∷
    -- A tester present before the read: it is the request that starts the clock, and is said.
    row "000107032101000000000000002400000024000000240024000000320000138800000000"
    (lf "(1700000000.000000) can0 7E0#023E800000000000" ++
    lf "(1700000000.100000) can0 7E0#0322210100000000" ++
    lf "(1700000000.110000) can0 7E8#0562210103E80000")
    "0001070321010000000000000024000100240005002e00330000003200001388000000000000006e00000000000562210103e8"
    (lf "request 1 3e80") ∷
    -- A message given up before the request, and one within the line of a reply, which is in the log.
    row "000107032101000000000000002400000024000000240024000000320000138800000000"
    (lf "(1.000000) c 7E8#1008010203040506" ++
    lf "(1.000000) c 7E8#2208" ++
    lf "(1.000000) c 7E0#03222101" ++
    lf "(1.010000) c 7E8#1008010203040506" ++
    lf "(1.020000) c 7E8#0562210103E8")
    "0001070321010000000000000024000100240005002e00330000003200001388000000000000001400000000000562210103e8"
    (lf "dropped 2" ++ lf "request 3 222101" ++ lf "dropped 5") ∷
    -- A line that is refused, a text without a request: nothing else is said.
    row "000107032101000000000000002400000024000000240024000000320000138800000000"
    (lf "(1.000000) c 7E0#03222101" ++
    lf "(1.000000) c 7E8#1008010203040506" ++
    lf "(1.000000) c 7E8#2208" ++
    lf "x")
    ""
    (lf "refused 14 4") ∷
    row "000107032101000000000000002400000024000000240024000000320000138800000000"
    (lf "(1.000000) c 7E8#03222101")
    ""
    (lf "refused 15") ∷
    []

abbrev pub Rows : Type 0
Rows =
    (map (λ (x : Row). log_output x.call (imported 0x7e0 0x7e8 x.text)) rows ≡ map (λ (x : Row). x.output) rows) ×
    (map (λ (x : Row). log_errors x.call (imported 0x7e0 0x7e8 x.text)) rows ≡ map (λ (x : Row). x.errors) rows)
