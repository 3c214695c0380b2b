-- The promises of a whole run.
use Prim.Native.Nat.{ℕ}
use mathlib.Core.List.{List, []}
use mathlib.Core.Path.{◌≡◌, ap, subst}
use lib.ListN.{take, drop}
use Rattle.log_lines.specs.Runs as lines
use Rattle.log_lines.proofs.Promises.{however-it-comes, however-it-is-said}
use Rattle.udslogs.specs.declared.Run.{Run}
use Rattle.udslogs.specs.Turns.{held_of}
use Rattle.udslogs.specs.Whole.{Turns, prints, reads, closes, Begun, PrintsItsLines, SaysWhatIsOff}

-- The same run by other names of where it begins.
named : {l m n o : ℕ} {h k written told : List ℕ} {pieces : List (List ℕ)} → l ≡ m → n ≡ o → h ≡ k → lines.Run l n h pieces written told →
    lines.Run m o k pieces written told
named {l} {m} {n} {o} {h} {k} {written} {told} {pieces} a b c run =
    subst (λ (x : List ℕ). lines.Run m o x pieces written told) c
    (subst (λ (x : ℕ). lines.Run m x h pieces written told) b (subst (λ (x : ℕ). lines.Run x n h pieces written told) a run))

-- The functions' turns are those of a run over the file.
run_of : {run : Run} {input written told : List ℕ} {pieces : List (List ℕ)} → Turns run input pieces written told →
    lines.Run run.left run.logs (held_of run input) pieces written told
run_of (prints p rest) = lines.takes p.batched (named p.left p.logs p.held (run_of rest))
run_of (reads p rest) = lines.reads (named p.left p.logs p.held (run_of rest))
run_of (closes wait c fits fits_said) = lines.ends wait c.ended fits fits_said

begun : (run : Run) (input : List ℕ) {written told : List ℕ} {pieces : List (List ℕ)} → Begun run → Turns run input pieces written told →
    lines.Run 0 0 [] pieces written told
begun run input b t = named b.0 b.1 (ap (λ (n : ℕ). take n (drop run.from input)) b.2) (run_of t)

pub prints-its-lines : PrintsItsLines
prints-its-lines run input pieces written told b bytes t = however-it-comes pieces written told bytes (begun run input b t)

pub says-what-is-off : SaysWhatIsOff
says-what-is-off run input pieces written told b few t = however-it-is-said pieces written told few (begun run input b t)
