-- What request Ten promises, of the bytes that the program writes to standard output.
use Prim.Native.Nat.{ℕ, ◌+◌, ◌≤◌}
use mathlib.Core.Bool.{true}
use mathlib.Core.List.{List, []}
use mathlib.Core.Path.{◌≡◌, sym, ◌∙◌, ap, subst}
use lib.ListN.{take}
use Rattle.rules.specs.Bytes.{every, is_byte}
use Rattle.rules.specs.Logs.{header_size, form_in, header_of, reply_bytes}
use Rattle.mending.specs.Mend.{Report, refused, mended, mend}
use Rattle.mending.specs.Said.{put}
use Rattle.mending.specs.Promises.{Taken, entries_of}
use Rattle.mending.proofs.Promises as mending
use Rattle.mending.proofs.OnlyCut.{only-cut}
use Rattle.udsmend.specs.Streams.{Holds}
use Rattle.udsmend.specs.declared.Streams.{Streams}

module _ (read : List ℕ) (r : Streams) (out said : List ℕ) (p : Holds read r out said) where
  abbrev wrote : List ℕ
  wrote = take r.out out

  -- What is written where a log is mended, and where it is refused.
  pub the-log : (log : List ℕ) (told : Report) → mend read ≡ mended log told → wrote ≡ log
  unfolding put
  the-log log told e = p.log ∙ ap put e

  pub nothing : (k : ℕ) → mend read ≡ refused k → wrote ≡ []
  unfolding put
  nothing k e = p.log ∙ ap put e

  -- "A log that `udslog` neither calls bad nor refuses comes out byte for byte the same"
  pub unchanged : Taken read → wrote ≡ read
  unchanged t = the-log read _ (mending.unchanged read t)

  -- "mending twice equals mending once": what was written, read again.
  pub twice : (log : List ℕ) (told : Report) → every is_byte read ≡ true → mend read ≡ mended log told →
      (again : List ℕ) (s : Streams) (out' said' : List ℕ) → again ≡ wrote → Holds again s out' said' → take s.out out' ≡ wrote
  unfolding put
  twice log told bytes e again s out' said' same q =
      let first = the-log log told e in
      let second = mending.twice read log told bytes e in
      q.log ∙ ap (λ (l : List ℕ). put (mend l)) (same ∙ first) ∙ ap put second ∙ sym first

  -- A log that `udslog` takes, cut behind its arguments: `udslog` takes what is written, whose events and reply bytes are the first of the old.
  pub only-a-cut : (l : List ℕ) → Taken l → (cut : ℕ) → header_size (form_in (header_of l)) + (header_of l).arguments ≤ cut → read ≡ take cut l →
      Taken wrote ×
      ((k : ℕ) × (entries_of wrote ≡ take k (entries_of l))) ×
      ((k : ℕ) × (reply_bytes (header_of wrote) wrote ≡ take k (reply_bytes (header_of l) l)))
  only-a-cut l t cut behind same =
      let s = (only-cut l t cut).behind behind in
      let log = the-log s.log s.report (ap mend same ∙ s.is) in
      subst (λ (x : List ℕ). Taken x × ((k : ℕ) × (entries_of x ≡ take k (entries_of l))) × ((k : ℕ) × (reply_bytes (header_of x) x ≡ take k (reply_bytes (header_of l) l)))) (sym log)
      (s.taken, (s.report.new.events, s.events), (s.report.new.replies, s.replies))
