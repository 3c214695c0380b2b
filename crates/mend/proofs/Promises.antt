-- What request Ten promises, of every answer that fits the contract of `mend`: at most one does, and the mended log stands at the buffer's front.
use Prim.Native.Nat.{ℕ, ◌+◌, ◌≤◌}
use native.Mathlib.Omega.{arith}
use mathlib.Core.Bool.{Bool, true, false, cond}
use mathlib.Core.List.{List, ◌++◌}
use mathlib.Core.Logic.{◌⊎◌, ⊎_elim}
use mathlib.Core.Path.{◌≡◌, refl, sym, ◌∙◌, ap, ap₂, subst}
use lib.Dec.{leb}
use lib.ListN.{length, take, drop}
use lib.Seq.{take_at, drop_at}
use borrow.Author.Tests.{le-leb}
use Rattle.rules.specs.Bytes.{every, is_byte}
use Rattle.rules.specs.Logs.{header_size, form_in, header_of, reply_bytes}
use Rattle.wire.specs.Buffers.{with}
use Rattle.wire.specs.Refusing.{refusal_number}
use Rattle.wire.specs.declared.refusal.Refusal.{Refusal}
use Rattle.wire.proofs.Refusals.{same-refusal}
use Rattle.std.specs.Prelude.{Result, Ok, Err}
use Rattle.logs.specs.Layout.{said}
use Rattle.logs.proofs.Layouts.{said-once}
use Rattle.mending.specs.Mend as mending
use Rattle.mending.specs.Mend.{Report, report, readable, mend}
use Rattle.mending.specs.Promises.{Taken, entries_of, Run, Kept}
use Rattle.mending.proofs.Promises as mended
use Rattle.mending.proofs.OnlyCut.{only-cut}
use Rattle.mend.specs.declared.MendError.{MendError}
use Rattle.mend.specs.declared.MendError.TheVariants.{Refused, NoRoom}
use Rattle.mend.specs.declared.Report as Told
use Rattle.mend.specs.Answered.{report_of, log, refused, no_room, answer_of, answered, left, Mends}

never : {P : Type 0} → ◌≡◌ {A = ℕ} 0 1 → P
never e = absurd (omega arith)

-- The code's answer is determined by what it means.
same-report : (a b : Told.Report) → report_of a ≡ report_of b → a ≡ b
same-report a b e =
    let old = said-once a.old b.old (ap (λ (r : Report). r.old) e) in
    let new = said-once a.new b.new (ap (λ (r : Report). r.new) e) in
    λ i. record { old = old i; new = new i }

-- What is answered: how many bytes the mended log is and the report, or why there is none.
abbrev pub Answered : Type 0
Answered = Result (ℕ × Told.Report) MendError

same_answer : (a b : Answered) → answer_of a ≡ answer_of b → a ≡ b
same_answer (Ok x) (Ok y) e = let long : x.0 ≡ y.0 = cc in let told : report_of x.1 ≡ report_of y.1 = cc in let same = same-report x.1 y.1 told in λ i. Ok (long i, same i)
same_answer (Ok x) (Err (Refused r)) e = never (cc)
same_answer (Ok x) (Err NoRoom) e = never (cc)
same_answer (Err (Refused r)) (Ok y) e = never (cc)
same_answer (Err (Refused r)) (Err (Refused s)) e = let number : refusal_number r ≡ refusal_number s = cc in ap (λ (x : Refusal). Err (Refused x)) (same-refusal r s number)
same_answer (Err (Refused r)) (Err NoRoom) e = never (cc)
same_answer (Err NoRoom) (Ok y) e = never (cc)
same_answer (Err NoRoom) (Err (Refused s)) e = never (cc)
same_answer (Err NoRoom) (Err NoRoom) e = refl

module _ (l before : List ℕ) where
  -- At most one answer and one buffer fit.
  pub unique : (r s : Answered) (a b : List ℕ) → Mends l before r a → Mends l before s b → (r ≡ s) × (a ≡ b)
  unique r s a b p q = (same_answer r s (p.answer ∙ sym q.answer), p.buffer ∙ sym q.buffer)

  -- "output untouched"
  pub untouched : (r : Refusal) (after : List ℕ) → Mends l before (Err (Refused r)) after → (mend l ≡ mending.refused (refusal_number r)) × (after ≡ before)
  untouched r after p = go (mend l) p.answer p.buffer
    where
      n : ℕ
      n = refusal_number r

      go : (m : mending.Mended) → refused n ≡ answered m (length before) → after ≡ left m before → (m ≡ mending.refused n) × (after ≡ before)
      go (mending.refused k) e b = (let same : k ≡ n = cc in ap mending.refused same, b)
      go (mending.mended out r) e b = with-room (leb (length out) (length before)) e
        where
          with-room : {P : Type 0} (t : Bool) → refused n ≡ cond t (log (length out) r) no_room → P
          with-room true z = never (cc)
          with-room false z = never (cc)

  -- What stands at the buffer's front is the mended log, and the report is the definition's; the rest keeps its bytes.
  pub record Stands (n : ℕ) (told : Told.Report) (after : List ℕ) : Type 0 where
    pub is : mend l ≡ mending.mended (take n after) (report_of told)
    pub long : length (take n after) ≡ n
    pub rest : drop n after ≡ drop n before

  pub stands : (n : ℕ) (told : Told.Report) (after : List ℕ) → Mends l before (Ok (n, told)) after → Stands n told after
  unfolding with
  stands n told after p = go (mend l) refl p.answer p.buffer
    where
      there : (out : List ℕ) (r : Report) → mend l ≡ mending.mended out r → after ≡ with before 0 out
          → (t : Bool) → leb (length out) (length before) ≡ t → log n (report_of told) ≡ cond t (log (length out) r) no_room → Stands n told after
      there out r m b true fits e =
          let long : n ≡ length out = cc in
          let same : report_of told ≡ r = cc in
          let zero : 0 + length out ≡ length out = omega arith in
          let put : after ≡ out ++ drop (length out) before = b ∙ rw (zero, fits) in
          let front : take n after ≡ out = ap₂ take long put ∙ take_at out (drop (length out) before) (length out) refl in
          record {
            is = m ∙ sym (ap₂ mending.mended front same);
            long = ap (λ (x : List ℕ). length x) front ∙ sym long;
            rest = ap₂ drop long put ∙ drop_at out (drop (length out) before) (length out) refl ∙ ap (λ (k : ℕ). drop k before) (sym long);
          }
      there out r m b false fits e = never (cc)

      go : (m : mending.Mended) → mend l ≡ m → log n (report_of told) ≡ answered m (length before) → after ≡ left m before → Stands n told after
      go (mending.refused k) m e b = never (cc)
      go (mending.mended out r) m e b = there out r m b (leb (length out) (length before)) refl e

  -- A buffer as long as the damaged log has room for the mended one, and so has one of 65,535 bytes.
  pub room-enough : every is_byte l ≡ true → (length l ≤ length before) ⊎ (65535 ≤ length before) → (after : List ℕ) → Mends l before (Err NoRoom) after → ⊥
  room-enough bytes big after p = go (mend l) refl p.answer
    where
      go : (m : mending.Mended) → mend l ≡ m → no_room ≡ answered m (length before) → ⊥
      go (mending.refused k) m e = never (cc)
      go (mending.mended out r) m e =
          let short = mended.no-longer-than-it l out r bytes m in
          let fits : length out ≤ length before = ⊎_elim (λ z. omega arith) (λ z. omega arith) big in
          never (let z : no_room ≡ log (length out) r = rw (le-leb (length out) (length before) fits) at e in cc)

module _ (l before : List ℕ) (n : ℕ) (told : Told.Report) (after : List ℕ) (p : Mends l before (Ok (n, told)) after) where
  abbrev so : Stands l before n told after
  so = stands l before n told after p

  -- "it keeps the longest run of leading events"
  pub longest : Run (readable l) told.new.events × ((k : ℕ) → Run (readable l) k → k ≤ told.new.events)
  longest = mended.longest l (take n after) (report_of told) so.is

  module _ (bytes : every is_byte l ≡ true) where
    -- What is kept is the old, and nothing else is rewritten.
    pub keeps-the-old : Kept l (take n after) (report_of told)
    keeps-the-old = mended.keeps-the-old l (take n after) (report_of told) bytes so.is

    pub no_longer : (n ≤ length l) × (n ≤ 65535)
    no_longer =
        let short = mended.no-longer-than-it l (take n after) (report_of told) bytes so.is in
        let long = so.long in
        (omega arith, omega arith)

    -- "mending twice equals mending once": into any buffer with room for it.
    pub twice : (out : List ℕ) (m : ℕ) (again : Told.Report) (then : List ℕ) → Mends (take n after) out (Ok (m, again)) then
        → (m ≡ n) × (take m then ≡ take n after) × (report_of again ≡ report (said told.new) (said told.new))
    twice out m again then q =
        let once = mended.twice l (take n after) (report_of told) bytes so.is in
        let s = stands (take n after) out m again then q in
        let same = sym s.is ∙ once in
        let log : take m then ≡ take n after = cc in
        let new : report_of again ≡ report (said told.new) (said told.new) = cc in
        (sym s.long ∙ ap (λ (x : List ℕ). length x) log ∙ so.long, log, new)

-- "A log that `udslog` neither calls bad nor refuses comes out byte for byte the same"
pub unchanged : (l before : List ℕ) → Taken l → (n : ℕ) (told : Told.Report) (after : List ℕ) → Mends l before (Ok (n, told)) after
    → (take n after ≡ l) × (report_of told ≡ report (header_of l) (header_of l))
unchanged l before t n told after p =
    let same = sym (stands l before n told after p).is ∙ mended.unchanged l t in
    let log : take n after ≡ l = cc in
    let new : report_of told ≡ report (header_of l) (header_of l) = cc in
    (log, new)

-- A log that `udslog` takes, cut behind its arguments: what is written is a log that `udslog` takes, whose events and reply bytes are the first of the old.
abbrev pub Front : List ℕ → List ℕ → Report → Type 0
Front l x r =
    Taken x ×
    (entries_of x ≡ take r.new.events (entries_of l)) ×
    (reply_bytes (header_of x) x ≡ take r.new.replies (reply_bytes (header_of l) l))

pub only-a-cut : (l before : List ℕ) → Taken l → (cut : ℕ) → header_size (form_in (header_of l)) + (header_of l).arguments ≤ cut → (n : ℕ) (told : Told.Report) (after : List ℕ)
    → Mends (take cut l) before (Ok (n, told)) after → Front l (take n after) (report_of told)
only-a-cut l before t cut behind n told after p =
    let s = (only-cut l t cut).behind behind in
    let same = sym s.is ∙ (stands (take cut l) before n told after p).is in
    let log : s.log ≡ take n after = cc in
    let new : s.report ≡ report_of told = cc in
    subst (Front l (take n after)) new (subst (λ (x : List ℕ). Front l x s.report) log (s.taken, s.events, s.replies))
