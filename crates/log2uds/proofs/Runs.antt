-- From what was read to what is written.
use Prim.Native.Nat.{ℕ, ◌-◌}
use native.Mathlib.Omega.{arith}
use mathlib.Core.Bool.{Bool, true, false, not}
use mathlib.Core.List.{List, [], ◌++◌}
use mathlib.Core.Path.{◌≡◌, refl, sym, ◌∙◌, ap, ap₂, subst}
use lib.ListN.{take}
use Rattle.rules.specs.Events.{plain, Entry, entries}
use Rattle.rules.specs.Writing.{put_entries}
use Rattle.rules.proofs.Writing.{writing}
use Rattle.candump.specs.Reading.{hopeless}
use Rattle.importing.specs.Import as import
use Rattle.importing.specs.Import.{Imported, imported}
use Rattle.importing.specs.Kept.{Stream, Written, bytes, settled, ended, start}
use Rattle.importing.specs.Promises.{in_full, given_up_from, entries_from, replies_of}
use Rattle.importing.proofs.Imports.{imports}
use Rattle.importing.proofs.Passes.{no_source}
use Rattle.importing.proofs.Room.{suffices}
use Rattle.importing.proofs.Settles.{bytes-behind, settles}
use Rattle.captured.specs.Capture.{capture}
use Rattle.imports.specs.Held.{Outcome, written_of, Finished}
use Rattle.imports.specs.declared.ImportError.TheVariants.{Line, Text}
use Rattle.std.specs.Prelude.{Ok, Err}
use Rattle.log2uds.specs.Streams.{shown, left_in, reported, output, errors, log_shown, log_said}
use Rattle.log2uds.proofs.Notes.{noted-lines}
use Rattle.log2uds.specs.Runs as Runs
use Rattle.log2uds.specs.Runs.{Came, Turned, Ends, log_output, log_errors}
use Rattle.std.specs.Prelude as code
use Rattle.std.specs.Io.KnownBytes.{Consumes}
use Rattle.std.proofs.KnownBytes.{Consumes-trans}

pub nothing_read : (room ask answer : ℕ) (s : Stream) → s ≡ bytes room ask answer s []
unfolding bytes
nothing_read room ask answer s = refl

-- What came is what was taken from where it was read.
pub none_came : (room ask answer : ℕ) (C : List ℕ → Type 0) {s : Stream} → s ≡ start → C [] → (p : Came room ask answer start s) × C p.text
unfolding bytes
none_came room ask answer C e h = (record { text = []; is = e }, h)

-- Of nothing that was read nothing is settled.
pub unsettled : {s : Stream} → s ≡ start → settled s ≡ false
unfolding hopeless
unsettled e = ap settled e

pub more-came : (room ask answer : ℕ) (C : List ℕ → Type 0) {a b c : Stream} (p : Came room ask answer a b) (q : Came room ask answer b c) →
    C (p.text ++ q.text) → (r : Came room ask answer a c) × C r.text
more-came room ask answer C {a} p q h = (
  record {
    text = p.text ++ q.text;
    is = q.is ∙ ap (λ (s : Stream). bytes room ask answer s q.text) p.is ∙ bytes-behind room ask answer a p.text q.text;
  },
  h,
)

-- One read more.
pub turn-came : (room n ask answer : ℕ) (x y z : code.Option (List ℕ)) {a b c : Stream} {t : Bool} → n ≡ room → (p : Came room ask answer a b) × Consumes x y p.text →
    (q : Turned n ask answer b c t) × Consumes y z q.came.text → (r : Came room ask answer a c) × Consumes x z r.text
turn-came room n ask answer x y z {b = b} {c = c} e p q =
    let more : (m : Came room ask answer b c) × Consumes y z m.text = subst (λ (k : ℕ). (m : Came k ask answer b c) × Consumes y z m.text) e (q.0.came, q.1) in
    more-came room ask answer (Consumes x z) p.0 more.0 (Consumes-trans _ _ _ _ _ p.1 more.1)

-- What is not told as the end is settled.
pub not-so : {ended s : Bool} → ended ≡ not s → ended ≡ false → s ≡ true
not-so {s = true} e h = refl
not-so {s = false} e h = sym h ∙ e

-- The text was read to its end, or nothing behind what was read of it changes anything.
pub all-came : (room ask answer : ℕ) (t : Bool) (C : List ℕ → Type 0) {s : Stream} {r : Outcome} {out log : List ℕ} (p : Came room ask answer start s) →
    C p.text → (t ≡ false → settled s ≡ true) → Finished (ended room ask answer s) r out log → (e : Ends room ask answer t r out log) × C e.text
all-came room ask answer t C {r = r} {out = out} {log = log} p h stops f = (
  record {
    text = p.text;
    settled = λ e rest. settles room ask answer p.text rest (sym (ap settled p.is) ∙ stops e);
    finished =
        subst (λ (w : Written). Finished w r out log) (ap (ended room ask answer) p.is ∙ imports room ask answer p.text) f;
  },
  h,
)

-- What is shown does not depend on the other buffer.
same-shown : (r : Outcome) (out log : List ℕ) → shown (written_of r out []) ≡ shown (written_of r out log)
same-shown (Ok t) out log = refl
same-shown (Err (Line r)) out log = refl
same-shown (Err (Text r)) out log = refl

same_left : (r : Outcome) (out log : List ℕ) → left_in (written_of r [] []) ≡ left_in (written_of r out log)
same_left (Ok t) out log = refl
same_left (Err (Line r)) out log = refl
same_left (Err (Text r)) out log = refl

-- `log2uds REQUEST REPLY`
pub lines-written : (ask answer : ℕ) (t : Bool) (C : List ℕ → Type 0) {r : Outcome} {room n m left : ℕ} {before out log said : List ℕ} → room ≡ 272410 →
    (e : Ends room ask answer t r before log) → C e.text → take n out ≡ shown (written_of r before []) → left ≡ left_in (written_of r [] []) →
    take m said ≡ reported left → (l : Runs.Lines ask answer t n out m said) × C l.text
lines-written ask answer t C {r = r} {room = room} {before = before} {log = log} er e h o el s =
    let all = e.finished.says ∙ suffices room ask answer e.text (omega (arith, er)) in (
      record {
        text = e.text;
        settled = e.settled;
        output = o ∙ same-shown r before log ∙ ap shown all;
        errors = s ∙ ap reported (el ∙ same_left r before log ∙ ap left_in all);
      },
      h,
    )

-- The events that were kept are those of what is told.
read_back : (is : List import.Item) → entries plain (put_entries plain (entries_from 0 is)) ≡ entries_from 0 is
read_back is = writing.entries-read plain (entries_from 0 is) (no_source 0 is)

log-output : (call : List ℕ) (x : Imported) → log_shown call (in_full x) ≡ log_output call x
log-output call (import.refused_line n line) = refl
log-output call (import.refused n) = refl
log-output call (import.told is) = ap (λ (es : List Entry). output (capture call es (replies_of is))) (read_back is)

log-errors : (call : List ℕ) (x : Imported) → log_said call (in_full x) ≡ log_errors call x
log-errors call (import.refused_line n line) = refl
log-errors call (import.refused n) = refl
log-errors call (import.told is) =
    ap₂ (λ (l : List ℕ) (es : List Entry). errors (l ++ reported (given_up_from 0 is - 4096)) (capture call es (replies_of is))) (noted-lines 0 is)
    (read_back is)

-- `log2uds REQUEST REPLY CALL`
pub log-written : (ask answer : ℕ) (call : List ℕ) (t : Bool) (C : List ℕ → Type 0) {r : Outcome} {room n m : ℕ} {out log whole said : List ℕ} → room ≡ 272410 →
    (e : Ends room ask answer t r out log) → C e.text →
    take n whole ≡ log_shown call (written_of r out log) → take m said ≡ log_said call (written_of r out log) →
    (l : Runs.Log ask answer call t n whole m said) × C l.text
log-written ask answer call t C {room = room} er e h o s =
    let all = e.finished.says ∙ suffices room ask answer e.text (omega (arith, er)) in (
      record {
        text = e.text;
        settled = e.settled;
        output = o ∙ ap (log_shown call) all ∙ log-output call (imported ask answer e.text);
        errors = s ∙ ap (log_said call) all ∙ log-errors call (imported ask answer e.text);
      },
      h,
    )
