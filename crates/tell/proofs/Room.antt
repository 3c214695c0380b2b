-- A buffer of 163,840 bytes has room for every story.
use Rattle.std.specs.Prelude.{Some, None}
use Prim.Native.Nat.{ℕ, ◌/◌, ◌≤◌, ◌<◌}
use native.Mathlib.Omega.{arith}
use mathlib.Core.Bool.{Bool, true, false, cond}
use mathlib.Core.List.{List, []}
use mathlib.Core.Path.{◌≡◌, refl, ◌∙◌, ap}
use lib.ListN.{length, get_or, length-append}
use borrow.Author.Tests.{le-leb, lt-leb}
use native.Mathlib.Nat.{zero-add}
use Rattle.rules.specs.Answers.{Outcome, positive, suppressed, negative, timeout, pending_limit, disconnected, transport, fault, refused}
use Rattle.rules.specs.Client.{asked, entries_in}
use Rattle.rules.specs.Events.{event_size}
use Rattle.rules.specs.Exchange.{start}
use Rattle.rules.specs.Calls.{request_of}
use Rattle.rules.specs.Logs.{layout_ok, answer_of}
use Rattle.exchange.proofs.Entries.{few-entries}
use Rattle.calls.specs.Meaning.{is_refused}
use Rattle.log_line.proofs.Longest.{line-fits}
use Rattle.text.specs.Written.{put}
use Rattle.log_fields.specs.Words.{off_line}
use Rattle.log_fields.proofs.Promises.{longest}
use Rattle.telling.specs.Telling.{Told, told_in, lines_of, heard_in, by_refusal, call_text, sound_text, telling, story}
use Rattle.telling.proofs.Fitting.{joined-long, tell-long, entries-long, begins-long, checks-long, concludes-long, declined-long}
use Rattle.text.specs.Written.{Adds}
use Rattle.tell.specs.Told.{Tells}
use Rattle.tell.proofs.Sounding.{is_made, not_made, made_one}

refusal-long : (o : Outcome) → length (by_refusal o []) ≤ 155000
refusal-long (positive p) = omega arith
refusal-long suppressed = omega arith
refusal-long (negative n) = omega arith
refusal-long timeout = omega arith
refusal-long pending_limit = omega arith
refusal-long disconnected = omega arith
refusal-long (transport n) = omega arith
refusal-long (fault f) = omega arith
refusal-long (refused n) = omega (arith, declined-long n)

module _ (l : List ℕ) where
  abbrev x : Told
  x = told_in l

  made-long : is_refused (answer_of l).outcome ≡ false → length (call_text x (answer_of l)) ≤ 155000
  unfolding answer_of
  made-long e =
      let within = (is_made x.strict x.setting x.call x.lent e).1 in
      let few = few-entries x.lent.form x.lent.events x.lent.replies within in
      let entries = entries-long x.lent.form x.lent.events (length x.lent.events / event_size x.lent.form) 0 in
      let first = start (asked x.setting x.call) in
      let lines = tell-long x.strict (asked x.setting x.call) x.setting.overall x.lent.listens x.lent.replies (entries_in x.lent) first in
      let text = joined-long x.lent.listens x.lent.replies (lines_of x) in
      simp length-append (omega (
        arith,
        few,
        entries,
        lines,
        text,
        begins-long x.strict (request_of x.setting.quiet x.call) first,
        checks-long x.strict x.call (answer_of l).reply.bytes (heard_in x) (answer_of l).outcome,
        concludes-long (answer_of l),
      ))

  sound-long : length (sound_text l) ≤ 155000
  sound-long = go (is_refused (answer_of l).outcome) refl
    where
      go : (b : Bool) → is_refused (answer_of l).outcome ≡ b → length (sound_text l) ≤ 155000
      go true e = rw (not_made (answer_of l).outcome (call_text x (answer_of l)) [] e) (refusal-long (answer_of l).outcome)
      go false e = rw (← made_one (answer_of l).outcome (call_text x (answer_of l)) e) (made-long e)

  telling-long : length (telling l) ≤ 155000
  unfolding telling
  telling-long = go (layout_ok l)
    where
      go : (b : Bool) → length (cond b (sound_text l) (off_line l)) ≤ 155000
      go true = sound-long
      go false = omega (arith, longest l)

  pub story-long : ((i : ℕ) → get_or l i 0 < 256) → length (story l) ≤ 163840
  unfolding story
  story-long bytes = simp length-append (omega (arith, telling-long, line-fits l bytes))

-- What `tell` answers.
module _ (l before : List ℕ) where
  pub no_room : length before < 163840 → Tells l before None before
  no_room h = let less = lt-leb 163840 (length before) h in record { answer = rw less; text = rw less }

  pub told : {after : List ℕ} {r : ℕ} → ((i : ℕ) → get_or l i 0 < 256) → 163840 ≤ length before → Adds (story l) before 0 r after → Tells l before (Some r) after
  unfolding put
  told bytes h a =
      let fits = le-leb 163840 (length before) h in
      let p = a.put (omega (arith, story-long l bytes)) in
      record { answer = rw fits (ap Some (p.next ∙ zero-add (length (story l)))); text = rw fits (p.line ∙ rw zero-add) }

-- By whether the layout is sound.
module _ (l : List ℕ) where
  pub unsound-told : layout_ok l ≡ false → off_line l ≡ telling l
  unfolding telling
  unsound-told e = rw e

  pub sound-told : layout_ok l ≡ true → sound_text l ≡ telling l
  unfolding telling
  sound-told e = rw e
