-- What one frame does with the code's numbers and buffer.
use Prim.Native.Nat.{ℕ, ◌+◌, ◌≤◌}
use mathlib.Core.Bool.{false}
use mathlib.Core.List.{List}
use mathlib.Core.Option.{none}
use mathlib.Core.Path.{◌≡◌, refl, sym, ◌∙◌, ap}
use lib.ListN.{length, drop}
use lib.Seq.{take_at}
use borrow.Author.Tests.{le-leb}
use Rattle.isotp.specs.Joining.{Fed, fed, under}
use Rattle.isotp.specs.Held.{said, over, Does}
use Rattle.isotp.specs.declared.Heard.{Heard}

-- A message that is under way from now on is what the answer's numbers and the buffer stand for.
pub goes_on_does : {want : Fed} {due n : ℕ} {bs before after : List ℕ} {r : Heard} → want ≡ fed (under due n bs) false none → 1 ≤ due →
    length bs + due ≤ 4095 → n ≤ 15 → r ≡ said (fed (under due n bs) false none) → after ≡ over bs before → Does want before r after
goes_on_does {due = due} {n = n} {bs = bs} {before = before} e some_due size number answer buffer =
    rw (e, answer, buffer)
    (record {
      answer = refl;
      buffer = refl;
      says =
          rw (le-leb 1 due some_due, le-leb (length bs + due) 4095 size, le-leb n 15 number)
          (ap (under due n) (take_at bs (drop (length bs) before) (length bs) refl));
      given = refl;
    })

-- What is answered, and what the buffer then holds, is determined.
pub unique : (want : Fed) (before : List ℕ) (r s : Heard) (a b : List ℕ) → Does want before r a → Does want before s b → (r ≡ s) × (a ≡ b)
unique want before r s a b p q = (p.answer ∙ sym q.answer, p.buffer ∙ sym q.buffer)
