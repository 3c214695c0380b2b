-- Where it is past the deadline, or past T, nothing that comes from then on changes the list engine's answer.
use Prim.Native.Nat.{ℕ, ◌≤◌, ◌<◌, max}
use native.Mathlib.Omega.{arith}
use mathlib.Core.Bool.{Bool, true, false, cond, ◌&&◌, ◌||◌, false≢true}
use mathlib.Core.Path.{◌≡◌, refl, sym, ◌∙◌, ap, ap₂}
use mathlib.Core.List.{List, [], ◌∷◌}
use mathlib.Core.Option.{Option, none, some}
use lib.Dec.{ltb}
use lib.ListN.{length}
use borrow.Author.Tests.{ltb-true, ltb-false, lt-leb}
use Rattle.rules.specs.Answers.{nowhere, timeout, pending_limit, disconnected, transport, Answer, answer}
use Rattle.rules.specs.Calls.{suppresses}
use Rattle.rules.specs.Counts.{After, Rising}
use Rattle.rules.specs.Events.{Event, reply, idle, ended, failed, time_of, up_to}
use Rattle.rules.specs.Exchange.{Asked, Step, pending, settles, look, Settled, settled, State, waits, finish, allows, notes, hears, turn, silence, settle, under}
use Rattle.rules.proofs.Turns.{Through, settle-late, settle-ind}
use Rattle.stepwise.specs.Engine.{beyond, past}

-- Events that all come past T.
module _ (strict : Bool) (a : Asked) (overall : ℕ) where
  abbrev cut_to : List ℕ → List ℕ → Answer
  cut_to read notices = answer timeout overall (up_to overall read) (up_to overall notices) nowhere

  abbrev cut : State → Answer
  cut s = cut_to s.read s.notices

  under-cut : (x : Settled) → overall < x.time → under (some overall) x ≡ cut_to x.read x.notices
  under-cut x h = rw (lt-leb x.time overall h) refl

  late-one : (t : ℕ) (l : List ℕ) → overall < t → up_to overall (t ∷ l) ≡ up_to overall l
  late-one t l h = rw (lt-leb t overall h) (omega arith)

  read-late : (t : ℕ) (s : State) → overall < t → cut_to (t ∷ s.read) s.notices ≡ cut s
  read-late t s h = ap (λ (n : ℕ). answer timeout overall n (up_to overall s.notices) nowhere) (late-one t s.read h)

  noted-late : (t : ℕ) (s : State) → overall < t → cut_to (t ∷ s.read) (t ∷ s.notices) ≡ cut s
  noted-late t s h = ap₂ (λ (n m : ℕ). answer timeout overall n m nowhere) (late-one t s.read h) (late-one t s.notices h)

  abbrev Cut : State → List Event → Settled → Type 0
  Cut s es x = (t : ℕ) → Rising t es → overall < t → overall < s.deadline → under (some overall) x ≡ cut s

  by-finish : (b : Bool) (t p : ℕ) → overall < t → overall < cond b (max t p) t
  by-finish true t p h = omega arith
  by-finish false t p h = h

  through : (s : State) (e : Event) (es : List Event) → time_of e ≤ s.deadline → Through Cut s e es (turn strict a s e)
  through s (reply t p) es k = by-look (look strict a s.hush p)
    where
      heard : (b : Bool) → Through Cut s (reply t p) es (notes a s t p b)
      heard true = λ x more u r h d. more t r.1 (omega arith) (omega arith) ∙ noted-late t s (omega arith)
      heard false = λ u r h d. under-cut (settled pending_limit t (t ∷ s.read) (t ∷ s.notices) p) (omega arith) ∙ noted-late t s (omega arith)

      by-look : (z : Step) → Through Cut s (reply t p) es (hears a s t p z)
      by-look pending = heard (allows a.limit (length s.notices))
      by-look (settles o) = λ u r h d. under-cut (settled o (finish a o t) (t ∷ s.read) s.notices p) (by-finish (waits o && suppresses a.sub) t a.timing.p2 (omega arith)) ∙ read-late t s (omega arith)
  through s (idle t) es k = λ x more u r h d. more t r.1 (omega arith) d ∙ read-late t s (omega arith)
  through s (ended t) es k = λ u r h d. under-cut (settled disconnected t (t ∷ s.read) s.notices nowhere) (omega arith) ∙ read-late t s (omega arith)
  through s (failed t n) es k = λ u r h d. under-cut (settled (transport n) t (t ∷ s.read) s.notices nowhere) (omega arith) ∙ read-late t s (omega arith)

  pub settle-cut : (es : List Event) (s : State) → Cut s es (settle strict a es s)
  settle-cut = settle-ind strict a Cut (λ s es h t r l d. under-cut (silence s) d) through

rising-after : (es : List Event) (d t : ℕ) → d < t → Rising t es → After d es
rising-after [] d t h r = tt
rising-after (e ∷ es) d t h r = omega arith

module _ (strict : Bool) (a : Asked) where
  beyond-it : (overall : Option ℕ) (s : State) (t : ℕ) (es : List Event) → beyond overall t ≡ true → t ≤ s.deadline → Rising t es
      → under overall (settle strict a es s) ≡ under overall (silence s)
  beyond-it none s t es e h r = absurd (false≢true e)
  beyond-it (some overall) s t es e h r =
      let l = ltb-true overall t e in
      let d : overall < s.deadline = omega arith in
      settle-cut strict a overall es s t r l d ∙ sym (under-cut strict a overall (silence s) d)

  pub too-late : (overall : Option ℕ) (s : State) (t : ℕ) (es : List Event) → past overall s t ≡ true → Rising t es
      → under overall (settle strict a es s) ≡ under overall (silence s)
  too-late overall s t es e r = go (ltb s.deadline t) refl e
    where
      go : (b : Bool) → ltb s.deadline t ≡ b → (b || beyond overall t) ≡ true → under overall (settle strict a es s) ≡ under overall (silence s)
      go true d h = ap (under overall) (settle-late strict a s es (rising-after es s.deadline t (ltb-true s.deadline t d) r))
      go false d h = beyond-it overall s t es h (ltb-false s.deadline t d) r
