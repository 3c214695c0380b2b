-- Byte by byte, what is kept is what request Eight asks for.
use Prim.Native.Nat.{ℕ, ◌-◌, ◌/◌}
use mathlib.Core.Bool.{Bool, true, false, cond, not, ◌||◌}
use mathlib.Core.List.{List, [], ◌∷◌, ◌++◌}
use mathlib.Core.Option.{Option, none, some}
use mathlib.Core.Path.{◌≡◌, refl, sym, ◌∙◌, ap, ap₂}
use lib.Dec.{ltb, eqb}
use lib.ListN.{length}
use Rattle.isotp.specs.Joining.{Fed}
use Rattle.candump.specs.Lines.{Line, blank, unreadable, other, frame, read, bare}
use Rattle.candump.specs.Text.{past}
use Rattle.candump.specs.Reading as reading
use Rattle.candump.specs.declared.Reader.{Reader}
use Rattle.candump.proofs.Reading.{reads}
use Rattle.importing.specs.Texts.{lines_from}
use Rattle.importing.specs.Import as import
use Rattle.importing.specs.Import.{Item, request, reply, dropped, Known, Import, started, drops, gives, heard, next, within, walk, imported}
use Rattle.importing.specs.Kept.{Tally, tally, fits_in, replied, overflowed, note_drop, note_reply, note, log, Kept, kept, Going, going, refused_at, step, Stream, stream}
use Rattle.importing.specs.Kept.{byte, bytes, judged, ended, lines, refused, Written}
use Rattle.importing.specs.Promises.{tell, tells, nothing, written, Imports}
use Rattle.importing.proofs.Logged.{logs, logs-behind, given-logged, logs-all}
use Rattle.importing.proofs.Overflows.{overflows}

module _ (room ask answer : ℕ) where
  -- Line by line.
  unfoldable steps : Going → List (List ℕ) → Going
  steps g [] = g
  steps g (l ∷ ls) = steps (step room ask answer g (read l)) ls

  -- A line without bytes tells nothing.
  no_line : (g : Going) → judged (step room ask answer g (read [])) ≡ judged g
  unfolding step read bare past
  no_line (going k) = refl
  no_line (refused_at n line) = refl

  read_behind : (r : Reader) (c : ℕ) (t : List ℕ) → reading.read_on r (t ++ (c ∷ [])) ≡ reading.next (reading.read_on r t) c
  unfolding reading.read_on
  read_behind r c [] = refl
  read_behind r c (x ∷ t) = read_behind (reading.next r x) c t

  by_lines : (g : Going) (l t : List ℕ) →
      ended room ask answer (bytes room ask answer (stream (reading.read_on reading.begun l) g) t) ≡ judged (steps g (lines_from l t))
  unfolding bytes byte ended lines_from steps reading.read_on
  by_lines g [] [] = ap (λ (x : Line). judged (step room ask answer g x)) (reads []) ∙ no_line g
  by_lines g (x ∷ l) [] = ap (λ (y : Line). judged (step room ask answer g y)) (reads (x ∷ l))
  by_lines g l (c ∷ t) = go (eqb c 10) refl (by_lines (step room ask answer g (read l)) [] t) (by_lines g (l ++ (c ∷ [])) t)
    where
      ends : eqb c 10 ≡ true → byte room ask answer (stream (reading.read_on reading.begun l) g) c ≡ stream reading.begun (step room ask answer g (read l))
      ends e = rw e (ap (λ (x : Line). stream reading.begun (step room ask answer g x)) (reads l))

      goes : eqb c 10 ≡ false → byte room ask answer (stream (reading.read_on reading.begun l) g) c ≡ stream (reading.read_on reading.begun (l ++ (c ∷ []))) g
      goes e = rw e (ap (λ (r : Reader). stream r g) (sym (read_behind reading.begun c l)))

      go : (b : Bool) → eqb c 10 ≡ b →
          ended room ask answer (bytes room ask answer (stream reading.begun (step room ask answer g (read l))) t) ≡ judged (steps (step room ask answer g (read l)) (lines_from [] t)) →
          ended room ask answer (bytes room ask answer (stream (reading.read_on reading.begun (l ++ (c ∷ []))) g) t) ≡ judged (steps g (lines_from (l ++ (c ∷ [])) t)) →
          ended room ask answer (bytes room ask answer (byte room ask answer (stream (reading.read_on reading.begun l) g) c) t) ≡
          judged (steps g (cond b (l ∷ lines_from [] t) (lines_from (l ++ (c ∷ [])) t)))
      go true e here more =
          ap (λ (s : Stream). ended room ask answer (bytes room ask answer s t)) (ends e) ∙ here
      go false e here more =
          ap (λ (s : Stream). ended room ask answer (bytes room ask answer s t)) (goes e) ∙ more

  -- What is kept of what is known.
  abbrev started_with : Option ℕ → Tally → Tally
  started_with s t = tally s t.events t.bytes t.drops t.over t.text

  abbrev kept_of : Known → Kept
  kept_of k =
      kept k.line k.time k.asking k.answering (started_with k.start (tells room nothing k.told)) (logs room nothing (log [] []) k.told)

  abbrev going_of : Import → Going
  going_of (import.going k) = going (kept_of k)
  going_of (import.refused_at n line) = refused_at n line

  tells-behind : (t : Tally) (a b : List Item) → tells room t (a ++ b) ≡ tells room (tells room t a) b
  unfolding tells
  tells-behind t [] b = refl
  tells-behind t (x ∷ a) b = tells-behind (tell room t x) a b

  reply-noted : (s : Option ℕ) (t : Tally) (ms : ℕ) (m : List ℕ) → note_reply room ms m (started_with s t) ≡ started_with s (note_reply room ms m t)
  reply-noted s t ms m = go (fits_in t.events t.bytes ms (length m))
    where
      go : (b : Bool) → cond b (replied room ms m (started_with s t)) (overflowed (started_with s t)) ≡ started_with s (cond b (replied room ms m t) (overflowed t))
      go true = refl
      go false = refl

  noted : (n time : ℕ) (d : Bool) (s : Option ℕ) (asked answered : Option (List ℕ)) (t : Tally) →
      note room n time d asked answered (started_with s t) ≡ started_with (started s time asked) (tells room t (drops d n ++ gives s n time asked answered))
  unfolding note tells
  noted n time true none none answered t = refl
  noted n time false none none answered t = refl
  noted n time true none (some m) answered t = refl
  noted n time false none (some m) answered t = refl
  noted n time true (some s) asked none t = refl
  noted n time false (some s) asked none t = refl
  noted n time true (some s) asked (some m) t = reply-noted (some s) (note_drop room n t) ((time - s) / 1000) m
  noted n time false (some s) asked (some m) t = reply-noted (some s) t ((time - s) / 1000) m

  in_order_lem : (k : Known) (time : ℕ) (x : Known) (y : Kept) → y ≡ kept_of x →
      cond (ltb time k.time) (refused_at 16 (next k.line)) (going y) ≡ going_of (import.in_order k time x)
  in_order_lem k time x y e = go (ltb time k.time)
    where
      go : (b : Bool) → cond b (refused_at 16 (next k.line)) (going y) ≡ going_of (cond b (import.refused_at 16 (next k.line)) (import.going x))
      go true = refl
      go false = ap going e

  same_step : (i : Import) (l : Line) → step room ask answer (going_of i) l ≡ going_of (import.step ask answer i l)
  unfolding step
  same_step (import.refused_at n line) l = refl
  same_step (import.going k) blank = refl
  same_step (import.going k) unreadable = refl
  same_step (import.going k) (other time) = in_order_lem k time (import.passed k time) _ refl
  same_step (import.going k) (frame time id data') =
      in_order_lem k time (import.framed ask answer k time id data') _
      (ap₂ (kept (next k.line) time asks.state answers.state)
      (noted (next k.line) time (asks.drops || answers.drops) k.start asks.gives answers.gives (tells room nothing k.told)
      ∙ ap (started_with (started k.start time asks.gives)) (sym (tells-behind nothing k.told _)))
      (given-logged room (next k.line) time (asks.drops || answers.drops) k.start asks.gives answers.gives (started_with k.start (tells room nothing k.told))
      (tells room nothing k.told) (logs room nothing (log [] []) k.told) refl refl
      ∙ sym (logs-behind room nothing (log [] []) k.told _)))
    where
      asks : Fed
      asks = heard (eqb id ask) k.asking data'

      answers : Fed
      answers = heard (eqb id answer) k.answering data'

  same-walk : (i : Import) (ls : List (List ℕ)) → steps (going_of i) ls ≡ going_of (walk ask answer i ls)
  unfolding steps walk
  same-walk i [] = refl
  same-walk i (l ∷ ls) = ap (λ (g : Going). steps g ls) (same_step i (read l)) ∙ same-walk (import.step ask answer i (read l)) ls

  same-judged : (i : Import) → judged (going_of i) ≡ written room (import.judged i)
  same-judged (import.refused_at n line) = refl
  same-judged (import.going k) = go k.start
    where
      all : Written
      all = let t = tells room nothing k.told in lines t.text (t.drops - 4096) (logs room nothing (log [] []) k.told)

      by-limits : (b : Bool) → within k.told ≡ b → cond (not b) (refused 17) all ≡ written room (cond b (import.told k.told) (import.refused 17))
      by-limits true e = let t = tells room nothing k.told in ap (lines t.text (t.drops - 4096)) (logs-all room k.told e)
      by-limits false e = refl

      go : (s : Option ℕ) →
          judged (going (kept k.line k.time k.asking k.answering (started_with s (tells room nothing k.told)) (logs room nothing (log [] []) k.told))) ≡
          written room (import.judged (import.going (record { line = k.line; time = k.time; asking = k.asking; answering = k.answering; start = s; told = k.told })))
      go none = refl
      go (some t) = ap (λ (b : Bool). cond b (refused 17) all) (overflows room k.told) ∙ by-limits (within k.told) refl

pub imports : Imports
unfolding imported reading.read_on tells logs
imports room ask answer text =
    by_lines room ask answer (going_of room ask answer import.begins) [] text
    ∙ ap judged (same-walk room ask answer import.begins (lines_from [] text))
    ∙ same-judged room ask answer (walk ask answer import.begins (lines_from [] text))
