-- What a frame and a line do to what is kept.
use Prim.Native.Nat.{ℕ, ◌+◌, ◌<◌}
use mathlib.Core.Bool.{Bool, true, false, cond, ◌||◌}
use mathlib.Core.List.{List, [], ◌∷◌, ◌++◌}
use mathlib.Core.Option.{Option, none}
use mathlib.Core.Path.{◌≡◌, refl, sym, ◌∙◌, ap, ap₂}
use lib.Dec.{eqb}
use native.Mathlib.Numerals.{add-one}
use lib.ListN.{length, get_or, take}
use lib.Seq.{take-suc}
use borrow.Author.Tests.{eq-eqb, ne_eqb}
use Rattle.candump.specs.Reading as reading
use Rattle.isotp.specs.Joining.{feed}
use Rattle.isotp.specs.Held.{state_of, given_of, Does}
use Rattle.isotp.specs.declared.Heard.{Heard}
use Rattle.importing.specs.Import.{next, heard}
use Rattle.importing.specs.Kept as kept
use Rattle.importing.specs.Kept.{note_drop, note_given, note, log_given, framed, Going, going, known, step, byte, bytes}
use Rattle.imports.proofs.Logging.{counts, same-given}
use Rattle.imports.specs.Held.{start_of, tally_of, log_in, log_of, kept_of, Tallied}
use Rattle.imports.specs.declared.Lent.{Lent}
use Rattle.imports.specs.declared.Tally.{Tally}
use Rattle.imports.specs.declared.Import.{Import}

same_start : (b : Bool) (room n : ℕ) (t : kept.Tally) → (cond b (note_drop room n t) t).start ≡ t.start
same_start true room n t = refl
same_start false room n t = refl

module _ (i : Import) (lent : Lent) (time id ask answer n : ℕ) (frame out log' mine other : List ℕ) (d : Bool) {asks answers : Heard}
    {asked' answered' out₁ out₂ : List ℕ} {question response : Option (List ℕ)} {noted given : Tally}
    (en : n ≡ next i.line) (em : mine ≡ cond (eqb id ask) frame []) (eo : other ≡ cond (eqb id answer) frame [])
    (a : Does (feed (state_of i.asking lent.asked) mine) lent.asked asks asked')
    (b : Does (feed (state_of i.answering lent.answered) other) lent.answered answers answered')
    (eq : question ≡ given_of asks.gives asked') (er : response ≡ given_of answers.gives answered') (ed : d ≡ (asks.drops || answers.drops))
    (l : log_in (note_given 0 (start_of i.tally.start) 0 time none response (tally_of i.tally [])) log' ≡
    log_given (start_of i.tally.start) time response (tally_of i.tally []) (log_of i.tally lent.log))
    (t : Tallied (cond d (note_drop (length out) n (tally_of i.tally out)) (tally_of i.tally out)) out noted out₁)
    (g : Tallied (note_given (length out₁) (start_of noted.start) n time question response (tally_of noted out₁)) out₁ given out₂) where
  tallied : tally_of given out₂ ≡ note (length out) n time d question response (tally_of i.tally out)
  unfolding note
  tallied =
      let begun : start_of noted.start ≡ start_of i.tally.start =
      ap (λ (x : kept.Tally). x.start) t.says ∙ same_start d (length out) n (tally_of i.tally out) in
      g.says
      ∙ ap (λ (k : ℕ). note_given k (start_of noted.start) n time question response (tally_of noted out₁)) t.room
      ∙ ap₂ (λ (s : Option ℕ) (x : kept.Tally). note_given (length out) s n time question response x) begun t.says

  logged : log_of given log' ≡ log_given (start_of i.tally.start) time response (tally_of i.tally out) (log_of i.tally lent.log)
  logged =
      ap (λ (x : kept.Tally). log_in x log') tallied
      ∙ counts i.tally out log' (length out) n time d question response
      ∙ l
      ∙ same-given i.tally out lent.log (length out) n time (start_of i.tally.start) response (log_of i.tally lent.log)

  pub frame-heard :
      kept.kept n time (state_of asks.joiner asked') (state_of answers.joiner answered') (tally_of given out₂) (log_of given log') ≡
      framed (length out) ask answer (kept_of i lent out) time id frame
  frame-heard =
      let first : feed (state_of i.asking lent.asked) mine ≡ heard (eqb id ask) (state_of i.asking lent.asked) frame =
      ap (feed (state_of i.asking lent.asked)) em in
      let second : feed (state_of i.answering lent.answered) other ≡ heard (eqb id answer) (state_of i.answering lent.answered) frame =
      ap (feed (state_of i.answering lent.answered)) eo in
      let drops₁ : asks.drops ≡ (feed (state_of i.asking lent.asked) mine).drops = ap (λ (h : Heard). h.drops) a.answer in
      let drops₂ : answers.drops ≡ (feed (state_of i.answering lent.answered) other).drops = ap (λ (h : Heard). h.drops) b.answer in
      ap₂ (kept.kept n time (state_of asks.joiner asked') (state_of answers.joiner answered')) tallied logged
      ∙ rw (a.says, b.says, eq ∙ a.given, er ∙ b.given, ed, drops₁, drops₂, first, second, en)

-- An LF ends the line; another byte is the line's.
module _ (room ask answer c : ℕ) (s : kept.Stream) where
  pub at-lf : c ≡ 10 → kept.stream reading.begun (step room ask answer s.kept (kept.read_line s.reader)) ≡ byte room ask answer s c
  unfolding byte
  at-lf e = rw (eq-eqb c 10 e)

  pub at_other : (c ≡ 10 → ⊥) → kept.stream (reading.next s.reader c) s.kept ≡ byte room ask answer s c
  unfolding byte
  at_other e = rw (ne_eqb c 10 e)

-- One byte more of a text.
bytes-behind : (room ask answer c : ℕ) (s : kept.Stream) (t : List ℕ) → bytes room ask answer s (t ++ (c ∷ [])) ≡ byte room ask answer (bytes room ask answer s t) c
unfolding bytes
bytes-behind room ask answer c s [] = refl
bytes-behind room ask answer c s (x ∷ t) = bytes-behind room ask answer c (byte room ask answer s x) t

pub one_more : (room ask answer i : ℕ) (s : kept.Stream) (t : List ℕ) → i < length t →
    byte room ask answer (bytes room ask answer s (take i t)) (get_or t i 0) ≡ bytes room ask answer s (take (i + 1) t)
one_more room ask answer i s t h = sym (rw (add-one i, take-suc t i 0 h) (bytes-behind room ask answer (get_or t i 0) s (take i t)))

pub none_read : (room ask answer : ℕ) (s : kept.Stream) → s ≡ bytes room ask answer s []
unfolding bytes
none_read room ask answer s = refl
