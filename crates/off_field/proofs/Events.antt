-- One event more; and the line of an event with a field that is off.
use Prim.Native.Nat.{ℕ, suc, ◌+◌, ◌-◌, ◌*◌, ◌/◌, ◌≤◌, ◌<◌}
use native.Mathlib.Numerals.{add-one}
use native.Mathlib.Omega.{arith}
use mathlib.Core.Bool.{Bool, true, false, cond, ◌&&◌, ◌||◌, false≢true}
use mathlib.Core.List.{List, [], ◌++◌, append_assoc}
use mathlib.Core.Option.{none, some}
use mathlib.Core.Path.{◌≡◌, refl, sym, ◌∙◌, ap, subst}
use lib.Dec.{leb, eqb}
use lib.ListN.{get_or}
use borrow.Author.Tests.{le-leb, lt-leb, eq-eqb, eqb-false}
use Rattle.rules.specs.Events.{Form, event_size, Entry, entry_at, entries_from}
use Rattle.rules.specs.Lines.{ascii, decimal}
use Rattle.rules.specs.Logs.{event_ok}
use Rattle.log_fields.specs.Fields.{Field, field, whole, inside, at_most, zero_where, entry_fields, entries_fields, first}
use Rattle.log_fields.specs.Words.{should, holds, off_text, text_of}
use Rattle.log_fields.proofs.Each.{in_area}
use Rattle.log_fields.proofs.Firsts.{skips, stops}
use Rattle.log_fields.proofs.Tests.{entry-tests}
use Rattle.text.specs.Written.{Adds}

pub starts : (form : Form) (i : ℕ) {n len size : ℕ} → size ≡ event_size form → n ≡ len / event_size form → i < n → i * size + 10 ≤ len
starts form i {n} {len} {size} es en h = rw es (in_area form i len (rw (← en) h))

module _ (form : Form) (at : ℕ) (bs : List ℕ) (i n : ℕ) (h : i < n) where
  abbrev from : ℕ → List Field
  from j = entries_fields form at j (entries_from form bs (n - j) j)

  abbrev these : List Field
  these = entry_fields (i + 1) (at + i * event_size form) (entry_at form bs i)

  one_more : from i ≡ these ++ from (i + 1)
  unfolding entries_from
  one_more =
      let more : n - i ≡ suc (n - (i + 1)) = omega arith in
      rw (more, add-one)

  pub sound-event : event_ok (entry_at form bs i) ≡ true → first (from (i + 1)) ≡ first (from i)
  sound-event e = sym (ap first one_more ∙ skips these (from (i + 1)) (entry-tests (i + 1) (at + i * event_size form) (entry_at form bs i) ∙ e))

  pub off-event : event_ok (entry_at form bs i) ≡ false → first these ≡ first (from i)
  off-event e = sym (ap first one_more ∙ stops these (from (i + 1)) (entry-tests (i + 1) (at + i * event_size form) (entry_at form bs i) ∙ e))

pub no-event : (form : Form) (at : ℕ) (bs : List ℕ) (i n : ℕ) → n ≤ i → first (entries_fields form at i (entries_from form bs (n - i) i)) ≡ none
unfolding entries_from
no-event form at bs i n h = let done : n - i ≡ 0 = omega arith in rw done

module _ (number at : ℕ) (e : Entry) (bad : event_ok e ≡ false) where
  abbrev silent : Bool
  silent = eqb e.kind 1 || eqb e.kind 2

  abbrev broken : Bool
  broken = eqb e.kind 3

  -- A bad event leaves a field unused: its offset, or its length where the offset is zero.
  offset-unused : (s b o z : Bool) → cond s (o && z) (cond b o true) ≡ false → (s || b) ≡ true
  offset-unused true b o z x = refl
  offset-unused false true o z x = refl
  offset-unused false false o z x = absurd (false≢true (sym x))

  length-unused : (s b z : Bool) → cond s z (cond b true true) ≡ false → (s ≡ true) × (z ≡ false)
  length-unused true b z x = (refl, x)
  length-unused false true z x = absurd (false≢true (sym x))
  length-unused false false z x = absurd (false≢true (sym x))

  not-zero : (n : ℕ) → (n ≡ 0 → ⊥) → (leb 0 n && leb n 0) ≡ false
  not-zero n o = let few : 0 < n = omega (arith, o) in rw (le-leb 0 n (omega arith), lt-leb n 0 few)

  zero-fits : (t : Bool) → (leb 0 0 && at_most 0 (zero_where t)) ≡ true
  zero-fits true = refl
  zero-fits false = refl

  abbrev none-such : Field
  none-such = field [] whole 0 0 0 none

  offset-first : (e.offset ≡ 0 → ⊥) → inside (get_or (entry_fields number at e) 0 none-such) ≡ false
  offset-first o =
      rw (offset-unused silent broken (eqb e.offset 0) (eqb e.size 0) bad) (not-zero e.offset o)

  length-bad : e.offset ≡ 0 → (silent ≡ true) × (eqb e.size 0 ≡ false)
  length-bad o = length-unused silent broken (eqb e.size 0) (rw (eq-eqb e.offset 0 o) at bad)

  length-first : e.offset ≡ 0 → (inside (get_or (entry_fields number at e) 0 none-such) ≡ true) × (inside (get_or (entry_fields number at e) 1 none-such) ≡ false)
  length-first o = (rw o (zero-fits (silent || broken)), rw (length-bad o).0 (not-zero e.size (eqb-false e.size 0 (length-bad o).1)))

  joins : (p q d w h s x : List ℕ) → ((p ++ q) ++ d) ++ (w ++ ((h ++ s) ++ x)) ≡ (((p ++ ((q ++ d) ++ w)) ++ h) ++ s) ++ x
  joins p q d w h s x = simp append_assoc

  pub offset-line : (e.offset ≡ 0 → ⊥)
      → (ascii "This is no log: event " ++ decimal number ++ (ascii ": offset" ++ (holds (at + 6) e.offset ++ should 0 (some 0) ++ ascii ".\n"))) ≡ text_of (first (entry_fields number at e))
  unfolding off_text
  offset-line o =
      let k = offset-unused silent broken (eqb e.offset 0) (eqb e.size 0) bad in
      joins (ascii "This is no log: ") (ascii "event ") (decimal number) (ascii ": offset") (holds (at + 6) e.offset) (should 0 (some 0)) (ascii ".\n") ∙
      sym (rw (k, not-zero e.offset o))

  pub length-line : e.offset ≡ 0
      → (ascii "This is no log: event " ++ decimal number ++ (ascii ": length" ++ (holds (at + 8) e.size ++ should 0 (some 0) ++ ascii ".\n"))) ≡ text_of (first (entry_fields number at e))
  unfolding off_text
  length-line o =
      let k = length-bad o in
      joins (ascii "This is no log: ") (ascii "event ") (decimal number) (ascii ": length") (holds (at + 8) e.size) (should 0 (some 0)) (ascii ".\n") ∙
      sym (rw ((length-first o).0, k.0, not-zero e.size (eqb-false e.size 0 k.1)))

-- What was found, as the loop has it.
pub told : (form : Form) (at : ℕ) (bs : List ℕ) (i n : ℕ) → i < n → {size : ℕ} {e : Entry} → size ≡ event_size form → e ≡ entry_at form bs i → event_ok e ≡ false
    → first (entry_fields (i + 1) (at + i * size) e) ≡ first (entries_fields form at i (entries_from form bs (n - i) i))
told form at bs i n h es ee bad = rw (es, ee) (off-event form at bs i n h (sym (ap event_ok ee) ∙ bad))

pub adds_on : {a l k m : List ℕ} {at r : ℕ} → l ≡ k → Adds a l at r m → Adds a k at r m
adds_on {a} {m = m} {at = at} {r = r} e p = subst (λ (x : List ℕ). Adds a x at r m) e p
