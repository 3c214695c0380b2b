-- The line of a log, by what was found first.
use Rattle.std.specs.Prelude as code
use Rattle.std.specs.Prelude.{Some, None}
use Prim.Native.Nat.{ℕ, ◌≤◌, ◌<◌}
use native.Mathlib.Omega.{arith}
use mathlib.Core.Bool.{Bool, true, false, cond, ◌&&◌}
use mathlib.Core.List.{List, [], ◌∷◌, ◌++◌, append_assoc, map}
use mathlib.Core.Option.{some}
use mathlib.Core.Path.{◌≡◌, refl, sym, ◌∙◌, ap}
use lib.Dec.{leb}
use lib.ListN.{length, take}
use borrow.Author.Tests.{le-leb, lt-leb, leb-true, eq-eqb}
use Rattle.rules.specs.Bytes.{every}
use Rattle.rules.specs.Events.{Form, plain, addressed, entries}
use Rattle.rules.specs.Lines.{ascii, decimal}
use Rattle.rules.specs.Logs.{Header, header_size, form_in, header_of, uses_of, event_bytes}
use Rattle.rules.proofs.Judging.{both}
use Rattle.log_fields.specs.Fields.{Read, whole, bit, byte, pair, four, Field, field, nine, inside, at_most, header_fields, heading, entries_fields, event_fields, first, first_off}
use Rattle.log_fields.specs.Words.{should, holds, found, off_text, text_of, off_line}
use Rattle.off_field.specs.declared.Row.{Row}
use Rattle.off_field.specs.Numbers.{Numbers, row_of, numbers_of, named_fields, lies, first_row, behind, file_text}

-- What stands in the header is told with its place.
abbrev stands : Read → Bool
stands whole = false
stands (bit weight) = true
stands byte = true
stands pair = true
stands four = true

held : (r : Read) (at n : ℕ) → stands r ≡ true → found r at n ≡ holds at n
held whole at n h = absurd cc
held (bit weight) at n h = refl
held byte at n h = refl
held pair at n h = refl
held four at n h = refl

nine-stands : (form : Form) → stands (nine form) ≡ true
nine-stands plain = refl
nine-stands addressed = refl

-- The same pieces, joined in another order.
joins : (a n h s e : List ℕ) → a ++ (n ++ ((h ++ s) ++ e)) ≡ (((a ++ n) ++ h) ++ s) ++ e
joins a n h s e = simp append_assoc

joins-file : (p q r d b k e : List ℕ) → ((((p ++ q ++ r) ++ d) ++ b) ++ k) ++ e ≡ (((p ++ q) ++ ((r ++ d) ++ b)) ++ k) ++ e
joins-file p q r d b k e = simp append_assoc

joins-more : (p q r d b k t e : List ℕ) → ((((p ++ q ++ r) ++ d) ++ b) ++ k) ++ (t ++ e) ≡ (((p ++ q) ++ ((r ++ d) ++ b)) ++ (k ++ t)) ++ e
joins-more p q r d b k t e = simp append_assoc

-- What is told of the first row that is off, or other words.
abbrev told_of : code.Option Row → List ℕ → List ℕ
told_of None other = other
told_of (Some r) other = ascii "This is no log: " ++ (r.name.now ++ behind r)

line-of : (r : Row) (f : Field) → row_of r ≡ numbers_of f → stands f.read ≡ true → off_text f ≡ ascii "This is no log: " ++ (r.name.now ++ behind r)
unfolding off_text
line-of r f e s =
    let name : r.name.now ≡ f.name = ap (λ (t : Numbers). t.0) e in
    let at : r.at ≡ f.at = ap (λ (t : Numbers). t.1) e in
    let k : r.found ≡ f.found = ap (λ (t : Numbers). t.2) e in
    let least : r.least ≡ f.least = ap (λ (t : Numbers). t.3) e in
    let most : some r.most ≡ f.most = ap (λ (t : Numbers). t.4) e in
    rw (held f.read f.at f.found s, ← name, ← at, ← k, ← least, ← most)
    (sym (joins (ascii "This is no log: ") r.name.now (holds r.at r.found) (should r.least (some r.most)) (ascii ".\n")))

by-rows : (rs : List Row) (fs gs : List Field) → map row_of rs ≡ map numbers_of fs → every (λ (f : Field). stands f.read) fs ≡ true →
    text_of (first (fs ++ gs)) ≡ told_of (first_row rs) (text_of (first gs))
by-rows [] [] gs e s = refl
by-rows [] (f ∷ fs) gs e s = absurd cc
by-rows (r ∷ rs) [] gs e s = absurd cc
by-rows (r ∷ rs) (f ∷ fs) gs e s =
    let here : row_of r ≡ numbers_of f = cc in
    let rest : map row_of rs ≡ map numbers_of fs = cc in
    let stood = both (stands f.read) (every (λ (g : Field). stands g.read) fs) s in
    let same : lies r ≡ inside f = ap (λ (t : Numbers). leb t.3 t.2 && at_most t.2 t.4) here in
    go (lies r) same (by-rows rs fs gs rest stood.1) (line-of r f here stood.0)
  where
    go : (b : Bool) → b ≡ inside f → text_of (first (fs ++ gs)) ≡ told_of (first_row rs) (text_of (first gs)) →
        off_text f ≡ ascii "This is no log: " ++ (r.name.now ++ behind r) →
        text_of (cond (inside f) (first (fs ++ gs)) (some f)) ≡ told_of (cond b (first_row rs) (Some r)) (text_of (first gs))
    go true e later line = rw (← e) later
    go false e later line = rw (← e) line

apart : (t n : ℕ) → (n ≡ t → ⊥) → (leb t n && leb n t) ≡ false
apart t n h = go (leb t n) refl
  where
    go : (b : Bool) → leb t n ≡ b → (b && leb n t) ≡ false
    go true e = lt-leb n t (omega (arith, leb-true t n e))
    go false e = refl

module _ (l : List ℕ) (h : Header) (is : h ≡ header_of l) where
  abbrev fs : List Field
  fs = take 17 (header_fields h (uses_of h.call) (length l))

  abbrev rest : List Field
  rest = field (ascii "the file") whole 0 (length l) h.total (some h.total) ∷ event_fields h l

  read_as : text_of (first (heading h (length l) ++ event_fields h l)) ≡ off_line l
  unfolding off_line first_off
  read_as = ap (λ (x : Header). text_of (first (heading x (length l) ++ event_fields x l))) is

  -- A file shorter than a header.
  pub short : length l < header_size (form_in h) → file_text (length l) (header_size (form_in h)) (ascii " or more.\n") ≡ off_line l
  unfolding off_text
  short s =
      joins-more (ascii "This is no log: ") (ascii "the file") (ascii " has ") (decimal (length l)) (ascii " bytes and should have ")
      (decimal (header_size (form_in h))) (ascii " or more") (ascii ".\n") ∙
      sym (rw (lt-leb (header_size (form_in h)) (length l) s)) ∙
      read_as

  module _ (long : header_size (form_in h) ≤ length l) (rs : List Row) (same : map row_of rs ≡ named_fields h) where
    all-stand : every (λ (f : Field). stands f.read) fs ≡ true
    all-stand = rw (nine-stands (form_in h))

    by-first : told_of (first_row rs) (text_of (first rest)) ≡ off_line l
    by-first = sym (by-rows rs fs rest same all-stand) ∙ sym (rw (le-leb (header_size (form_in h)) (length l) long)) ∙ read_as

    pub row_line : {r : Row} → first_row rs ≡ Some r → (ascii "This is no log: " ++ (r.name.now ++ behind r)) ≡ off_line l
    row_line e = ap (λ (o : code.Option Row). told_of o (text_of (first rest))) (sym e) ∙ by-first

    module _ (e : first_row rs ≡ None) where
      no-row : text_of (first rest) ≡ off_line l
      no-row = ap (λ (o : code.Option Row). told_of o (text_of (first rest))) (sym e) ∙ by-first

      -- The file's length.
      pub file-line : (length l ≡ h.total → ⊥) → file_text (length l) h.total (ascii ".\n") ≡ off_line l
      unfolding off_text
      file-line other =
          joins-file (ascii "This is no log: ") (ascii "the file") (ascii " has ") (decimal (length l)) (ascii " bytes and should have ") (decimal h.total) (ascii ".\n") ∙
          sym (rw (apart h.total (length l) other, eq-eqb h.total h.total refl)) ∙
          no-row

      -- The events.
      pub event-line : length l ≡ h.total → {form : Form} {bs : List ℕ} → form ≡ form_in h → bs ≡ event_bytes h l →
          text_of (first (entries_fields form h.events_at 0 (entries form bs))) ≡ off_line l
      event-line whole-file ef eb =
          let sound : (leb h.total (length l) && leb (length l) h.total) ≡ true =
          rw (le-leb h.total (length l) (omega arith), le-leb (length l) h.total (omega arith)) in
          rw (ef, eb) (sym (ap text_of (rw sound)) ∙ no-row)
