-- The times of the events never fall, and what is told is within the limits.
use Prim.Native.Nat.{ℕ, ◌-◌, ◌/◌, ◌≤◌}
use native.Mathlib.Omega.{arith}
use mathlib.Core.Bool.{Bool, true, false, cond, ◌&&◌, ◌||◌}
use mathlib.Core.List.{List, [], ◌∷◌, ◌++◌}
use mathlib.Core.Option.{Option, none, some}
use mathlib.Core.Path.{◌≡◌, refl, sym, ◌∙◌, ap}
use lib.Dec.{leb, ltb, eqb}
use borrow.Author.Tests.{le-leb, ltb-false}
use Rattle.isotp.specs.Joining.{Fed}
use Rattle.candump.specs.Lines.{Line, blank, unreadable, other, frame, read}
use Rattle.importing.specs.Texts.{lines_from}
use Rattle.importing.specs.Import.{Item, request, reply, dropped, Known, Import, going, refused_at, begins, next, started, drops, gives, heard, framed, passed, in_order, step, walk, within, Imported}
use Rattle.importing.specs.Import.{refused_line, refused, told, judged, imported}
use Rattle.importing.specs.Promises.{rises, Rises, Limited}

-- The last event's time, behind one at t.
abbrev last_from : ℕ → List Item → ℕ
last_from t [] = t
last_from t (request n m ∷ is) = last_from t is
last_from t (dropped n ∷ is) = last_from t is
last_from t (reply u m ∷ is) = last_from u is

rises-behind : (t : ℕ) (a b : List Item) → rises t a ≡ true → rises (last_from t a) b ≡ true → rises t (a ++ b) ≡ true
rises-behind t [] b ha hb = hb
rises-behind t (request n m ∷ a) b ha hb = rises-behind t a b ha hb
rises-behind t (dropped n ∷ a) b ha hb = rises-behind t a b ha hb
rises-behind t (reply u m ∷ a) b ha hb = go (leb t u) ha (λ h. rises-behind u a b h hb)
  where
    go : (c : Bool) → (c && rises u a) ≡ true → (rises u a ≡ true → rises u (a ++ b) ≡ true) → (c && rises u (a ++ b)) ≡ true
    go true h f = f h
    go false h f = h

last-behind : (t : ℕ) (a b : List Item) → last_from t (a ++ b) ≡ last_from (last_from t a) b
last-behind t [] b = refl
last-behind t (request n m ∷ a) b = last-behind t a b
last-behind t (dropped n ∷ a) b = last-behind t a b
last-behind t (reply u m ∷ a) b = last-behind u a b

-- No event is later than the last line.
abbrev since : Option ℕ → ℕ → ℕ
since none time = 0
since (some t) time = (time - t) / 1000

record Holds (s : Option ℕ) (time : ℕ) (is : List Item) : Type 0 where
  rising : rises 0 is ≡ true
  last : last_from 0 is ≤ since s time

later : (s : Option ℕ) (time after : ℕ) (is : List Item) → time ≤ after → Holds s time is → Holds s after is
later none time after is h p = record { rising = p.rising; last = p.last }
later (some t) time after is h p = record { rising = p.rising; last = omega (arith, p.last, h) }

-- What a line tells behind what was told.
tells-on : (s : Option ℕ) (n time : ℕ) (d : Bool) (asked answered : Option (List ℕ)) (t : ℕ) → t ≤ since s time →
    (rises t (drops d n ++ gives s n time asked answered) ≡ true) × (last_from t (drops d n ++ gives s n time asked answered) ≤ since (started s time asked) time)
tells-on none n time true none answered t h = (refl, h)
tells-on none n time false none answered t h = (refl, h)
tells-on none n time true (some m) answered t h = (refl, omega (arith, h))
tells-on none n time false (some m) answered t h = (refl, omega (arith, h))
tells-on (some s) n time true asked none t h = (refl, h)
tells-on (some s) n time false asked none t h = (refl, h)
tells-on (some s) n time true asked (some m) t h = (rw (le-leb t ((time - s) / 1000) h), omega arith)
tells-on (some s) n time false asked (some m) t h = (rw (le-leb t ((time - s) / 1000) h), omega arith)

more : (s : Option ℕ) (n time : ℕ) (d : Bool) (asked answered : Option (List ℕ)) (is : List Item) → Holds s time is →
    Holds (started s time asked) time (is ++ (drops d n ++ gives s n time asked answered))
more s n time d asked answered is p =
    let x = tells-on s n time d asked answered (last_from 0 is) p.last in
    record {
      rising = rises-behind 0 is (drops d n ++ gives s n time asked answered) p.rising x.0;
      last = rw (last-behind 0 is (drops d n ++ gives s n time asked answered)) x.1;
    }

abbrev Sound : Import → Type 0
Sound (going k) = Holds k.start k.time k.told
Sound (refused_at n line) = Unit {0}

in_order_lem : (k : Known) (time : ℕ) (after : Known) → (k.time ≤ time → Holds after.start after.time after.told) → Sound (in_order k time after)
in_order_lem k time after f = go (ltb time k.time) refl
  where
    go : (b : Bool) → ltb time k.time ≡ b → Sound (cond b (refused_at 16 (next k.line)) (going after))
    go true e = tt
    go false e = f (ltb-false time k.time e)

module _ (ask answer : ℕ) where
  one_line : (i : Import) (l : Line) → Sound i → Sound (step ask answer i l)
  one_line (refused_at n line) l p = tt
  one_line (going k) blank p = p
  one_line (going k) unreadable p = tt
  one_line (going k) (other time) p = in_order_lem k time (passed k time) (λ h. later k.start k.time time k.told h p)
  one_line (going k) (frame time id bytes) p =
      in_order_lem k time (framed ask answer k time id bytes)
      (λ h. more k.start (next k.line) time (asks.drops || answers.drops) asks.gives answers.gives k.told
      (later k.start k.time time k.told h p))
    where
      asks : Fed
      asks = heard (eqb id ask) k.asking bytes

      answers : Fed
      answers = heard (eqb id answer) k.answering bytes

  all_lines : (i : Import) (ls : List (List ℕ)) → Sound i → Sound (walk ask answer i ls)
  unfolding walk
  all_lines i [] p = p
  all_lines i (l ∷ ls) p = all_lines (step ask answer i (read l)) ls (one_line i (read l) p)

-- Of what is told in the end.
abbrev pub told_in : Imported → List Item
told_in (refused_line n line) = []
told_in (refused n) = []
told_in (told is) = is

in-the-end : (i : Import) → Sound i → rises 0 (told_in (judged i)) ≡ true
in-the-end (refused_at n line) p = refl
in-the-end (going k) p = go k.start
  where
    by : (b : Bool) → rises 0 (told_in (cond b (told k.told) (refused 17))) ≡ true
    by true = p.rising
    by false = refl

    go : (s : Option ℕ) →
        rises 0 (told_in (judged (going (record { line = k.line; time = k.time; asking = k.asking; answering = k.answering; start = s; told = k.told })))) ≡ true
    go none = refl
    go (some t) = by (within k.told)

pub never-fall : Rises
unfolding imported
never-fall ask answer text is e =
    sym (ap (λ (x : Imported). rises 0 (told_in x)) e)
    ∙ in-the-end (walk ask answer begins (lines_from [] text)) (all_lines ask answer begins (lines_from [] text) (record { rising = refl; last = omega arith }))

within-in-the-end : (i : Import) → within (told_in (judged i)) ≡ true
within-in-the-end (refused_at n line) = refl
within-in-the-end (going k) = go k.start
  where
    by : (b : Bool) → within k.told ≡ b → within (told_in (cond b (told k.told) (refused 17))) ≡ true
    by true e = e
    by false e = refl

    go : (s : Option ℕ) →
        within (told_in (judged (going (record { line = k.line; time = k.time; asking = k.asking; answering = k.answering; start = s; told = k.told })))) ≡ true
    go none = refl
    go (some t) = by (within k.told) refl

pub limited : Limited
unfolding imported
limited ask answer text is e = sym (ap (λ (x : Imported). within (told_in x)) e) ∙ within-in-the-end (walk ask answer begins (lines_from [] text))
