-- 272,410 bytes have room for every line: a request of 8,220; 4,096 lines of 29 at which a message was given up; 512 replies of 28, and twice
-- their 65,535 bytes.
use Prim.Native.Nat.{ℕ, zero, suc, ◌+◌, ◌-◌, ◌*◌, ◌≤◌, ◌<◌, ◌^◌}
use native.Mathlib.Omega.{arith}
use mathlib.Core.Bool.{Bool, true, false, cond, ◌&&◌}
use mathlib.Core.List.{List, [], ◌∷◌, ◌++◌, append_assoc, append-nil}
use mathlib.Core.Path.{◌≡◌, refl, sym, ◌∙◌, ap, ap₂}
use lib.Dec.{leb, ltb}
use lib.ListN.{length, length-append}
use borrow.Author.Tests.{le-leb, lt-ltb, ltb-true, ltb-false, leb-true}
use Rattle.rules.specs.Lines.{ascii, decimal}
use Rattle.rules.specs.Events.{plain}
use Rattle.rules.specs.Writing.{put_entries}
use Rattle.rules.proofs.Judging.{both}
use Rattle.text.specs.Written.{item, behind}
use Rattle.text.proofs.Numerals.{digits, item-length}
use Rattle.importing.specs.Import as import
use Rattle.importing.specs.Import.{Item, request, reply, dropped, next, count, size, early, Imported, imported}
use Rattle.importing.specs.Kept.{Tally, tally, append, log, lines}
use Rattle.importing.specs.Promises.{tell, tells, nothing, line_of, lines_from, given_up_from, written, in_full, entries_from, replies_of, Suffices}
use Rattle.importing.proofs.Passes.{Messages, requests, good}
use Rattle.importing.proofs.Rises.{limited}

-- A line's length.
behind-most : (n : ℕ) → behind n ≤ n * 2 + 1
behind-most zero = omega arith
behind-most (suc n) = omega arith

-- Every number of 64 bits has at most 20 digits.
twenty : (n : ℕ) → n < 2 ^ 64 → length (decimal n) ≤ 20
twenty n h = digits 19 19 n (omega arith)

item-most : (word m : List ℕ) (n : ℕ) → n < 2 ^ 64 → length (item word n m) ≤ length word + 23 + length m * 2
item-most word m n h = omega (arith, item-length word m n, twenty n h, behind-most (length m))

next_more : (d : ℕ) → d ≤ next d
next_more d = go (ltb d 0xffffffffffffffff)
  where
    go : (b : Bool) → d ≤ cond b (d + 1) d
    go true = omega arith
    go false = omega arith

next_small : (d : ℕ) → d < 4096 → next d ≡ d + 1
next_small d h = rw (lt-ltb d 0xffffffffffffffff (omega arith))

-- Of all lines.
lines-most : (d : ℕ) (is : List Item) → Messages is → early is ≡ true →
    length (lines_from d is) ≤ requests is * 8220 + (4096 - d) * 29 + count is * 28 + size is * 2
lines-most d [] p e = omega arith
lines-most d (request n m ∷ is) p e =
    omega (
      arith,
      length-append (line_of (request n m)) (lines_from d is),
      item-most (ascii "request") m n (omega (arith, p.0)),
      p.1.0.0,
      lines-most d is p.1.1 e,
    )
lines-most d (reply t m ∷ is) p e =
    let soon = both (leb t 4294967295) (early is) e in
    omega (
      arith,
      length-append (line_of (reply t m)) (lines_from d is),
      item-most (ascii "reply") m t (omega (arith, leb-true t 4294967295 soon.0)),
      lines-most d is p.1 soon.1,
    )
lines-most d (dropped n ∷ is) p e = go (ltb d 4096) refl (lines-most (next d) is p.1 e)
  where
    go : (b : Bool) → ltb d 4096 ≡ b → length (lines_from (next d) is) ≤ requests is * 8220 + (4096 - next d) * 29 + count is * 28 + size is * 2 →
        length (cond b (line_of (dropped n)) [] ++ lines_from (next d) is) ≤ requests is * 8220 + (4096 - d) * 29 + count is * 28 + size is * 2
    go true eb h =
        let long : length (cond true (line_of (dropped n)) [] ++ lines_from (next d) is) ≡ length (line_of (dropped n)) + length (lines_from (next d) is) =
        length-append (line_of (dropped n)) (lines_from (next d) is) in
        omega (
          arith,
          item-length (ascii "dropped") [] n,
          twenty n (omega (arith, p.0)),
          next_small d (ltb-true d 4096 eb),
          ltb-true d 4096 eb,
        )
    go false eb h =
        let same : length (cond false (line_of (dropped n)) [] ++ lines_from (next d) is) ≡ length (lines_from (next d) is) = refl in
        omega (arith, next_more d, ltb-false d 4096 eb)

module _ (room : ℕ) where
  fits : (a b : List ℕ) → length a + length b ≤ room → append room a b ≡ a ++ b
  fits a b h = rw (le-leb (length a + length b) room h)

  -- Where there is room for all that is to come, all of it is kept.
  record All (t : Tally) (is : List Item) : Type 0 where
    text : (tells room t is).text ≡ t.text ++ lines_from t.drops is
    drops : (tells room t is).drops ≡ given_up_from t.drops is

  -- One line more in front, by a tally that has it.
  behind-line : (t u : Tally) (l : List ℕ) (d : ℕ) (is : List Item) {v : Tally} → v ≡ u → u.text ≡ t.text ++ l → u.drops ≡ d → All u is →
      ((tells room v is).text ≡ t.text ++ (l ++ lines_from d is)) × ((tells room v is).drops ≡ given_up_from d is)
  behind-line t u l d is e et ed p = (
    ap (λ (x : Tally). (tells room x is).text) e ∙ p.text ∙ ap₂ (λ (a : List ℕ) (n : ℕ). a ++ lines_from n is) et ed ∙ append_assoc t.text l (lines_from d is),
    ap (λ (x : Tally). (tells room x is).drops) e ∙ p.drops ∙ ap (λ (n : ℕ). given_up_from n is) ed,
  )

  all-kept : (t : Tally) (is : List Item) → t.events + count is ≤ 512 → early is ≡ true → t.bytes + size is ≤ 65535 →
      length t.text + length (lines_from t.drops is) ≤ room → All t is
  unfolding tells
  all-kept t [] few soon short h = record { text = sym (append-nil t.text); drops = refl }
  all-kept t (request n m ∷ is) few soon short h =
      let l = line_of (request n m) in
      let long = length-append l (lines_from t.drops is) in
      let u = tally t.start t.events t.bytes t.drops t.over (t.text ++ l) in
      let rest = all-kept u is few soon short (omega (arith, length-append t.text l)) in
      let x = behind-line t u l t.drops is (ap (tally t.start t.events t.bytes t.drops t.over) (fits t.text l (omega arith))) refl refl rest in
      record { text = x.0; drops = x.1 }
  all-kept t (reply ms m ∷ is) few soon short h =
      let l = line_of (reply ms m) in
      let long = length-append l (lines_from t.drops is) in
      let times = both (leb ms 4294967295) (early is) soon in
      let u = tally t.start (t.events + 1) (t.bytes + length m) t.drops t.over (t.text ++ l) in
      let rest = all-kept u is (omega arith) times.1 (omega arith) (omega (arith, length-append t.text l)) in
      let kept = ap (tally t.start (t.events + 1) (t.bytes + length m) t.drops t.over) (fits t.text l (omega arith)) in
      let same : tell room t (reply ms m) ≡ u =
      rw (lt-ltb t.events 512 (omega arith), times.0, le-leb (t.bytes + length m) 65535 (omega arith)) kept in
      let x = behind-line t u l t.drops is same refl refl rest in
      record { text = x.0; drops = x.1 }
  all-kept t (dropped n ∷ is) few soon short h =
      go (ltb t.drops 4096) refl h (all-kept (again (t.text ++ l)) is few soon short) (all-kept (again t.text) is few soon short)
    where
      l : List ℕ
      l = line_of (dropped n)

      again : List ℕ → Tally
      again x = tally t.start t.events t.bytes (next t.drops) t.over x

      go : (b : Bool) → ltb t.drops 4096 ≡ b → length t.text + length (cond b l [] ++ lines_from (next t.drops) is) ≤ room →
          (length (t.text ++ l) + length (lines_from (next t.drops) is) ≤ room → All (again (t.text ++ l)) is) →
          (length t.text + length (lines_from (next t.drops) is) ≤ room → All (again t.text) is) → All t (dropped n ∷ is)
      go true e k f g =
          let long = length-append l (lines_from (next t.drops) is) in
          let rest = f (omega (arith, length-append t.text l)) in
          let same : tell room t (dropped n) ≡ again (t.text ++ l) = rw e (ap again (fits t.text l (omega arith))) in
          let x = behind-line t (again (t.text ++ l)) l (next t.drops) is same refl refl rest in
          record { text = rw e x.0; drops = x.1 }
      go false e k f g =
          let rest = g k in
          let same : tell room t (dropped n) ≡ again t.text = rw e in
          let x = behind-line t (again t.text) [] (next t.drops) is same (sym (append-nil t.text)) refl rest in
          record { text = rw e x.0; drops = x.1 }

pub suffices : Suffices
suffices room ask answer text h = go (imported ask answer text) refl
  where
    go : (x : Imported) → imported ask answer text ≡ x → written room x ≡ in_full x
    go (import.refused_line n line) e = refl
    go (import.refused n) e = refl
    go (import.told is) e =
        let p = good ask answer text is e in
        let w = limited ask answer text is e in
        let all = both (leb (count is) 512 && early is) (leb (size is) 65535) w in
        let first = both (leb (count is) 512) (early is) all.0 in
        let few = leb-true (count is) 512 first.0 in
        let short = leb-true (size is) 65535 all.1 in
        let most = lines-most 0 is p.messages first.1 in
        let k = all-kept room nothing is (omega arith) first.1 (omega arith) (omega (arith, p.once)) in
        ap₂ (λ (t : List ℕ) (n : ℕ). lines t (n - 4096) (log (put_entries plain (entries_from 0 is)) (replies_of is))) k.text k.drops
