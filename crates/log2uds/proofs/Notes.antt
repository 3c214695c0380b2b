-- The lines but those of replies: that they are the lines of what is told but its replies, and how they are copied.
use Prim.Native.Nat.{ℕ, zero, suc, ◌+◌, ◌/◌, ◌%◌, ◌≤◌, ◌<◌}
use native.Mathlib.Numerals.{add-one}
use native.Mathlib.Omega.{arith}
use mathlib.Core.Bool.{Bool, true, false, cond, not}
use mathlib.Core.List.{List, [], ◌∷◌, ◌++◌, append_assoc, append-nil}
use mathlib.Core.Path.{◌≡◌, refl, sym, ◌∙◌, ap}
use lib.Dec.{eqb, ltb}
use lib.ListN.{length, get_or, take, drop, drop_of_length-le}
use lib.Seq.{drop-cons}
use borrow.Author.Tests.{ne_eqb}
use Rattle.rules.specs.Bytes.{every}
use Rattle.rules.proofs.Judging.{both}
use Rattle.rules.specs.Lines.{ascii, digit, decimal_to, decimal, hex, spaced}
use Rattle.text.specs.Written.{hex_behind, counted, item}
use Rattle.importing.specs.Import.{request, reply, dropped, next}
use Rattle.importing.specs.Promises.{line_of, lines_from}
use Rattle.log2uds.specs.Streams.{is_reply, kept, noted, others, Noted}

-- No byte of a line but its last is an LF.
abbrev in_line : ℕ → Bool
in_line c = not (eqb c 10)

every-both : (a b : List ℕ) → every in_line a ≡ true → every in_line b ≡ true → every in_line (a ++ b) ≡ true
every-both [] b p q = q
every-both (x ∷ a) b p q = let h = both (in_line x) (every in_line a) p in rw h.0 (every-both a b h.1 q)

digit-in : (d : ℕ) → in_line (digit d) ≡ true
digit-in d = go (ltb d 10)
  where
    go : (b : Bool) → in_line (cond b (d + 48) (d + 87)) ≡ true
    go true = rw (ne_eqb (d + 48) 10 (omega arith))
    go false = rw (ne_eqb (d + 87) 10 (omega arith))

decimal-in : (k v : ℕ) → every in_line (decimal_to k v) ≡ true
unfolding decimal_to
decimal-in zero v = rw (digit-in v)
decimal-in (suc k) v =
    go (ltb v 10) (every-both (decimal_to k (v / 10)) (digit (v % 10) ∷ []) (decimal-in k (v / 10)) (rw (digit-in (v % 10))))
  where
    go : (b : Bool) → every in_line (decimal_to k (v / 10) ++ (digit (v % 10) ∷ [])) ≡ true →
        every in_line (cond b (digit v ∷ []) (decimal_to k (v / 10) ++ (digit (v % 10) ∷ []))) ≡ true
    go true e = rw (digit-in v)
    go false e = e

hex-in : (m : List ℕ) → every in_line (hex m) ≡ true
hex-in [] = refl
hex-in (b ∷ m) = rw (digit-in (b / 16), digit-in (b % 16)) (hex-in m)

behind-in : (m : List ℕ) → every in_line (hex_behind m) ≡ true
behind-in [] = refl
behind-in (b ∷ m) = hex-in (b ∷ m)

no-lf : (b : Bool) → not b ≡ true → b ≡ false
no-lf true e = sym e
no-lf false e = refl

-- A line, kept or not, and what stands behind it.
passed_on : (keep : Bool) (c : ℕ) (l rest : List ℕ) → kept keep (l ++ (10 ∷ rest)) ≡ cond keep (l ++ (10 ∷ [])) [] ++ noted rest →
    cond keep (c ∷ []) [] ++ kept keep (l ++ (10 ∷ rest)) ≡ cond keep (c ∷ (l ++ (10 ∷ []))) [] ++ noted rest
passed_on true c l rest p = ap (λ (x : List ℕ). c ∷ x) p
passed_on false c l rest p = p

line-passed : (keep : Bool) (l rest : List ℕ) → every in_line l ≡ true → kept keep (l ++ (10 ∷ rest)) ≡ cond keep (l ++ (10 ∷ [])) [] ++ noted rest
unfolding kept
line-passed keep [] rest e = refl
line-passed keep (c ∷ l) rest e =
    let h = both (in_line c) (every in_line l) e in
    rw (no-lf (eqb c 10) h.0) (passed_on keep c l rest (line-passed keep l rest h.1))

item-passed : (keep : Bool) (word m rest : List ℕ) (n : ℕ) → every in_line word ≡ true → not (is_reply (item word n m ++ rest)) ≡ keep →
    noted (item word n m ++ rest) ≡ cond keep (item word n m) [] ++ noted rest
unfolding item
item-passed keep word m rest n short e =
    let l = counted word n ++ hex_behind m in
    let whole : item word n m ≡ l ++ (10 ∷ []) = refl in
    let split : item word n m ++ rest ≡ l ++ (10 ∷ rest) = ap (λ (x : List ℕ). x ++ rest) whole ∙ append_assoc l (10 ∷ []) rest in
    let plain = every-both (counted word n) (hex_behind m) (every-both word (spaced (decimal n)) short (decimal-in 19 n)) (behind-in m) in
    ap (λ (k : Bool). kept k (item word n m ++ rest)) e ∙ ap (kept keep) split ∙ line-passed keep l rest plain
    ∙ ap (λ (x : List ℕ). cond keep x [] ++ noted rest) (sym whole)

pub noted-lines : Noted
unfolding kept item
noted-lines d [] = refl
noted-lines d (request n m ∷ is) =
    item-passed true (ascii "request") m (lines_from d is) n refl refl ∙ ap (λ (x : List ℕ). line_of (request n m) ++ x) (noted-lines d is)
noted-lines d (reply t m ∷ is) = item-passed false (ascii "reply") m (lines_from d is) t refl refl ∙ noted-lines d is
noted-lines d (dropped n ∷ is) = go (ltb d 4096) (noted-lines (next d) is)
  where
    go : (b : Bool) → noted (lines_from (next d) is) ≡ lines_from (next d) (others is) →
        noted (cond b (line_of (dropped n)) [] ++ lines_from (next d) is) ≡ cond b (line_of (dropped n)) [] ++ lines_from (next d) (others is)
    go true e = item-passed true (ascii "dropped") [] (lines_from (next d) is) n refl refl ∙ ap (λ (x : List ℕ). line_of (dropped n) ++ x) e
    go false e = e

-- How far lines were copied: n bytes stand in the buffer, and those from index i on are to come.
pub record Copied (lines out : List ℕ) (keep : Bool) (n i : ℕ) : Type 0 where
  pub inside : i ≤ length lines
  pub less : n ≤ i
  pub all : take n out ++ kept keep (drop i lines) ≡ noted lines

pub none-copied : (lines out : List ℕ) {b : Bool} → b ≡ is_reply (drop 0 lines) → Copied lines out (not b) 0 0
none-copied lines out e = record { inside = omega arith; less = omega arith; all = ap (λ (b : Bool). kept (not b) lines) e }

pub one-copied : {lines out after : List ℕ} {keep keep' : Bool} {n n' i : ℕ} → i < length lines → Copied lines out keep n i →
    take n' after ≡ take n out ++ cond keep (get_or lines i 0 ∷ []) [] → n' ≤ n + 1 →
    keep' ≡ cond (eqb (get_or lines i 0) 10) (not (is_reply (drop (i + 1) lines))) keep → Copied lines after keep' n' (i + 1)
unfolding kept
one-copied {lines = lines} {out = out} {keep = keep} {n = n} {i = i} here p w few k =
    let c = get_or lines i 0 in
    let rest = drop (i + 1) lines in
    let now : drop i lines ≡ c ∷ rest = rw add-one (drop-cons lines i 0 here) in
    record {
      inside = omega arith;
      less = omega (arith, p.less);
      all =
          rw (w, k) (append_assoc (take n out) (cond keep (c ∷ []) []) (kept (cond (eqb c 10) (not (is_reply rest)) keep) rest))
          ∙ ap (λ (l : List ℕ). take n out ++ kept keep l) (sym now) ∙ p.all;
    }

pub all-copied : {lines out : List ℕ} {keep : Bool} {n i : ℕ} → length lines ≤ i → Copied lines out keep n i → take n out ≡ noted lines
unfolding kept
all-copied {lines = lines} {out = out} {keep = keep} {n = n} h p =
    sym (append-nil (take n out)) ∙ ap (λ (l : List ℕ). take n out ++ kept keep l) (sym (drop_of_length-le lines h)) ∙ p.all
