-- A reader's input that comes piece by piece, and a writer that gets what is said of it.
use Rattle.std.proofs.Common.{ℕ, ◌+◌, ◌-◌, ◌^◌, ◌<◌, ◌≤◌, ◌≡◌, List, [], ◌++◌, Option, IfSome, length, refl, sym, ap, subst, ◌∙◌, arith, length-append}
use Rattle.std.specs.Io.KnownBytes.{Appends, Consumes, IsAtEnd}
use Rattle.std.proofs.KnownBytes.{Appends-nil, Appends-trans, Consumes-nil, Consumes-trans, Consumes-whole}
use Rattle.bench.specs.Talk.{talk}
use Rattle.udsbench.specs.Hearing.{Bench, bench, hearing, saying, last_to, spoken}
use Rattle.udsbench.proofs.Pieces.{saying-append, hearing-append, last-said, none-left}

-- What came of an input in so many turns: it was heard, and what is said of it is written.
pub record Came (read to-read written to-write : Option (List ℕ)) (b now : Bench) (turns : ℕ) : Type 0 where
  pub text : List ℕ
  pub taken : Consumes read to-read text
  pub said : Appends written to-write (saying b text)
  pub is : now ≡ hearing b text
  pub many : turns ≤ length text

pub none : (r w : Option (List ℕ)) (b : Bench) → Came r r w w b b 0
unfolding saying hearing
none r w b = record {
  text = [];
  taken = Consumes-nil r;
  said = Appends-nil w;
  is = refl;
  many = omega arith;
}

module _ {r s t w x y : Option (List ℕ)} {b now after : Bench} {turns : ℕ} (c : Came r s w x b now turns) (piece : List ℕ) (taken : Consumes s t piece) (said : Appends x y (saying now piece)) where
  then : (n : ℕ) → after ≡ hearing now piece → n ≤ turns + length piece → Came r t w y b after n
  then n heard few = record {
    text = c.text ++ piece;
    taken = Consumes-trans _ _ _ _ _ c.taken taken;
    said = subst (Appends _ _)
        (ap (λ (z : Bench). saying b c.text ++ saying z piece) c.is ∙ sym (saying-append b c.text piece))
        (Appends-trans _ _ _ _ _ c.said said);
    is = heard ∙ ap (λ (z : Bench). hearing z piece) c.is ∙ sym (hearing-append b c.text piece);
    many = omega (arith, c.many, length-append c.text piece);
  }

  -- One piece more.
  pub more : 1 ≤ length piece → after ≡ hearing now piece → Came r t w y b after (turns + 1)
  more long heard = then (turns + 1) heard (omega arith)

  -- Nothing more.
  pub still : piece ≡ [] → after ≡ now → Came r t w y b after turns
  unfolding hearing
  still none same = then turns (same ∙ ap (λ (k : List ℕ). hearing now k) (sym none)) (omega arith)

-- The input has ended: all of it was heard. What is written last is the answer to what is left of a line.
module _ {r s w x : Option (List ℕ)} {l : List ℕ} {now : Bench} {turns : ℕ} (c : Came r s w x (bench l []) now turns) (end : IsAtEnd s) where
  last : (y : Option (List ℕ)) (text : List ℕ) → text ≡ last_to now.store now.line → Appends x y text → IfSome r (λ xs. length xs < 2 ^ 64 - 1 → Appends w y (spoken l xs))
  last y text same said =
      Consumes-whole r s c.text (λ xs. length xs < 2 ^ 64 - 1 → Appends w y (spoken l xs)) c.taken end
      (λ few.
      subst (Appends w y)
      (ap (λ (k : List ℕ). saying (bench l []) c.text ++ k) (same ∙ ap (λ (b : Bench). last_to b.store b.line) c.is))
      (Appends-trans _ _ _ _ _ c.said said))

  pub answered : (y : Option (List ℕ)) → 1 ≤ length now.line → Appends x y (talk now.store now.line).text → IfSome r (λ xs. length xs < 2 ^ 64 - 1 → Appends w y (spoken l xs))
  answered y long said = last y (talk now.store now.line).text (last-said now.store now.line long) said

  pub nothing-left : length now.line ≡ 0 → IfSome r (λ xs. length xs < 2 ^ 64 - 1 → Appends w x (spoken l xs))
  nothing-left none = last x [] (none-left now.store now.line none) (Appends-nil x)
