-- The promises of specs/Promises, proved.
use Prim.Native.Nat.{ℕ, ◌+◌, ◌≤◌}
use native.Mathlib.Omega.{arith}
use mathlib.Core.Bool.{Bool, true, false, cond, false≢true}
use mathlib.Core.List.{List, [], ◌∷◌, ◌++◌}
use mathlib.Core.Option.{Option, none, some}
use mathlib.Core.Path.{◌≡◌, refl, sym, ◌∙◌}
use lib.Dec.{eqb}
use lib.ListN.{length, length-append}
use Rattle.rules.specs.Lines.{ascii, decimal}
use Rattle.log_fields.specs.Fields.{Read, whole, bit, byte, pair, four, Field, fields, first_off}
use Rattle.log_fields.specs.Promises.{Possible, Tells, Longest, Promises}
use Rattle.log_fields.specs.Words.{should, holds, found, off_text, text_of, off_line}
use Rattle.log_fields.proofs.Firsts as firsts
use Rattle.log_fields.proofs.Each.{Fine, twenty, all-fine, all-possible}
use Rattle.log_fields.proofs.Tests.{decides}

pub tells : Tells
unfolding first_off
tells l f e =
    let at = firsts.found (fields l) f e in
    let fine = firsts.of-first (Fine l) (fields l) f (all-fine l) e in
    record {
      off = λ r. false≢true (sym at.off ∙ firsts.inside_of f r);
      stands = fine.0;
      before = at.before;
      behind = at.behind;
      among = at.among;
      sound = at.sound;
      possible = firsts.of-first-along Possible (fields l) f (all-possible l) e;
    }

holds-long : (at n : ℕ) → length (holds at n) ≤ 67
holds-long at n =
    let a = twenty at in
    let b = twenty n in
    simp length-append (omega arith)

found-long : (r : Read) (at n : ℕ) → length (found r at n) ≤ 67
found-long whole at n = let t = twenty n in simp length-append (omega arith)
found-long (bit weight) at n = holds-long at n
found-long byte at n = holds-long at n
found-long pair at n = holds-long at n
found-long four at n = holds-long at n

should-long : (least : ℕ) (most : Option ℕ) → length (should least most) ≤ 44
should-long least none = let t = twenty least in simp length-append (omega arith)
should-long least (some most) = go (eqb least most) (twenty least) (twenty most)
  where
    go : (t : Bool) → length (decimal least) ≤ 20 → length (decimal most) ≤ 20 → length (cond t (decimal least) (decimal least ++ ascii " to " ++ decimal most)) ≤ 44
    go true a b = omega arith
    go false a b = simp length-append (omega arith)

text-long : (f : Field) → length f.name ≤ 34 → length (off_text f) ≤ 163
unfolding off_text
text-long f h =
    let a = found-long f.read f.at f.found in
    let b = should-long f.least f.most in
    simp length-append (omega arith)

pub longest : Longest
unfolding off_line first_off
longest l = go (first_off l) refl
  where
    go : (o : Option Field) → first_off l ≡ o → length (text_of o) ≤ 163
    go none e = omega arith
    go (some f) e = text-long f (firsts.of-first (Fine l) (fields l) f (all-fine l) e).1

pub promises : Promises
promises = record { decides = decides; tells = tells; longest = longest }
