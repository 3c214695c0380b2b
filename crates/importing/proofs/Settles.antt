-- Behind a line that is refused, or that can't be read, nothing changes.
use Prim.Native.Nat.{ℕ}
use native.Mathlib.Omega.{arith}
use mathlib.Core.Bool.{Bool, true, false, cond, ◌||◌}
use mathlib.Core.List.{List, [], ◌∷◌, ◌++◌}
use mathlib.Core.Path.{◌≡◌, refl, sym, ◌∙◌, ap}
use lib.Dec.{eqb}
use Rattle.candump.specs.Reading as reading
use Rattle.candump.specs.declared.Phase.TheVariants.{Bad}
use Rattle.candump.specs.declared.Reader.{Reader}
use Rattle.candump.proofs.Reading.{is-bad, bad-stays}
use Rattle.importing.specs.Import as import
use Rattle.importing.specs.Import.{Imported, next, imported}
use Rattle.importing.specs.Kept.{Kept, Going, going, refused_at, refused_in, step, Stream, stream, byte, bytes, Written, refused_line}
use Rattle.importing.specs.Kept.{settled, ended, start}
use Rattle.importing.specs.Promises.{written, Settles}
use Rattle.importing.proofs.Imports.{imports}

-- A text in two pieces.
pub bytes-behind : (room ask answer : ℕ) (s : Stream) (a b : List ℕ) →
    bytes room ask answer (bytes room ask answer s a) b ≡ bytes room ask answer s (a ++ b)
unfolding bytes
bytes-behind room ask answer s [] b = refl
bytes-behind room ask answer s (c ∷ a) b = bytes-behind room ask answer (byte room ask answer s c) a b

module _ (room ask answer : ℕ) where
  either_way : {w : Written} (x : Bool) (a b : Stream) (t : List ℕ) → ended room ask answer (bytes room ask answer a t) ≡ w →
      ended room ask answer (bytes room ask answer b t) ≡ w → ended room ask answer (bytes room ask answer (cond x a b) t) ≡ w
  either_way true a b t p q = p
  either_way false a b t p q = q

  -- Behind a line that was refused.
  stays-refused : (r : Reader) (n at : ℕ) (t : List ℕ) →
      ended room ask answer (bytes room ask answer (stream r (refused_at n at)) t) ≡ refused_line n at
  unfolding bytes byte ended step
  stays-refused r n at [] = refl
  stays-refused r n at (c ∷ t) = either_way (eqb c 10) _ _ t (stays-refused reading.begun n at t) (stays-refused (reading.next r c) n at t)

  -- Within a line that can't be read.
  stays-bad : (r : Reader) (k : Kept) (t : List ℕ) → r.phase ≡ Bad →
      ended room ask answer (bytes room ask answer (stream r (going k)) t) ≡ refused_line 14 (next k.line)
  unfolding bytes byte ended step reading.ended reading.read_on
  stays-bad r k [] e = rw e
  stays-bad r k (c ∷ t) e =
      let now : step room ask answer (going k) (reading.line_of (reading.ended r.phase) r.bytes) ≡ refused_at 14 (next k.line) = rw e in
      either_way (eqb c 10) _ _ t
      (ap (λ (g : Going). ended room ask answer (bytes room ask answer (stream reading.begun g) t)) now
      ∙ stays-refused reading.begun 14 (next k.line) t)
      (stays-bad (reading.next r c) k t (bad-stays r (c ∷ []) e))

  -- Whatever follows, a line is refused.
  record Refuses (s : Stream) : Type 0 where
    number : ℕ
    line : ℕ
    always : (t : List ℕ) → ended room ask answer (bytes room ask answer s t) ≡ refused_line number line

  refuses : (s : Stream) → settled s ≡ true → Refuses s
  refuses s h = go s.kept h
    where
      go : (g : Going) → (refused_in g || reading.hopeless s.reader.phase) ≡ true → Refuses (stream s.reader g)
      go (refused_at n at) e = record { number = n; line = at; always = stays-refused s.reader n at }
      go (going k) e = record { number = 14; line = next k.line; always = λ t. stays-bad s.reader k t (is-bad s.reader.phase e) }

  is-refused : (n line : ℕ) (x : Imported) → written room x ≡ refused_line n line → x ≡ import.refused_line n line
  is-refused n line (import.refused_line m at) e = cc
  is-refused n line (import.refused m) e = let z : ◌≡◌ {A = ℕ} 0 1 = cc in absurd (omega arith)
  is-refused n line (import.told is) e = let z : ◌≡◌ {A = ℕ} 0 1 = cc in absurd (omega arith)

  none-behind : (s : Stream) → ended room ask answer (bytes room ask answer s []) ≡ ended room ask answer s
  unfolding bytes
  none-behind s = refl

pub settles : Settles
settles room ask answer text rest h =
    let s = bytes room ask answer start text in
    let p = refuses room ask answer s h in
    let all : written room (imported ask answer (text ++ rest)) ≡ refused_line p.number p.line =
    sym (imports room ask answer (text ++ rest)) ∙ ap (ended room ask answer) (sym (bytes-behind room ask answer start text rest)) ∙ p.always rest in
    let first : written room (imported ask answer text) ≡ refused_line p.number p.line =
    sym (imports room ask answer text) ∙ sym (none-behind room ask answer s) ∙ p.always [] in
    is-refused room ask answer p.number p.line (imported ask answer (text ++ rest)) all
    ∙ sym (is-refused room ask answer p.number p.line (imported ask answer text) first)
