-- What is kept behind each thing that is told.
use Rattle.std.specs.Prelude as code
use Rattle.std.specs.Prelude.{Some}
use Prim.Native.Nat.{ℕ, ◌+◌, ◌≤◌, ◌<◌}
use native.Mathlib.Omega.{arith}
use mathlib.Core.Bool.{Bool, true, false, cond, ◌&&◌, false≢true}
use mathlib.Core.List.{List, ◌++◌}
use mathlib.Core.Path.{◌≡◌, refl, sym, ◌∙◌, ap}
use lib.Dec.{leb, ltb}
use lib.ListN.{length, take, drop, length-append, length-drop}
use lib.Seq.{length-take-le, take_at, drop_at}
use borrow.Author.Tests.{ltb-true, leb-true}
use Rattle.text.specs.Written.{put, Appended}
use Rattle.importing.specs.Kept as kept
use Rattle.importing.specs.Kept.{append, note_drop, note_request, note_reply, note_given, fits_in}
use Rattle.imports.specs.Held.{start_of, Tallied}

-- A text appended at an index inside the buffer.
module _ (out after bs : List ℕ) (at r : ℕ) (inside : at ≤ length out) (p : Appended bs out at r after) where
  there : length (take at out) ≡ at
  there = length-take-le at out inside

  record Ends : Type 0 where
    front : take r after ≡ append (length out) (take at out) bs
    rest : drop r after ≡ drop r out
    same : length after ≡ length out
    least : r ≤ length out

  ends : Ends
  unfolding put
  ends = go (leb (at + length bs) (length out)) refl p.end p.line
    where
      go : (b : Bool) → leb (at + length bs) (length out) ≡ b → r ≡ cond b (at + length bs) at → after ≡ cond b (take at out ++ bs ++ drop (at + length bs) out) out → Ends
      go true e end line =
          let fits = leb-true (at + length bs) (length out) e in
          let long : length (take at out ++ bs) ≡ at + length bs = length-append (take at out) bs ∙ ap (λ (k : ℕ). k + length bs) there in
          record {
            front = rw (end, line, there, e) (take_at (take at out ++ bs) (drop (at + length bs) out) (at + length bs) long);
            rest = rw (end, line) (drop_at (take at out ++ bs) (drop (at + length bs) out) (at + length bs) long);
            same = rw line (omega (arith, length-append (take at out ++ bs) (drop (at + length bs) out), long, length-drop (at + length bs) out));
            least = omega (arith, end);
          }
      go false e end line = record { front = rw (end, line, there, e); rest = rw line; same = rw line; least = omega (arith, end) }

  pub told_line : (s : code.Option ℕ) (e b d : ℕ) (o : Bool) →
      Tallied (kept.tally (start_of s) e b d o (append (length out) (take at out) bs)) out (record { start = s; events = e; bytes = b; drops = d; over = o; size = r }) after
  told_line s e b d o =
      let x = ends in
      record {
        says = ap (kept.tally (start_of s) e b d o) x.front;
        size = sym (length-take-le r after (omega (arith, x.least, x.same))) ∙ ap (length {A = ℕ}) x.front;
        rest = x.rest;
        room = x.same;
      }

-- A reply that fits leaves the counts small.
pub fitted : (events bytes ms size : ℕ) {f : Bool} → f ≡ fits_in events bytes ms size → f ≡ true → (events < 512) × (bytes + size ≤ 65535)
fitted events bytes ms size {f} ef e = go (ltb events 512) (leb ms 4294967295) (leb (bytes + size) 65535) refl refl (sym ef ∙ e)
  where
    go : (a b c : Bool) → ltb events 512 ≡ a → leb (bytes + size) 65535 ≡ c → (a && b && c) ≡ true → (events < 512) × (bytes + size ≤ 65535)
    go true true true ea ec z = (ltb-true events 512 ea, leb-true (bytes + size) 65535 ec)
    go true true false ea ec z = absurd (false≢true z)
    go true false c ea ec z = absurd (false≢true z)
    go false b c ea ec z = absurd (false≢true z)
