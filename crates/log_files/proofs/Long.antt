-- A log of more than 65,535 bytes is bad, since its header has two bytes for its length.
use Prim.Native.Nat.{ℕ, zero, suc, ◌+◌, ◌*◌, ◌<◌}
use native.Mathlib.Omega.{arith}
use mathlib.Core.Bool.{Bool, true, false, ◌&&◌, ◌||◌}
use mathlib.Core.List.{List, [], ◌∷◌}
use mathlib.Core.Path.{◌≡◌, refl}
use borrow.Author.Tests.{ltb-true, ne_eqb}
use lib.Dec.{leb, eqb}
use lib.ListN.{length, get_or}
use Rattle.rules.specs.Bytes.{every, is_byte}
use Rattle.rules.specs.Events.{event_size, entries}
use Rattle.rules.specs.Logs.{Header, all, moved, form_in, header_size, header_of, uses_of, fields_ok, areas_ok, event_ok, event_bytes, laid_out, layout_ok, line_of}
use Rattle.rules.proofs.Judging.{both}
use Rattle.log_files.specs.Laws.{LongIsBad}

byte_at : (l : List ℕ) (i : ℕ) → every is_byte l ≡ true → get_or l i 0 < 256
byte_at [] i h = omega arith
byte_at (x ∷ l) zero h = ltb-true x 256 (both (is_byte x) (every is_byte l) h).0
byte_at (x ∷ l) (suc i) h = byte_at l i (both (is_byte x) (every is_byte l) h).1

-- Of five tests one fails.
fifth : (a b c d : Bool) → all (a ∷ b ∷ c ∷ d ∷ false ∷ []) ≡ false
fifth false b c d = refl
fifth true false c d = refl
fifth true true false d = refl
fifth true true true false = refl
fifth true true true true = refl

fourth : (a b c e : Bool) → all (a ∷ b ∷ c ∷ false ∷ e ∷ []) ≡ false
fourth false b c e = refl
fourth true false c e = refl
fourth true true false e = refl
fourth true true true e = refl

module _ (h : Header) (l : List ℕ) (short : h.total < 65536) (long : 65535 < length l) where
  areas : areas_ok h (length l) ≡ false
  areas =
      rw (ne_eqb h.total (length l) (λ z. absurd (omega arith)))
      (fifth (eqb h.arguments_at (header_size (form_in h))) (eqb h.events_at (header_size (form_in h) + h.arguments))
      (eqb h.replies_at (h.events_at + h.events * event_size (form_in h))) (eqb h.total (h.replies_at + h.replies)))

  laid : laid_out h l ≡ false
  laid =
      rw areas
      (fourth (leb (header_size (form_in h)) (length l)) (eqb h.version 1 || eqb h.version 2) (leb h.call 15)
      (every event_ok (entries (form_in h) (event_bytes h l))))

pub long-is-bad : LongIsBad
unfolding line_of layout_ok
long-is-bad l bytes long =
    let h = header_of l in
    let at = 22 + moved (form_in h) in
    let short : h.total < 65536 = omega (arith, byte_at l at bytes, byte_at l (at + 1) bytes) in
    rw (laid h l short long)
