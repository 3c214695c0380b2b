-- At most one result fits each public contract: one meaning of a stream, and one outcome with one text.
use Prim.Native.Nat.{ℕ}
use mathlib.Core.List.{List}
use mathlib.Core.Path.{◌≡◌, sym, ◌∙◌, ap}
use native.Mathlib.Omega.{arith}
use lib.ListN.{length, take, drop}
use lib.Seq.{length-take-le}
use Rattle.importing.specs.Kept as kept
use Rattle.importing.specs.Kept.{Written, bytes}
use Rattle.imports.specs.Held.{held_log, stream_of, Outcome, written_of, Begins, Inside, Finished}
use Rattle.imports.specs.declared.Stream.{Stream}
use Rattle.imports.specs.declared.Lent.{Lent}
use Rattle.imports.specs.declared.ImportError.TheVariants.{Line, Text}
use Rattle.std.specs.Prelude.{Ok, Err}
use Rattle.wire.specs.Refusing.{refusal_number}
use Rattle.wire.specs.declared.refusal.Refusal.{Refusal}
use Rattle.wire.proofs.Refusals.{same-refusal}

never : {P : Type 0} → ◌≡◌ {A = ℕ} 0 1 → P
never e = absurd (omega arith)

-- `begin`: whatever the buffers hold.
pub begin-unique : (r q : Stream) → Begins r → Begins q → (lent lent' : Lent) (out out' : List ℕ) → stream_of r lent out ≡ stream_of q lent' out'
begin-unique r q k h lent lent' out out' = k lent out ∙ sym (h lent' out')

-- `read_on`: from two streams of one meaning, with the buffers that they have, two of one meaning.
pub read-on-unique : (room ask answer : ℕ) (chunk : List ℕ) {x y before before' : kept.Stream} → before ≡ before' → x ≡ bytes room ask answer before chunk
    → y ≡ bytes room ask answer before' chunk → x ≡ y
read-on-unique room ask answer chunk e k h = k ∙ ap (λ (s : kept.Stream). bytes room ask answer s chunk) e ∙ sym h

-- Two outcomes that stand inside their buffers, and write the same, are the same.
same-outcome : (r q : Outcome) (out log out' log' : List ℕ) → Inside r out log → Inside q out' log' → written_of r out log ≡ written_of q out' log' → r ≡ q
same-outcome (Ok t) (Ok u) out log out' log' k h e =
    let text : take t.lines out ≡ take u.lines out' = cc in
    let left : t.left_out ≡ u.left_out = cc in
    let logs : held_log t.events t.replies log ≡ held_log u.events u.replies log' = cc in
    let events : take t.events log ≡ take u.events log' = ap (λ (g : kept.Log). g.events) logs in
    let replies : take t.replies (drop 5120 log) ≡ take u.replies (drop 5120 log') = ap (λ (g : kept.Log). g.replies) logs in
    let a = sym (length-take-le t.lines out k.0) ∙ ap (length {A = ℕ}) text ∙ length-take-le u.lines out' h.0 in
    let b = sym (length-take-le t.events log k.1.0) ∙ ap (length {A = ℕ}) events ∙ length-take-le u.events log' h.1.0 in
    let c = sym (length-take-le t.replies (drop 5120 log) k.1.1) ∙ ap (length {A = ℕ}) replies ∙ length-take-le u.replies (drop 5120 log') h.1.1 in
    λ i. Ok (record { lines = a i; left_out = left i; events = b i; replies = c i })
same-outcome (Ok t) (Err (Line b)) out log out' log' k h e = never (cc)
same-outcome (Ok t) (Err (Text b)) out log out' log' k h e = never (cc)
same-outcome (Err (Line a)) (Ok u) out log out' log' k h e = never (cc)
same-outcome (Err (Line a)) (Err (Line b)) out log out' log' k h e =
    let refusals : a.refusal ≡ b.refusal = cc in
    let lines : a.line ≡ b.line = cc in
    λ i. Err (Line (record { refusal = refusals i; line = lines i }))
same-outcome (Err (Line a)) (Err (Text b)) out log out' log' k h e = never (cc)
same-outcome (Err (Text a)) (Ok u) out log out' log' k h e = never (cc)
same-outcome (Err (Text a)) (Err (Line b)) out log out' log' k h e = never (cc)
same-outcome (Err (Text a)) (Err (Text b)) out log out' log' k h e =
    let refusals : refusal_number a ≡ refusal_number b = cc in
    ap (λ (x : Refusal). Err (Text x)) (same-refusal a b refusals)

-- `finish`: the same outcome, and the same bytes in the buffers.
pub finish-unique : {x : Written} {r q : Outcome} {out log out' log' : List ℕ} → Finished x r out log → Finished x q out' log' →
    (r ≡ q) × (written_of r out log ≡ written_of q out' log')
finish-unique {x} {r} {q} {out} {log} {out'} {log'} k h =
    let same = k.says ∙ sym h.says in
    (same-outcome r q out log out' log' k.inside h.inside same, same)
