-- The pieces of a request in the buffer, and what a call prepares by what `arguments` says of it.
use Rattle.std.specs.Prelude as code
use Rattle.std.specs.Prelude.{Ok, Err, Result}
use Prim.Native.Nat.{ℕ, ◌+◌, ◌-◌, ◌≤◌}
use native.Mathlib.Omega.{arith}
use mathlib.Core.Bool.{Bool, cond}
use mathlib.Core.List.{List, [], ◌∷◌, ◌++◌, append_assoc}
use mathlib.Core.Path.{◌≡◌, refl, sym, ap, ◌∙◌}
use lib.ListN.{length, take, drop, replicate, length-append, length-drop}
use lib.Seq.{take_at, drop-append-add, drop-drop, take-append_seam}
use borrow.Author.Tests.{le-leb}
use Rattle.exchange.specs.Meaning.{option_of}
use Rattle.rules.specs.Calls as rules
use Rattle.rules.specs.Calls.{request_of, byte, given, format}
use Rattle.rules.specs.InOrder.{Check, judge}
use Rattle.rules.specs.Refusals.{arguments}
use Rattle.rules.proofs.Judging.{judge-append}
use Rattle.wire.specs.Buffers.{with}
use Rattle.requests.specs.declared.Call.{Call}
use Rattle.requests.specs.declared.Head.{Head}
use Rattle.requests.specs.declared.rows.Row.{Row}
use Rattle.requests.specs.declared.rows.Takes.{Takes}
use Rattle.requests.specs.declared.parameters.Sent.{Sent}
use Rattle.requests.specs.Meaning.{call_of, data_bytes}
use Rattle.requests.specs.Parameters.{numbers_by, data_by, sent_by, arguments_of, bit7, opening_of, padded, head_of}
use Rattle.requests.specs.Prepared.{sizes, over, ready_of, prepared_of, pieces_of}
use Rattle.requests.specs.Rows.{row_of, numbers_of, refusing, takes_memory}
use Rattle.requests.proofs.Judging.{ok-passes, err-stops}
use Rattle.requests.proofs.Parts.{parts}
use Rattle.requests.proofs.Table.{same_row, sub_is, sent-sub, same-arguments}

-- What is said of the size of a request of n bytes: refusal 8 or 9, or n.
abbrev pub Sized : ℕ → ℕ → Result ℕ ℕ → Type 0
Sized n room r = r ≡ judge Err (sizes n room) (Ok n)

-- One piece more behind those that stand in the buffer.
more : (b w s : List ℕ) → length w + length s ≤ length b → with (over w b) (length w) s ≡ over (w ++ s) b
unfolding with
more b w s h =
    let whole : length (over w b) ≡ length b = simp (length-append, length-drop) (omega arith) in
    rw (le-leb (length w + length s) (length (over w b)) (omega arith), take_at w (drop (length w) b) (length w) refl, drop-append-add, drop-drop, length-append)

module _ (b h a s d : List ℕ) {b₁ b₂ b₃ b₄ : List ℕ} (room : length h + length a + length s + length d ≤ length b) where
  pub joined : b₁ ≡ with b 0 h → b₂ ≡ with b₁ (length h) a → b₃ ≡ with b₂ (length h + length a) s → b₄ ≡ with b₃ (length h + length a + length s) d
      → b₄ ≡ over (h ++ a ++ s ++ d) b
  joined e₁ e₂ e₃ e₄ =
      let one : b₁ ≡ over h b = e₁ ∙ more b [] h (omega arith) in
      let two : b₂ ≡ over (h ++ a) b = e₂ ∙ rw one (more b h a (omega arith)) in
      let three : b₃ ≡ over (h ++ a ++ s) b = e₃ ∙ rw (two, ← length-append h a) (more b (h ++ a) s (simp length-append (omega arith))) in
      e₄ ∙ rw (three, ← length-append h a, ← length-append (h ++ a) s) (more b (h ++ a ++ s) d (simp length-append (omega arith)))

regroup : (h ns a s d : List ℕ) → h ++ (ns ++ a ++ s ++ d) ≡ h ++ ns ++ a ++ s ++ d
regroup h ns a s d = simp append_assoc

-- The request in the pieces that the code has: head, address, size and data.
module _ (k : Call) (quiet : Bool) (a s d : List ℕ) where
  abbrev c : rules.Call
  c = call_of k a s d

  abbrev takes : Takes
  takes = (row_of k).takes

  abbrev opens : List ℕ
  opens = opening_of (row_of k).sid (bit7 quiet (row_of k).sub) (numbers_by takes (format (given a) (given s)))

  pub whole : request_of quiet c ≡ opens ++ cond (takes_memory takes) a [] ++ cond (takes_memory takes) s [] ++ data_bytes (data_by takes) d
  whole =
      let sub = bit7 quiet (row_of k).sub in
      let row = same_row (given a) (given s) d k in
      rw (
        ap (λ r. r.sid) row,
        sub_is (given a) (given s) d k,
        ← sent-sub quiet (row_of k).sub,
        ap (λ r. r.parameters) row,
        parts a s d takes,
      )
      (regroup ((row_of k).sid ∷ byte (option_of sub)) (numbers_of (numbers_by takes (format (given a) (given s)))) (cond (takes_memory takes) a []) (cond (takes_memory takes) s []) (data_bytes (data_by takes) d))

  -- Its pieces are its bytes.
  pub pieces : pieces_of (ready_of k quiet a s d) a s d ≡ request_of quiet c
  pieces =
      let front : take (length opens) (padded opens) ≡ opens = take-append_seam opens (replicate (4 - length opens) 0) in
      ap (λ (f : List ℕ). f ++ cond (takes_memory takes) a [] ++ cond (takes_memory takes) s [] ++ data_bytes (data_by takes) d) front ∙ sym whole

  -- By what `arguments` says, and by the length.
  module _ (room : ℕ) where
    in-turn : prepared_of k quiet a s d room ≡ judge Err (arguments c) (judge Err (sizes (length (request_of quiet c)) room) (Ok (ready_of k quiet a s d)))
    unfolding prepared_of
    in-turn = judge-append Err (arguments c) (sizes (length (request_of quiet c)) room) (Ok (ready_of k quiet a s d))

    abbrev asked : List (Check ℕ)
    asked = refusing takes (given a) (given s)

    pub refused-arguments : {n : ℕ} → Err n ≡ arguments_of takes a s → Err n ≡ prepared_of k quiet a s d room
    refused-arguments e = sym (in-turn ∙ rw (same-arguments (given a) (given s) d k) (err-stops asked _ e Err _))

    module _ {x : Sent} (e : Ok x ≡ arguments_of takes a s) where
      pub sends : x ≡ sent_by takes (format (given a) (given s))
      sends = (ok-passes {B = ℕ} asked e).0

      pub by_size : prepared_of k quiet a s d room ≡ judge Err (sizes (length (request_of quiet c)) room) (Ok (ready_of k quiet a s d))
      by_size = in-turn ∙ rw (same-arguments (given a) (given s) d k) ((ok-passes asked e).1 Err _)

-- What the code has in hand where the arguments are not refused: the pieces.
pub record InHand (k : Call) (quiet : Bool) (a s d : List ℕ) (room : ℕ) (row : Row) (sub : code.Option ℕ) (x : Sent) (h : Head) (a' s' d' : List ℕ) : Type 0 where
  pub is_row : row ≡ row_of k
  pub is-sub : sub ≡ bit7 quiet row.sub
  pub sent : Ok x ≡ arguments_of row.takes a s
  pub is-head : h ≡ head_of (opening_of row.sid sub x.numbers)
  pub is_address : a' ≡ cond x.memory a []
  pub is-size : s' ≡ cond x.memory s []
  pub is-data : d' ≡ data_bytes x.«data» d

module _ {k : Call} {quiet : Bool} {a s d : List ℕ} {room : ℕ} {row : Row} {sub : code.Option ℕ} {x : Sent} {h : Head} {a' s' d' : List ℕ}
    (y : InHand k quiet a s d room row sub x h a' s' d') where
  -- The same with the row of the call.
  says : Ok x ≡ arguments_of (row_of k).takes a s
  says = y.sent ∙ ap (λ (r : Row). arguments_of r.takes a s) y.is_row

  opened : h ≡ head_of (opens k quiet a s d)
  opened =
      let z = sends k quiet a s d room says in
      y.is-head ∙ rw (y.is-sub, y.is_row, z)

  abbrev total : ℕ
  total = h.0 + length a' + length s' + length d'

  long : length (request_of quiet (call_of k a s d)) ≡ total
  long =
      let z = sends k quiet a s d room says in
      ap length (whole k quiet a s d) ∙
      rw (opened, y.is_address, y.is-size, y.is-data, z) (simp length-append)

  pub refused-size : {n : ℕ} → Sized total room (Err n) → Err n ≡ prepared_of k quiet a s d room
  refused-size e = sym (by_size k quiet a s d room says ∙ rw long (err-stops (sizes total room) _ e Err _))

  pub ready : {l : ℕ} → Sized total room (Ok l) → Ok (record {
    sid = row.sid;
    sub = sub;
    head_length = h.0;
    head = h.1;
    memory = x.memory;
    «data» = x.«data»;
    length = l;
  }) ≡ prepared_of k quiet a s d room
  ready e =
      let w = sends k quiet a s d room says in
      let z = ok-passes (sizes total room) e in
      let sid = ap (λ (r : Row). r.sid) y.is_row in
      let subs = y.is-sub ∙ ap (λ (r : Row). bit7 quiet r.sub) y.is_row in
      let lengths = z.0 ∙ sym long in
      (λ i. Ok (record {
        sid = sid i;
        sub = subs i;
        head_length = (opened i).0;
        head = (opened i).1;
        memory = (w i).memory;
        «data» = (w i).«data»;
        length = lengths i;
      })) ∙
      sym (by_size k quiet a s d room says ∙ rw long (z.1 Err _))
