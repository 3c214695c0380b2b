-- The promises of a whole run.
use Prim.Native.Nat.{ℕ, zero, suc, ◌≤◌, ◌<◌}
use native.Mathlib.Nat.{zero-add}
use native.Mathlib.Omega.{arith}
use mathlib.Core.Bool.{Bool, true, false, ◌&&◌}
use mathlib.Core.List.{List, [], ◌∷◌, ◌++◌, append_assoc, append-nil}
use mathlib.Core.Logic.{inl, inr}
use mathlib.Core.Path.{◌≡◌, refl, sym, ap, subst, ◌∙◌}
use borrow.Author.Tests.{leb-true, leb-false, ltb-true, ltb-false, le-leb, lt-leb}
use lib.Dec.{leb, ltb}
use lib.ListN.{length, take, drop, length-drop, length-append}
use lib.Seq.{drop-append-le}
use Rattle.rules.specs.Bytes.{every, is_byte}
use Rattle.rules.specs.Lines.{badlog}
use Rattle.rules.proofs.Judging.{both}
use Rattle.text.specs.Written.{put, Put}
use Rattle.log_files.specs.Files.{lines_of}
use Rattle.log_files.specs.Said.{cut_line, said_from}
use Rattle.log_files.proofs.Files.{lines_none, lines_cut}
use Rattle.log_files.proofs.Said.{said-none, said-cut}
use Rattle.log_lines.specs.declared.Batch.{Batch}
use Rattle.log_lines.specs.Batches.{said_behind, Counts, NotWhole, Waits, Stops, Batched, said_at_end, Rest, Cut}
use Rattle.log_lines.specs.Runs.{Run, takes, reads, ends, joined, HoweverItComes, HoweverItIsSaid}
use Rattle.log_lines.proofs.Lining.{stood}
use Rattle.log_lines.proofs.Batching.{nothing-over, numbered}

-- What is held where nothing could be taken, though there was room: nothing, or a log that is not whole.
module _ {left logs : ℕ} {held out said : List ℕ} {b : Batch} (k : Batched left logs held b out said) (none : b.taken ≡ 0)
    (room : 8222 ≤ length out) (room_to_say : 60 ≤ length said) where
  pub waits : Waits b.left held
  waits some = (begun b.left refl, go k.stops)
    where
      begun : (n : ℕ) → b.left ≡ n → b.left ≡ 0
      begun zero e = e
      begun (suc n) e = absurd (omega (arith, k.over (omega arith)))

      go : Stops b held (length out) (length said) → NotWhole held
      go (inl long) = absurd (omega (arith, k.over long))
      go (inr (inl full)) = absurd (omega (arith, (k.none none).0))
      go (inr (inr (inl full))) = absurd (omega (arith, (k.none none).1))
      go (inr (inr (inr cut))) = subst (λ (n : ℕ). NotWhole (drop n held)) none cut

  -- No more than a log and its length is ever held so.
  pub few-held : length held < 65540
  few-held = go k.stops
    where
      short : (t : Bool) → leb 4 (length held) ≡ t → NotWhole held → length held < 65540
      short true e cut = omega (arith, cut.0, cut.1 (leb-true 4 (length held) e))
      short false e cut = omega (arith, leb-false 4 (length held) e)

      go : Stops b held (length out) (length said) → length held < 65540
      go (inl long) = omega (arith, k.over long)
      go (inr (inl full)) = absurd (omega (arith, (k.none none).0))
      go (inr (inr (inl full))) = absurd (omega (arith, (k.none none).1))
      go (inr (inr (inr cut))) = short (leb 4 (length held)) refl (subst (λ (n : ℕ). NotWhole (drop n held)) none cut)

-- What is held where nothing more comes.
module _ (left logs : ℕ) (held : List ℕ) (wait : Waits left held) where
  -- Its lines, and what `end` writes.
  rest_lines : {r : ℕ} {before after : List ℕ} → Rest left (length held) before r after → 8222 ≤ length before →
      lines_of (drop left held) ≡ take r after
  unfolding put
  rest_lines {r} {before} {after} e fits = go (ltb left (length held)) refl
    where
      test : (t : Bool) → ltb left (length held) ≡ t → (ltb left (length held) && leb 8222 (length before)) ≡ t
      test true p = rw (p, le-leb 8222 (length before) fits)
      test false p = rw p

      go : (t : Bool) → ltb left (length held) ≡ t → lines_of (drop left held) ≡ take r after
      go true p =
          let some = ltb-true left (length held) p in
          let cut = wait some in
          let wrote : Put before 0 badlog after r = record { next = e.count ∙ rw (test true p) (omega arith); line = e.line ∙ rw (test true p) } in
          ap (λ (n : ℕ). lines_of (drop n held)) cut.0 ∙ lines_cut held (omega arith) cut.1.0 ∙
          sym (stood before badlog after 0 r (omega arith) wrote)
      go false p =
          let nothing = lines_none (drop left held) (omega (arith, ltb-false left (length held) p, length-drop left held)) in
          let zero-long : r ≡ 0 = e.count ∙ rw (test false p) in
          nothing ∙ sym (ap (λ (n : ℕ). take n after) zero-long)

  -- What is said of it, by where it ends.
  at-end : Counts logs held → said_behind left logs held ≡ said_at_end left logs (length held)
  at-end few = go (ltb (length held) left) refl (ltb left (length held)) refl
    where
      go : (s : Bool) → ltb (length held) left ≡ s → (t : Bool) → ltb left (length held) ≡ t →
          said_behind left logs held ≡ said_at_end left logs (length held)
      go true p t q = rw (p, lt-leb left (length held) (ltb-true (length held) left p))
      go false p true q =
          let some = ltb-true left (length held) q in
          let cut = wait some in
          rw (p, q, le-leb left (length held) (omega arith))
          (ap (λ (n : ℕ). said_from (suc logs) (drop n held)) cut.0 ∙
          said-cut (suc logs) held (omega arith) cut.1.0 cut.1.1 ∙
          ap cut_line (sym (numbered logs held few (omega arith))))
      go false p false q =
          let less = ltb-false left (length held) q in
          let same = ltb-false (length held) left p in
          rw (p, q, le-leb left (length held) (omega arith))
          (said-none (suc logs) (drop left held) (omega (arith, less, length-drop left held)))

  rest-said : {r : ℕ} {before after : List ℕ} → Cut left logs (length held) before r after → 60 ≤ length before → Counts logs held →
      said_behind left logs held ≡ take r after
  rest-said {r} {before} {after} e fits few =
      let words : List ℕ = said_at_end left logs (length held) in
      let fit = le-leb 60 (length before) fits in
      let wrote : Put before 0 words after r = record { next = e.count ∙ rw fit (sym (zero-add (length words))); line = e.line ∙ rw fit } in
      at-end few ∙ sym (stood before words after 0 r (omega arith) wrote)

run-lines : {left logs : ℕ} {held written told : List ℕ} {pieces : List (List ℕ)} → Run left logs held pieces written told →
    every is_byte (joined pieces) ≡ true
    → lines_of (drop left (held ++ joined pieces)) ≡ written
run-lines (takes {left} {logs} {held} {pieces} {written} {told} {out} {said} {b} k rest) bytes =
    k.lines (joined pieces) bytes ∙
    ap (λ (file : List ℕ). take b.written out ++ lines_of (drop b.left file)) (drop-append-le b.taken held (joined pieces) k.inside) ∙
    ap (λ (lines : List ℕ). take b.written out ++ lines) (run-lines rest bytes)
run-lines (reads {left} {logs} {held} {piece} {pieces} {written} {told} rest) bytes =
    ap (λ (file : List ℕ). lines_of (drop left file)) (sym (append_assoc held piece (joined pieces))) ∙ run-lines rest (later piece bytes)
  where
    later : (p : List ℕ) → every is_byte (p ++ joined pieces) ≡ true → every is_byte (joined pieces) ≡ true
    later [] h = h
    later (x ∷ p) h = later p (both (is_byte x) (every is_byte (p ++ joined pieces)) h).1
run-lines (ends {left} {logs} {held} {before} {unsaid} {after} {told} {r} wait e fits fits_said) bytes =
    ap (λ (file : List ℕ). lines_of (drop left file)) (append-nil held) ∙ rest_lines left logs held wait e.0 fits

run-said : {left logs : ℕ} {held written told : List ℕ} {pieces : List (List ℕ)} → Run left logs held pieces written told →
    Counts logs (held ++ joined pieces)
    → said_behind left logs (held ++ joined pieces) ≡ told
run-said (takes {left} {logs} {held} {pieces} {written} {told} {out} {said} {b} k rest) few =
    let behind : drop b.taken (held ++ joined pieces) ≡ drop b.taken held ++ joined pieces = drop-append-le b.taken held (joined pieces)
    k.inside in
    let few-behind : Counts b.logs (drop b.taken held ++ joined pieces) =
    omega (
      arith,
      few,
      k.counts,
      k.inside,
      length-append held (joined pieces),
      length-append (drop b.taken held) (joined pieces),
      length-drop b.taken held,
    )
    in
    k.says (joined pieces) few ∙
    ap (λ (file : List ℕ). take b.said said ++ said_behind b.left b.logs file) behind ∙
    ap (λ (text : List ℕ). take b.said said ++ text) (run-said rest few-behind)
run-said (reads {left} {logs} {held} {piece} {pieces} {written} {told} rest) few =
    let same = append_assoc held piece (joined pieces) in
    ap (said_behind left logs) (sym same) ∙ run-said rest (omega (arith, few, ap length same))
run-said (ends {left} {logs} {held} {before} {unsaid} {after} {told} {r} wait e fits fits_said) few =
    ap (said_behind left logs) (append-nil held) ∙ rest-said left logs held wait e.1 fits_said (omega (arith, few, ap length (append-nil held)))

pub however-it-comes : HoweverItComes
however-it-comes pieces written told bytes run = sym (run-lines run bytes)

pub however-it-is-said : HoweverItIsSaid
however-it-is-said pieces written told few run = sym (run-said run (omega arith)) ∙ nothing-over 0 (joined pieces)
