-- The events for a log, behind each reply.
use Prim.Native.Nat.{ℕ, ◌+◌, ◌*◌, ◌-◌, ◌/◌, ◌≤◌, ◌<◌}
use native.Mathlib.Omega.{arith}
use mathlib.Core.Bool.{Bool, true, false, cond}
use mathlib.Core.List.{List, [], ◌++◌, append_assoc}
use mathlib.Core.Option.{Option, none, some}
use mathlib.Core.Path.{◌≡◌, refl, sym, ◌∙◌, ap, ap₂}
use lib.ListN.{length, take, drop, length-append, length-drop}
use lib.Seq.{length-take-le, take-append-le, take-take, take-add, take_at, drop_at, drop-drop, drop-append-le}
use borrow.Author.Tests.{le-leb}
use borrow.Rule.Slice.PartMut.{put_mid}
use Rattle.rules.specs.Events.{plain}
use Rattle.rules.specs.Writing.{put_entry}
use Rattle.wire.specs.Buffers.{Copied, with}
use Rattle.importing.specs.Kept as kept
use Rattle.importing.specs.Kept.{replied, overflowed, note_drop, note_reply, note_given, note, fits_in, entry, log_reply, log_given}
use Rattle.imports.specs.Held.{tally_of, held_log, log_in, log_of}
use Rattle.imports.specs.declared.Tally.{Tally}

-- A copy that fits: what stands up to its end, and what stands behind it.
module _ (l m a : List ℕ) (at : ℕ) {done : Bool} (room : at + length a ≤ length l) (p : Copied l at a done m) where
  copied : m ≡ take at l ++ (a ++ drop (at + length a) l)
  unfolding with
  copied = p.buffer ∙ rw (le-leb (at + length a) (length l) room) (append_assoc (take at l) a (drop (at + length a) l))

  there : length (take at l) ≡ at
  there = length-take-le at l (omega arith)

  long : length (take at l ++ a) ≡ at + length a
  long = rw (length-append, there)

  up-to : take (at + length a) m ≡ take at l ++ a
  up-to =
      ap (take (at + length a)) (copied ∙ sym (append_assoc (take at l) a (drop (at + length a) l)))
      ∙ take_at (take at l ++ a) (drop (at + length a) l) (at + length a) long

  before : (n : ℕ) → n ≤ at → take n m ≡ take n l
  before n h =
      ap (take n) copied ∙ take-append-le n (take at l) (a ++ drop (at + length a) l) (omega (arith, there)) ∙ take-take n at l h

  behind : (n : ℕ) → drop (at + length a + n) m ≡ drop (at + length a + n) l
  behind n =
      sym (drop-drop n (at + length a) m)
      ∙ ap (λ (x : List ℕ). drop n (drop (at + length a) x)) (copied ∙ sym (append_assoc (take at l) a (drop (at + length a) l)))
      ∙ ap (drop n) (drop_at (take at l ++ a) (drop (at + length a) l) (at + length a) long)
      ∙ drop-drop n (at + length a) l

  same : length m ≡ length l
  same = rw (copied, length-append, length-append, length-drop, there) (omega arith)

-- What a copy is to a slice of the buffer is one of its own.
pub copied-there : (l a : List ℕ) (at n : ℕ) → at + length a ≤ length l → n ≡ length a → Copied l at a true (put_mid at n l a)
unfolding with
copied-there l a at n room e =
    let fits = le-leb (at + length a) (length l) room in
    record { told = sym fits; buffer = rw (fits, e, drop-drop (length a) at l) (sym (append_assoc (take at l) a (drop (at + length a) l))) }

-- An event put behind e others, and its reply behind b bytes.
module _ (l m o a r : List ℕ) (e b : ℕ) {done done' : Bool} (whole : length l ≡ 70655) (ten : length a ≡ 10) (few : e < 512) (short : b + length r ≤ 65535)
    (p : Copied l (e * 10) a done m) (q : Copied m (5120 + b) r done' o) where
  fits : e * 10 + length a ≤ length l
  fits = omega arith

  fits-too : 5120 + b + length r ≤ length m
  fits-too = omega (arith, same l m a (e * 10) fits p)

  events : take ((e + 1) * 10) o ≡ take (e * 10) l ++ a
  events =
      let next : (e + 1) * 10 ≡ e * 10 + length a = omega arith in
      before m o r (5120 + b) fits-too q ((e + 1) * 10) (omega arith) ∙ ap (λ (n : ℕ). take n m) next ∙ up-to l m a (e * 10) fits p

  replies : take (b + length r) (drop 5120 o) ≡ take b (drop 5120 l) ++ r
  replies =
      let n = 5110 - e * 10 in
      let cut : (x : List ℕ) (k : ℕ) → 5120 + k ≤ length x → take k (drop 5120 x) ≡ drop 5120 (take (5120 + k) x) =
      λ x k h. sym (ap (drop 5120) (take-add 5120 k x) ∙ drop_at (take 5120 x) (take k (drop 5120 x)) 5120 (length-take-le 5120 x (omega arith))) in
      let end : 5120 + (b + length r) ≡ 5120 + b + length r = omega arith in
      let size = same l m a (e * 10) fits p in
      let size-too = same m o r (5120 + b) fits-too q in
      let old : drop 5120 m ≡ drop 5120 l =
      let k : e * 10 + length a + n ≡ 5120 = omega arith in
      ap (λ (x : ℕ). drop x m) (sym k) ∙ behind l m a (e * 10) fits p n ∙ ap (λ (x : ℕ). drop x l) k in
      cut o (b + length r) (omega arith)
      ∙ ap (drop 5120) (ap (λ (x : ℕ). take x o) end ∙ up-to m o r (5120 + b) fits-too q)
      ∙ drop-append-le 5120 (take (5120 + b) m) r (omega (arith, length-take-le (5120 + b) m (omega arith)))
      ∙ ap (λ (x : List ℕ). x ++ r) (sym (cut m b (omega arith)) ∙ ap (take b) old)

  pub grown : held_log ((e + 1) * 10) (b + length r) o ≡ kept.log (take (e * 10) l ++ a) (take b (drop 5120 l) ++ r)
  grown = ap₂ kept.log events replies

-- A reply that fits.
module _ (t : Tally) (ms : ℕ) (m l : List ℕ) {f : Bool} (ef : f ≡ fits_in t.events t.bytes ms (length m)) where
  pub put_in : (after : List ℕ) → f ≡ true →
      held_log ((t.events + 1) * 10) (t.bytes + length m) after ≡
      kept.log (take (t.events * 10) l ++ put_entry plain (entry ms t.bytes (length m))) (take t.bytes (drop 5120 l) ++ m) →
      log_in (note_reply 0 ms m (tally_of t [])) after ≡ log_reply ms m (tally_of t []) (log_of t l)
  put_in after e h = rw (← ef) (go f e)
    where
      go : (b : Bool) → b ≡ true →
          log_in (cond b (replied 0 ms m (tally_of t [])) (overflowed (tally_of t []))) after ≡ cond b (kept.logged ms m (tally_of t []) (log_of t l)) (log_of t l)
      go true e = h
      go false e = let z : ◌≡◌ {A = ℕ} 0 1 = ap (λ (b : Bool). cond b 1 0) e in absurd (omega arith)

-- The counts do not depend on the text, nor on what else the line tells.
module _ (t : Tally) (out l : List ℕ) (room n time : ℕ) where
  given-counts : (d : Bool) (s : Option ℕ) (asked answered : Option (List ℕ)) →
      log_in (note_given room s n time asked answered (cond d (note_drop room n (tally_of t out)) (tally_of t out))) l ≡
      log_in (note_given 0 s 0 time none answered (tally_of t [])) l
  given-counts true none none answered = refl
  given-counts false none none answered = refl
  given-counts true none (some m) answered = refl
  given-counts false none (some m) answered = refl
  given-counts true (some s) asked none = refl
  given-counts false (some s) asked none = refl
  given-counts true (some s) asked (some m) = go (fits_in t.events t.bytes ((time - s) / 1000) (length m))
    where
      go : (f : Bool) → log_in (cond f (replied room ((time - s) / 1000) m (note_drop room n (tally_of t out))) (overflowed (note_drop room n (tally_of t out)))) l ≡
          log_in (cond f (replied 0 ((time - s) / 1000) m (tally_of t [])) (overflowed (tally_of t []))) l
      go true = refl
      go false = refl
  given-counts false (some s) asked (some m) = go (fits_in t.events t.bytes ((time - s) / 1000) (length m))
    where
      go : (f : Bool) → log_in (cond f (replied room ((time - s) / 1000) m (tally_of t out)) (overflowed (tally_of t out))) l ≡
          log_in (cond f (replied 0 ((time - s) / 1000) m (tally_of t [])) (overflowed (tally_of t []))) l
      go true = refl
      go false = refl

  pub counts : (d : Bool) (asked answered : Option (List ℕ)) →
      log_in (note room n time d asked answered (tally_of t out)) l ≡ log_in (note_given 0 (tally_of t out).start 0 time none answered (tally_of t [])) l
  unfolding note
  counts d asked answered = given-counts d (tally_of t out).start asked answered

  -- And neither do the events.
  pub same-given : (s : Option ℕ) (answered : Option (List ℕ)) (g : kept.Log) → log_given s time answered (tally_of t []) g ≡ log_given s time answered (tally_of t out) g
  unfolding log_given
  same-given none answered g = refl
  same-given (some s) none g = refl
  same-given (some s) (some m) g = refl
