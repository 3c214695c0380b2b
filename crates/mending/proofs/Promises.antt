-- What request Ten promises of mending, proved.
use Prim.Native.Nat.{ℕ, ◌+◌, ◌*◌, ◌/◌, ◌≤◌, min}
use native.Mathlib.Omega.{arith}
use mathlib.Core.Bool.{true, ◌&&◌}
use mathlib.Core.List.{List}
use mathlib.Core.Path.{◌≡◌, refl, sym, ◌∙◌, ap, subst}
use lib.ListN.{length, take, length-take}
use borrow.Author.Tests.{le-leb, eq-eqb}
use Rattle.rules.specs.Bytes.{every, is_byte}
use Rattle.rules.specs.Events.{event_size, entries_from, entries}
use Rattle.rules.specs.Logs.{Header, header_size, form_in, header_of, uses_of, fields_ok, event_ok, event_bytes, layout_ok}
use Rattle.rules.proofs.Writing.{every_take}
use Rattle.mending.specs.Mend.{events_in, left_in, run, kept, mended_header, mended_log, Report, report, mended, headed, argued, mending, readable, mend}
use Rattle.mending.specs.Promises.{entries_of, Unchanged, NothingTold, Twice, Run, Longest, Kept, KeepsTheOld, NoLonger, OnlyBad, StillBad}
use Rattle.mending.proofs.Bytes.{bytes-mended}
use Rattle.mending.proofs.Judged.{all_read, gives-log, never, came, carried}
use Rattle.mending.proofs.Runs.{fits_whole, fewer_bytes, take-from, good-run, good-most, good-at, good-rising, good_of}
use Rattle.mending.proofs.Taken.{laid, short, taken-whole, whole-layout}
use Rattle.mending.proofs.Whole.{Whole, whole-mend, mended-whole}
use Rattle.mending.proofs.Written.{length-area, sayable, kept-few, kept_whole, kept-promised, no_longer, header-out, arguments-out, events-out, left_out, entries-out}

pub unchanged : Unchanged
unchanged l t = whole-mend l (taken-whole l t)

pub nothing-told : NothingTold
nothing-told h =
    rw (
      eq-eqb h.arguments_at h.arguments_at refl,
      eq-eqb h.events h.events refl,
      eq-eqb h.events_at h.events_at refl,
      eq-eqb h.replies h.replies refl,
      eq-eqb h.replies_at h.replies_at refl,
      eq-eqb h.total h.total refl,
    )

read_short : (l : List ℕ) → (length (readable l) ≤ 65535) × (length (readable l) ≤ length l)
read_short l = let n = length-take 65535 l in (omega arith, omega arith)

-- Of bytes that are read, their header in front: the log that is written.
module _ (m : List ℕ) (bytes : every is_byte m ≡ true) (small : length m ≤ 65535) (head : headed (header_of m) m ≡ true)
    (args : header_size (form_in (header_of m)) + (header_of m).arguments ≤ length m) where
  abbrev h : Header
  h = header_of m

  abbrev result : List ℕ
  result = mended_log h m

  out-header : header_of result ≡ mended_header h m
  out-header = header-out h m args (sayable m bytes)

  out-whole : Whole (header_of result) result
  out-whole = mended-whole h m (sayable m bytes) small head args

  again : mend result ≡ mended result (report (mended_header h m) (mended_header h m))
  again = whole-mend result out-whole ∙ ap (λ (g : Header). mended result (report g g)) out-header

  out-entries : entries_of result ≡ take (kept h m) (entries (form_in h) (events_in h m))
  out-entries =
      ap (λ (g : Header). entries (form_in g) (event_bytes g result)) out-header ∙
      ap (λ (bs : List ℕ). entries (form_in h) bs) (events-out h m args) ∙
      entries-out h m args

pub twice : Twice
twice l out r bytes e =
    let c = came l out r e in
    carried (λ o x. mend o ≡ mended o (report x.new x.new)) l out r c
    (again (readable l) (every_take is_byte 65535 l bytes) (read_short l).0 c.head c.whole)

pub keeps-the-old : KeepsTheOld
keeps-the-old l out r bytes e =
    let m = readable l in
    let c = came l out r e in
    let b = every_take is_byte 65535 l bytes in
    let s = (read_short l).0 in
    let h = header_of m in
    carried (λ o x. Kept l o x) l out r c (record {
      old = refl;
      new = sym (out-header m b s c.head c.whole);
      same = refl;
      arguments = arguments-out h m c.whole;
      events = events-out h m c.whole;
      entries = out-entries m b s c.head c.whole;
      replies = left_out h m c.whole;
    })

pub no-longer-than-it : NoLonger
no-longer-than-it l out r bytes e =
    let m = readable l in
    let c = came l out r e in
    let s = read_short l in
    let n = no_longer (header_of m) m c.whole in
    carried (λ o x. (every is_byte o ≡ true) × (length o ≤ length l) × (length o ≤ 65535)) l out r c
    (bytes-mended m (every_take is_byte 65535 l bytes) s.0 c.whole, omega arith, omega arith)

pub still-bad : StillBad
still-bad l out r bytes e =
    let m = readable l in
    let c = came l out r e in
    carried (λ o x. let h = header_of o in layout_ok o ≡ (every event_ok (entries_of o) && fields_ok h (uses_of h.call))) l out r c
    (whole-layout (mended_log (header_of m) m) (out-whole m (every_take is_byte 65535 l bytes) (read_short l).0 c.head c.whole))

pub only-bad : OnlyBad
only-bad l bytes ok n e =
    let k = laid l ok in
    let h = header_of l in
    let enough : argued h l ≡ true = le-leb (header_size (form_in h) + h.arguments) (length l) (omega (arith, k.total, k.full)) in
    never n (sym e ∙ all_read l (short l bytes k) ∙ gives-log h l k.head enough)

-- The run, event by event.
module _ (m : List ℕ) where
  abbrev found : Header
  found = header_of m

  abbrev size : ℕ
  size = event_size (form_in found)

  abbrev events : List ℕ
  events = events_in found m

  abbrev left : ℕ
  left = length (left_in found m)

  -- So many events are looked at.
  abbrev looked : ℕ
  looked = min 512 (length events / size)

  counted : kept found m ≡ run 0 left (entries_from (form_in found) events looked 0)
  counted = ap (run 0 left) (take-from (form_in found) events 512 (length events / size) 0)

  a-run : header_size (form_in found) + found.arguments ≤ length m → Run m (kept found m)
  a-run whole =
      let k = kept found m in
      let g = rw (← counted) at (good-run (form_in found) left events 0 looked 0) in
      let start = header_size (form_in found) + found.arguments in
      record {
        promised = kept-promised found m;
        few = kept-few found m;
        whole = omega (arith, kept_whole found m, length-area m start (found.events * size));
        known = λ i p. (good-at (form_in found) left events 0 0 k g i (omega arith) (omega arith)).0;
        rising = λ i p. good-rising (form_in found) left events 0 0 k g i (omega arith) (omega arith);
        inside = λ i p. (good-at (form_in found) left events 0 0 k g i (omega arith) (omega arith)).1;
      }

  most : (k : ℕ) → Run m k → k ≤ kept found m
  most k u =
      let start = header_size (form_in found) + found.arguments in
      let fits =
      fits_whole (form_in found) k (length events) (omega (arith, fewer_bytes (form_in found) k found.events u.promised, u.whole, length-area m start (found.events * size)))
      in
      let few : k ≤ looked = omega (arith, u.few) in
      rw counted
      (good-most (form_in found) left events 0 looked 0 k few
      (good_of (form_in found) left events 0 0 k (λ p. omega arith) (λ j p q. (u.known j (omega arith), u.inside j (omega arith))) (λ j p q. u.rising j (omega arith))))

pub longest : Longest
longest l out r e =
    let c = came l out r e in
    let n = ap (λ (x : Report). x.new.events) c.told in (
      subst (λ (k : ℕ). Run (readable l) k) n (a-run (readable l) c.whole),
      subst (λ (n : ℕ). (k : ℕ) → Run (readable l) k → k ≤ n) n (most (readable l)),
    )
