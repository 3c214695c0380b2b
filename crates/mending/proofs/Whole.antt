-- A whole log: nothing in it is to be mended. A mended log is whole, and a whole log is mended to itself.
use Prim.Native.Nat.{ℕ, ◌+◌, ◌*◌, ◌≤◌}
use native.Mathlib.Omega.{arith}
use mathlib.Core.Bool.{Bool, true, ◌&&◌}
use mathlib.Core.List.{List, ◌++◌}
use mathlib.Core.Path.{◌≡◌, refl, sym, ◌∙◌, ap, ap₂, subst⁻¹}
use lib.Dec.{leb}
use lib.ListN.{length, take, drop, length-drop, take-append-drop}
use lib.Seq.{take_all, drop-drop, take_at}
use borrow.Author.Tests.{le-leb}
use Rattle.rules.specs.Events.{event_size}
use Rattle.rules.specs.Logs.{Header, header_size, form_in, header_of, area}
use Rattle.rules.specs.Writing.{Sayable, put_header}
use Rattle.rules.proofs.Judging.{both}
use Rattle.rules.proofs.Writing.{writing}
use Rattle.mending.specs.Mend.{arguments_in, events_in, left_in, kept, mended_header, mended_log, report, mended, headed, argued, mend}
use Rattle.mending.proofs.Judged.{all_read, gives-log}
use Rattle.mending.proofs.Written.{length-area, length-mended, no_longer, header-out, kept_out}

-- Of the header h that stands in front of l.
pub record Whole (h : Header) (l : List ℕ) : Type 0 where
  pub short : length l ≤ 65535
  pub head : headed h l ≡ true
  pub front : put_header h ≡ take (header_size (form_in h)) l
  pub arguments : h.arguments_at ≡ header_size (form_in h)
  pub events : h.events_at ≡ header_size (form_in h) + h.arguments
  pub replies : h.replies_at ≡ header_size (form_in h) + h.arguments + h.events * event_size (form_in h)
  pub total : h.total ≡ header_size (form_in h) + h.arguments + h.events * event_size (form_in h) + h.replies
  pub full : h.total ≡ length l
  pub all : kept h l ≡ h.events

-- The areas of a log, one behind the other.
parts : (l : List ℕ) (a b c d : ℕ) → a + b + c + d ≡ length l → take a l ++ (area l a b ++ (area l (a + b) c ++ area l (a + b + c) d)) ≡ l
parts l a b c d e =
    let last : area l (a + b + c) d ≡ drop (a + b + c) l = take_all d (drop (a + b + c) l) (omega (arith, length-drop (a + b + c) l)) in
    rw (last, ← (drop-drop c (a + b) l), take-append-drop c (drop (a + b) l), ← (drop-drop b a l), take-append-drop b (drop a l), take-append-drop a l)

module _ (l : List ℕ) (w : Whole (header_of l) l) where
  abbrev h : Header
  h = header_of l

  all_left : length (left_in h l) ≡ h.replies
  all_left = omega (arith, length-area l (header_size (form_in h) + h.arguments + h.events * event_size (form_in h)) h.replies, w.total, w.full)

  same-header : mended_header h l ≡ h
  same-header =
      let n = all_left in
      let bytes = ap (λ (k : ℕ). k * event_size (form_in h)) w.all in
      let replies : header_size (form_in h) + h.arguments + kept h l * event_size (form_in h) ≡ h.replies_at = omega (arith, w.replies) in
      let total : header_size (form_in h) + h.arguments + kept h l * event_size (form_in h) + length (left_in h l) ≡ h.total = omega (arith, w.total) in
      λ i. record {
        version = h.version;
        call = h.call;
        flags = h.flags;
        value = h.value;
        sub = h.sub;
        address_length = h.address_length;
        size_length = h.size_length;
        listens = h.listens;
        arguments = h.arguments;
        arguments_at = sym w.arguments i;
        events = w.all i;
        events_at = sym w.events i;
        replies = n i;
        replies_at = replies i;
        total = total i;
        p2 = h.p2;
        star = h.star;
        overall = h.overall;
      }

  same_log : mended_log h l ≡ l
  same_log =
      let whole : length (events_in h l) ≤ kept h l * event_size (form_in h) =
      omega (arith, ap (λ (k : ℕ). k * event_size (form_in h)) w.all, length-area l (header_size (form_in h) + h.arguments) (h.events * event_size (form_in h)))
      in
      let front : put_header (mended_header h l) ≡ take (header_size (form_in h)) l = ap put_header same-header ∙ w.front in
      ap₂ (λ (s t : List ℕ). s ++ (arguments_in h l ++ (t ++ left_in h l))) front (take_all (kept h l * event_size (form_in h)) (events_in h l) whole) ∙
      parts l (header_size (form_in h)) h.arguments (h.events * event_size (form_in h)) h.replies (omega (arith, w.total, w.full))

  pub whole-mend : mend l ≡ mended l (report h h)
  whole-mend =
      let enough : argued h l ≡ true = le-leb (header_size (form_in h) + h.arguments) (length l) (omega (arith, w.total, w.full)) in
      all_read l w.short ∙ gives-log h l w.head enough ∙ ap₂ mended same_log (ap (report h) same-header)

-- A mended log is whole.
module _ (h : Header) (l : List ℕ) (said : Sayable (form_in h) 255 h.listens) (short : length l ≤ 65535) (head : headed h l ≡ true)
    (args : header_size (form_in h) + h.arguments ≤ length l) where
  pub mended-whole : Whole (header_of (mended_log h l)) (mended_log h l)
  mended-whole =
      let n = length-mended h l args in
      let known = (both (leb (header_size (form_in h)) (length l)) _ head).1 in
      let rest = arguments_in h l ++ (take (kept h l * event_size (form_in h)) (events_in h l) ++ left_in h l) in
      subst⁻¹ (λ (g : Header). Whole g (mended_log h l)) (header-out h l args said) (record {
        short = omega (arith, no_longer h l args);
        head = join (leb (header_size (form_in h)) (length (mended_log h l))) _ (le-leb (header_size (form_in h)) (length (mended_log h l)) (omega arith)) known;
        front = sym (take_at (put_header (mended_header h l)) rest (header_size (form_in h)) (writing.header-long (mended_header h l)));
        arguments = refl;
        events = refl;
        replies = refl;
        total = refl;
        full = sym n;
        all = kept_out h l args;
      })
    where
      join : (a b : Bool) → a ≡ true → b ≡ true → (a && b) ≡ true
      join a b p q = rw (p, q)
