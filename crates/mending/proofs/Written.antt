-- The mended log: its length, and its areas as its own header finds them.
use Prim.Native.Nat.{ℕ, ◌+◌, ◌*◌, ◌-◌, ◌/◌, ◌≤◌, min}
use native.Mathlib.Omega.{arith}
use mathlib.Core.Bool.{true}
use mathlib.Core.List.{List, ◌++◌}
use mathlib.Core.Path.{◌≡◌, sym, ◌∙◌, ap}
use lib.ListN.{length, take, drop, length-append, length-take, length-drop}
use lib.Seq.{take_all, take-take, take_at, drop_at, drop-drop, take-length}
use Rattle.rules.specs.Bytes.{every, is_byte}
use Rattle.rules.specs.Events.{Form, plain, addressed, event_size, entries}
use Rattle.rules.specs.Logs.{Header, header_size, form_in, listens_at9, header_of, area}
use Rattle.rules.specs.Writing.{Sayable, put_header}
use Rattle.rules.proofs.Laying.{entries-length}
use Rattle.rules.proofs.Opened.{byte_at}
use Rattle.rules.proofs.Writing.{writing}
use Rattle.mending.specs.Mend.{arguments_in, events_in, left_in, kept, mended_header, kept_bytes, mended_log}
use Rattle.mending.proofs.Runs.{whole-fits, fewer, fewer_bytes, entries-take, run-le, run-again}

pub length-area : (l : List ℕ) (i n : ℕ) → length (area l i n) ≡ min n (length l - i)
length-area l i n = omega (arith, length-take n (drop i l), length-drop i l)

-- The address that a header of bytes says is one that its version can say.
pub sayable : (l : List ℕ) → every is_byte l ≡ true → Sayable (form_in (header_of l)) 255 (header_of l).listens
sayable l bytes = go (form_in (header_of l))
  where
    go : (form : Form) → Sayable form 255 (listens_at9 form l)
    go plain = omega (arith, byte_at l bytes 9)
    go addressed = tt

module _ (h : Header) (l : List ℕ) where
  abbrev size : ℕ
  size = event_size (form_in h)

  -- Where the events begin.
  abbrev start : ℕ
  start = header_size (form_in h) + h.arguments

  pub kept-few : kept h l ≤ 512
  kept-few = omega (arith, run-le 0 (length (left_in h l)) (take 512 (entries (form_in h) (events_in h l))), length-take 512 (entries (form_in h) (events_in h l)))

  pub kept_whole : kept h l * size ≤ length (events_in h l)
  kept_whole =
      let bs = events_in h l in
      whole-fits (form_in h) (kept h l) (length bs)
      (omega (
        arith,
        run-le 0 (length (left_in h l)) (take 512 (entries (form_in h) bs)),
        length-take 512 (entries (form_in h) bs),
        entries-length (form_in h) bs (length bs / size) 0,
      ))

  pub kept-promised : kept h l ≤ h.events
  kept-promised = fewer (form_in h) (kept h l) h.events (omega (arith, kept_whole, length-area l start (h.events * size)))

  pub length-kept : length (kept_bytes h l) ≡ kept h l * size
  length-kept = omega (arith, length-take (kept h l * size) (events_in h l), kept_whole)

  module _ (argued : start ≤ length l) where
    pub length-arguments : length (arguments_in h l) ≡ h.arguments
    length-arguments = omega (arith, length-area l (header_size (form_in h)) h.arguments)

    pub length-mended : length (mended_log h l) ≡ start + kept h l * size + length (left_in h l)
    length-mended =
        omega (
          arith,
          length-append (put_header (mended_header h l)) (arguments_in h l ++ (kept_bytes h l ++ left_in h l)),
          writing.header-long (mended_header h l),
          length-append (arguments_in h l) (kept_bytes h l ++ left_in h l),
          length-append (kept_bytes h l) (left_in h l),
          length-arguments,
          length-kept,
        )

    pub no_longer : length (mended_log h l) ≤ length l
    no_longer =
        omega (
          arith,
          length-mended,
          kept_whole,
          fewer_bytes (form_in h) (kept h l) h.events kept-promised,
          length-area l start (h.events * size),
          length-area l (start + h.events * size) h.replies,
        )

    -- What its own header finds in it.
    pub header-out : Sayable (form_in h) 255 h.listens → header_of (mended_log h l) ≡ mended_header h l
    header-out said = writing.header_read (mended_header h l) (arguments_in h l ++ (kept_bytes h l ++ left_in h l)) said

    behind-header : drop (header_size (form_in h)) (mended_log h l) ≡ arguments_in h l ++ (kept_bytes h l ++ left_in h l)
    behind-header = drop_at (put_header (mended_header h l)) (arguments_in h l ++ (kept_bytes h l ++ left_in h l)) (header_size (form_in h)) (writing.header-long (mended_header h l))

    behind-arguments : drop start (mended_log h l) ≡ kept_bytes h l ++ left_in h l
    behind-arguments =
        sym (drop-drop h.arguments (header_size (form_in h)) (mended_log h l)) ∙
        ap (drop h.arguments) behind-header ∙
        drop_at (arguments_in h l) (kept_bytes h l ++ left_in h l) h.arguments length-arguments

    pub arguments-out : arguments_in (mended_header h l) (mended_log h l) ≡ arguments_in h l
    arguments-out = ap (take h.arguments) behind-header ∙ take_at (arguments_in h l) (kept_bytes h l ++ left_in h l) h.arguments length-arguments

    pub events-out : events_in (mended_header h l) (mended_log h l) ≡ kept_bytes h l
    events-out = ap (take (kept h l * size)) behind-arguments ∙ take_at (kept_bytes h l) (left_in h l) (kept h l * size) length-kept

    pub left_out : left_in (mended_header h l) (mended_log h l) ≡ left_in h l
    left_out =
        ap (take (length (left_in h l)))
        (sym (drop-drop (kept h l * size) start (mended_log h l)) ∙
        ap (drop (kept h l * size)) behind-arguments ∙
        drop_at (kept_bytes h l) (left_in h l) (kept h l * size) length-kept) ∙
        take-length (left_in h l)

    pub entries-out : entries (form_in h) (kept_bytes h l) ≡ take (kept h l) (entries (form_in h) (events_in h l))
    entries-out = entries-take (form_in h) (events_in h l) (kept h l) kept_whole

    pub kept_out : kept (mended_header h l) (mended_log h l) ≡ kept h l
    kept_out =
        let es = entries (form_in h) (events_in h l) in
        let k = kept h l in
        let short : length (take k es) ≤ 512 = omega (arith, length-take k es, kept-few) in
        let same : take 512 (entries (form_in h) (kept_bytes h l)) ≡ take k (take 512 es) =
        ap (take 512) entries-out ∙ take_all 512 (take k es) short ∙ sym (take-take k 512 es kept-few)
        in
        rw (events-out, left_out, same) (run-again 0 (length (left_in h l)) (take 512 es))
