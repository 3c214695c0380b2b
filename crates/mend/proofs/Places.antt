-- Where the header of a mended log says that its areas stand, and the log as they are written.
use Prim.Native.Nat.{ℕ, ◌+◌, ◌-◌, ◌*◌, ◌≤◌}
use native.Mathlib.Omega.{arith}
use mathlib.Core.Bool.{Bool}
use mathlib.Core.List.{List}
use mathlib.Core.Path.{◌≡◌, ◌∙◌, ap, subst}
use lib.ListN.{length, take}
use borrow.Rule.Slice.PartMut.{put_mid}
use Rattle.rules.specs.Events.{event_size}
use Rattle.rules.specs.Logs.{Header, header_size, form_in}
use Rattle.rules.specs.Writing.{put_header}
use Rattle.rules.proofs.Writing.{writing}
use Rattle.wire.specs.Buffers.{Copied, with}
use Rattle.logs.specs.Layout.{said}
use Rattle.logs.specs.declared.header.Header as Code
use Rattle.mending.specs.Mend.{arguments_in, events_in, left_in, kept, kept_bytes, mended_header, mended_log}
use Rattle.mending.proofs.Written.{kept_whole, length-kept, length-arguments}
use Rattle.mend.proofs.Copies.{four}

-- Each area stands where the one before it ends.
module _ (new : Code.Header) (old : Header) (l : List ℕ) (e : said new ≡ mended_header old l) where
  abbrev header : List ℕ
  header = put_header (mended_header old l)

  behind-header : new.arguments_at ≡ length header
  behind-header = omega (arith, ap (λ (h : Header). h.arguments_at) e, writing.header-long (mended_header old l))

  behind-events : new.replies_at ≡ new.events_at + length (kept_bytes old l)
  behind-events = omega (arith, ap (λ (h : Header). h.events_at) e, ap (λ (h : Header). h.replies_at) e, length-kept old l)

  behind-replies : new.total ≡ new.replies_at + length (left_in old l)
  behind-replies = omega (arith, ap (λ (h : Header). h.replies_at) e, ap (λ (h : Header). h.total) e)

  -- So many bytes of the events are kept: there are as many.
  pub events-whole : new.replies_at - new.events_at ≤ length (events_in old l)
  events-whole = omega (arith, ap (λ (h : Header). h.events_at) e, ap (λ (h : Header). h.replies_at) e, kept_whole old l)

  pub kept-cut : take (new.replies_at - new.events_at) (events_in old l) ≡ kept_bytes old l
  kept-cut =
      let size : new.replies_at - new.events_at ≡ kept old l * event_size (form_in old) =
      omega (arith, ap (λ (h : Header). h.events_at) e, ap (λ (h : Header). h.replies_at) e) in
      ap (λ (n : ℕ). take n (events_in old l)) size

  module _ (whole : header_size (form_in old) + old.arguments ≤ length l) where
    behind-arguments : new.events_at ≡ new.arguments_at + length (arguments_in old l)
    behind-arguments = omega (arith, ap (λ (h : Header). h.arguments_at) e, ap (λ (h : Header). h.events_at) e, length-arguments old l whole)

    pub all-put : {out m a k r : List ℕ} {done : Bool} → new.total ≤ length out → Copied out 0 (put_header (said new)) done m →
        a ≡ arguments_in old l → k ≡ kept_bytes old l → r ≡ left_in old l →
        put_mid new.replies_at (new.total - new.replies_at)
        (put_mid new.events_at (new.replies_at - new.events_at) (put_mid new.arguments_at (new.events_at - new.arguments_at) m a) k) r ≡
        with out 0 (mended_log old l)
    all-put {out} {m} {a} {k} {r} {done} room headed ea ek er =
        let long-a : length a ≡ length (arguments_in old l) = ap (λ (x : List ℕ). length x) ea in
        let long-k : length k ≡ length (kept_bytes old l) = ap (λ (x : List ℕ). length x) ek in
        let long-r : length r ≡ length (left_in old l) = ap (λ (x : List ℕ). length x) er in
        four header a k r out (omega (arith, behind-header, behind-arguments, behind-events, behind-replies))
        (subst (λ (h : Header). Copied out 0 (put_header h) done m) e headed)
        behind-header (omega (arith, behind-arguments)) (omega (arith, behind-events))
        (omega (arith, behind-arguments)) (omega (arith, behind-events)) (omega (arith, behind-replies))
        ∙ ap (with out 0) (rw (ea, ek, er))
