-- What is answered, and what then stands in the lent buffer.
use Rattle.std.specs.Prelude.{ℕ, ◌+◌, ◌*◌, ◌≤◌, List, ◌≡◌, length, Result, Ok, Err}
use Rattle.rules.specs.Events.{Entry, event_size}
use Rattle.rules.specs.Logs.{Header, header_size, form_in}
use Rattle.wire.specs.Buffers.{with}
use Rattle.captured.specs.Capture as capture
use Rattle.captured.specs.Capture.{capture}
use Rattle.captured.specs.declared.NoCapture.{NoCapture}
use Rattle.captured.specs.declared.NoCapture.TheVariants.{TooLong, NoCall}

-- Where the parts of a log stand, of so many argument bytes, events and reply bytes.
pub record Places (h : Header) (a n r : ℕ) : Type 0 where
  pub arguments : h.arguments_at ≡ header_size (form_in h)
  pub events : h.events_at ≡ header_size (form_in h) + a
  pub replies : h.replies_at ≡ header_size (form_in h) + a + n * event_size (form_in h)
  pub end : header_size (form_in h) + a + n * event_size (form_in h) + r ≤ 65535

abbrev pub Says : capture.Captured → Result ℕ NoCapture → Type 0
Says (capture.log l) r = r ≡ Ok (length l)
Says capture.too_long r = r ≡ Err TooLong
Says capture.no_call r = r ≡ Err NoCall

abbrev pub left : capture.Captured → List ℕ → List ℕ
left (capture.log l) out = with out 0 l
left capture.too_long out = out
left capture.no_call out = out

abbrev pub Inside : capture.Captured → List ℕ → Type 0
Inside (capture.log l) out = length l ≤ length out
Inside capture.too_long out = Unit {0}
Inside capture.no_call out = Unit {0}

-- The log stands at the buffer's front, all of it, and the rest keeps its bytes.
pub record Captures (call : List ℕ) (es : List Entry) (rs before : List ℕ) (r : Result ℕ NoCapture) (after : List ℕ) : Type 0 where
  pub answer : Says (capture call es rs) r
  pub buffer : after ≡ left (capture call es rs) before
  pub inside : Inside (capture call es rs) before
