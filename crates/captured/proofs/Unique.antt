-- At most one answer and one buffer fit the contract of `capture`.
use Prim.Native.Nat.{ℕ}
use mathlib.Core.List.{List}
use mathlib.Core.Path.{◌≡◌, sym, ◌∙◌}
use Rattle.rules.specs.Events.{Entry}
use Rattle.captured.specs.Capture as capture
use Rattle.captured.specs.Capture.{capture}
use Rattle.captured.specs.Answered.{Says, Captures}
use Rattle.captured.specs.declared.NoCapture.{NoCapture}
use Rattle.std.specs.Prelude.{Result}

says-once : (x : capture.Captured) {r q : Result ℕ NoCapture} → Says x r → Says x q → r ≡ q
says-once (capture.log l) k h = k ∙ sym h
says-once capture.too_long k h = k ∙ sym h
says-once capture.no_call k h = k ∙ sym h

pub capture-unique : (call : List ℕ) (es : List Entry) (rs before : List ℕ) {r q : Result ℕ NoCapture} {after after' : List ℕ} → Captures call es rs before r after
    → Captures call es rs before q after' → (r ≡ q) × (after ≡ after')
capture-unique call es rs before k h = (says-once (capture call es rs) k.answer h.answer, k.buffer ∙ sym h.buffer)
