-- A step is what it is in the phase that the engine is in.
use Prim.Native.Nat.{ℕ}
use mathlib.Core.List.{List}
use mathlib.Core.Path.{◌≡◌, sym, ap, subst⁻¹, ◌∙◌}
use Rattle.rules.specs.Events.{Entry}
use Rattle.steps.specs.declared.Engine.{Engine}
use Rattle.steps.specs.declared.Phase.{Phase}
use Rattle.steps.specs.Stepping.{Stepped, ticked, tick_of, HandsIn, Hands}

pub ticks : (e : Engine) (t : ℕ) {p : Phase} {r : Stepped} → e.phase ≡ p → r ≡ ticked e t p → r ≡ tick_of e t
ticks e t is h = h ∙ sym (ap (ticked e t) is)

pub hands : (e : Engine) (a s : List ℕ) (x : Entry) (replies : List ℕ) {p : Phase} {r : Stepped} → e.phase ≡ p → HandsIn e a s x replies p r → Hands e a s x replies r
hands e a s x replies {r = r} is h = record { means = subst⁻¹ (λ (p : Phase). HandsIn e a s x replies p r) is h }
