-- Refusals come from the tests before the exchange alone: an exchange is never refused, in either mode.
use Prim.Native.Nat.{ℕ}
use mathlib.Core.Bool.{Bool}
use mathlib.Core.List.{List}
use mathlib.Core.Option.{Option}
use Rattle.rules.specs.Answers.{Part, Outcome, positive, suppressed, negative, timeout, pending_limit, disconnected, transport, fault, refused}
use Rattle.rules.specs.Demand3.{Refused}
use Rattle.rules.specs.Events.{Event}
use Rattle.rules.specs.Exchange.{Asked, exchange}
use Rattle.rules.proofs.Inside.{Headed, exchange-headed}

unrefused : (sub : Option ℕ) (p : Part) (o : Outcome) → Headed sub p o → ¬ Refused o
unrefused sub p (positive d) h = λ r. r
unrefused sub p suppressed h = λ r. r
unrefused sub p (negative n) h = λ r. r
unrefused sub p timeout h = λ r. r
unrefused sub p pending_limit h = λ r. r
unrefused sub p disconnected h = λ r. r
unrefused sub p (transport n) h = λ r. r
unrefused sub p (fault f) h = λ r. r
unrefused sub p (refused n) h = λ r. h

pub exchange-unrefused : (strict : Bool) (a : Asked) (overall : Option ℕ) (es : List Event) → ¬ Refused (exchange strict a overall es).outcome
exchange-unrefused strict a overall es = let x = exchange strict a overall es in unrefused a.sub x.reply x.outcome (exchange-headed strict a overall es)
