-- What was heard, checked again: a positive by its checks, any other outcome as it is.
use Prim.Native.Nat.{ℕ}
use mathlib.Core.Path.{◌≡◌, refl}
use mathlib.Core.List.{List}
use Rattle.rules.specs.Answers as rules
use Rattle.rules.specs.Answers.{if_positive}
use Rattle.exchange.specs.Meaning.{outcome_of}
use Rattle.exchange.specs.Places.{InsideOutcome}
use Rattle.exchange.specs.declared.types.Outcome.{Outcome}
use Rattle.exchange.specs.declared.types.Outcome.TheVariants as outcome

abbrev pub NotPositive : Outcome → Type 0
NotPositive (outcome.PositiveResponse p) = ⊥
NotPositive outcome.Suppressed = Unit {0}
NotPositive (outcome.NegativeResponse c) = Unit {0}
NotPositive outcome.Timeout = Unit {0}
NotPositive outcome.Disconnected = Unit {0}
NotPositive (outcome.Transport n) = Unit {0}
NotPositive (outcome.Fault f) = Unit {0}
NotPositive (outcome.Refused n) = Unit {0}
NotPositive outcome.PendingLimit = Unit {0}

module _ (replies : List ℕ) where
  stays : (o : Outcome) → NotPositive o → (f : rules.Part → rules.Outcome) → outcome_of replies o ≡ if_positive (outcome_of replies o) f (outcome_of replies o)
  stays (outcome.PositiveResponse p) n f = absurd n
  stays outcome.Suppressed n f = refl
  stays (outcome.NegativeResponse c) n f = refl
  stays outcome.Timeout n f = refl
  stays outcome.Disconnected n f = refl
  stays (outcome.Transport k) n f = refl
  stays (outcome.Fault e) n f = refl
  stays (outcome.Refused k) n f = refl
  stays outcome.PendingLimit n f = refl

  -- Only a positive names a place.
  nowhere : (o : Outcome) → NotPositive o → InsideOutcome replies o
  nowhere (outcome.PositiveResponse p) n = absurd n
  nowhere outcome.Suppressed n = n
  nowhere (outcome.NegativeResponse c) n = n
  nowhere outcome.Timeout n = n
  nowhere outcome.Disconnected n = n
  nowhere (outcome.Transport k) n = n
  nowhere (outcome.Fault e) n = n
  nowhere (outcome.Refused k) n = n
  nowhere outcome.PendingLimit n = n
