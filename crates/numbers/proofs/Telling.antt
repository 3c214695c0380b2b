-- The numbers of an answer: a place inside the lent reply bytes is as long as the bytes that stand there.
use Prim.Native.Nat.{ℕ, ◌+◌, ◌≤◌}
use native.Mathlib.Omega.{arith}
use mathlib.Core.Path.{◌≡◌, sym, ◌∙◌}
use mathlib.Core.List.{List, []}
use lib.ListN.{length, replicate, length-replicate, length-take, length-drop}
use Rattle.exchange.specs.Meaning.{part_of}
use Rattle.exchange.specs.Places.{Inside, InsideOutcome}
use Rattle.exchange.specs.declared.types.Place.{Place}
use Rattle.exchange.specs.declared.types.Outcome.{Outcome}
use Rattle.exchange.specs.declared.types.Outcome.TheVariants as outcome
use Rattle.exchange.specs.declared.types.Outcome.TheVariants.{PositiveResponse}
use Rattle.calls.specs.declared.Answered.{Answered}
use Rattle.numbers.specs.Numbers.{Tells}

pub long : (replies : List ℕ) (p : Place) → Inside replies p → length (part_of replies p).bytes ≡ p.len
long replies p h = simp (length-take, length-drop) (omega arith)

-- Some reply bytes are long enough for the place of an outcome, and for one more.
abbrev pub needs : Outcome → ℕ
needs (PositiveResponse p) = p.at + p.len
needs outcome.Suppressed = 0
needs (outcome.NegativeResponse c) = 0
needs outcome.Timeout = 0
needs outcome.Disconnected = 0
needs (outcome.Transport n) = 0
needs (outcome.Fault f) = 0
needs (outcome.Refused n) = 0
needs outcome.PendingLimit = 0

pub long-enough : (o : Outcome) (replies : List ℕ) → needs o ≤ length replies → InsideOutcome replies o
long-enough (PositiveResponse p) replies h = h
long-enough outcome.Suppressed replies h = tt
long-enough (outcome.NegativeResponse c) replies h = tt
long-enough outcome.Timeout replies h = tt
long-enough outcome.Disconnected replies h = tt
long-enough (outcome.Transport n) replies h = tt
long-enough (outcome.Fault f) replies h = tt
long-enough (outcome.Refused n) replies h = tt
long-enough outcome.PendingLimit replies h = tt

-- At most one list of numbers tells an answer.
pub tells-unique : (x : Answered) {told told' : List ℕ} → Tells x told → Tells x told' → told ≡ told'
tells-unique x h h' =
    let o = x.answer.outcome in
    let p = x.answer.reply in
    let n = needs o + (p.at + p.len) in
    let replies : List ℕ = replicate n 0 in
    let long : length replies ≡ n = length-replicate n 0 in
    let fits = long-enough o replies (omega (arith, long)) in
    h replies [] fits (omega (arith, long)) ∙ sym (h' replies [] fits (omega (arith, long)))
