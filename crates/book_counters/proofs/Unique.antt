-- At most one answer fits each contract.
use Rattle.std.specs.Prelude as code
use Rattle.std.specs.Prelude.{Some, None}
use Prim.Native.Nat.{ℕ}
use mathlib.Core.Bool.{true≢false}
use mathlib.Core.List.{List, []}
use mathlib.Core.Path.{◌≡◌, refl, sym, ◌∙◌, ap}
use Rattle.exchange.specs.Meaning.{outcome_of}
use Rattle.exchange.specs.declared.types.Outcome.{Outcome}
use Rattle.exchange.specs.declared.types.Outcome.TheVariants as outcome
use Rattle.bookkeeping.specs.Summary as Summary
use Rattle.bookkeeping.specs.Summary.{class_in}
use Rattle.book_counters.specs.declared.Class.{Class}
use Rattle.book_counters.specs.declared.Class.TheVariants as code_class
use Rattle.book_counters.specs.Counted.{CountsAt, meant}

pub counted-unique : (l : List ℕ) (r q : code.Option ℕ) → CountsAt l r → CountsAt l q → r ≡ q
counted-unique l (Some p) (Some o) k h = ap Some (k.1 ∙ sym h.1)
counted-unique l (Some p) None k h = absurd (true≢false (sym k.0 ∙ h))
counted-unique l None (Some o) k h = absurd (true≢false (sym h.0 ∙ k))
counted-unique l None None k h = refl

-- The reply bytes play no part in the class.
pub same_class : (replies : List ℕ) (o : Outcome) → class_in (outcome_of [] o) ≡ class_in (outcome_of replies o)
same_class replies (outcome.PositiveResponse p) = refl
same_class replies outcome.Suppressed = refl
same_class replies (outcome.NegativeResponse c) = refl
same_class replies outcome.Timeout = refl
same_class replies outcome.Disconnected = refl
same_class replies (outcome.Transport n) = refl
same_class replies (outcome.Fault f) = refl
same_class replies (outcome.Refused n) = refl
same_class replies outcome.PendingLimit = refl

-- The class in code.
abbrev class_back : Summary.Class → Class
class_back Summary.positive = code_class.Positive
class_back (Summary.negative code) = code_class.Negative code
class_back Summary.suppressed = code_class.Suppressed
class_back Summary.timed_out = code_class.TimedOut
class_back Summary.deviating = code_class.Deviating
class_back Summary.other = code_class.Other

meant-back : (c : Class) → class_back (meant c) ≡ c
meant-back code_class.Positive = refl
meant-back (code_class.Negative code) = refl
meant-back code_class.Suppressed = refl
meant-back code_class.TimedOut = refl
meant-back code_class.Deviating = refl
meant-back code_class.Other = refl

-- At most one class in code means a class.
pub class-unique : (c d : Class) → meant c ≡ meant d → c ≡ d
class-unique c d e = sym (meant-back c) ∙ ap class_back e ∙ meant-back d
