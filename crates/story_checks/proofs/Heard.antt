-- By whether a reply was heard as a positive.
use Prim.Native.Nat.{ℕ}
use mathlib.Core.Bool.{Bool, true, false, true≢false}
use mathlib.Core.List.{List, []}
use mathlib.Core.Path.{◌≡◌, refl}
use Rattle.rules.specs.Answers as answers
use Rattle.rules.specs.Answers.{Outcome, if_positive}
use Rattle.telling.specs.Checks.{is_positive}
use Rattle.requests.specs.declared.Call.{Call}
use Rattle.story_checks.specs.Coded.{checks_by}

if-not : (o : Outcome) (x : List ℕ) → is_positive o ≡ false → [] ≡ if_positive o (λ p. x) []
if-not (answers.positive p) x e = absurd (true≢false e)
if-not answers.suppressed x e = refl
if-not (answers.negative n) x e = refl
if-not answers.timeout x e = refl
if-not answers.pending_limit x e = refl
if-not answers.disconnected x e = refl
if-not (answers.transport n) x e = refl
if-not (answers.fault f) x e = refl
if-not (answers.refused n) x e = refl

pub none_told : (strict : Bool) (k : Call) (a s : ℕ) (r : List ℕ) (heard after : Outcome) → is_positive heard ≡ false → [] ≡ checks_by strict k a s r heard after
none_told true k a s r heard after e = if-not heard _ e
none_told false k a s r heard after e = if-not heard _ e
