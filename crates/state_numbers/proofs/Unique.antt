-- At most one answer fits the contract of `ask_in`.
use Rattle.std.specs.Prelude as code
use Rattle.std.specs.Prelude.{Some, None}
use Prim.Native.Nat.{ℕ, ◌%◌}
use mathlib.Core.Bool.{true≢false}
use mathlib.Core.List.{List}
use mathlib.Core.Path.{◌≡◌, refl, sym, ◌∙◌, ap}
use Rattle.calls.specs.declared.Ask.{Ask}
use Rattle.log_call.proofs.Unique.{asks-unique}
use Rattle.door.specs.Door.{limit_for, limited_to}
use Rattle.state_numbers.specs.Kept.{number, AskedIn}

pub ask-in-unique : (l : List ℕ) (r q : (code.Option Ask)) → AskedIn l r → AskedIn l q → r ≡ q
ask-in-unique l (Some r) (Some q) k h =
    let same = asks-unique k.2 h.2 in
    ap Some (k.3 ∙ ap (λ (ask : Ask). limited_to (limit_for (number l 24 % 65536)) ask) same ∙ sym h.3)
ask-in-unique l (Some r) None k h = absurd (true≢false (sym k.0 ∙ h))
ask-in-unique l None (Some q) k h = absurd (true≢false (sym h.0 ∙ k))
ask-in-unique l None None k h = refl
