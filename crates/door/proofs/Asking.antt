-- The limit that the code asks with, and that it asks one call.
use Rattle.std.specs.Prelude as code
use Rattle.std.specs.Prelude.{Some, None}
use Prim.Native.Nat.{ℕ}
use mathlib.Core.Bool.{Bool, true, false, cond, true≢false}
use mathlib.Core.Path.{◌≡◌, refl, sym, ap, ◌∙◌}
use mathlib.Core.Option.{none, some}
use lib.Dec.{leb}
use Rattle.exchange.specs.Meaning.{option_of}
use Rattle.rules.specs.Logs.{Header}
use Rattle.calls.specs.declared.Ask.{Ask}
use Rattle.log_call.proofs.Unique.{asks-unique}
use Rattle.door.specs.Door.{limit_in, limit_for, limited_to, AskedFor}

-- The code's limit is the one that the number says.
pub limit-said : (limit : ℕ) → option_of (limit_for limit) ≡ limit_in limit
limit-said limit = go (leb limit 255)
  where
    go : (b : Bool) → option_of (cond b (Some limit) None) ≡ cond b (some limit) none
    go true = refl
    go false = refl

-- At most one answer fits the contract of `ask_for`.
pub ask-for-unique : (h : Header) (k n : ℕ) (r q : code.Option Ask) → AskedFor h k n r → AskedFor h k n q → r ≡ q
ask-for-unique h k n (Some r) (Some q) x y = ap Some (x.3 ∙ ap (limited_to (limit_for k)) (asks-unique x.2 y.2) ∙ sym y.3)
ask-for-unique h k n (Some r) None x y = absurd (true≢false (sym x.0 ∙ y))
ask-for-unique h k n None (Some q) x y = absurd (true≢false (sym y.0 ∙ x))
ask-for-unique h k n None None x y = refl
