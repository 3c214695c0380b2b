-- Checks that stand in an order: the first that fails decides.
use Rattle.std.specs.Prelude.{Bool, true, false, cond, List, [], ◌∷◌}

pub record Check (A : Type 0) : Type 0 where
  pub test : Bool
  pub fault : A

-- `unless (the test passes) fault`
abbrev pub unless : {A : Type 0} → Bool → A → Check A
unless t f = record { test = t; fault = f }

abbrev pub judge : {A B : Type 0} → (A → B) → List (Check A) → B → B
judge wrong [] right = right
judge wrong (c ∷ cs) right = cond c.test (judge wrong cs right) (wrong c.fault)

-- A test that counts in strict mode only.
abbrev pub in_strict : Bool → Bool → Bool
in_strict true t = t
in_strict false t = true
