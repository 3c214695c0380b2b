-- Laws of what a header asks.
use Prim.Native.Nat.{ℕ, ◌/◌, ◌%◌, ◌≤◌, ◌<◌}
use native.Mathlib.Omega.{arith}
use mathlib.Core.Bool.{Bool, true, false, cond}
use mathlib.Core.List.{List}
use mathlib.Core.Path.{◌≡◌, refl, sym, ap, subst, ◌∙◌}
use lib.Dec.{leb, eqb}
use lib.ListN.{length, get_or-eq_default}
use borrow.Author.Tests.{leb-true, lt-leb, eq-eqb}
use Rattle.rules.specs.Calls.{Field, tester_present}
use Rattle.rules.specs.Logs.{Header, header_size, form_in, header_of, Uses, flag, uses_of, fields_ok, laid_out, layout_ok, some?, choices}
use Rattle.rules.proofs.Judging.{both}
use Rattle.requests.specs.declared.Data.TheVariants.{Absent, Present}
use Rattle.requests.specs.Meaning.{data_of}
use Rattle.log_call.specs.Asking.{chosen}

-- What sound fields say of the value and of flag 32.
pub record Sound (h : Header) (u : Uses) : Type 0 where
  pub value : h.value ≤ u.value
  pub may : h.flags / 32 ≤ u.may
  pub must : u.must ≤ h.flags / 32

module _ (h : Header) where
  sound : (u : Uses) → fields_ok h u ≡ true → Sound h u
  sound u e =
      let may = both (leb (h.flags / 32) u.may) _ e in
      let must = both (leb u.must (h.flags / 32)) _ may.1 in
      let named = both (leb (flag 16 h) u.named) _ must.1 in
      let value = both (leb h.value u.value) _ named.1 in
      record {
        value = leb-true h.value u.value value.0;
        may = leb-true (h.flags / 32) u.may may.0;
        must = leb-true u.must (h.flags / 32) must.0;
      }

  -- The same by the call's number.
  pub sound-at : (c : ℕ) → h.call ≡ c → fields_ok h (uses_of h.call) ≡ true → Sound h (uses_of c)
  sound-at c e k = sound (uses_of c) (subst (λ (n : ℕ). fields_ok h (uses_of n) ≡ true) e k)

  -- "calls 6 and 8 need it"
  pub needed : (c : ℕ) → h.call ≡ c → fields_ok h (uses_of h.call) ≡ true → (uses_of c).may ≡ 1 → (uses_of c).must ≡ 1 → eqb (flag 32 h) 1 ≡ true
  needed c e k may must =
      let s = sound-at c e k in
      eq-eqb (h.flags / 32 % 2) 1 (omega arith)

  -- No call has a number above 15.
  pub no_call : (a s : Field) (d : List ℕ) → 16 ≤ h.call → tester_present ≡ chosen h a s d
  no_call a s d k = sym (get_or-eq_default (choices h.value h.sub _ a s _) tester_present k)

pub data_is : (b : Bool) (d : List ℕ) → data_of (cond b Present Absent) d ≡ some? b d
data_is true d = refl
data_is false d = refl

-- No log is shorter than a header.
pub too_short : (l : List ℕ) → length l < 36 → laid_out (header_of l) l ≡ false
too_short l h = rw (lt-leb (header_size (form_in (header_of l))) (length l) (omega arith))

-- A log's layout is sound where all but its fields is, and they are; h is its header.
module _ (l : List ℕ) where
  pub bad-layout : laid_out (header_of l) l ≡ false → layout_ok l ≡ false
  unfolding layout_ok
  bad-layout b = rw b

  module _ {h : Header} (is : h ≡ header_of l) (laid : laid_out (header_of l) l ≡ true) where
    by-fields : {fields : Bool} → fields_ok h (uses_of h.call) ≡ fields → layout_ok l ≡ fields
    unfolding layout_ok
    by-fields e = rw laid (ap (λ (x : Header). fields_ok x (uses_of x.call)) (sym is) ∙ e)

    pub bad-fields : fields_ok h (uses_of h.call) ≡ false → layout_ok l ≡ false
    bad-fields e = by-fields e

    pub sound-layout : fields_ok h (uses_of h.call) ≡ true → layout_ok l ≡ true
    sound-layout e = by-fields e
