-- A step through the door that the engine takes or refuses, a call that is begun, and that at most one answer fits each.
use Rattle.std.specs.Prelude as code
use Rattle.std.specs.Prelude.{Some, None}
use Prim.Native.Nat.{ℕ, ◌%◌}
use native.Mathlib.Omega.{arith}
use mathlib.Core.Bool.{Bool, true, false, true≢false}
use mathlib.Core.Path.{◌≡◌, refl, sym, ◌∙◌, ap, subst, subst⁻¹}
use mathlib.Core.List.{List}
use lib.Dec.{eqb}
use lib.ListN.{length, take, drop, length-drop}
use lib.Seq.{take_all}
use borrow.Author.Tests.{eq-eqb, ne_eqb}
use Rattle.rules.specs.Calls.{Call, given}
use Rattle.rules.specs.Events.{Entry}
use Rattle.rules.specs.Logs.{Header}
use Rattle.requests.specs.Meaning.{call_of, call_from}
use Rattle.calls.specs.declared.Ask.{Ask}
use Rattle.log_call.specs.Asking.{chosen, session_of, Asks}
use Rattle.log_call.proofs.Unique.{asks-unique}
use Rattle.steps.specs.Stepping.{Stepped, tick_of, Hands, Begins}
use Rattle.steps.proofs.Unique.{begin-unique, event-unique}
use Rattle.steps.specs.declared.Engine.{Engine}
use Rattle.door.specs.Door.{limit_for, limited_to, address_in, size_in, data_in}
use Rattle.state_numbers.specs.Kept.{number, waits, AskedIn, asking_in, engine_in, Told}
use Rattle.state_numbers.proofs.Keeping.{told-unique}
use Rattle.step_door.specs.Stepping as stepping
use Rattle.step_door.specs.Stepping.{Retold, Through, Ticked, Handed, BegunAs}

-- A step through the door that reaches the engine.
module _ (l : List ℕ) (S : Engine → Stepped → Type 0) where
  module _ (is : number l 0 ≡ 11) where
    going : waits l ≡ true
    going = eq-eqb (number l 0) 11 is

    -- The engine's step, and what stands afterwards.
    module _ {ask : Ask} (asks : AskedIn l (Some ask)) {y : Stepped} (h : S (engine_in ask l) y) where
      takes_step : {r : ℕ} {l' : List ℕ} → r ≡ y.refusal → Retold l y (eqb y.refusal 0) l' → Through l S r l'
      takes_step e told = record {
        settled = λ w. absurd (true≢false (sym going ∙ w));
        unasked = λ w u. absurd (true≢false (sym asks.0 ∙ u));
        steps = λ w ask' asks'.
            let same = asks.3 ∙ ap (limited_to (limit_for (number l 24 % 65536))) (asks-unique asks.2 asks'.2) ∙ sym asks'.3 in
            (y, subst (λ (q : Ask). S (engine_in q l) y) same h, e, told);
      }

      pub step-refused : (y.refusal ≡ 0 → ⊥) → Through l S y.refusal l
      step-refused z = takes_step refl (rw (ne_eqb y.refusal 0 z) refl)

      pub step-taken : y.refusal ≡ 0 → {l' : List ℕ} → Told y.engine (asking_in l) y.engine.phase l' → Through l S 0 l'
      step-taken z told = takes_step (sym z) (rw (eq-eqb y.refusal 0 z) told)

-- A call is begun.
module _ {h : Header} {k : ℕ} {c : Call} {asking before told : List ℕ} {asks : Bool} where
  pub begins-one : asks ≡ true → {ask : Ask} → Asks h ask → {e : Engine} {after' told' : List ℕ} → Begins (session_of h) (limited_to (limit_for k) ask) c before e after'
      → Told e asking e.phase told' → BegunAs asks h k c asking before told 0 after' told'
  begins-one one {ask} said {e} begins t = record { unasked = λ u. absurd (true≢false (sym one ∙ u)); begun = λ u. (refl, ask, said, e, begins, t) }

-- What is begun with the parts of the argument bytes is the call that the fields choose.
pub chosen-in-bytes : {h : Header} {ask : Ask} → Asks h ask → (k : ℕ) (l : List ℕ) {a s d before after' : List ℕ} {e : Engine}
    → a ≡ take h.address_length l → s ≡ take h.size_length (drop h.address_length l) → d ≡ take (length l) (data_in h l)
    → Begins (session_of h) (limited_to (limit_for k) ask) (call_of ask.call a s d) before e after'
    → Begins (session_of h) (limited_to (limit_for k) ask) (chosen h (address_in h l) (size_in h l) (data_in h l)) before e after'
chosen-in-bytes {h} {ask} asks k l {a} {s} {d} {before} {after'} {e} ea es ed b =
    let rest = ed ∙ take_all (length l) (data_in h l) (simp length-drop (omega arith)) in
    let parts : call_of ask.call a s d ≡ call_from ask.call (address_in h l) (size_in h l) (data_in h l) = λ i. call_from ask.call (given (ea i)) (given (es i)) (rest i) in
    subst (λ (c : Call). Begins (session_of h) (limited_to (limit_for k) ask) c before e after') (parts ∙ asks.call (address_in h l) (size_in h l) (data_in h l)) b

-- At most one result, one request and one state fit a beginning.
pub begun-unique : (asks : Bool) {h : Header} {k : ℕ} {c : Call} {asking before told : List ℕ} {r r' : ℕ} {a a' t t' : List ℕ}
    → BegunAs asks h k c asking before told r a t → BegunAs asks h k c asking before told r' a' t' → (r ≡ r') × (a ≡ a') × (t ≡ t')
begun-unique false u u' =
    let z = u.unasked refl in
    let z' = u'.unasked refl in
    (z.0 ∙ sym z'.0, z.1 ∙ sym z'.1, z.2 ∙ sym z'.2)
begun-unique true {h} {k} {c} {asking} {before} {a' = a'} {t' = t'} u u' =
    let z = u.begun refl in
    let z' = u'.begun refl in
    let begins = subst⁻¹ (λ (q : Ask). Begins (session_of h) (limited_to (limit_for k) q) c before z'.3 a') (asks-unique z.2 z'.2) z'.4 in
    let same = begin-unique z.4 begins in
    let told = subst⁻¹ (λ (e : Engine). Told e asking e.phase t') same.0 z'.5 in
    (z.0 ∙ sym z'.0, same.1, told-unique z.3 asking z.3.phase z.5 told)

-- At most one result and one state fit a step, whatever the state's numbers ask; `state_numbers::ask_in` says that of every state.
module _ (l : List ℕ) (S : Engine → Stepped → Type 0) (one : (e : Engine) (y y' : Stepped) → S e y → S e y' → y ≡ y') where
  step-unique : (x : code.Option Ask) → AskedIn l x → {r r' : ℕ} {m m' : List ℕ} → Through l S r m → Through l S r' m' → (r ≡ r') × (m ≡ m')
  step-unique x asks {r} {r'} {m} {m'} k k' = go (waits l) refl x asks
    where
      retold : (y : Stepped) (b : Bool) → Retold l y b m → Retold l y b m' → m ≡ m'
      retold y true h h' = told-unique y.engine (asking_in l) y.engine.phase h h'
      retold y false h h' = h ∙ sym h'

      go : (b : Bool) → waits l ≡ b → (x : code.Option Ask) → AskedIn l x → (r ≡ r') × (m ≡ m')
      go false w x asks =
          let z = k.settled w in
          let z' = k'.settled w in
          (z.0 ∙ sym z'.0, z.1 ∙ sym z'.1)
      go true w None asks =
          let z = k.unasked w asks in
          let z' = k'.unasked w asks in
          (z.0 ∙ sym z'.0, z.1 ∙ sym z'.1)
      go true w (Some ask) asks =
          let z = k.steps w ask asks in
          let z' = k'.steps w ask asks in
          let same = one (engine_in ask l) z.0 z'.0 z.1 z'.1 in
          let told = subst⁻¹ (λ (y : Stepped). Retold l y (eqb y.refusal 0) m') same z'.3 in
          (z.2 ∙ ap (λ (y : Stepped). y.refusal) same ∙ sym z'.2, retold z.0 (eqb z.0.refusal 0) z.3 told)

pub tick-unique : (l : List ℕ) (t : ℕ) (x : code.Option Ask) → AskedIn l x → {r r' : ℕ} {m m' : List ℕ} → Ticked l t r m → Ticked l t r' m' → (r ≡ r') × (m ≡ m')
tick-unique l t x asks k k' = step-unique l (λ e y. y ≡ tick_of e t) (λ e y y' h h'. h ∙ sym h') x asks k k'

pub handed-unique : (l q : List ℕ) (x : Entry) (replies : List ℕ) (asked : code.Option Ask) → AskedIn l asked → {r r' : ℕ} {m m' : List ℕ}
    → Handed l q x replies r m → Handed l q x replies r' m' → (r ≡ r') × (m ≡ m')
handed-unique l q x replies asked asks k k' =
    step-unique l (λ e y. Hands e (stepping.address_in l q) (stepping.size_in l q) x replies y)
    (λ e y y' h h'. event-unique replies e (stepping.address_in l q) (stepping.size_in l q) x h h') asked asks k k'
