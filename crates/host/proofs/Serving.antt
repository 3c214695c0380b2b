-- From a whole call's contract to the door's, where the numbers ask a call.
use Prim.Native.Nat.{ℕ}
use native.Mathlib.Omega.{arith}
use mathlib.Core.Bool.{Bool, true}
use mathlib.Core.Path.{◌≡◌, sym, ◌∙◌, ap, subst}
use mathlib.Core.List.{List}
use lib.Dec.{eqb}
use lib.ListN.{length, take, drop, length-drop}
use lib.Seq.{take_all}
use Rattle.rules.specs.Calls.{Call, Field, given}
use Rattle.rules.specs.Client.{Result}
use Rattle.rules.specs.Logs.{Header, flag}
use Rattle.rules.specs.Logs as rules
use Rattle.rules.specs.Limited.{in_limit}
use Rattle.rules.specs.Settings.{Setting, Lent}
use Rattle.requests.specs.Meaning.{call_from, call_of}
use Rattle.calls.specs.Meaning.{setting_of, lent_of, Called}
use Rattle.calls.specs.declared.Ask.{Ask}
use Rattle.calls.specs.declared.Answered.{Answered}
use Rattle.log_call.specs.Asking.{chosen, session_of, Asks}
use Rattle.numbers.specs.Numbers.{numbers_of, Tells}
use Rattle.door.specs.Door.{limit_in, asks_one, address_in, size_in, data_in, asked, lent_in, limit_for, limited_to}
use Rattle.door.proofs.Asking.{limit-said}
use Rattle.host.specs.Served.{Served, InBytes}

-- A call as its fields ask it.
meant : {h : Header} {ask : Ask} (limit : ℕ) (a s : Field) (d : List ℕ) {before events replies : List ℕ} {x : Answered} {after' : List ℕ} → Asks h ask
    → Called ask.strict (setting_of (limited_to (limit_for limit) ask) (session_of h)) (call_from ask.call a s d) (lent_of ask.channel before events replies) x after'
    → Called (eqb (flag 1 h) 1) (in_limit (limit_in limit) (rules.setting_of h)) (chosen h a s d) (lent_in h before events replies) x after'
meant {h} {ask} limit a s d {before} {events} {replies} {x} {after'} k called =
    let lent : lent_of ask.channel before events replies ≡ lent_in h before events replies =
    λ i. record { buffer = before; form = k.form i; events = events; replies = replies; listens = k.listens i }
    in
    let set : setting_of (limited_to (limit_for limit) ask) (session_of h) ≡ in_limit (limit_in limit) (rules.setting_of h) =
    λ i. in_limit (limit-said limit i) (k.setting i)
    in
    let lent' = lent_in h before events replies in
    subst (λ (c : Call). Called (eqb (flag 1 h) 1) (in_limit (limit_in limit) (rules.setting_of h)) c lent' x after') (k.call a s d)
    (subst (λ (w : Setting). Called (eqb (flag 1 h) 1) w (call_from ask.call a s d) lent' x after') set
    (subst (λ (m : Bool). Called m (setting_of (limited_to (limit_for limit) ask) (session_of h)) (call_from ask.call a s d) lent' x after') k.strict
    (subst (λ (y : Lent). Called ask.strict (setting_of (limited_to (limit_for limit) ask) (session_of h)) (call_from ask.call a s d) y x after') lent called)))

module _ {h : Header} {ask : Ask} (limit : ℕ) (a s : Field) (d : List ℕ) {before events replies : List ℕ} {x : Answered} {after' : List ℕ} (k : Asks h ask)
    (called : Called ask.strict (setting_of (limited_to (limit_for limit) ask) (session_of h)) (call_from ask.call a s d) (lent_of ask.channel before events replies) x after') where
  pub asks-one : {b : Bool} {told told' : List ℕ} → b ≡ true → Tells x told' → Served b (asked h limit a s d (lent_in h before events replies)) before told 0 after' told'
  asks-one e tells =
      let c = meant limit a s d k called in
      record {
        done = rw e;
        request = rw e (ap (λ (y : Result). y.buffer) c.means);
        answer = rw e (tells replies after' c.outcome c.reply ∙ ap numbers_of c.means);
      }

-- The slices of the argument bytes that the code hands on.
pub asks-in-bytes : {h : Header} {ask : Ask} (limit : ℕ) (l : List ℕ) {a s d before events replies : List ℕ} {x : Answered} {after' told told' : List ℕ} → asks_one h limit (length l) ≡ true
    → a ≡ take h.address_length l → s ≡ take h.size_length (drop h.address_length l) → d ≡ take (length l) (data_in h l)
    → Asks h ask → Called ask.strict (setting_of (limited_to (limit_for limit) ask) (session_of h)) (call_of ask.call a s d) (lent_of ask.channel before events replies) x after'
    → Tells x told' → InBytes h limit l before events replies told 0 after' told'
asks-in-bytes {h} {ask} limit l {a} {s} {d} {before} {events} {replies} {x} {after'} {told} {told'} e ea es ed k called tells =
    let rest = ed ∙ take_all (length l) (data_in h l) (simp length-drop (omega arith)) in
    subst (λ (y : List ℕ). Served (asks_one h limit (length l)) (asked h limit (address_in h l) (size_in h l) y (lent_in h before events replies)) before told 0 after' told') rest
    (subst (λ (y : List ℕ). Served (asks_one h limit (length l)) (asked h limit (address_in h l) (given y) d (lent_in h before events replies)) before told 0 after' told') es
    (subst (λ (y : List ℕ). Served (asks_one h limit (length l)) (asked h limit (given y) (given s) d (lent_in h before events replies)) before told 0 after' told') ea
    (asks-one limit (given a) (given s) d k called e tells)))

-- At most one result, one request and one list of numbers fit.
pub unique : {b : Bool} {x : Result} {before told : List ℕ} {r r' : ℕ} {a a' t t' : List ℕ} → Served b x before told r a t → Served b x before told r' a' t'
    → (r ≡ r') × (a ≡ a') × (t ≡ t')
unique k h = (k.done ∙ sym h.done, k.request ∙ sym h.request, k.answer ∙ sym h.answer)
