-- What every call of a client promises, by the contract `Asks` that each of them has: demands 1 to 3 of document 01.
use Rattle.std.specs.Prelude.{None}
use Prim.Native.Nat.{ℕ}
use mathlib.Core.Bool.{Bool, true}
use mathlib.Core.Path.{◌≡◌, sym, ◌∙◌, ap, subst}
use mathlib.Core.Logic.{◌↔◌}
use mathlib.Core.List.{List}
use Rattle.rules.specs.Answers as rules
use Rattle.rules.specs.Calls as calls
use Rattle.rules.specs.Client.{events_in}
use Rattle.rules.specs.Conversations.{Conversation}
use Rattle.rules.specs.Demand1.{Untouched}
use Rattle.rules.specs.Demand3 as demand
use Rattle.rules.specs.Settings.{Setting, Lent}
use Rattle.original.specs.Demand2.{Domain, of_rust}
use Rattle.original.specs.Rust.{World, world_of}
use Rattle.original.specs.Shown.{called}
use Rattle.original.proofs.Demand2.{called-world}
use Rattle.exchange.specs.Meaning.{answer_of, option_of, timed}
use Rattle.requests.specs.declared.Call.{Call}
use Rattle.requests.specs.declared.Call.TheVariants as call
use Rattle.calls.specs.Meaning.{setting_of, lent_of, result_of, Called}
use Rattle.calls.specs.declared.Ask.{Ask}
use Rattle.calls.specs.declared.Answered.{Answered}
use Rattle.calls.proofs.Whole as whole
use Rattle.uds.specs.Clients.{kept_by, ask_of, Asks}
use Rattle.uds.specs.declared.Client.{Client}

-- What is asked is the client's: `f` says the call with what stands beside it.
pub as-asked : {q : ℕ} (u : Client q) (quiet : Bool) (k : Call)
    (f : Call → calls.Call) {before events replies : List ℕ} {r : Answered} {b : List ℕ} {a : Ask} → a ≡ ask_of u quiet k
    → Called a.strict (setting_of a u.session) (f a.call) (lent_of a.channel before events replies) r b
    → Called u.config.strict (setting_of (ask_of u quiet call.TesterPresent) u.session) (f k)
    (lent_of u.config.channel before events replies) r b
as-asked u quiet k f {before} {events} {replies} {r} {b} e =
    subst (λ (x : Ask). Called x.strict (setting_of x u.session) (f x.call) (lent_of x.channel before events replies) r b) e

module _ {q : ℕ} (u : Client q) (quiet : Bool) (c : calls.Call) (before events replies : List ℕ) where
  -- How the client makes the call, and what is lent to it.
  abbrev made : Setting
  made = setting_of (ask_of u quiet call.TesterPresent) u.session

  abbrev lent : Lent
  lent = lent_of u.config.channel before events replies

  module _ {r : Answered} {after : List ℕ} (asks : Asks u quiet c before events replies r after) where
    pub demand-1 : {n : ℕ} → (answer_of replies r.answer).outcome ≡ rules.refused n → Untouched made c lent n (result_of replies r after)
    demand-1 = whole.demand-1 asks

    pub demand-2 : Domain made c lent → of_rust u.config.strict made c lent ≡ called c (result_of replies r after)
    demand-2 = whole.demand-2 asks

    -- Behind it the client is made with the timing that the Rust's client then keeps.
    pub keeps : Domain made c lent → timed (kept_by u r).session ≡ (world_of (of_rust u.config.strict made c lent)).timing
    keeps h = sym (ap (λ x. (world_of x).timing) (demand-2 h) ∙ ap (λ (w : World). w.timing) (called-world c (result_of replies r after)))

    pub demand-3 : u.config.strict ≡ true → u.config.request_timeout ≡ None → demand.Named c
        → ¬ demand.Refused (answer_of replies r.answer).outcome → (x : rules.Answer)
        → ((answer_of replies r.answer ≡ x) × demand.Answers x.outcome) ↔ Conversation made c (events_in lent) x
    demand-3 strict never n ok x =
        whole.demand-3 (subst (λ (s : Bool). Called s made c lent r after) strict asks) n (ap option_of never) ok x
