-- Demand 1's second sentence: "A refused call returns one number from document 01, sends nothing, and the lent request buffer and the session timing stay untouched."
use Rattle.std.specs.Prelude.{ℕ, Bool, true, false, ◌||◌, ◌≡◌, ◌↔◌, ◌⊎◌, List, [], ◌∷◌, ◌++◌, eqb, get_or}
use Rattle.rules.specs.Answers.{nowhere, refused}
use Rattle.rules.specs.Calls.{Call, numbered, request_of}
use Rattle.rules.specs.Client.{Result, call}
use Rattle.rules.specs.InOrder.{Check}
use Rattle.rules.specs.Refusals.{refusals}
use Rattle.rules.specs.Settings.{Setting, Lent}

-- The refusals that a call has of its own: 1 is call 3's; 2, 3, 6 and 7 are an address's and a size's, in calls 5, 6, 11, 12; 4 and 5 are the methods', in 11 and 12.
abbrev pub of_memory : List ℕ
of_memory = 6 ∷ 7 ∷ 2 ∷ 3 ∷ []

abbrev pub of_loading : List ℕ
of_loading = 6 ∷ 7 ∷ 4 ∷ 5 ∷ 2 ∷ 3 ∷ []

abbrev pub own : List (List ℕ)
own = [] ∷ [] ∷ [] ∷ (1 ∷ []) ∷ [] ∷ of_memory ∷ of_memory ∷ [] ∷ [] ∷ [] ∷ [] ∷ of_loading ∷ of_loading ∷ []

-- "one number from document 01": one of the call's own, or 8, 9 or 10.
abbrev pub numbers_for : Call → List ℕ
numbers_for c = get_or own (numbered c) [] ++ (8 ∷ 9 ∷ 10 ∷ [])

abbrev pub among : List ℕ → ℕ → Bool
among [] n = false
among (k ∷ ks) n = eqb n k || among ks n

abbrev pub Numbered : Call → ℕ → Type 0
Numbered c n = among (numbers_for c) n ≡ true

-- A call refused with n leaves everything as it was: "the number, time and counts 0, all buffers and timing untouched".
pub record Untouched (w : Setting) (c : Call) (l : Lent) (n : ℕ) (x : Result) : Type 0 where
  pub numbered : Numbered c n
  pub time : x.answer.time ≡ 0
  pub events : x.answer.events ≡ 0
  pub notices : x.answer.notices ≡ 0
  pub reply : x.answer.reply ≡ nowhere
  pub number : x.number ≡ 0
  pub sent : x.sent ≡ 0
  pub timing : x.timing ≡ w.timing
  pub buffer : x.buffer ≡ l.buffer

-- "Given exactly when": the test of this number fails, and those before it pass.
abbrev pub FirstToFail : List (Check ℕ) → ℕ → Type 0
FirstToFail [] n = ⊥
FirstToFail (c ∷ cs) n = ((c.test ≡ false) × (c.fault ≡ n)) ⊎ ((c.test ≡ true) × FirstToFail cs n)

abbrev pub Exactly : Type 0
Exactly =
    (strict : Bool) (w : Setting) (c : Call) (l : Lent) (n : ℕ)
    → ((call strict w c l).answer.outcome ≡ refused n)
    ↔ FirstToFail (refusals c (request_of w.quiet c) l.buffer l.form l.events l.replies) n

abbrev pub Demand1 : Type 0
Demand1 = (strict : Bool) (w : Setting) (c : Call) (l : Lent) (n : ℕ) → (call strict w c l).answer.outcome ≡ refused n → Untouched w c l n (call strict w c l)
