-- What a step through the door does with the twenty-eight numbers that a host keeps.
use Rattle.std.specs.Prelude.{Some, None}
use Rattle.std.specs.Prelude.{ℕ, ◌+◌, ◌%◌, Bool, true, false, ◌&&◌, ◌≡◌, List, [], ◌∷◌, eqb, length, take, drop}
use Rattle.rules.specs.Calls.{Call, alfid}
use Rattle.rules.specs.Events.{Entry}
use Rattle.rules.specs.Logs.{Header}
use Rattle.stepwise.specs.Handed as wise
use Rattle.stepwise.specs.Handed.{lent, now}
use Rattle.calls.specs.declared.Ask.{Ask}
use Rattle.log_call.specs.Asking.{chosen, session_of, Asks}
use Rattle.steps.specs.declared.Engine.{Engine}
use Rattle.steps.specs.Stepping.{Stepped, tick_of, Hands, Begins}
use Rattle.door.specs.Door as door
use Rattle.door.specs.Door.{asks_one, has_alfid, data_in, limit_for, limited_to}
use Rattle.state_numbers.specs.Kept.{number, waits, AskedIn, asking_in, engine_in, Told}

-- What stands afterwards: the engine behind a step that was taken; a refused step leaves the state as it was.
abbrev pub Retold : List ℕ → Stepped → Bool → List ℕ → Type 0
Retold l y true l' = Told y.engine (asking_in l) y.engine.phase l'
Retold l y false l' = l' ≡ l

-- A step through the door. 21 where the state has settled, or never waited; 1 where it asks no call; else the engine's step.
pub record Through (l : List ℕ) (S : Engine → Stepped → Type 0) (r : ℕ) (l' : List ℕ) : Type 0 where
  pub settled : waits l ≡ false → (r ≡ 21) × (l' ≡ l)
  pub unasked : waits l ≡ true → AskedIn l None → (r ≡ 1) × (l' ≡ l)
  pub steps : waits l ≡ true → (ask : Ask) → AskedIn l (Some ask)
      → (y : Stepped) × S (engine_in ask l) y × (r ≡ y.refusal) × Retold l y (eqb y.refusal 0) l'

-- Address and size as they stand in the request that was sent, behind its first two bytes.
abbrev pub address_in : List ℕ → List ℕ → List ℕ
address_in l request = take (number l 26 % 256) (drop 2 request)

abbrev pub size_in : List ℕ → List ℕ → List ℕ
size_in l request = take (number l 27 % 256) (drop (2 + number l 26 % 256) request)

-- A step with a tick; with an event of these numbers, the request and reply bytes lent for it.
abbrev pub Ticked : List ℕ → ℕ → ℕ → List ℕ → Type 0
Ticked l t r l' = Through l (λ e y. y ≡ tick_of e t) r l'

abbrev pub Handed : List ℕ → List ℕ → Entry → List ℕ → ℕ → List ℕ → Type 0
Handed l request x replies r l' = Through l (λ e y. Hands e (address_in l request) (size_in l request) x replies y) r l'

abbrev pub entry : ℕ → ℕ → ℕ → ℕ → ℕ → Entry
entry time kind offset size source = record { time = time; kind = kind; offset = offset; size = size; source = source }

-- Begun: 0, with the engine and what is asked; or 1, and nothing is touched.
pub record BegunAs (asks : Bool) (h : Header) (k : ℕ) (c : Call) (asking before told : List ℕ) (r : ℕ) (after' told' : List ℕ) : Type 0 where
  pub unasked : asks ≡ false → (r ≡ 1) × (after' ≡ before) × (told' ≡ told)
  pub begun : asks ≡ true → (r ≡ 0) × (ask : Ask) × Asks h ask × (e : Engine) × Begins (session_of h) (limited_to (limit_for k) ask) c before e after' × Told e asking e.phase told'

-- What is kept of what was asked, with the widths of address and size.
abbrev pub asking_of : Header → ℕ → ℕ → ℕ → List ℕ
asking_of h k w w' = h.call ∷ h.flags ∷ h.value ∷ h.sub ∷ h.overall ∷ k ∷ h.listens ∷ w ∷ w' ∷ []

-- With argument bytes; in the `alfid` form with address and size as numbers.
abbrev pub BegunInBytes : Header → ℕ → List ℕ → List ℕ → List ℕ → ℕ → List ℕ → List ℕ → Type 0
BegunInBytes h k l request told r request' told' =
    BegunAs (asks_one h k (length l)) h k (chosen h (door.address_in h l) (door.size_in h l) (data_in h l)) (asking_of h k h.address_length h.size_length) request told r request' told'

abbrev pub BegunInNumbers : Header → ℕ → ℕ → ℕ → ℕ → ℕ → Bool → List ℕ → List ℕ → List ℕ → ℕ → List ℕ → List ℕ → Type 0
BegunInNumbers h k v u w w' wide d request told r request' told' =
    BegunAs (has_alfid h.call && asks_one h k (length d)) h k (chosen h (alfid v w wide) (alfid u w' wide) d) (asking_of h k w w') request told r request' told'

-- A run through the door: what it is handed, step by step, the request that was sent lent with each event.
abbrev pub Steps : List ℕ → List wise.Handed → List ℕ → List ℕ → Type 0
Steps q [] l l' = l ≡ l'
Steps q (lent replies x ∷ hs) l l' = (r : ℕ) × (m : List ℕ) × Handed l q x replies r m × Steps q hs m l'
Steps q (now t ∷ hs) l l' = (r : ℕ) × (m : List ℕ) × Ticked l t r m × Steps q hs m l'
