-- The state of the engine as the twenty-eight numbers that a host keeps.
-- The first fifteen are an answer's, with 11 for the outcome, the deadline and the counts so far while the engine waits. Then the last time, `hush`, the counts up to T; and what was asked.
use Rattle.std.specs.Prelude as code
use Rattle.std.specs.Prelude.{Some, None}
use Rattle.std.specs.Prelude.{ℕ, ◌%◌, ◌^◌, Bool, true, false, cond, ◌&&◌, ◌≡◌, List, [], ◌∷◌, leb, eqb, get_or}
use Rattle.rules.specs.Logs.{Header, uses_of, fields_ok}
use Rattle.exchange.specs.declared.types.State.{State}
use Rattle.exchange.specs.declared.types.Timing.{Timing}
use Rattle.calls.specs.declared.Ask.{Ask}
use Rattle.log_call.specs.Asking.{Asks}
use Rattle.steps.specs.declared.Engine.{Engine}
use Rattle.steps.specs.declared.Phase.{Phase}
use Rattle.steps.specs.declared.Phase.TheVariants.{Waiting, Settled}
use Rattle.numbers.specs.Numbers.{Tells}
use Rattle.door.specs.Door.{fields, limit_for, limited_to}

-- Number i of the state.
abbrev pub number : List ℕ → ℕ → ℕ
number l i = get_or l i 0

abbrev pub waits : List ℕ → Bool
waits l = eqb (number l 0) 11

-- The numbers of an array, one by one.
abbrev pub nine : List ℕ → List ℕ
nine a = number a 0 ∷ number a 1 ∷ number a 2 ∷ number a 3 ∷ number a 4 ∷ number a 5 ∷ number a 6 ∷ number a 7 ∷ number a 8 ∷ []

abbrev pub fifteen : List ℕ → List ℕ → List ℕ
fifteen a rest =
    number a 0 ∷
    number a 1 ∷
    number a 2 ∷
    number a 3 ∷
    number a 4 ∷
    number a 5 ∷
    number a 6 ∷
    number a 7 ∷
    number a 8 ∷
    number a 9 ∷
    number a 10 ∷
    number a 11 ∷
    number a 12 ∷
    number a 13 ∷
    number a 14 ∷ rest

-- What was asked: call, flags, value, sub-function, overall timeout, limit, the address listened to, and the widths of address and size.
abbrev pub asking_in : List ℕ → List ℕ
asking_in l =
    number l 19 ∷ number l 20 ∷ number l 21 ∷ number l 22 ∷ number l 23 ∷ number l 24 ∷ number l 25 ∷ number l 26 ∷ number l 27 ∷ []

-- As a log's header would have it; an event always has a source address.
abbrev pub header_in : List ℕ → Header
header_in l =
    fields (number l 19 % 256) (number l 20 % 256) (number l 21 % 65536) (number l 22 % 256) 0 0 (number l 12 % 2 ^ 32) (number l 13 % 2 ^ 32) (number l 23 % 2 ^ 32) true (number l 25 % 65536)

abbrev pub sound : List ℕ → Bool
sound l = let h = header_in l in leb h.call 15 && fields_ok h (uses_of h.call)

abbrev pub AskedIn : List ℕ → (code.Option Ask) → Type 0
AskedIn l (Some r) = (sound l ≡ true) × (ask : Ask) × Asks (header_in l) ask × (r ≡ limited_to (limit_for (number l 24 % 65536)) ask)
AskedIn l None = sound l ≡ false

abbrev pub session_in : List ℕ → Timing
session_in l = record { p2 = number l 12 % 2 ^ 32; star = number l 13 % 2 ^ 32 }

abbrev pub is_set : ℕ → Bool
is_set n = cond (eqb n 0) false true

abbrev pub state_in : List ℕ → State
state_in l = record {
  hush = is_set (number l 16);
  deadline = number l 4;
  read = record { all = number l 5; early = number l 17 };
  notices = record { all = number l 6; early = number l 18 };
}

-- The engine that waits.
abbrev pub engine_in : Ask → List ℕ → Engine
engine_in ask l = record {
  begun = record { ask = ask; session = session_in l; sent = number l 14 };
  last = number l 15;
  phase = Waiting (state_in l);
}

abbrev pub bit : Bool → ℕ
bit b = cond b 1 0

-- The engine as numbers, with what was asked.
abbrev pub Told : Engine → List ℕ → Phase → List ℕ → Type 0
Told e a (Waiting s) l =
    l ≡
    11 ∷
    0 ∷
    0 ∷
    0 ∷
    s.deadline ∷
    s.read.all ∷
    s.notices.all ∷
    0 ∷
    0 ∷
    0 ∷
    0 ∷
    0 ∷
    e.begun.session.p2 ∷
    e.begun.session.star ∷
    e.begun.sent ∷
    e.last ∷
    bit s.hush ∷
    s.read.early ∷
    s.notices.early ∷ nine a
Told e a (Settled x) l = (told : List ℕ) × Tells x told × (l ≡ fifteen told (e.last ∷ 0 ∷ 0 ∷ 0 ∷ nine a))
