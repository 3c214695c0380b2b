-- How the code holds a message under way: numbers in a struct, or that there is none; its bytes so far at the front of a lent buffer of 4,095 bytes.
use Rattle.std.specs.Prelude as code
use Rattle.std.specs.Prelude.{Some, None}
use Rattle.std.specs.Prelude.{ℕ, ◌+◌, Bool, cond, ◌&&◌, List, [], ◌++◌, ◌≡◌, leb, length, take, drop}
use Rattle.std.proofs.Math.Option.{Option, none, some}
use Rattle.isotp.specs.Joining.{State, idle, under, Fed, passed}
use Rattle.isotp.specs.declared.Joiner.{Joiner}
use Rattle.isotp.specs.declared.Heard.{Heard}

abbrev pub joiner_of : State → code.Option Joiner
joiner_of idle = None
joiner_of (under due n bs) = Some (record { due = due; next = n; have = length bs })

-- Numbers that no message has mean that none is under way.
abbrev pub is_message : Joiner → Bool
is_message j = leb 1 j.due && leb (j.have + j.due) 4095 && leb j.next 15

abbrev pub settled : code.Option Joiner → code.Option Joiner
settled None = None
settled (Some j) = cond (is_message j) (Some j) None

abbrev pub state_in : code.Option Joiner → List ℕ → State
state_in None l = idle
state_in (Some j) l = under j.due j.next (take j.have l)

abbrev pub state_of : code.Option Joiner → List ℕ → State
state_of j l = state_in (settled j) l

abbrev pub gives_of : Option (List ℕ) → code.Option ℕ
gives_of none = None
gives_of (some m) = Some (length m)

abbrev pub said : Fed → Heard
said x = record { joiner = joiner_of x.state; drops = x.drops; gives = gives_of x.gives }

-- The bytes at the buffer's front: the message given, or those of the message under way.
abbrev pub held : State → Option (List ℕ) → List ℕ
held s (some m) = m
held idle none = []
held (under due n bs) none = bs

abbrev pub over : List ℕ → List ℕ → List ℕ
over bs l = bs ++ drop (length bs) l

abbrev pub given_of : code.Option ℕ → List ℕ → Option (List ℕ)
given_of None l = none
given_of (Some n) l = some (take n l)

-- The answer, and the buffer behind it; together they say what is wanted.
pub record Does (want : Fed) (before : List ℕ) (r : Heard) (after : List ℕ) : Type 0 where
  pub answer : r ≡ said want
  pub buffer : after ≡ over (held want.state want.gives) before
  pub says : state_of r.joiner after ≡ want.state
  pub given : given_of r.gives after ≡ want.gives

-- The answer where a frame does something; None where it "changes nothing", and neither does the buffer.
abbrev pub Changes : State → Fed → List ℕ → code.Option Heard → List ℕ → Type 0
Changes s want before None after = (want ≡ passed s) × (after ≡ before)
Changes s want before (Some r) after = Does want before r after
