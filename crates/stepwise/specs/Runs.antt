-- The readings of request Eleven, as runs: each step with its refusal, and what the engine has decided then.
use Rattle.std.specs.Prelude.{ℕ, true, false, ◌≡◌, List, [], ◌∷◌, map, length}
use Rattle.std.proofs.Math.Option.{Option, none, some}
use Rattle.rules.specs.Answers.{part, positive, suppressed, negative, timeout, pending_limit, refused, Answer}
use Rattle.rules.specs.Calls.{Call, reset, security, read_identifier}
use Rattle.rules.specs.Client.{asked}
use Rattle.rules.specs.Examples.{Gives, gives}
use Rattle.rules.specs.Settings.{Setting}
use Rattle.stepwise.specs.Engine.{Engine, decision, begin}
use Rattle.stepwise.specs.Handed.{Handed, lent, now, hands}

-- The address that the engine listens to.
abbrev pub ours : ℕ
ours = 0x07e8

-- A reply lent alone, from this address and from that one; an event of another kind.
abbrev pub from : ℕ → ℕ → List ℕ → Handed
from source t r = lent r (record { time = t; kind = 0; offset = 0; size = length r; source = source })

abbrev pub said : ℕ → List ℕ → Handed
said t r = from ours t r

abbrev pub other : ℕ → ℕ → Handed
other t kind = lent [] (record { time = t; kind = kind; offset = 0; size = 0; source = 0 })

abbrev pub seen : Option Answer → Option Gives
seen none = none
seen (some x) = some (gives x.outcome x.time x.events x.notices 0)

-- T and K; P2 50 and P2* 5000.
abbrev pub with : Option ℕ → Option ℕ → Setting
with overall limit = record { timing = record { p2 = 50; star = 5000 }; overall = overall; limit = limit; server_timing = true; quiet = false }

abbrev pub Told : Type 0
Told = Option ℕ × Option Gives

unfoldable pub plays : Setting → Call → Engine → List Handed → List Told
plays w c z [] = []
plays w c z (h ∷ hs) =
    let r = hands true (asked w c) w.overall ours z h in (r.refusal, seen (decision true c r.engine)) ∷ plays w c r.engine hs

pub record Run : Type 0 where
  pub setting : Setting
  pub call : Call
  pub steps : List (Handed × Told)

abbrev pub of : Setting → Call → List (Handed × Told) → Run
of w c ss = record { setting = w; call = c; steps = ss }

abbrev pub good : List ℕ
good = 0x62 ∷ 0xf1 ∷ 0x90 ∷ 0x41 ∷ []

abbrev pub unsettled : Told
unsettled = (none, none)

unfoldable pub runs : List Run
runs =
    let read = read_identifier 0xf190 in
    let usual = with none none in
    let hears = some (gives (positive (part 3 (0x41 ∷ []))) 50 1 0 0) in
    let quiet = some (gives timeout 50 0 0 0) in
    let answers = some (gives (positive (part 3 (0x41 ∷ []))) 30 1 0 0) in
    let no : List ℕ = 0x7f ∷ 0x11 ∷ 0x10 ∷ [] in
    let wait : List ℕ = 0x7f ∷ 0x22 ∷ 0x78 ∷ [] in
    -- A tick settles past the deadline, not at it; an event at the deadline is in time.
    of usual read ((now 50, unsettled) ∷ (said 50 good, (none, hears)) ∷ (now 51, (some 21, hears)) ∷ []) ∷
    of usual read ((now 51, (none, quiet)) ∷ (said 51 good, (some 21, quiet)) ∷ []) ∷
    -- An event past the deadline settles as a tick would.
    of usual read ((said 51 good, (none, quiet)) ∷ []) ∷
    -- Past T at once; where the deadline is at T, the deadline speaks.
    of (with (some 30) none) read ((now 30, unsettled) ∷ (now 31, (none, some (gives timeout 30 0 0 0))) ∷ []) ∷
    of (with (some 50) none) (reset 0x81) ((now 51, (none, some (gives suppressed 50 0 0 0))) ∷ []) ∷
    -- Under suppression settled at once, finishing at P2; or at T.
    of usual (reset 0x81) ((said 10 no, (none, some (gives (negative 0x10) 50 1 0 0))) ∷ []) ∷
    of (with (some 40) none) (reset 0x81) ((said 10 no, (none, some (gives timeout 40 1 0 0))) ∷ []) ∷
    -- Going back, of either kind; equal is not; a refused step does not move the clock. 10 before 20, 21 before both.
    of usual read ((now 20, unsettled) ∷ (other 19 1, (some 20, none)) ∷ (now 19, (some 20, none)) ∷ (other 20 1, unsettled) ∷ []) ∷
    of usual read ((other 40 9, (some 10, none)) ∷ (said 30 good, (none, answers)) ∷ (other 10 9, (some 21, answers)) ∷ []) ∷
    of usual read ((now 20, unsettled) ∷ (other 19 9, (some 10, none)) ∷ []) ∷
    -- The limit of notices; a notice moves the deadline.
    of (with none (some 1)) read ((said 10 wait, unsettled) ∷ (now 5010, unsettled) ∷ (said 5010 wait, (none, some (gives pending_limit 5010 2 2 0))) ∷ []) ∷
    of usual read ((said 10 wait, unsettled) ∷ (now 18446744073709551615, (none, some (gives timeout 5010 1 1 0))) ∷ []) ∷
    -- A foreign reply is an idle: it counts, it moves the clock, its notice does not move the deadline; an address belongs to replies only.
    of usual read
    ((from 0x07e9 10 wait, unsettled) ∷ (now 9, (some 20, none)) ∷ (from 0 50 good, unsettled) ∷ (now 51, (none, some (gives timeout 50 2 0 0))) ∷ []) ∷
    of usual read ((from 0x07e9 51 good, (none, quiet)) ∷ []) ∷
    of usual read ((lent [] (record { time = 10; kind = 1; offset = 0; size = 0; source = ours }), (some 10, none)) ∷ (said 30 good, (none, answers)) ∷ []) ∷
    -- A begin that is refused has settled.
    of usual (security 0x02 none) ((now 0, (some 21, some (gives (refused 1) 0 0 0 0))) ∷ []) ∷ []

abbrev pub Runs : Type 0
Runs = map (λ r. plays r.setting r.call (begin r.setting r.call (0 ∷ 0 ∷ 0 ∷ 0 ∷ [])) (map (λ s. s.0) r.steps)) runs ≡ map (λ r. map (λ s. s.1) r.steps) runs
