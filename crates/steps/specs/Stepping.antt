-- The engine's steps as the code takes them, every field of the state record said. `Standing` ties them to `stepwise`.
use Rattle.std.specs.Prelude.{ℕ, Bool, cond, ◌||◌, ◌≡◌, List, [], leb, ltb, Result, Ok, Err}
use Rattle.std.proofs.Math.Option.{Option, none, some}
use Rattle.rules.specs.Events.{Entry, sound}
use Rattle.rules.specs.Calls.{Call}
use Rattle.stepwise.specs.Engine.{beyond}
use Rattle.wire.specs.Refusing.{refusal_number}
use Rattle.wire.specs.declared.refusal.Refusal.{Refusal}
use Rattle.exchange.specs.Meaning.{asked_of, outcome_of, option_of}
use Rattle.exchange.specs.Places.{Turns}
use Rattle.exchange.specs.States.{start_of, silence_of, under_of}
use Rattle.exchange.specs.declared.types.Answer.{Answer}
use Rattle.exchange.specs.declared.types.Asked.{Asked}
use Rattle.exchange.specs.declared.types.State.{State}
use Rattle.exchange.specs.declared.types.Timing.{Timing}
use Rattle.exchange.specs.declared.types.Turn.{Turn}
use Rattle.exchange.specs.declared.types.Turn.TheVariants.{On, Ends}
use Rattle.requests.specs.Parameters.{bit7}
use Rattle.requests.specs.Rows.{row_of}
use Rattle.calls.specs.Concluded.{Concluded}
use Rattle.calls.specs.Meaning.{setting_of, lent_of, is_refused, Called}
use Rattle.calls.specs.declared.Ask.{Ask}
use Rattle.calls.specs.declared.Answered.{Answered}
use Rattle.steps.specs.declared.Begun.{Begun}
use Rattle.steps.specs.declared.Phase.{Phase}
use Rattle.steps.specs.declared.Phase.TheVariants.{Waiting, Settled}
use Rattle.steps.specs.declared.Engine.{Engine}

-- A step's own answer, 0 where it was taken, and the engine behind it.
pub record Stepped : Type 0 where
  pub refusal : ℕ
  pub engine : Engine

-- A step that was taken.
abbrev pub took : Engine → Stepped
took e = record { refusal = 0; engine = e }

-- What is answered of an engine: refused, it is as it was.
abbrev pub stepped_in : Engine → Result Engine Refusal → Stepped
stepped_in e (Ok e') = took e'
stepped_in e (Err r) = record { refusal = refusal_number r; engine = e }

abbrev pub overall_in : Engine → Option ℕ
overall_in e = option_of e.begun.ask.overall

-- What the exchange knows of the request.
abbrev pub asked_in : Begun → Asked
asked_in b = record {
  sid = (row_of b.ask.call).sid;
  sub = bit7 b.ask.quiet (row_of b.ask.call).sub;
  timing = b.session;
  limit = b.ask.limit;
}

abbrev pub past_of : Option ℕ → ℕ → ℕ → Bool
past_of overall deadline t = ltb deadline t || beyond overall t

-- Refused: "changes nothing".
abbrev pub refusing : ℕ → Engine → Stepped
refusing n e = record { refusal = n; engine = e }

-- Taken at this time: what the engine was begun with stays.
abbrev pub taken : ℕ → Phase → Engine → Stepped
taken t p e = record { refusal = 0; engine = record { begun = e.begun; last = t; phase = p } }

abbrev pub going_on : ℕ → State → Engine → Stepped
going_on t s e = taken t (Waiting s) e

-- No event in time, and so no checks, no number, and the session's timing as it was.
abbrev pub silent_in : State → Engine → Answered
silent_in s e = record {
  answer = under_of (overall_in e) (silence_of s);
  number = 0;
  sent = e.begun.sent;
  timing = e.begun.session;
}

abbrev pub late_of : ℕ → State → Engine → Stepped
late_of t s e = taken t (Settled (silent_in s e)) e

abbrev pub Settles : Engine → ℕ → List ℕ → List ℕ → List ℕ → Answer → Stepped → Type 0
Settles e t a s replies heard r =
    (x : Answered) × Concluded e.begun.session e.begun.ask e.begun.sent a s replies heard x × (r ≡ taken t (Settled x) e)

-- "order 21, 10, 20"; a tick has no 10.
abbrev pub ticked : Engine → ℕ → Phase → Stepped
ticked e t (Settled x) = refusing 21 e
ticked e t (Waiting s) =
    cond (ltb t e.last) (refusing 20 e)
    (cond (past_of (overall_in e) s.deadline t) (late_of t s e) (going_on t s e))

abbrev pub tick_of : Engine → ℕ → Stepped
tick_of e t = ticked e t e.phase

-- What is decided of an event without a turn.
abbrev pub without_turn : Engine → Entry → List ℕ → State → Option Stepped
without_turn e x replies s =
    cond (leb 512 s.read.all) (some (refusing 10 e))
    (cond (sound replies x)
    (cond (ltb x.time e.last) (some (refusing 20 e))
    (cond (past_of (overall_in e) s.deadline x.time) (some (late_of x.time s e)) none))
    (some (refusing 10 e)))

-- The list engine's turn, and the engine behind it.
abbrev pub Behind : Engine → ℕ → List ℕ → List ℕ → List ℕ → Turn → Stepped → Type 0
Behind e t a s replies (On next) r = r ≡ going_on t next e
Behind e t a s replies (Ends settled) r = Settles e t a s replies (under_of (overall_in e) settled) r

pub record Turned (e : Engine) (now : State) (a s : List ℕ) (x : Entry) (replies : List ℕ) (r : Stepped) : Type 0 where
  pub turn : Turn
  pub turns : Turns e.begun.ask.strict (asked_of (asked_in e.begun)) (overall_in e) e.begun.ask.channel.listens now x replies turn
  pub behind : Behind e x.time a s replies turn r

abbrev pub HandsTo : Engine → List ℕ → List ℕ → Entry → List ℕ → State → Option Stepped → Stepped → Type 0
HandsTo e a s x replies now (some y) r = r ≡ y
HandsTo e a s x replies now none r = Turned e now a s x replies r

-- "order 21, 10, 20"
abbrev pub HandsIn : Engine → List ℕ → List ℕ → Entry → List ℕ → Phase → Stepped → Type 0
HandsIn e a s x replies (Settled y) r = r ≡ refusing 21 e
HandsIn e a s x replies (Waiting now) r = HandsTo e a s x replies now (without_turn e x replies now) r

pub record Hands (e : Engine) (a s : List ℕ) (x : Entry) (replies : List ℕ) (r : Stepped) : Type 0 where
  pub means : HandsIn e a s x replies e.phase r

-- How the engine begins, by what the call answers that hears nothing: refused it has settled with that refusal; else it waits from P2's start.
abbrev pub begun_by : Timing → Ask → Answered → Engine
begun_by session ask x =
    let begun : Begun = record { ask = ask; session = session; sent = x.sent } in
    record {
      begun = begun;
      last = 0;
      phase = cond (is_refused (outcome_of [] x.answer.outcome)) (Settled x) (Waiting (start_of (asked_of (asked_in begun))));
    }

-- The engine that was begun, and the request buffer before and after: both as the call that hears nothing leaves them.
pub record Begins (session : Timing) (ask : Ask) (c : Call) (before : List ℕ) (e : Engine) (after : List ℕ) : Type 0 where
  pub unheard : Answered
  pub called : Called ask.strict (setting_of ask session) c (lent_of ask.channel before [] []) unheard after
  pub engine : e ≡ begun_by session ask unheard
