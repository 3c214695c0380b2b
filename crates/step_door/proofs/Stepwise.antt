-- Request Eleven's promise, carried to the numbers of the door: begun and handed a list's events and any ticks, the state's first fifteen numbers are those of `bintrochis_door_call` over the list.
use Rattle.std.specs.Prelude.{Some}
use Prim.Native.Nat.{ℕ, ◌+◌, ◌*◌, ◌/◌, ◌%◌, ◌^◌, ◌≤◌, ◌<◌}
use native.Mathlib.Nat.{mod-eq_of_lt}
use native.Mathlib.Omega.{arith}
use mathlib.Core.Bool.{Bool, true, false, cond, ◌&&◌, ◌||◌}
use mathlib.Core.Path.{◌≡◌, refl, sym, ◌∙◌, ap, subst, subst⁻¹}
use mathlib.Core.List.{List, [], ◌∷◌, ◌++◌, map, append_assoc}
use mathlib.Core.Option.{Option, none, some}
use lib.Dec.{leb, ltb, eqb}
use lib.Seq.{take_at, drop_at, drop-drop, length-take-le}
use lib.ListN.{length, take, drop, replicate, length-replicate, length-drop}
use borrow.Author.Tests.{leb-true, le-leb, eqb-true, eqb-false, ne_eqb}
use Rattle.rules.specs.After.{checked}
use Rattle.rules.specs.Answers as answers
use Rattle.rules.specs.Calls.{given, format, request_of}
use Rattle.rules.specs.Client.{Result}
use Rattle.rules.specs.Settings.{Setting, Lent}
use Rattle.rules.specs.Calls as rules
use Rattle.rules.specs.Events.{Entry, Form, addressed, entries, within_limits}
use Rattle.rules.specs.Events as events
use Rattle.rules.specs.Logs.{Header, Uses, uses_of, fields_ok, flag, form_in, most_listens, all, some?}
use Rattle.rules.proofs.Judging.{both}
use Rattle.stepwise.specs.Driven.{InOrder}
use Rattle.stepwise.specs.Engine.{tick}
use Rattle.stepwise.specs.Handed.{Handed, lent, now, input_of, Handing}
use Rattle.exchange.specs.Meaning.{outcome_of, part_of, option_of}
use Rattle.exchange.specs.States.{under_of}
use Rattle.exchange.specs.declared.types.Answer.{Answer}
use Rattle.exchange.specs.declared.types.Turn.{Turn}
use Rattle.exchange.specs.declared.types.Turn.TheVariants.{On, Ends}
use Rattle.requests.specs.Meaning.{call_of}
use Rattle.requests.specs.Prepared.{refusal_of, over}
use Rattle.requests.specs.declared.Call.{Call}
use Rattle.requests.specs.declared.Call.TheVariants as call
use Rattle.checks.specs.Answered as checks
use Rattle.calls.specs.Concluded.{Concluded}
use Rattle.exchange.specs.declared.types.State.{State}
use Rattle.calls.specs.Meaning.{setting_of, lent_of, result_of, Called}
use Rattle.calls.specs.declared.Ask.{Ask}
use Rattle.calls.specs.declared.Answered.{Answered}
use Rattle.log_call.specs.Asking.{session_of, Asks}
use Rattle.steps.specs.declared.Begun.{Begun}
use Rattle.steps.specs.declared.Engine.{Engine}
use Rattle.steps.specs.declared.Phase.{Phase}
use Rattle.steps.specs.declared.Phase.TheVariants.{Waiting, Settled}
use Rattle.steps.specs.Stepping.{Stepped, overall_in, past_of, refusing, late_of, going_on, ticked, tick_of, without_turn, Behind, HandsTo, HandsIn, Hands, Begins}
use Rattle.steps.specs.Running as running
use Rattle.steps.proofs.Phases.{ticks, hands}
use Rattle.steps.proofs.Promises.{stays, refused-alike, refuses-so, written, answers-so}
use Rattle.steps.proofs.Unique.{refused-event, refused-tick}
use Rattle.door.specs.Door.{fields, is_limit, fits, asks_one, data_in, limit_for, limited_to}
use Rattle.numbers.specs.Numbers.{values_of, numbers_of, Tells}
use Rattle.numbers.proofs.Telling.{needs, long-enough}
use Rattle.state_numbers.specs.Kept.{number, waits, nine, fifteen, header_in, AskedIn, engine_in, is_set, bit, Told}
use Rattle.host.specs.Served.{InBytes}
use Rattle.step_door.specs.Stepping as door
use Rattle.host.proofs.Promises.{was-asked}
use Rattle.host.proofs.Serving.{asks-one, unique}
use Rattle.step_door.specs.Stepping.{Ticked, BegunInBytes, address_in, size_in, asking_of, Retold, Through}

-- Each number in the range of its C type.
pub record InRange (h : Header) (k : ℕ) : Type 0 where
  pub call : h.call < 256
  pub flags : h.flags < 256
  pub value : h.value < 65536
  pub sub : h.sub < 256
  pub address : h.address_length < 256
  pub size : h.size_length < 256
  pub p2 : h.p2 < 2 ^ 32
  pub star : h.star < 2 ^ 32
  pub overall : h.overall < 2 ^ 32
  pub listens : h.listens < 65536
  pub limit : k < 65536

-- An outcome's number is 10 at most, and so never that of an engine that waits.
outcome-below : (o : answers.Outcome) → (values_of o).outcome ≤ 10
outcome-below (answers.positive p) = omega arith
outcome-below answers.suppressed = omega arith
outcome-below (answers.negative n) = omega arith
outcome-below answers.timeout = omega arith
outcome-below answers.pending_limit = omega arith
outcome-below answers.disconnected = omega arith
outcome-below (answers.transport n) = omega arith
outcome-below (answers.fault (answers.deviation n)) = omega arith
outcome-below (answers.fault (answers.deviation8 a b)) = omega arith
outcome-below (answers.fault answers.bad_length) = omega arith
outcome-below (answers.fault answers.overflow) = omega arith
outcome-below (answers.refused n) = omega arith

settled-below : (x : Answered) (told : List ℕ) → Tells x told → number told 0 ≤ 10
unfolding numbers_of
settled-below x told tells =
    let o = x.answer.outcome in
    let p = x.answer.reply in
    let n = needs o + (p.at + p.len) in
    let replies : List ℕ = replicate n 0 in
    let long : length replies ≡ n = length-replicate n 0 in
    let is = tells replies [] (long-enough o replies (omega (arith, long))) (omega (arith, long)) in
    subst⁻¹ (λ (l : List ℕ). number l 0 ≤ 10) is (outcome-below (outcome_of replies o))

-- A step of the engine keeps what it was begun with, and changes nothing where it is refused.
abbrev Steady : Engine → Stepped → Type 0
Steady e y = (y.engine.begun ≡ e.begun) × ((y.refusal ≡ 0 → ⊥) → y.engine ≡ e)

steady-tick : (e : Engine) (t : ℕ) → Steady e (tick_of e t)
steady-tick e t = (go e.phase, refused-tick e t)
  where
    order : (z : State) (back late : Bool) → (cond back (refusing 20 e) (cond late (late_of t z e) (going_on t z e))).engine.begun ≡ e.begun
    order z true late = refl
    order z false true = refl
    order z false false = refl

    go : (p : Phase) → (ticked e t p).engine.begun ≡ e.begun
    go (Settled x) = refl
    go (Waiting z) = order z (ltb t e.last) (past_of (overall_in e) z.deadline t)

steady-event : (e : Engine) (a s : List ℕ) (x : Entry) (replies : List ℕ) {r : Stepped} → Hands e a s x replies r → Steady e r
steady-event e a s x replies {r} k = (go e.phase k.means, refused-event replies e a s x k)
  where
    is : {y : Stepped} → r ≡ y → r.engine.begun ≡ y.engine.begun
    is q = ap (λ (y : Stepped). y.engine.begun) q

    behind : (turn : Turn) → Behind e x.time a s replies turn r → r.engine.begun ≡ e.begun
    behind (On next) q = is q
    behind (Ends y) q = is q.2

    late : (z : State) (b : Bool) → HandsTo e a s x replies z (cond b (some (late_of x.time z e)) none) r → r.engine.begun ≡ e.begun
    late z true q = is q
    late z false q = behind q.turn q.behind

    order : (z : State) (full fits back past : Bool)
        → HandsTo e a s x replies z
        (cond full (some (refusing 10 e)) (cond fits (cond back (some (refusing 20 e)) (cond past (some (late_of x.time z e)) none)) (some (refusing 10 e)))) r
        → r.engine.begun ≡ e.begun
    order z true fits back past q = is q
    order z false false back past q = is q
    order z false true true past q = is q
    order z false true false past q = late z past q

    go : (p : Phase) → HandsIn e a s x replies p r → r.engine.begun ≡ e.begun
    go (Settled y) q = is q
    go (Waiting z) q = order z (leb 512 z.read.all) (events.sound replies x) (ltb x.time e.last) (past_of (overall_in e) z.deadline x.time) q

-- Only the checks behind a positive look at address and size.
module _ (a s a' s' : List ℕ) where
  abbrev Alike : Begun → Type 0
  Alike b = (p : answers.Part) → checked b.ask.strict (checks.asked b.ask.call a s) p ≡ checked b.ask.strict (checks.asked b.ask.call a' s') p

  hands-alike : (e : Engine) (x : Entry) (replies : List ℕ) {r : Stepped} → Alike e.begun → Hands e a s x replies r → Hands e a' s' x replies r
  hands-alike e x replies {r} alike k = record { means = go e.phase k.means }
    where
      concluded : (heard : Answer) (y : Answered) → Concluded e.begun.session e.begun.ask e.begun.sent a s replies heard y
          → Concluded e.begun.session e.begun.ask e.begun.sent a' s' replies heard y
      concluded heard y c = record {
        outcome = record {
          means =
              let o = outcome_of replies heard.outcome in
              c.outcome.means ∙ ap (λ (v : answers.Outcome). answers.if_positive o (λ p. checks.answered replies v) o) (alike (part_of replies heard.reply));
          inside = c.outcome.inside;
        };
        time = c.time;
        events = c.events;
        notices = c.notices;
        reply = c.reply;
        number = c.number;
        sent = c.sent;
        timing = c.timing;
      }

      behind : (turn : Turn) → Behind e x.time a s replies turn r → Behind e x.time a' s' replies turn r
      behind (On next) q = q
      behind (Ends y) q = (q.0, concluded (under_of (overall_in e) y) q.0 q.1, q.2)

      to : (z : State) (y : Option Stepped) → HandsTo e a s x replies z y r → HandsTo e a' s' x replies z y r
      to z (some y) q = q
      to z none q = record { turn = q.turn; turns = q.turns; behind = behind q.turn q.behind }

      go : (p : Phase) → HandsIn e a s x replies p r → HandsIn e a' s' x replies p r
      go (Settled y) q = q
      go (Waiting z) q = to z (without_turn e x replies z) q

  runs-alike : (b : Begun) → Alike b → (hs : List Handed) (e e' : Engine) → e.begun ≡ b → running.Steps a s hs e e' → running.Steps a' s' hs e e'
  runs-alike b alike [] e e' is k = k
  runs-alike b alike (lent replies x ∷ hs) e e' is k =
      let same = (steady-event e a s x replies k.1).0 ∙ is in
      (k.0, hands-alike e x replies (subst⁻¹ Alike is alike) k.1, runs-alike b alike hs k.0.engine e' same k.2)
  runs-alike b alike (now t ∷ hs) e e' is k = runs-alike b alike hs (tick_of e t).engine e' ((steady-tick e t).0 ∙ is) k

-- An engine that has settled can be handed anything.
rests : (a s : List ℕ) (hs : List Handed) (e : Engine) {x : Answered} → e.phase ≡ Settled x → running.Steps a s hs e e
rests a s [] e is = refl
rests a s (lent replies y ∷ hs) e is = (refusing 21 e, hands e a s y replies is refl, rests a s hs e is)
rests a s (now t ∷ hs) e is = subst (λ (q : Stepped). running.Steps a s hs q.engine e) (ticks e t {r = refusing 21 e} is refl) (rests a s hs e is)

-- Address and size stand behind the first two bytes of a request that has them; the checks of the other calls do not look at them.
fields_in : (x y : ℕ) (a s rest : List ℕ) {n m : ℕ} → length a ≡ n → length s ≡ m → let q = x ∷ y ∷ (a ++ (s ++ rest)) in
    (take n (drop 2 q) ≡ a) × (take m (drop (2 + n) q) ≡ s)
fields_in x y a s rest {n} {m} ea es =
    let behind = sym (drop-drop n 2 (x ∷ y ∷ (a ++ (s ++ rest)))) ∙ drop_at a (s ++ rest) n ea in
    (take_at a (s ++ rest) n ea, ap (take m) behind ∙ take_at s rest m es)

module _ (quiet strict : Bool) (a s d before : List ℕ) {n m : ℕ} (ea : length a ≡ n) (es : length s ≡ m) where
  abbrev sent-as : Call → List ℕ
  sent-as k = over (request_of quiet (call_of k a s d)) before

  by-fields : (k : Call) (x y : ℕ) (rest : List ℕ) → sent-as k ≡ x ∷ y ∷ (a ++ (s ++ rest)) → (part : answers.Part)
      → checked strict (checks.asked k (take n (drop 2 (sent-as k))) (take m (drop (2 + n) (sent-as k)))) part ≡ checked strict (checks.asked k a s) part
  by-fields k x y rest is part =
      let found = fields_in x y a s rest ea es in
      let address = ap (λ (q : List ℕ). take n (drop 2 q)) is ∙ found.0 in
      let size = ap (λ (q : List ℕ). take m (drop (2 + n) q)) is ∙ found.1 in
      λ i. checked strict (checks.asked k (address i) (size i)) part

  stands-in : (k : Call) (part : answers.Part)
      → checked strict (checks.asked k (take n (drop 2 (sent-as k))) (take m (drop (2 + n) (sent-as k)))) part ≡ checked strict (checks.asked k a s) part
  unfolding checked
  stands-in (call.Request sid sub p) part = refl
  stands-in (call.DiagnosticSessionControl sub) part = refl
  stands-in (call.EcuReset sub) part = refl
  stands-in (call.SecurityAccess sub p) part = refl
  stands-in call.TesterPresent part = refl
  stands-in call.ReadMemoryByAddress part =
      let f = format (given a) (given s) in
      let rest = drop (length (request_of quiet (call_of call.ReadMemoryByAddress a s d))) before in
      by-fields call.ReadMemoryByAddress 0x23 f rest (ap (λ (q : List ℕ). 0x23 ∷ f ∷ q) (append_assoc a s rest)) part
  stands-in call.WriteMemoryByAddress part =
      let f = format (given a) (given s) in
      let rest = drop (length (request_of quiet (call_of call.WriteMemoryByAddress a s d))) before in
      by-fields call.WriteMemoryByAddress 0x3d f (d ++ rest) (ap (λ (q : List ℕ). 0x3d ∷ f ∷ q) (append_assoc (a ++ s) d rest ∙ append_assoc a s (d ++ rest))) part
  stands-in (call.ReadDataByIdentifier id) part = refl
  stands-in (call.WriteDataByIdentifier id) part = refl
  stands-in (call.ReadDTCInformation mask) part = refl
  stands-in (call.RoutineControl sub id p) part = refl
  stands-in (call.RequestDownload c e) part = refl
  stands-in (call.RequestUpload c e) part = refl
  stands-in (call.TransferData counter p) part = refl
  stands-in (call.RequestTransferExit p) part = refl
  stands-in (call.ReadDTCInformationDTC mask) part = refl

-- Tests that follow one by one follow together.
abbrev Follow : List Bool → List Bool → Type 0
Follow [] cs = cs ≡ []
Follow (b ∷ bs) [] = ⊥
Follow (b ∷ bs) (c ∷ cs) = (b ≡ true → c ≡ true) × Follow bs cs

together : (bs cs : List Bool) → Follow bs cs → all bs ≡ true → all cs ≡ true
together [] cs f h = rw f
together (b ∷ bs) [] f h = absurd f
together (b ∷ bs) (c ∷ cs) f h = let t = both b (all bs) h in rw (f.0 t.0, together bs cs f.1 t.1)

-- The tests of `fields_ok`.
abbrev tests : Header → Uses → List Bool
tests h u =
    leb (h.flags / 32) u.may ∷
    leb u.must (h.flags / 32) ∷
    leb (flag 16 h) u.named ∷
    leb h.value u.value ∷
    leb h.sub (u.sub + flag 16 h * 255) ∷
    leb h.address_length u.lengths ∷
    leb h.size_length u.lengths ∷
    leb h.listens (most_listens (form_in h)) ∷
    leb h.overall (flag 8 h * 4294967295) ∷
    leb (h.address_length + h.size_length) h.arguments ∷
    leb h.arguments (h.address_length + h.size_length + flag 32 h * 65535) ∷ []

-- An answer's numbers are fifteen.
fifteen-are : (x : Result) → fifteen (numbers_of x) [] ≡ numbers_of x
unfolding numbers_of
fifteen-are x = refl

-- The numbers of one call: its fields and the limit.
module _ (call flags value sub alen slen p2 star overall listens k : ℕ) where
  abbrev h : Header
  h = fields call flags value sub alen slen p2 star overall true listens

  -- The same without the widths of address and size, as the state has it.
  abbrev bare : Header
  bare = fields call flags value sub 0 0 p2 star overall true listens

  abbrev asking : List ℕ
  asking = asking_of h k alen slen

  asks-bare : {ask : Ask} → Asks h ask → Asks bare ask
  asks-bare asks = record { strict = asks.strict; setting = asks.setting; form = asks.form; listens = asks.listens; call = asks.call }

  bare-suits : fields_ok h (uses_of call) ≡ true → fields_ok bare (uses_of call) ≡ true
  bare-suits ok =
      let unused = le-leb 0 (uses_of call).lengths (omega arith) in
      let enough = le-leb 0 (0 + 0 + flag 32 h * 65535) (omega arith) in
      together (tests h (uses_of call)) (tests bare (uses_of call))
      (λ e. e, (λ e. e, (λ e. e, (λ e. e, (λ e. e, (λ e. unused, (λ e. unused, (λ e. e, (λ e. e, (λ e. refl, (λ e. enough, refl))))))))))) ok

  -- The engine that waits, as numbers.
  abbrev waits_as : Begun → ℕ → State → List ℕ
  waits_as b t s =
      11 ∷ 0 ∷ 0 ∷ 0 ∷ s.deadline ∷ s.read.all ∷ s.notices.all ∷ 0 ∷ 0 ∷ 0 ∷ 0 ∷ 0 ∷ b.session.p2 ∷ b.session.star ∷ b.sent ∷ t ∷
      bit s.hush ∷ s.read.early ∷ s.notices.early ∷ nine asking

  module _ (range : InRange h k) (suits : fields_ok h (uses_of call) ≡ true) (known : leb call 15 ≡ true) {ask : Ask} (asks : Asks h ask) (sent : ℕ) where
    abbrev asked-for : Ask
    asked-for = limited_to (limit_for k) ask

    abbrev begun : Begun
    begun = record { ask = asked-for; session = session_of h; sent = sent }

    module _ (t : ℕ) (s : State) where
      abbrev l : List ℕ
      l = waits_as begun t s

      header_is : header_in l ≡ bare
      header_is =
          λ i. fields (mod-eq_of_lt range.call i) (mod-eq_of_lt range.flags i) (mod-eq_of_lt range.value i) (mod-eq_of_lt range.sub i) 0 0
          (mod-eq_of_lt range.p2 i) (mod-eq_of_lt range.star i) (mod-eq_of_lt range.overall i) true (mod-eq_of_lt range.listens i)

      asked_in : AskedIn l (Some asked-for)
      asked_in = (
        ap (λ (q : Header). leb q.call 15 && fields_ok q (uses_of q.call)) header_is ∙ rw (known, bare-suits suits),
        ask,
        subst⁻¹ (λ (q : Header). Asks q ask) header_is (asks-bare asks),
        ap (λ (n : ℕ). limited_to (limit_for n) ask) (sym (mod-eq_of_lt range.limit)),
      )

      abbrev waiting : Engine
      waiting = record { begun = begun; last = t; phase = Waiting s }

      set_is : (b : Bool) → is_set (bit b) ≡ b
      set_is true = refl
      set_is false = refl

      engine-is : engine_in asked-for l ≡ waiting
      engine-is =
          λ i. record {
            begun = record { ask = asked-for; session = record { p2 = mod-eq_of_lt range.p2 i; star = mod-eq_of_lt range.star i }; sent = sent };
            last = t;
            phase = Waiting (record { hush = set_is s.hush i; deadline = s.deadline; read = s.read; notices = s.notices });
          }

    -- The numbers keep the engine.
    abbrev Keeps : Engine → List ℕ → Type 0
    Keeps e l = (e.begun ≡ begun) × Told e asking e.phase l

    keeps-widths : (e : Engine) (l : List ℕ) → Keeps e l → (number l 26 ≡ alen) × (number l 27 ≡ slen)
    keeps-widths e l kept = go e.phase kept.1
      where
        go : (p : Phase) → Told e asking p l → (number l 26 ≡ alen) × (number l 27 ≡ slen)
        go (Waiting s) told = (ap (λ (q : List ℕ). number q 26) told, ap (λ (q : List ℕ). number q 27) told)
        go (Settled x) told = (ap (λ (q : List ℕ). number q 26) told.2, ap (λ (q : List ℕ). number q 27) told.2)

    -- A step through the door is the engine's own.
    own-step : (S : Engine → Stepped → Type 0) (e : Engine) (l l' : List ℕ) {r : ℕ} → Keeps e l → Through l S r l' → ((y : Stepped) → S e y → Steady e y)
        → ((x : Answered) → e.phase ≡ Settled x → S e (refusing 21 e)) → (y : Stepped) × S e y × Keeps y.engine l'
    own-step S e l l' {r} kept through steady rests = go e.phase refl kept.1
      where
        go : (p : Phase) → e.phase ≡ p → Told e asking p l → (y : Stepped) × S e y × Keeps y.engine l'
        go (Waiting s) is told =
            let numbers : l ≡ waits_as begun e.last s = told ∙ ap (λ (b : Begun). waits_as b e.last s) kept.0 in
            let engine : e ≡ waiting e.last s = λ i. record { begun = kept.0 i; last = e.last; phase = is i } in
            let step = (subst (λ (q : List ℕ). Through q S r l') numbers through).steps refl asked-for (asked_in e.last s) in
            let y = step.0 in
            let own : S e y = subst (λ (q : Engine). S q y) (engine-is e.last s ∙ sym engine) step.1 in
            (y, own, behind y (steady y own) (eqb y.refusal 0) refl step.3)
          where
            behind : (y : Stepped) → Steady e y → (b : Bool) → eqb y.refusal 0 ≡ b → Retold (waits_as begun e.last s) y b l' → Keeps y.engine l'
            behind y so true b t = (so.0 ∙ kept.0, t)
            behind y so false b t =
                let numbers : l ≡ waits_as begun e.last s = told ∙ ap (λ (b : Begun). waits_as b e.last s) kept.0 in
                subst⁻¹ (λ (q : Engine). Keeps q l') (so.1 (eqb-false y.refusal 0 b)) (subst⁻¹ (Keeps e) (t ∙ sym numbers) kept)
        go (Settled x) is told =
            let below = settled-below x told.0 told.1 in
            let first : number l 0 ≡ number told.0 0 = ap (λ (q : List ℕ). number q 0) told.2 in
            let step = through.settled (ne_eqb (number l 0) 11 (λ eleven. omega (arith, below, first, eleven))) in
            (refusing 21 e, rests x is, subst⁻¹ (Keeps e) step.1 kept)

    -- A run through the door is a run of the engine, with address and size as they stand in the request.
    own-run : (q : List ℕ) (hs : List Handed) (e : Engine) (l l' : List ℕ) → Keeps e l → door.Steps q hs l l'
        → (e' : Engine) × running.Steps (take alen (drop 2 q)) (take slen (drop (2 + alen) q)) hs e e' × Keeps e' l'
    own-run q [] e l l' kept steps = (e, refl, subst (Keeps e) steps kept)
    own-run q (lent replies x ∷ hs) e l l' kept steps =
        let a = address_in l q in
        let s = size_in l q in
        let own =
        own-step (λ e y. Hands e a s x replies y) e l steps.1 kept steps.2 (λ y k. steady-event e a s x replies k) (λ z is. hands e a s x replies is refl)
        in
        let rest = own-run q hs own.0.engine steps.1 l' own.2 steps.3 in
        let widths = keeps-widths e l kept in
        let address = ap (λ (n : ℕ). n % 256) widths.0 ∙ mod-eq_of_lt range.address in
        let size = ap (λ (n : ℕ). n % 256) widths.1 ∙ mod-eq_of_lt range.size in
        let here =
        subst (λ (n : ℕ). Hands e (take alen (drop 2 q)) (take n (drop (2 + alen) q)) x replies own.0) size
        (subst (λ (n : ℕ). Hands e (take n (drop 2 q)) (take (number l 27 % 256) (drop (2 + n) q)) x replies own.0) address own.1)
        in
        (rest.0, (own.0, here, rest.1), rest.2)
    own-run q (now t ∷ hs) e l l' kept steps =
        let own =
        own-step (λ e y. y ≡ tick_of e t) e l steps.1 kept steps.2 (λ y k. subst⁻¹ (Steady e) k (steady-tick e t)) (λ z is. ticks e t is refl)
        in
        let rest = own-run q hs own.0.engine steps.1 l' own.2 steps.3 in
        (rest.0, subst (λ (y : Stepped). running.Steps (take alen (drop 2 q)) (take slen (drop (2 + alen) q)) hs y.engine rest.0) own.1 rest.1, rest.2)

    -- The engine is due where the numbers say so.
    due-so : (e : Engine) (l : List ℕ) (last : ℕ) → Keeps e l → (waits l ≡ true → past_of (some? (eqb (flag 8 h) 1) overall) (number l 4) last ≡ true) → running.Due e last
    due-so e l last kept due = go e.phase kept.1
      where
        go : (p : Phase) → Told e asking p l → running.DueIn e last p
        go (Settled x) told = tt
        go (Waiting s) told =
            let deadline : number l 4 ≡ s.deadline = ap (λ (q : List ℕ). number q 4) told in
            let limit : overall_in e ≡ some? (eqb (flag 8 h) 1) overall =
            ap (λ (b : Begun). option_of b.ask.overall) kept.0 ∙ ap (λ (w : Setting). w.overall) asks.setting
            in
            (λ i. past_of (limit i) (sym deadline i) last) ∙ due (ap waits told)

  -- Request Eleven: "Driven with any valid list and ticks, merged in time order and ending with a tick past its deadline, it gives the list engine's answer", number by number.
  module _ (range : InRange h k) (args request events replies told₀ told request' request'' told' l₀ l₁ l₂ ts : List ℕ) (hs : List Handed) (last r : ℕ)
      (begins : BegunInBytes h k args request told₀ 0 request' l₀) (within : within_limits addressed events replies ≡ true) (merged : Handing replies (entries addressed events) ts hs)
      (order : InOrder 0 (map (input_of listens) hs ++ (tick last ∷ []))) (steps : door.Steps request' hs l₀ l₁)
      (due : waits l₁ ≡ true → past_of (some? (eqb (flag 8 h) 1) overall) (number l₁ 4) last ≡ true) (ends : Ticked l₁ last r l₂)
      (listed : InBytes h k args request events replies told 0 request'' told') where
    abbrev a : List ℕ
    a = take alen args

    abbrev s : List ℕ
    s = take slen (drop alen args)

    abbrev d : List ℕ
    d = data_in h args

    one : asks_one h k (length args) ≡ true
    one = was-asked (asks_one h k (length args)) listed.done

    suits : fields_ok h (uses_of call) ≡ true
    suits = (both (fields_ok h (uses_of call)) (fits h k (length args)) one).0

    -- There is such a call, and the arguments hold address and size.
    fitting : (leb call 15 ≡ true) × (alen + slen ≤ length args)
    unfolding fits
    fitting =
        let listed-call = leb call 15 in
        let room = leb (alen + slen) (length args) in
        let all-four = (both (fields_ok h (uses_of call)) (fits h k (length args)) one).1 in
        let three = (both (listed-call && is_limit k && room) (eqb (flag 32 h) 1 || leb (length args) (alen + slen)) all-four).0 in
        let two = both (listed-call && is_limit k) room three in
        ((both listed-call (is_limit k) two.0).0, leb-true (alen + slen) (length args) two.1)

    address-long : length a ≡ alen
    address-long = length-take-le alen args (omega (arith, fitting.1))

    size-long : length s ≡ slen
    size-long = length-take-le slen (drop alen args) (simp length-drop (omega (arith, fitting.1)))

    abbrev ask : Ask
    ask = (begins.begun one).1

    asks : Asks h ask
    asks = (begins.begun one).2

    abbrev first : Engine
    first = (begins.begun one).3

    abbrev asked-for' : Ask
    asked-for' = limited_to (limit_for k) ask

    begun-so : Begins (session_of h) asked-for' (call_of ask.call a s d) request first request'
    begun-so = subst⁻¹ (λ (c : rules.Call). Begins (session_of h) asked-for' c request first request') (asks.call (given a) (given s) d) (begins.begun one).4

    abbrev number-sent : ℕ
    number-sent = begun-so.unheard.sent

    abbrev Kept : Engine → List ℕ → Type 0
    Kept = Keeps range suits fitting.0 asks number-sent

    kept-first : Kept first l₀
    kept-first = (ap (λ (q : Engine). q.begun) begun-so.engine, (begins.begun one).5)

    ran : (e : Engine) × running.Steps (take alen (drop 2 request')) (take slen (drop (2 + alen) request')) hs first e × Kept e l₁
    ran = own-run range suits fitting.0 asks number-sent request' hs first l₀ l₁ kept-first steps

    abbrev refusal : ℕ
    refusal = refusal_of ask.quiet (call_of ask.call a s d) (length request)

    -- With address and size as they were given: refused it has settled at once; else they stand in the request.
    ran-so : running.Steps a s hs first ran.0
    ran-so = go (eqb refusal 0) refl
      where
        go : (b : Bool) → eqb refusal 0 ≡ b → running.Steps a s hs first ran.0
        go true b =
            let is = written (session_of h) asked-for' a s d request (eqb-true refusal 0 b) begun-so in
            let begun' = begun range suits fitting.0 asks number-sent in
            let alike : Alike (take alen (drop 2 request')) (take slen (drop (2 + alen) request')) a s begun' =
            λ part.
            subst⁻¹ (λ (q : List ℕ). checked ask.strict (checks.asked ask.call (take alen (drop 2 q)) (take slen (drop (2 + alen) q))) part ≡ checked ask.strict (checks.asked ask.call a s) part) is
            (stands-in ask.quiet ask.strict a s d request address-long size-long ask.call part)
            in
            runs-alike (take alen (drop 2 request')) (take slen (drop (2 + alen) request')) a s begun' alike hs first ran.0 kept-first.0 ran.1
        go false b =
            let r = refuses-so (session_of h) asked-for' a s d request (eqb-false refusal 0 b) begun-so in
            let rest = refused-alike (session_of h) asked-for' a s d request r.0 r.1 begun-so in
            let same = stays (take alen (drop 2 request')) (take slen (drop (2 + alen) request')) hs first ran.0 rest.0 ran.1 in
            subst (running.Steps a s hs first) same (rests a s hs first rest.0)

    -- The engine's answer is the call's.
    abbrev lent-so : Lent
    lent-so = lent_of ask.channel request events replies

    answered-so : (x : Answered) × ((tick_of ran.0 last).engine.phase ≡ Settled x) × Called ask.strict (setting_of asked-for' (session_of h)) (call_of ask.call a s d) lent-so x request'
    answered-so =
        answers-so (session_of h) asked-for' a s d request last ran.0
        (subst⁻¹ (λ (f : Form). within_limits f events replies ≡ true) asks.form within) begun-so
        (subst⁻¹ (λ (f : Form). Handing replies (entries f events) ts hs) asks.form merged)
        (subst⁻¹ (λ (n : ℕ). InOrder 0 (map (input_of n) hs ++ (tick last ∷ []))) asks.listens order)
        ran-so (due-so range suits fitting.0 asks number-sent ran.0 l₁ last ran.2 due)

    ended : (y : Stepped) × (y ≡ tick_of ran.0 last) × Kept y.engine l₂
    ended =
        own-step range suits fitting.0 asks number-sent (λ e y. y ≡ tick_of e last) ran.0 l₁ l₂ ran.2 ends
        (λ y q. subst⁻¹ (Steady ran.0) q (steady-tick ran.0 last)) (λ x is. ticks ran.0 last is refl)

    told-last : Told ended.0.engine asking (Settled answered-so.0) l₂
    told-last =
        subst (λ (p : Phase). Told ended.0.engine asking p l₂) (ap (λ (y : Stepped). y.engine.phase) ended.1 ∙ answered-so.1) ended.2.1

    pub same_numbers : (take 15 l₂ ≡ told') × (request' ≡ request'')
    same_numbers =
        let x = answered-so.0 in
        let called = answered-so.2 in
        let served = asks-one {h = h} {ask = ask} k (given a) (given s) d asks called {told = told} one told-last.1 in
        let same = unique served listed in
        let whole = told-last.1 replies request' called.outcome called.reply in
        let front = ap (take 15) told-last.2 ∙ ap (λ (q : List ℕ). fifteen q []) whole ∙ fifteen-are (result_of replies x request') ∙ sym whole in
        (front ∙ same.2, same.1)
