-- Request Five, of the two ends as they meet: the responder's code and the client's code, by their contracts; a talk of several calls over one store; and
-- the door that answers beside the door that calls, in numbers.
use Prim.Native.Nat.{ℕ, ◌≤◌}
use native.Mathlib.Omega.{arith}
use mathlib.Core.Bool.{Bool, true}
use mathlib.Core.Path.{◌≡◌, refl, ◌∙◌, ap, subst⁻¹}
use mathlib.Core.List.{List, [], ◌∷◌}
use lib.Dec.{eqb, leb}
use lib.ListN.{length, take}
use Rattle.rules.specs.Bytes.{every, is_byte}
use Rattle.rules.specs.Calls.{Call, Field}
use Rattle.rules.specs.Client.{Result, events_in, call}
use Rattle.rules.specs.Conversations.{Conversation}
use Rattle.rules.specs.Demand3 as demand
use Rattle.rules.specs.Events.{Form}
use Rattle.rules.specs.Lenient.{Deviates}
use Rattle.rules.specs.Limited.{in_limit}
use Rattle.rules.specs.Logs.{Header, flag, setting_of}
use Rattle.rules.specs.Settings.{Setting, Lent}
use Rattle.rules.specs.Writing.{Sayable}
use Rattle.exchange.specs.Meaning.{answer_of}
use Rattle.calls.specs.Meaning.{Called}
use Rattle.calls.specs.declared.Answered as client
use Rattle.bench.specs.Promise.{Served, Taken, sends, decides, Roomy, at_once, bytes_in, lent_by, expected, Asks, InTime}
use Rattle.bench.specs.Responder as bench
use Rattle.bench.specs.Responder.{respond}
use Rattle.bench.specs.Stores.{SoundStore}
use Rattle.bench.proofs.Lasting.{lasting}
use Rattle.bench.proofs.Promise.{promise}
use Rattle.responder.specs.Promises.{said_by, Answered}
use Rattle.responder.specs.Responding.{Response, Responds}
use Rattle.responder.proofs.Promises.{promises}
use Rattle.numbers.specs.Numbers.{answer_numbers}
use Rattle.log_call.specs.Asking.{chosen}
use Rattle.door.specs.Door.{limit_in, asked}
use Rattle.host.specs.Beside.{refusal_of, Replies}
use Rattle.host.specs.Served as served
use Rattle.host.proofs.Promises.{outcome_in, answer_in, answer-is, outcome-is, answers}

module _ {w : Setting} {c : Call} {l room : List ℕ} {r : Response} {area after : List ℕ} (responds : Responds l (sends w c) room r area after) where
  -- The client's code, over the reply that the responder's code gave to what this call sends: it has sent that, and answers as expected.
  pub code-meets-code : {buffer : List ℕ} {form : Form} {listens : ℕ} {x : client.Answered} {b : List ℕ}
      → Called true w c (lent_by (said_by r after) buffer form listens) x b → Asks w c buffer → SoundStore l → Answered r → Sayable form 0 listens
      → InTime w (expected w c (decides w c l)) → let y = answer_of (bytes_in (said_by r after)) x.answer in
      (take x.sent b ≡ sends w c) × (y ≡ expected w c (decides w c l)) × demand.Answers y.outcome
  code-meets-code {buffer} {form} {listens} called asks ok a says t =
      subst⁻¹ (λ (y : Result). (take y.sent y.buffer ≡ sends w c) × (y.answer ≡ expected w c (decides w c l)) × demand.Answers y.answer.outcome)
      called.means (promises.meets w c buffer form listens responds asks ok a says t)

  -- Under every T, and over any list that says the same events: never a deviation.
  pub never-deviates : {lent : Lent} {x : client.Answered} {b : List ℕ} → Called true w c lent x b → Served c → SoundStore l
      → Roomy (respond l (sends w c) room).response → ¬ demand.Refused (answer_of lent.replies x.answer).outcome
      → events_in lent ≡ at_once (respond l (sends w c) room).response → ¬ Deviates (answer_of lent.replies x.answer).outcome
  never-deviates {lent} called v ok h un e =
      subst⁻¹ (λ (y : Result). ¬ Deviates y.answer.outcome) called.means
      (promise.undeviating w c l room v ok h lent (λ z. un (subst⁻¹ (λ (y : Result). demand.Refused y.answer.outcome) called.means z)) e)

-- A talk: each call's request is answered over the store that the one before left.
pub data Talk (w : Setting) (room : List ℕ) : List ℕ → List Call → Type 0 where
  over : {l : List ℕ} → Talk w room l []
  says : {l : List ℕ} {c : Call} {cs : List Call} (r : Response) (area after : List ℕ) → Responds l (sends w c) room r area after
      → Talk w room area cs → Talk w room l (c ∷ cs)

-- Every call of it is served, taken and of bytes.
abbrev pub Fitting : Setting → List Call → Type 0
Fitting w [] = Unit {0}
Fitting w (c ∷ cs) = (Served c × Taken c × (every is_byte (sends w c) ≡ true)) × Fitting w cs

-- Each begins with a conversation, whose answer is what the store held then.
abbrev pub EachConverses : {w : Setting} {room l : List ℕ} {cs : List Call} → Talk w room l cs → Type 0
EachConverses over = Unit {0}
EachConverses {w} {l = l} (says {c = c} r area after responds rest) =
    Conversation w c (at_once (said_by r after)) (expected w c (decides w c l)) × EachConverses rest

pub talk-converses : {w : Setting} {room l : List ℕ} {cs : List Call} (t : Talk w room l cs) → SoundStore l → 4095 ≤ length room → Fitting w cs
    → EachConverses t
talk-converses over ok long f = tt
talk-converses {w} (says {c = c} r area after responds rest) ok long f =
    let a = promises.roomy responds long in
    (promises.converses w c responds f.0.0 f.0.1 ok a, talk-converses rest (promises.stays-sound responds ok f.0.2) long f.1)

-- The door that answers: a result of 0 is a reply or silence.
roomy-so : (x : bench.Response) → ((n : ℕ) → x ≡ bench.refused n → n ≡ 13) → 0 ≡ refusal_of x → Roomy x
roomy-so (bench.replied r) h e = tt
roomy-so bench.silent h e = tt
roomy-so (bench.refused n) h e = let thirteen = h n refl in absurd (omega (arith, thirteen, e))

-- Its reply handed to the door that calls, at time 0 and from the address listened to: the numbers are those of the expected answer, and the first of
-- them says positive, suppressed or negative.
pub doors-meet : {b : Bool} (h : Header) (k : ℕ) (a s : Field) (d l room buffer : List ℕ) (form : Form) (listens : ℕ)
    {size l' after size' told after' told' : List ℕ} →
    let w = in_limit (limit_in k) (setting_of h) in
    let c = chosen h a s d in
    let lent = lent_by (respond l (sends w c) room).response buffer form listens in
    Replies l (sends w c) room size 0 l' after size' → served.Served b (asked h k a s d lent) buffer told 0 after' told' → eqb (flag 1 h) 1 ≡ true
    → Asks w c buffer → SoundStore l → Sayable form 0 listens → InTime w (expected w c (decides w c l))
    → (answer_in told' ≡ answer_numbers (expected w c (decides w c l))) × (leb (outcome_in told') 2 ≡ true)
doors-meet h k a s d l room buffer form listens replies calls strict asks ok sayable t =
    let w = in_limit (limit_in k) (setting_of h) in
    let c = chosen h a s d in
    let x = (respond l (sends w c) room).response in
    let lent = lent_by x buffer form listens in
    let room-is = roomy-so x (λ n e. (lasting.refused-keeps l (sends w c) room n e).0) replies.refusal in
    let m = promise.meets w c l room buffer form listens asks ok room-is sayable t in
    let strictly : asked h k a s d lent ≡ call true w c lent = ap (λ (m : Bool). call m w c lent) strict in
    let same : (asked h k a s d lent).answer ≡ expected w c (decides w c l) = ap (λ (y : Result). y.answer) strictly ∙ m.2 in
    let o = subst⁻¹ (λ (y : Result). demand.Answers y.answer.outcome) strictly m.3 in (
      answer-is h k a s d lent calls ∙ ap answer_numbers same,
      ap (λ (n : ℕ). leb n 2) (outcome-is h k a s d lent calls) ∙ (answers (asked h k a s d lent).answer.outcome).1 o,
    )
