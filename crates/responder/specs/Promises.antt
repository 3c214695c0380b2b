-- What the responder's code promises, of its answer and of what stands afterwards in buffer and store: at most one fits, and both ends together as `bench` says.
use Rattle.std.specs.Prelude.{ℕ, ◌≤◌, true, ◌≡◌, List, length, take, Some, None, Ok, Err}
use Rattle.wire.specs.declared.refusal.Refusal.{Refusal}
use Rattle.wire.specs.Refusing.{refusal_number}
use Rattle.rules.specs.Answers.{Part, part, positive}
use Rattle.rules.specs.Bytes.{every, is_byte}
use Rattle.rules.specs.Calls.{Call, read_identifier, write_identifier}
use Rattle.rules.specs.Client.{call}
use Rattle.rules.specs.Conversations.{Conversation}
use Rattle.rules.specs.Demand3.{Answers}
use Rattle.rules.specs.Events.{Form}
use Rattle.rules.specs.Settings.{Setting}
use Rattle.rules.specs.Writing.{Sayable}
use Rattle.bench.specs.Promise.{Served, Taken, sends, decides, at_once, lent_by, expected, Asks, InTime}
use Rattle.bench.specs.Responder as bench
use Rattle.bench.specs.Stores.{SoundStore}
use Rattle.responder.specs.Responding.{Response, Responds}

-- What the answer and the buffer say.
abbrev pub said_by : Response → List ℕ → bench.Response
said_by (Ok (Some n)) after = bench.replied (take n after)
said_by (Ok None) after = bench.silent
said_by (Err r) after = bench.refused (refusal_number r)

abbrev pub Answered : Response → Type 0
Answered (Ok x) = Unit {0}
Answered (Err r) = ⊥

pub record Promises : Type 0 where
  pub unique : {l q before : List ℕ} {r r' : Response} {area area' after after' : List ℕ} → Responds l q before r area after → Responds l q before r' area' after'
      → (r ≡ r') × (area ≡ area') × (after ≡ after')
  -- The reply stands at the buffer's front.
  pub stands : {l q before : List ℕ} {r : Response} {area after : List ℕ} → Responds l q before r area after → said_by r after ≡ (bench.respond l q before).response
  -- The store that it leaves is as sound as the one that it got, and a refusal leaves everything.
  pub stays-sound : {l q before : List ℕ} {r : Response} {area after : List ℕ} → Responds l q before r area after → SoundStore l → every is_byte q ≡ true → SoundStore area
  pub refused-keeps : {l q before : List ℕ} {r : Refusal} {area after : List ℕ} → Responds l q before (Err r) area after → (refusal_number r ≡ 13) × (area ≡ l) × (after ≡ before)
  pub roomy : {l q before : List ℕ} {r : Response} {area after : List ℕ} → Responds l q before r area after → 4095 ≤ length before → Answered r
  -- Both ends together: what the code answered to what a client sent begins with a conversation, and the client answers as expected, never a deviation.
  pub converses : (w : Setting) (c : Call) {l before : List ℕ} {r : Response} {area after : List ℕ} → Responds l (sends w c) before r area after → Served c → Taken c → SoundStore l → Answered r
      → Conversation w c (at_once (said_by r after)) (expected w c (decides w c l))
  pub meets : (w : Setting) (c : Call) (buffer : List ℕ) (form : Form) (listens : ℕ) {l before : List ℕ} {r : Response} {area after : List ℕ} → Responds l (sends w c) before r area after
      → Asks w c buffer → SoundStore l → Answered r → Sayable form 0 listens → InTime w (expected w c (decides w c l)) →
      let x = call true w c (lent_by (said_by r after) buffer form listens) in
      (take x.sent x.buffer ≡ sends w c) × (x.answer ≡ expected w c (decides w c l)) × Answers x.answer.outcome
  -- A write whose answer is positive, and then a read: the new bytes.
  pub reads-back : (w : Setting) (id : ℕ) (d : List ℕ) {l before : List ℕ} {r : Response} {area after : List ℕ} (p : Part)
      → Responds l (sends w (write_identifier id d)) before r area after → SoundStore l → Answered r → length d ≤ 4092
      → (expected w (write_identifier id d) (decides w (write_identifier id d) l)).outcome ≡ positive p
      → (expected w (read_identifier id) (decides w (read_identifier id) area)).outcome ≡ positive (part 3 d)
