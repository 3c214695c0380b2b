-- The responder's promises, proved: those of `bench`, carried along the contract.
use Prim.Native.Nat.{ℕ, ◌≤◌}
use mathlib.Core.Bool.{true}
use mathlib.Core.Path.{◌≡◌, refl, sym, ◌∙◌, ap, subst, subst⁻¹}
use mathlib.Core.List.{List, ◌++◌}
use lib.ListN.{length, take, drop}
use lib.Seq.{take-append_seam}
use Rattle.rules.specs.Answers.{Part, part, positive}
use Rattle.rules.specs.Bytes.{every, is_byte}
use Rattle.rules.specs.Calls.{Call, read_identifier, write_identifier}
use Rattle.rules.specs.Client.{call}
use Rattle.rules.specs.Conversations.{Conversation}
use Rattle.rules.specs.Demand3.{Answers}
use Rattle.rules.specs.Events.{Form}
use Rattle.rules.specs.Settings.{Setting}
use Rattle.rules.specs.Writing.{Sayable}
use Rattle.bench.specs.Promise.{Served, Taken, sends, decides, Roomy, at_once, lent_by, expected, Asks, InTime}
use Rattle.bench.specs.Responder as bench
use Rattle.bench.specs.Responder.{Responded, refuses, grants, keeps_silent, decision, reply_to, response_to, respond}
use Rattle.bench.specs.Stores.{store_of, SoundStore}
use Rattle.bench.proofs.Lasting.{respond-by, lasting}
use Rattle.bench.proofs.Promise.{promise}
use Rattle.std.specs.Prelude as code
use Rattle.std.specs.Prelude.{Some, None, Result, Ok, Err}
use Rattle.wire.specs.declared.refusal.Refusal.{Refusal}
use Rattle.wire.specs.Refusing.{refusal_number, numbered}
use Rattle.wire.proofs.Refusals.{same-answer}
use Rattle.responder.specs.Promises.{said_by, Answered, Promises}
use Rattle.responder.specs.Responding.{Response, answer_to, Responds}

-- What the definition says of a response, and the buffer that it leaves.
abbrev told : Result (code.Option ℕ) ℕ → List ℕ → bench.Response
told (Ok (Some n)) after = bench.replied (take n after)
told (Ok None) after = bench.silent
told (Err n) after = bench.refused n

told-by : (r : Response) (after : List ℕ) → said_by r after ≡ told (numbered r) after
told-by (Ok (Some n)) after = refl
told-by (Ok None) after = refl
told-by (Err r) after = refl

front : (q buffer : List ℕ) (x : bench.Decision) → told (answer_to (response_to q x)) (reply_to q x ++ drop (length (reply_to q x)) buffer) ≡ response_to q x
front q buffer (refuses code) = ap bench.replied (take-append_seam (reply_to q (refuses code)) (drop (length (reply_to q (refuses code))) buffer))
front q buffer (grants head d) = ap bench.replied (take-append_seam (head ++ d) (drop (length (head ++ d)) buffer))
front q buffer keeps_silent = refl

module _ {l q before : List ℕ} {r : Response} {area after : List ℕ} (h : Responds l q before r area after) where
  stands : said_by r after ≡ (respond l q before).response
  stands =
      told-by r after ∙
      (λ j. told (h.answer j) (h.buffer j)) ∙
      respond-by l q before (λ x. told (answer_to x.response) x.buffer ≡ x.response) (λ k. front q before (decision (store_of l) q)) refl

  stays-sound : SoundStore l → every is_byte q ≡ true → SoundStore area
  stays-sound ok b = subst⁻¹ SoundStore h.store (lasting.stays-sound l q before ok b)

  -- An answer that is no refusal has room.
  room : Answered r → Roomy (respond l q before).response
  room a = subst Roomy stands (go r a)
    where
      go : (x : Response) → Answered x → Roomy (said_by x after)
      go (Ok (Some n)) a = tt
      go (Ok None) a = tt
      go (Err r) a = a

  roomy : 4095 ≤ length before → Answered r
  roomy long = go r (subst⁻¹ Roomy stands (promise.suffices l q before long))
    where
      go : (x : Response) → Roomy (said_by x after) → Answered x
      go (Ok (Some n)) a = tt
      go (Ok None) a = tt
      go (Err r) a = a

refused-keeps : {l q before : List ℕ} {r : Refusal} {area after : List ℕ} → Responds l q before (Err r) area after → (refusal_number r ≡ 13) × (area ≡ l) × (after ≡ before)
refused-keeps {l} {q} {before} {r} h =
    let k = lasting.refused-keeps l q before (refusal_number r) (sym (stands h)) in
    (k.0, h.store ∙ k.2, h.buffer ∙ k.1)

module _ (w : Setting) (c : Call) {l before : List ℕ} {r : Response} {area after : List ℕ} (h : Responds l (sends w c) before r area after) where
  converses : Served c → Taken c → SoundStore l → Answered r → Conversation w c (at_once (said_by r after)) (expected w c (decides w c l))
  converses v t ok a =
      subst⁻¹ (λ (x : bench.Response). Conversation w c (at_once x) (expected w c (decides w c l))) (stands h) (promise.converses w c l before v t ok (room h a))

  meets : (buffer : List ℕ) (form : Form) (listens : ℕ) → Asks w c buffer → SoundStore l → Answered r → Sayable form 0 listens → InTime w (expected w c (decides w c l)) →
      let x = call true w c (lent_by (said_by r after) buffer form listens) in
      (take x.sent x.buffer ≡ sends w c) × (x.answer ≡ expected w c (decides w c l)) × Answers x.answer.outcome
  meets buffer form listens asks ok a says t =
      let m = promise.meets w c l before buffer form listens asks ok (room h a) says t in
      subst⁻¹ (λ (x : bench.Response).
      let y = call true w c (lent_by x buffer form listens) in
      (take y.sent y.buffer ≡ sends w c) × (y.answer ≡ expected w c (decides w c l)) × Answers y.answer.outcome)
      (stands h) (m.0, m.2, m.3)

-- A positive outcome comes of a grant.
positively : (w : Setting) (c : Call) (x : bench.Decision) (p : Part) → (expected w c x).outcome ≡ positive p → (head : List ℕ) × (d : List ℕ) × (x ≡ grants head d)
positively w c (refuses code) p e = cc
positively w c (grants head d) p e = (head, d, refl)
positively w c keeps_silent p e = cc

reads-back : (w : Setting) (id : ℕ) (d : List ℕ) {l before : List ℕ} {r : Response} {area after : List ℕ} (p : Part) → Responds l (sends w (write_identifier id d)) before r area after
    → SoundStore l → Answered r → length d ≤ 4092 → (expected w (write_identifier id d) (decides w (write_identifier id d) l)).outcome ≡ positive p
    → (expected w (read_identifier id) (decides w (read_identifier id) area)).outcome ≡ positive (part 3 d)
reads-back w id d {l} {before} {r} {area} p h ok a short e =
    let g = positively w (write_identifier id d) (decides w (write_identifier id d) l) p e in
    let read = lasting.client-reads w id d l before g.0 g.1 ok g.2 (room h a) short in
    ap (λ (x : List ℕ). (expected w (read_identifier id) (decides w (read_identifier id) x)).outcome) h.store ∙
    ap (λ (x : bench.Decision). (expected w (read_identifier id) x).outcome) read

pub promises : Promises
promises = record {
  unique = λ {l} {q} {before} {r} {r'} h k. (same-answer r r' (h.answer ∙ sym k.answer), h.store ∙ sym k.store, h.buffer ∙ sym k.buffer);
  stands = stands;
  stays-sound = stays-sound;
  refused-keeps = refused-keeps;
  roomy = roomy;
  converses = λ w c h. converses w c h;
  meets = λ w c buffer form listens h. meets w c h buffer form listens;
  reads-back = reads-back;
}
