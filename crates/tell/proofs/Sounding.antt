-- From what a call answers to the story of the log that asks it.
use Prim.Native.Nat.{ℕ, ◌+◌, ◌≤◌}
use mathlib.Core.Bool.{Bool, true, false, true≢false}
use mathlib.Core.List.{List, [], ◌++◌}
use mathlib.Core.Path.{◌≡◌, refl, sym, ◌∙◌, ap, subst}
use native.Mathlib.Omega.{arith}
use lib.ListN.{length, take, drop, replicate, length-take}
use lib.Seq.{take_at}
use Rattle.rules.specs.After.{after}
use Rattle.rules.specs.Answers as answers
use Rattle.rules.specs.Calls as rules
use Rattle.rules.specs.Calls.{Field, given, sent, with_bit7, sid_of, request_of}
use Rattle.rules.specs.Client.{Result, call, asked, events_in, refuse, answered}
use Rattle.rules.specs.Events as Events
use Rattle.rules.specs.Events.{within_limits}
use Rattle.rules.specs.Exchange as exchange
use Rattle.rules.specs.Logs as logs
use Rattle.rules.specs.Logs.{Header, header_of, flag, address_of, size_of, event_bytes, reply_bytes}
use Rattle.rules.specs.Refusals.{arguments, refusals}
use Rattle.rules.specs.Settings.{Setting, Lent}
use Rattle.rules.proofs.Judging.{judge-ind, pass-append}
use Rattle.exchange.specs.Guarded.{guarded}
use Rattle.exchange.specs.Meaning.{asked_of, option_of, form_of, outcome_of, answer_of}
use Rattle.exchange.specs.declared.types.Answer.{Answer}
use Rattle.exchange.specs.declared.types.Outcome.{Outcome}
use Rattle.exchange.specs.declared.types.Outcome.TheVariants as outcome
use Rattle.exchange.specs.declared.types.Timing.{Timing}
use Rattle.requests.specs.Meaning.{call_of}
use Rattle.requests.specs.declared.Call.{Call}
use Rattle.requests.specs.Parameters.{bit7}
use Rattle.requests.specs.Rows.{row_of}
use Rattle.requests.proofs.Table.{sid-is, sub_is, sent-sub}
use Rattle.calls.specs.Meaning.{setting_of, lent_of, is_refused, Called}
use Rattle.calls.specs.declared.Ask.{Ask}
use Rattle.calls.specs.declared.Answered.{Answered}
use Rattle.calls.proofs.Running.{refused-anywhere, opens}
use Rattle.logs.specs.Layout.{data_bytes}
use Rattle.log_call.specs.Asking.{chosen, session_of, Asks}
use Rattle.log_line.proofs.Answering as answering
use Rattle.telling.specs.Story as Story
use Rattle.telling.specs.Telling as telling
use Rattle.telling.specs.Telling.{Told, told_by, by_refusal, sound_text}
use Rattle.telling.specs.Words as Words
use Rattle.telling.specs.Checks.{lenient_text, checks_text}
use Rattle.telling.specs.Words.{begins, concludes}
use Rattle.story_checks.specs.Coded.{checks_by}
use Rattle.story_checks.proofs.Checking.{checks-told}
use Rattle.tell.specs.Made.{asked_by, call_text}

-- A call that is not refused is made: its request stands in the buffer, and the events are within their limits.
module _ (strict : Bool) (w : Setting) (c : rules.Call) (lent : Lent) where
  abbrev heard : answers.Answer
  heard = exchange.exchange strict (asked w c) w.overall (events_in lent)

  abbrev Made : Result → Type 0
  Made x = (x ≡ answered w c lent (request_of w.quiet c) (after strict c heard)) × (within_limits lent.form lent.events lent.replies ≡ true)

  pub is_made : is_refused (call strict w c lent).answer.outcome ≡ false → Made (call strict w c lent)
  unfolding call
  is_made =
      judge-ind (λ (x : Result). is_refused x.answer.outcome ≡ false → Made x) (refuse w lent) (refusals c (request_of w.quiet c) lent.buffer lent.form lent.events lent.replies)
      (answered w c lent (request_of w.quiet c) (after strict c heard)) (λ n e. absurd (true≢false e)) (λ p e. (refl, (pass-append (arguments c) _ p).1.1.1.0))

-- By whether the call is made.
pub not_made : (o : answers.Outcome) (x y : List ℕ) → is_refused o ≡ true → by_refusal o x ≡ by_refusal o y
not_made (answers.positive p) x y e = absurd (true≢false (sym e))
not_made answers.suppressed x y e = absurd (true≢false (sym e))
not_made (answers.negative n) x y e = absurd (true≢false (sym e))
not_made answers.timeout x y e = absurd (true≢false (sym e))
not_made answers.pending_limit x y e = absurd (true≢false (sym e))
not_made answers.disconnected x y e = absurd (true≢false (sym e))
not_made (answers.transport n) x y e = absurd (true≢false (sym e))
not_made (answers.fault f) x y e = absurd (true≢false (sym e))
not_made (answers.refused n) x y e = refl

-- Which outcome is a refusal.
pub not-refused : (o : Outcome) → ((n : ℕ) → o ≡ outcome.Refused n → ⊥) → is_refused (outcome_of [] o) ≡ false
not-refused (outcome.PositiveResponse p) k = refl
not-refused outcome.Suppressed k = refl
not-refused (outcome.NegativeResponse n) k = refl
not-refused outcome.Timeout k = refl
not-refused outcome.Disconnected k = refl
not-refused (outcome.Transport n) k = refl
not-refused (outcome.Fault f) k = refl
not-refused (outcome.Refused n) k = absurd (k n refl)
not-refused outcome.PendingLimit k = refl

-- A refusal does not hang on where a reply stands.
refusal-anywhere : (l : List ℕ) (o : Outcome) → by_refusal (outcome_of [] o) [] ≡ by_refusal (outcome_of l o) []
refusal-anywhere l (outcome.PositiveResponse p) = refl
refusal-anywhere l outcome.Suppressed = refl
refusal-anywhere l (outcome.NegativeResponse n) = refl
refusal-anywhere l outcome.Timeout = refl
refusal-anywhere l outcome.Disconnected = refl
refusal-anywhere l (outcome.Transport n) = refl
refusal-anywhere l (outcome.Fault f) = refl
refusal-anywhere l (outcome.Refused n) = refl
refusal-anywhere l outcome.PendingLimit = refl

pub made_one : (o : answers.Outcome) (x : List ℕ) → is_refused o ≡ false → x ≡ by_refusal o x
made_one (answers.positive p) x e = refl
made_one answers.suppressed x e = refl
made_one (answers.negative n) x e = refl
made_one answers.timeout x e = refl
made_one answers.pending_limit x e = refl
made_one answers.disconnected x e = refl
made_one (answers.transport n) x e = refl
made_one (answers.fault f) x e = refl
made_one (answers.refused n) x e = absurd (true≢false e)

-- Which check failed does not hang on where the reply stands.
checks-anywhere : (k : Call) (a s : ℕ) (r l : List ℕ) (strict : Bool) (first : answers.Outcome) (o : Outcome)
    → checks_by strict k a s r first (outcome_of [] o) ≡ checks_by strict k a s r first (outcome_of l o)
unfolding lenient_text
checks-anywhere k a s r l true first (outcome.PositiveResponse p) = refl
checks-anywhere k a s r l true first outcome.Suppressed = refl
checks-anywhere k a s r l true first (outcome.NegativeResponse n) = refl
checks-anywhere k a s r l true first outcome.Timeout = refl
checks-anywhere k a s r l true first outcome.Disconnected = refl
checks-anywhere k a s r l true first (outcome.Transport n) = refl
checks-anywhere k a s r l true first (outcome.Fault f) = refl
checks-anywhere k a s r l true first (outcome.Refused n) = refl
checks-anywhere k a s r l true first outcome.PendingLimit = refl
checks-anywhere k a s r l false first (outcome.PositiveResponse p) = refl
checks-anywhere k a s r l false first outcome.Suppressed = refl
checks-anywhere k a s r l false first (outcome.NegativeResponse n) = refl
checks-anywhere k a s r l false first outcome.Timeout = refl
checks-anywhere k a s r l false first outcome.Disconnected = refl
checks-anywhere k a s r l false first (outcome.Transport n) = refl
checks-anywhere k a s r l false first (outcome.Fault f) = refl
checks-anywhere k a s r l false first (outcome.Refused n) = refl
checks-anywhere k a s r l false first outcome.PendingLimit = refl

concludes-anywhere : (l : List ℕ) (x : Answer) → concludes (answer_of [] x) ≡ concludes (answer_of l x)
unfolding concludes
concludes-anywhere l x = refl

module _ (ask : Ask) (session : Timing) (a s d es rs : List ℕ) where
  abbrev w : Setting
  w = setting_of ask session

  abbrev c : rules.Call
  c = call_of ask.call a s d

  abbrev lent : Lent
  lent = lent_of ask.channel (replicate 4095 0) es rs

  asks : asked_of (asked_by ask session) ≡ asked w c
  asks =
      let k = ask.call in
      let sid : (row_of k).sid ≡ sid_of c = sym (sid-is (given a) (given s) d k) in
      let sub : option_of (bit7 ask.quiet (row_of k).sub) ≡ with_bit7 ask.quiet (rules.sub_of c) =
      sent-sub ask.quiet (row_of k).sub ∙ ap (with_bit7 ask.quiet) (sym (sub_is (given a) (given s) d k))
      in
      λ i. record { sid = sid i; sub = sub i; timing = w.timing; limit = w.limit }

  abbrev told : Told
  told = record { strict = ask.strict; setting = w; call = c; lent = lent }

  -- The story that the code puts is the story of the call.
  module _ {r : Answered} {buffer : List ℕ} (called : Called ask.strict w c lent r buffer) (goes : is_refused (outcome_of [] r.answer.outcome) ≡ false) where
    fine : Made ask.strict w c lent (call ask.strict w c lent)
    fine = is_made ask.strict w c lent (sym (ap (λ (x : Result). is_refused x.answer.outcome) called.means) ∙ sym (refused-anywhere rs r.answer.outcome) ∙ goes)

    request : take r.sent buffer ≡ request_of ask.quiet c
    request =
        let sent = ap (λ (x : Result). x.sent) (called.means ∙ fine.0) in
        ap (take r.sent) (ap (λ (x : Result). x.buffer) (called.means ∙ fine.0)) ∙ take_at (request_of ask.quiet c) _ r.sent (sym sent)

    -- The answer is what the checks made of what was heard.
    abbrev listened : answers.Answer
    listened = heard ask.strict w c lent

    abbrev y : answers.Answer
    y = answer_of rs r.answer

    answer-is : y ≡ after ask.strict c listened
    answer-is = ap (λ (x : Result). x.answer) (called.means ∙ fine.0)

    abbrev by : List ℕ → answers.Outcome → answers.Outcome → List ℕ
    by bytes before later = checks_by ask.strict ask.call (length a) (length s) bytes before later

    checks : by y.reply.bytes listened.outcome y.outcome ≡ checks_text ask.strict c y.reply.bytes listened.outcome y.outcome
    checks =
        subst (λ (x : answers.Answer). by x.reply.bytes listened.outcome x.outcome ≡ checks_text ask.strict c x.reply.bytes listened.outcome x.outcome)
        (sym answer-is) (checks-told ask.strict ask.call (given a) (given s) d listened.reply listened.outcome)

    abbrev guard : exchange.Asked → answers.Answer
    guard x = guarded ask.strict x (option_of ask.overall) (form_of ask.channel.form) ask.channel.listens es rs

    abbrev text : List ℕ → exchange.Asked → List ℕ → List ℕ → List ℕ
    text q x told ends =
        begins ask.strict q (exchange.start x) ++
        Words.joined ask.channel.listens rs
        (Story.tell ask.strict x (option_of ask.overall) ask.channel.listens rs (Events.entries (form_of ask.channel.form) es) (exchange.start x)) ++
        told ++
        ends

    pub puts : call_text ask session (take r.sent buffer) (length a) (length s) es rs r.answer ≡ telling.call_text told y
    puts =
        let first = asked_of (asked_by ask session) in
        let q = request_of ask.quiet c in
        ap (λ (t : List ℕ). text (take r.sent buffer) first t (concludes (answer_of [] r.answer)))
        (checks-anywhere ask.call (length a) (length s) y.reply.bytes rs ask.strict (guard first).outcome r.answer.outcome) ∙
        (λ i. text (request i) (asks i) (by y.reply.bytes (guard (asks i)).outcome y.outcome) (concludes-anywhere rs r.answer i)) ∙
        ap (λ (x : answers.Answer). text q (asked w c) (by y.reply.bytes x.outcome y.outcome) (concludes y))
        (opens ask.strict (asked w c) (option_of ask.overall) lent fine.1) ∙
        ap (λ (t : List ℕ). text q (asked w c) t (concludes y)) checks

-- Address and size have at most the bytes that a header says.
module _ (h : Header) (l : List ℕ) where
  pub address-narrow : {a : List ℕ} → given a ≡ address_of h l → length a ≤ h.address_length
  address-narrow e = omega (arith, ap (λ (x : Field). length (sent x)) e, length-take h.address_length (drop (logs.header_size (logs.form_in h)) l))

  pub size-narrow : {s : List ℕ} → given s ≡ size_of h l → length s ≤ h.size_length
  size-narrow e = omega (arith, ap (λ (x : Field). length (sent x)) e, length-take h.size_length (drop (logs.header_size (logs.form_in h) + h.address_length) l))

-- Of a log.
module _ (l : List ℕ) (h : Header) {ask : Ask} {a s d es rs : List ℕ} {r : Answered} {buffer : List ℕ} (is : h ≡ header_of l) (k : Asks h ask)
    (address : given a ≡ address_of h l) (size : given s ≡ size_of h l) (bytes : d ≡ data_bytes h l) (events : es ≡ event_bytes h l) (replies : rs ≡ reply_bytes h l)
    (called : Called ask.strict (setting_of ask (session_of h)) (call_of ask.call a s d) (lent_of ask.channel (replicate 4095 0) es rs) r buffer) where
  means : answer_of rs r.answer ≡ logs.answer_of l
  means =
      let here : rs ≡ reply_bytes (header_of l) l = replies ∙ ap (λ (x : Header). reply_bytes x l) is in
      ap (λ (x : List ℕ). answer_of x r.answer) here ∙ (answering.answered l h is k address size bytes events replies called).means

  refused-is : is_refused (outcome_of [] r.answer.outcome) ≡ is_refused (logs.answer_of l).outcome
  refused-is = refused-anywhere rs r.answer.outcome ∙ ap (λ (x : answers.Answer). is_refused x.outcome) means

  pub declines : is_refused (outcome_of [] r.answer.outcome) ≡ true → by_refusal (outcome_of [] r.answer.outcome) [] ≡ sound_text l
  declines e =
      refusal-anywhere rs r.answer.outcome ∙ ap (λ (x : answers.Answer). by_refusal x.outcome []) means ∙
      not_made (logs.answer_of l).outcome [] _ (sym refused-is ∙ e)

  pub sounds : is_refused (outcome_of [] r.answer.outcome) ≡ false → call_text ask (session_of h) (take r.sent buffer) (length a) (length s) es rs r.answer ≡ sound_text l
  sounds e =
      let asked_is : call_of ask.call a s d ≡ logs.call_of h l = k.call (given a) (given s) d ∙ (λ i. chosen h (address i) (size i) (bytes i)) in
      let lent_is : lent_of ask.channel (replicate 4095 0) es rs ≡ logs.lent_of h l =
      λ i. record { buffer = replicate 4095 0; form = k.form i; events = events i; replies = replies i; listens = k.listens i } in
      let same : told ask (session_of h) a s d es rs ≡ told_by h l = λ i. record { strict = k.strict i; setting = k.setting i; call = asked_is i; lent = lent_is i } in
      puts ask (session_of h) a s d es rs called e ∙ (λ i. telling.call_text (same i) (means i)) ∙ ap (λ (x : Header). telling.call_text (told_by x l) (logs.answer_of l)) is ∙
      made_one (logs.answer_of l).outcome _ (sym refused-is ∙ e)
