-- Laws of a log's answer and of its line, where its layout is sound and where it is not.
use Rattle.std.specs.Prelude as code
use Rattle.std.specs.Prelude.{Some, None}
use Prim.Native.Nat.{ℕ}
use mathlib.Core.Bool.{true, false, true≢false}
use mathlib.Core.List.{List, []}
use mathlib.Core.Path.{◌≡◌, refl, ◌∙◌, sym, ap, subst}
use lib.Dec.{eqb}
use lib.ListN.{replicate}
use Rattle.rules.specs.Calls.{given}
use Rattle.rules.specs.Client.{Result, call}
use Rattle.rules.specs.Lines.{ascii, line, badlog}
use Rattle.rules.specs.Logs as rules
use Rattle.rules.specs.Logs.{Header, header_of, flag, layout_ok, event_bytes, reply_bytes, address_of, size_of, line_of, answer_of}
use Rattle.exchange.specs.Meaning as exchange
use Rattle.exchange.specs.Places.{Answers}
use Rattle.exchange.specs.declared.types.Answer.{Answer}
use Rattle.exchange.proofs.Unique.{answers-unique}
use Rattle.requests.specs.Meaning.{call_of}
use Rattle.calls.specs.Meaning.{setting_of, lent_of, Called}
use Rattle.calls.specs.declared.Ask.{Ask}
use Rattle.calls.specs.declared.Answered.{Answered}
use Rattle.logs.specs.Layout as layout
use Rattle.logs.specs.Layout.{said}
use Rattle.logs.specs.declared.header.Header as header
use Rattle.logs.proofs.Layouts.{said-once}
use Rattle.text.specs.Written.{Wrote, text}
use Rattle.text.proofs.Lines.{badlog-text}
use Rattle.log_call.specs.Asking.{chosen, session_of, Asks}
use Rattle.log_line.specs.Answered.{AnsweredIn}

-- The call that the code makes is the log's.
pub answered : (l : List ℕ) (h : Header) {ask : Ask} {a s d es rs : List ℕ} {r : Answered} {buffer : List ℕ} → h ≡ header_of l
    → Asks h ask → given a ≡ address_of h l → given s ≡ size_of h l → d ≡ layout.data_bytes h l → es ≡ event_bytes h l → rs ≡ reply_bytes h l
    → Called ask.strict (setting_of ask (session_of h)) (call_of ask.call a s d) (lent_of ask.channel (replicate 4095 0) es rs) r buffer
    → Answers (reply_bytes (header_of l) l) r.answer (answer_of l)
unfolding answer_of
answered l h {ask = ask} {a = a} {s = s} {d = d} {es = es} {rs = rs} {r = r} is k address size bytes events replies c =
    let asked : call_of ask.call a s d ≡ rules.call_of h l = k.call (given a) (given s) d ∙ (λ i. chosen h (address i) (size i) (bytes i)) in
    let here : rs ≡ reply_bytes (header_of l) l = replies ∙ ap (λ (x : Header). reply_bytes x l) is in
    let lent : lent_of ask.channel (replicate 4095 0) es rs ≡ rules.lent_of h l =
    λ i. record { buffer = replicate 4095 0; form = k.form i; events = events i; replies = replies i; listens = k.listens i }
    in
    let means : exchange.answer_of rs r.answer ≡ (call (eqb (flag 1 h) 1) (rules.setting_of h) (rules.call_of h l) (rules.lent_of h l)).answer =
    ap (λ (x : Result). x.answer) (c.means ∙ (λ i. call (k.strict i) (k.setting i) (asked i) (lent i)))
    in
    let by-header = ap (λ (x : Header). (call (eqb (flag 1 x) 1) (rules.setting_of x) (rules.call_of x l) (rules.lent_of x l)).answer) is in
    subst (λ (bs : List ℕ). Answers bs r.answer (call (eqb (flag 1 (header_of l)) 1) (rules.setting_of (header_of l)) (rules.call_of (header_of l) l) (rules.lent_of (header_of l) l)).answer) here
    (record { means = means ∙ by-header; outcome = c.outcome; reply = c.reply })

-- The line of a log.
module _ (l : List ℕ) where
  pub line-bad : layout_ok l ≡ false → line_of l ≡ badlog
  unfolding line_of
  line-bad e = rw e

  pub line-sound : layout_ok l ≡ true → line_of l ≡ line (answer_of l)
  unfolding line_of
  line-sound e = rw e

  module _ {before after : List ℕ} {r : code.Option ℕ} where
    pub bad : layout_ok l ≡ false → Wrote (text (ascii "badlog") 0 0 0 []) before r after → Wrote (line_of l) before r after
    bad e w = rw (line-bad e, badlog-text) w

    pub sound : {h : header.Header} {x : Answer} {rs : List ℕ} → AnsweredIn l (Some (h, x)) → rs ≡ reply_bytes (said h) l
        → Wrote (line (exchange.answer_of rs x)) before r after → Wrote (line_of l) before r after
    sound {h} {x} {rs} k here w =
        let there : rs ≡ reply_bytes (header_of l) l = here ∙ ap (λ (y : Header). reply_bytes y l) k.1 in
        let same : line (exchange.answer_of rs x) ≡ line_of l = ap (λ (bs : List ℕ). line (exchange.answer_of bs x)) there ∙ ap line k.2.means ∙ sym (line-sound k.0) in
        subst (λ (bs : List ℕ). Wrote bs before r after) same w

-- At most one answer fits the contract of `answer_of`.
pub unique : (l : List ℕ) (r r' : code.Option (header.Header × Answer)) → AnsweredIn l r → AnsweredIn l r' → r ≡ r'
unique l (Some (h, x)) (Some (h', x')) k k' =
    let headers : h ≡ h' = said-once h h' (k.1 ∙ sym k'.1) in
    let answers : x ≡ x' = answers-unique (reply_bytes (header_of l) l) k.2 k'.2 in
    λ i. Some (headers i, answers i)
unique l (Some (h, x)) None k k' = absurd (true≢false (sym k.0 ∙ k'))
unique l None (Some (h, x)) k k' = absurd (true≢false (sym k'.0 ∙ k))
unique l None None k k' = refl
