-- Of a whole call: at most one answer fits its contract, and demands 1 to 3, the bound of a limit, that foreign replies change nothing and that
-- lenient only adds answers are carried to the code; and of two calls in a row.
use Prim.Native.Nat.{ℕ, ◌+◌, ◌*◌, ◌≤◌}
use mathlib.Core.Bool.{Bool, true, false}
use mathlib.Core.Path.{◌≡◌, refl, sym, ◌∙◌, ap, subst, subst⁻¹}
use mathlib.Core.Logic.{◌↔◌, ◌≢◌, ◌⊎◌, inl, inr}
use mathlib.Core.List.{List, map}
use mathlib.Core.Option.{none, some}
use lib.ListN.{length, take}
use Rattle.rules.specs.Answers as rules
use Rattle.rules.specs.Calls.{Call, request_of}
use Rattle.rules.specs.Client.{Result, entries_in, events_in, call}
use Rattle.rules.specs.Conversations.{Conversation}
use Rattle.rules.specs.Demand1.{Untouched, FirstToFail}
use Rattle.rules.specs.Demand3 as demand
use Rattle.rules.specs.Lenient.{Deviates}
use Rattle.rules.specs.Limited.{replies_in}
use Rattle.rules.specs.Foreign.{left_in, raised, passed_over, with_answer, bare, bare_answer, uncounted, dropped}
use Rattle.rules.specs.Refusals.{refusals}
use Rattle.rules.specs.Settings.{Timing, Setting, Lent}
use Rattle.rules.proofs.Demand1.{demand1}
use Rattle.rules.proofs.Demand1.{exactly as demand1-exactly}
use Rattle.rules.proofs.Demand3.{demand3}
use Rattle.rules.proofs.Foreign.{foreign-replies}
use Rattle.rules.proofs.Lenient.{lenient}
use Rattle.rules.proofs.Limited.{limited-holds}
use Rattle.original.specs.Demand2.{Domain, of_rust}
use Rattle.original.specs.Shown.{called}
use Rattle.original.proofs.Demand2.{demand2}
use Rattle.exchange.specs.Meaning.{answer_of}
use Rattle.exchange.specs.Places.{Answers}
use Rattle.exchange.proofs.Unique.{answers-unique}
use Rattle.checks.proofs.Unique.{timing-unique}
use Rattle.calls.specs.Meaning.{setting_of, result_of, in_timing, Called}
use Rattle.calls.specs.declared.Ask.{Ask}
use Rattle.calls.specs.declared.Answered.{Answered}

module _ {strict : Bool} {w : Setting} {c : Call} {l : Lent} where
  -- The answer of a call, as the exchange's contract would say it.
  answers : {r : Answered} {buffer : List ℕ} → Called strict w c l r buffer → Answers l.replies r.answer (call strict w c l).answer
  answers k = record { means = ap (λ (x : Result). x.answer) k.means; outcome = k.outcome; reply = k.reply }

  pub unique : {r s : Answered} {b b' : List ℕ} → Called strict w c l r b → Called strict w c l s b' → (r ≡ s) × (b ≡ b')
  unique {r = r} {s = s} k h =
      let same : result_of l.replies r _ ≡ result_of l.replies s _ = k.means ∙ sym h.means in
      let answer : r.answer ≡ s.answer = answers-unique l.replies (answers k) (answers h) in
      let number = ap (λ (x : Result). x.number) same in
      let sent = ap (λ (x : Result). x.sent) same in
      let timing = timing-unique r.timing s.timing (ap (λ (x : Result). x.timing) same) in
      (λ i. record { answer = answer i; number = number i; sent = sent i; timing = timing i }, ap (λ (x : Result). x.buffer) same)

-- Demand 3: a strict call that is not refused and has no overall timeout answers exactly when the events begin with an allowed conversation, and its
-- answer is that conversation's.
pub demand-3 : {w : Setting} {c : Call} {l : Lent} {r : Answered} {buffer : List ℕ} → Called true w c l r buffer → demand.Named c → w.overall ≡ none
    → ¬ demand.Refused (answer_of l.replies r.answer).outcome → (x : rules.Answer)
    → ((answer_of l.replies r.answer ≡ x) × demand.Answers x.outcome) ↔ Conversation w c (events_in l) x
demand-3 {w = w} {c = c} {l = l} {r = r} k n t ok x =
    let same : answer_of l.replies r.answer ≡ (call true w c l).answer = ap (λ (y : Result). y.answer) k.means in
    let d = demand3 w c l n t (λ z. ok (subst⁻¹ (λ (y : rules.Answer). demand.Refused y.outcome) same z)) x in
    (λ h. d.0 (sym same ∙ h.0, h.1), λ h. let y = d.1 h in (same ∙ y.0, y.1))

-- Demand 2: in document 01's domain a call gives what the Rust gives: outcome, finishing time, data or number, a deviation with its bounds and reply,
-- the session timing and the bytes sent; where it is refused with 1 to 7 the Rust panics or fails, and has sent nothing.
pub demand-2 : {strict : Bool} {w : Setting} {c : Call} {l : Lent} {r : Answered} {buffer : List ℕ} → Called strict w c l r buffer → Domain w c l
    → of_rust strict w c l ≡ called c (result_of l.replies r buffer)
demand-2 {strict} {w} {c} {l} k h = demand2 strict w c l h ∙ ap (called c) (sym k.means)

-- Demand 1's second sentence: a refused call has one number of document 01's, sent nothing, and leaves the request buffer and the session timing as
-- they were.
pub demand-1 : {strict : Bool} {w : Setting} {c : Call} {l : Lent} {r : Answered} {buffer : List ℕ} {n : ℕ} → Called strict w c l r buffer
    → (answer_of l.replies r.answer).outcome ≡ rules.refused n → Untouched w c l n (result_of l.replies r buffer)
demand-1 {strict} {w} {c} {l} {n = n} k e =
    subst⁻¹ (Untouched w c l n) k.means (demand1 strict w c l n (sym (ap (λ (y : Result). y.answer.outcome) k.means) ∙ e))

-- And each number is "given exactly when": its test fails, and those before it pass.
pub exactly : {strict : Bool} {w : Setting} {c : Call} {l : Lent} {r : Answered} {buffer : List ℕ} → Called strict w c l r buffer → (n : ℕ)
    → ((answer_of l.replies r.answer).outcome ≡ rules.refused n)
    ↔ FirstToFail (refusals c (request_of w.quiet c) l.buffer l.form l.events l.replies) n
exactly {strict} {w} {c} {l} {r} {buffer} k n =
    subst⁻¹ (λ (y : Result). (y.answer.outcome ≡ rules.refused n) ↔ FirstToFail
    (refusals c (request_of w.quiet c) l.buffer l.form l.events l.replies) n)
    k.means (demand1-exactly strict w c l n)

-- Request Nine: "with a limit every call finishes by P2 + K × P2*", P2 and P2* as at its start.
pub finishes : {strict : Bool} {w : Setting} {c : Call} {l : Lent} {r : Answered} {buffer : List ℕ} {k : ℕ} → Called strict w c l r buffer → w.limit
    ≡ some k
    → r.answer.time ≤ w.timing.p2 + k * w.timing.star
finishes {strict} {w} {c} {l} {k = k} made e =
    subst⁻¹ (λ (y : Result). y.answer.time ≤ w.timing.p2 + k * w.timing.star) made.means (limited-holds.finishes strict w c l k e)

-- And "reads at most K + 1 replies from the address it listens to", among the events that it counts.
pub reads-few : {strict : Bool} {w : Setting} {c : Call} {l : Lent} {r : Answered} {buffer : List ℕ} {k : ℕ} → Called strict w c l r buffer
    → w.limit ≡ some k → length (replies_in (take r.answer.events (events_in l))) ≤ k + 1
reads-few {strict} {w} {c} {l} {k = k} made e =
    subst⁻¹ (λ (y : Result). length (replies_in (take y.answer.events (events_in l))) ≤ k + 1) made.means
    (limited-holds.reads-few strict w c l k e)

-- The same answer with n more events read.
abbrev pub reading : ℕ → Answered → Answered
reading n r =
    let x = r.answer in
    record {
      answer = record { outcome = x.outcome; time = x.time; events = x.events + n; notices = x.notices; reply = x.reply };
      number = r.number;
      sent = r.sent;
      timing = r.timing;
    }

-- Request Seven, the rope-inspection theorem: whatever the trolley says, and whenever, the hoist's count is what it is without the trolley. The
-- second call is lent what
-- is left once foreign replies are dropped; the first has read so many events more as there were foreign replies among those that it counts, and
-- nothing else differs.
pub rope-inspection : {strict : Bool} {w : Setting} {c : Call} {l : Lent} {r r' : Answered} {b b' : List ℕ} → Called strict w c l r b
    → Called strict w c (dropped l) r' b'
    → ¬ demand.Refused (answer_of l.replies r.answer).outcome
    → (r ≡ reading (passed_over l.listens (entries_in l) (answer_of l.replies r.answer)) r') × (b ≡ b')
rope-inspection {strict} {w} {c} {l} {r} {r'} {b} {b'} k k' ok =
    let same : answer_of l.replies r.answer ≡ (call strict w c l).answer = ap (λ (y : Result). y.answer) k.means in
    let n = passed_over l.listens (entries_in l) (answer_of l.replies r.answer) in
    let n' = passed_over l.listens (entries_in l) (call strict w c l).answer in
    let counts : n ≡ n' = ap (passed_over l.listens (entries_in l)) same in
    let drops : call strict w c l ≡ with_answer (call strict w c (dropped l)) (raised n' (call strict w c (dropped l)).answer) =
    foreign-replies.drops strict w c l (λ z. ok (subst⁻¹ (λ (y : rules.Answer). demand.Refused y.outcome) same z))
    in
    let whole : result_of l.replies r b ≡ with_answer (result_of l.replies r' b') (raised n (answer_of l.replies r'.answer)) =
    k.means ∙ drops ∙ sym (λ i. with_answer (k'.means i) (raised (counts i) (k'.means i).answer))
    in
    let answer : r.answer ≡ (reading n r').answer =
    answers-unique l.replies (record { means = ap (λ (y : Result). y.answer) whole; outcome = k.outcome; reply = k.reply })
    (record { means = refl; outcome = k'.outcome; reply = k'.reply })
    in
    let number = ap (λ (x : Result). x.number) whole in
    let sent = ap (λ (x : Result). x.sent) whole in
    let timing = timing-unique r.timing r'.timing (ap (λ (x : Result). x.timing) whole) in
    (λ i. record { answer = answer i; number = number i; sent = sent i; timing = timing i }, ap (λ (x : Result). x.buffer) whole)

-- "Two valid lists that differ only in foreign replies, inserted, removed or rewritten, give the same answer but for that count": the same bytes,
-- wherever they stand.
pub two-lists : {strict : Bool} {w : Setting} {c : Call} {l l' : Lent} {r r' : Answered} {b b' : List ℕ}
    → Called strict w c l r b → Called strict w c l' r' b' → l.buffer ≡ l'.buffer
    → ¬ demand.Refused (answer_of l.replies r.answer).outcome → ¬ demand.Refused (answer_of l'.replies r'.answer).outcome
    → map bare (left_in l) ≡ map bare (left_in l') →
    let x = result_of l.replies r b in
    let x' = result_of l'.replies r' b' in
    with_answer x (uncounted (bare_answer x.answer)) ≡ with_answer x' (uncounted (bare_answer x'.answer))
two-lists {strict} {w} {c} {l} {l'} k k' same ok ok' left =
    let unmoved : Result → Result = λ (y : Result). with_answer y (uncounted (bare_answer y.answer)) in
    ap unmoved k.means ∙
    (foreign-replies.two-lists strict w c l l' same (λ z. ok (subst⁻¹ (λ (y : Result). demand.Refused y.answer.outcome) k.means z))
    (λ z. ok' (subst⁻¹ (λ (y : Result). demand.Refused y.answer.outcome) k'.means z))).1 left ∙
    sym (ap unmoved k'.means)

-- Demand 3 "for the events left once foreign replies are dropped".
pub demand-3-left : {w : Setting} {c : Call} {l : Lent} {r : Answered} {buffer : List ℕ} → Called true w c l r buffer → demand.Named c
    → w.overall ≡ none → ¬ demand.Refused (answer_of l.replies r.answer).outcome → (x : rules.Answer) →
    let y = answer_of l.replies r.answer in
    ((y ≡ raised (passed_over l.listens (entries_in l) y) x) × demand.Answers x.outcome) ↔ Conversation w c (left_in l) x
demand-3-left {w} {c} {l} {r} k n t ok x =
    let same : answer_of l.replies r.answer ≡ (call true w c l).answer = ap (λ (y : Result). y.answer) k.means in
    subst⁻¹ (λ (y : rules.Answer). ((y ≡ raised (passed_over l.listens (entries_in l) y) x) × demand.Answers x.outcome) ↔ Conversation w c
    (left_in l) x)
    same (foreign-replies.demand3 w c l n t (λ z. ok (subst⁻¹ (λ (y : rules.Answer). demand.Refused y.outcome) same z)) x)

-- Request Twelve, "lenient only adds answers", of one call made twice, strict and lenient: where strict answers, lenient's answer and request are the
-- same; where they differ in
-- anything, strict reported a deviation; strict never says `length`, and lenient never a deviation.
pub record OnlyAdds (replies : List ℕ) (r r' : Answered) (b b' : List ℕ) : Type 0 where
  pub answers-alike : demand.Answers (answer_of replies r.answer).outcome → (r ≡ r') × (b ≡ b')
  pub differs-by-deviation : Deviates (answer_of replies r.answer).outcome ⊎ ((r ≡ r') × (b ≡ b'))
  pub strict-no-length : (answer_of replies r.answer).outcome ≢ rules.fault rules.bad_length
  pub lenient-no-deviation : ¬ Deviates (answer_of replies r'.answer).outcome

pub only-adds : {w : Setting} {c : Call} {l : Lent} {r r' : Answered} {b b' : List ℕ} → Called true w c l r b → Called false w c l r' b'
    → OnlyAdds l.replies r r' b b'
only-adds {w} {c} {l} {r} {r'} {b} {b'} k k' =
    let adds = lenient w c l in
    let strictly = ap (λ (y : Result). y.answer.outcome) k.means in
    let leniently = ap (λ (y : Result). y.answer.outcome) k'.means in
    let alike : call false w c l ≡ call true w c l → (r ≡ r') × (b ≡ b') =
    λ e. unique {strict = true} k (record { means = k'.means ∙ e; outcome = k'.outcome; reply = k'.reply })
    in
    record {
      answers-alike = λ a. alike (adds.answers-alike (subst demand.Answers strictly a));
      differs-by-deviation = elim adds.differs-by-deviation [ inl d ↦ inl (subst⁻¹ Deviates strictly d) | inr e ↦ inr (alike e) ];
      strict-no-length = λ e. adds.strict-no-length (sym strictly ∙ e);
      lenient-no-deviation = λ d. adds.lenient-no-deviation (subst Deviates leniently d);
    }

-- Two calls in a row, the second in the session that the first leaves: it runs with the timing that the first set.
pub in_a_row : {strict strict' : Bool} {w : Setting} {c c' : Call} {l l' : Lent} {r r' : Answered} {buffer buffer' : List ℕ} (ask : Ask)
    → Called strict w c l r buffer
    → Called strict' (setting_of ask r.timing) c' l' r' buffer'
    → result_of l'.replies r' buffer' ≡ call strict' (in_timing (call strict w c l).timing (setting_of ask r.timing)) c' l'
in_a_row {strict} {strict'} {w} {c} {c'} {l} {l'} {r} ask k k' =
    k'.means ∙
    ap (λ (t : Timing). call strict' (in_timing t (setting_of ask r.timing)) c' l') (ap (λ (y : Result). y.timing) k.means)
