-- Demands 1 to 3 of document 01, the bound of request Nine, the rope-inspection theorem of request Seven and what request Twelve says of lenient,
-- carried to the fifteen numbers of the door: of any numbers and request that fit its contract with result 0.
use Prim.Native.Nat.{ℕ, ◌+◌, ◌*◌, ◌≤◌}
use native.Mathlib.Omega.{arith}
use mathlib.Core.Bool.{Bool, true, false, cond, false≢true}
use mathlib.Core.Path.{◌≡◌, refl, sym, ◌∙◌, ap, subst, subst⁻¹}
use mathlib.Core.Logic.{◌↔◌, ◌⊎◌, inl, inr}
use mathlib.Core.List.{List, [], ◌∷◌, ◌++◌, map}
use mathlib.Core.Option.{Option, none, some}
use lib.Dec.{eqb, leb}
use lib.ListN.{length, take, drop, get_or}
use Rattle.rules.specs.Answers.{Answer, answer, Outcome, positive, suppressed, negative, timeout, pending_limit, disconnected, transport, fault}
use Rattle.rules.specs.Answers.{refused, deviation, deviation8, bad_length, overflow}
use Rattle.rules.specs.Calls.{Call, Field}
use Rattle.rules.specs.Client.{Result, entries_in, events_in, call}
use Rattle.rules.specs.Conversations.{Conversation}
use Rattle.rules.specs.Demand1.{Numbered, Untouched}
use Rattle.rules.specs.Demand3.{Named, Refused, Answers}
use Rattle.rules.specs.Foreign.{left_in, raised, passed_over, with_answer, bare, bare_answer, uncounted, dropped}
use Rattle.rules.specs.Lenient.{Deviates}
use Rattle.rules.specs.Logs.{Header, flag, setting_of}
use Rattle.rules.specs.Limited.{in_limit, replies_in}
use Rattle.rules.specs.Settings.{Timing, Setting, Lent}
use Rattle.rules.proofs.Demand1.{demand1}
use Rattle.rules.proofs.Demand3.{demand3}
use Rattle.rules.proofs.Foreign.{foreign-replies}
use Rattle.rules.proofs.Lenient.{lenient}
use Rattle.rules.proofs.Limited.{limited-holds}
use Rattle.original.specs.Demand2.{Domain, of_rust}
use Rattle.original.specs.Shown.{called}
use Rattle.original.proofs.Demand2.{demand2}
use Rattle.numbers.specs.Numbers.{values_of, answer_numbers, numbers_of}
use Rattle.log_call.specs.Asking.{chosen}
use Rattle.door.specs.Door.{limit_in, asked}
use Rattle.host.specs.Served.{Served}

-- Result 0 tells that a call was asked.
pub was-asked : (b : Bool) → ◌≡◌ {A = ℕ} 0 (cond b 0 1) → b ≡ true
was-asked true h = refl
was-asked false h = absurd (omega arith)

-- The first number says which outcome it is: 9 a refusal, 0, 1 and 2 positive, suppressed and negative.
is-refused : (o : Outcome) → eqb (values_of o).outcome 9 ≡ true → (n : ℕ) × (o ≡ refused n)
is-refused (refused n) h = (n, refl)
is-refused (positive p) h = absurd (false≢true h)
is-refused suppressed h = absurd (false≢true h)
is-refused (negative n) h = absurd (false≢true h)
is-refused timeout h = absurd (false≢true h)
is-refused pending_limit h = absurd (false≢true h)
is-refused disconnected h = absurd (false≢true h)
is-refused (transport n) h = absurd (false≢true h)
is-refused (fault (deviation n)) h = absurd (false≢true h)
is-refused (fault (deviation8 a b)) h = absurd (false≢true h)
is-refused (fault bad_length) h = absurd (false≢true h)
is-refused (fault overflow) h = absurd (false≢true h)

not-refused : (o : Outcome) → eqb (values_of o).outcome 9 ≡ false → ¬ Refused o
not-refused (refused n) h k = false≢true (sym h)
not-refused (positive p) h k = k
not-refused suppressed h k = k
not-refused (negative n) h k = k
not-refused timeout h k = k
not-refused pending_limit h k = k
not-refused disconnected h k = k
not-refused (transport n) h k = k
not-refused (fault f) h k = k

pub answers : (o : Outcome) → (leb (values_of o).outcome 2 ≡ true) ↔ Answers o
answers (positive p) = (λ h. tt, λ h. refl)
answers suppressed = (λ h. tt, λ h. refl)
answers (negative n) = (λ h. tt, λ h. refl)
answers timeout = (λ h. false≢true h, λ h. absurd h)
answers pending_limit = (λ h. false≢true h, λ h. absurd h)
answers disconnected = (λ h. false≢true h, λ h. absurd h)
answers (transport n) = (λ h. false≢true h, λ h. absurd h)
answers (fault (deviation n)) = (λ h. false≢true h, λ h. absurd h)
answers (fault (deviation8 a b)) = (λ h. false≢true h, λ h. absurd h)
answers (fault bad_length) = (λ h. false≢true h, λ h. absurd h)
answers (fault overflow) = (λ h. false≢true h, λ h. absurd h)
answers (refused n) = (λ h. false≢true h, λ h. absurd h)

-- The numbers of a call refused with n: all else is 0, and the session's timing is what it was.
abbrev pub refused_numbers : ℕ → Timing → List ℕ
refused_numbers n t = 9 ∷ n ∷ 0 ∷ 0 ∷ 0 ∷ 0 ∷ 0 ∷ 0 ∷ 0 ∷ 0 ∷ 0 ∷ 0 ∷ t.p2 ∷ t.star ∷ 0 ∷ []

refused-numbers : {w : Setting} {c : Call} {l : Lent} {n : ℕ} (x : Result) → x.answer.outcome ≡ refused n → Untouched w c l n x → numbers_of x
    ≡ refused_numbers n w.timing
unfolding numbers_of
refused-numbers x e u = rw (e, u.time, u.events, u.notices, u.reply, u.number, u.sent, u.timing)

-- The outcome's number, and the numbers of the answer.
abbrev pub outcome_in : List ℕ → ℕ
outcome_in told = get_or told 0 0

abbrev pub answer_in : List ℕ → List ℕ
answer_in told = take 11 told

abbrev pub time_in : List ℕ → ℕ
time_in told = get_or told 4 0

abbrev pub count_in : List ℕ → ℕ
count_in told = get_or told 5 0

-- The numbers but for the count of events read and the places of data and reply.
abbrev pub unplaced : List ℕ → List ℕ
unplaced told = take 5 told ++ (get_or told 6 0 ∷ get_or told 8 0 ∷ drop 10 told)

-- Result 0 comes of numbers that ask a call: the call of these fields with this address, size and data.
module _ {b : Bool} (h : Header) (k : ℕ) (a s : Field) (d : List ℕ) (l : Lent) {told after' told' : List ℕ}
    (served : Served b (asked h k a s d l) l.buffer told 0 after' told') where
  abbrev setting : Setting
  setting = in_limit (limit_in k) (setting_of h)

  abbrev result : Result
  result = asked h k a s d l

  numbers-are : told' ≡ numbers_of result
  numbers-are = served.answer ∙ ap (λ (y : Bool). cond y (numbers_of result) told) (was-asked b served.done)

  request-is : after' ≡ result.buffer
  request-is = served.request ∙ ap (λ (y : Bool). cond y result.buffer l.buffer) (was-asked b served.done)

  pub outcome-is : outcome_in told' ≡ (values_of result.answer.outcome).outcome
  unfolding numbers_of
  outcome-is = ap outcome_in numbers-are

  pub answer-is : answer_in told' ≡ answer_numbers result.answer
  unfolding numbers_of
  answer-is = ap answer_in numbers-are

  -- A refused call returns one number of document 01's for it, sent nothing, and leaves the request buffer and the session timing as they were.
  pub demand-1 : outcome_in told' ≡ 9 → (n : ℕ) × (Numbered (chosen h a s d) n × (told' ≡ refused_numbers n setting.timing) × (after' ≡ l.buffer))
  demand-1 e =
      let found = is-refused result.answer.outcome (ap (λ (y : ℕ). eqb y 9) (sym outcome-is ∙ e)) in
      let u = demand1 (eqb (flag 1 h) 1) setting (chosen h a s d) l found.0 found.1 in
      (found.0, (u.numbered, numbers-are ∙ refused-numbers result found.1 u, request-is ∙ u.buffer))

  -- In document 01's domain the numbers and the request are those of a result that, told so, is what the Rust gives.
  pub demand-2 : Domain setting (chosen h a s d) l
      → (told' ≡ numbers_of result) × (after' ≡ result.buffer) ×
      (of_rust (eqb (flag 1 h) 1) setting (chosen h a s d) l ≡ called (chosen h a s d) result)
  demand-2 k = (numbers-are, request-is, demand2 (eqb (flag 1 h) 1) setting (chosen h a s d) l k)

  -- With a limit of k notices it finishes by P2 + k × P2*.
  pub finishes : leb k 255 ≡ true → time_in told' ≤ setting.timing.p2 + k * setting.timing.star
  unfolding numbers_of
  finishes e =
      subst⁻¹ (λ (y : List ℕ). time_in y ≤ setting.timing.p2 + k * setting.timing.star) numbers-are
      (limited-holds.finishes (eqb (flag 1 h) 1) setting (chosen h a s d) l k (ap (λ (b : Bool). cond {A = Option ℕ} b (some k) none) e))

  -- And among the events that it counts there are at most k + 1 replies from the address it listens to.
  pub reads-few : leb k 255 ≡ true → length (replies_in (take (count_in told') (events_in l))) ≤ k + 1
  unfolding numbers_of
  reads-few e =
      subst⁻¹ (λ (y : List ℕ). length (replies_in (take (count_in y) (events_in l))) ≤ k + 1) numbers-are
      (limited-holds.reads-few (eqb (flag 1 h) 1) setting (chosen h a s d) l k (ap (λ (b : Bool). cond {A = Option ℕ} b (some k) none) e))

  -- A strict call of the fifteen, with no overall timeout, that is not refused answers positive, suppressed or negative exactly when the events begin
  -- with an allowed
  -- conversation; and any such conversation has these numbers.
  module _ (strict : eqb (flag 1 h) 1 ≡ true) (never : setting.overall ≡ none) (named : Named (chosen h a s d))
      (ok : eqb (outcome_in told') 9 ≡ false) where
    abbrev pub Held : Answer → Type 0
    Held = Conversation setting (chosen h a s d) (events_in l)

    strictly : (x : Answer) → ((result.answer ≡ x) × Answers x.outcome) ↔ Held x
    strictly x =
        let unrefused = not-refused result.answer.outcome (ap (λ (y : ℕ). eqb y 9) (sym outcome-is) ∙ ok) in
        let by-true = subst (λ (m : Bool). ¬ Refused (call m setting (chosen h a s d) l).answer.outcome) strict unrefused in
        subst⁻¹ (λ (m : Bool). (((call m setting (chosen h a s d) l).answer ≡ x) × Answers x.outcome) ↔ Held x) strict
        (demand3 setting (chosen h a s d) l named never by-true x)

    pub demand-3 : (leb (outcome_in told') 2 ≡ true) ↔ (x : Answer) × Held x
    demand-3 =
        let says = answers result.answer.outcome in (
          λ k. let o = says.0 (ap (λ (y : ℕ). leb y 2) (sym outcome-is) ∙ k) in (result.answer, (strictly result.answer).0 (refl, o)),
          λ k. ap (λ (y : ℕ). leb y 2) outcome-is ∙ says.1
              (let o = (strictly k.0).1 k.1 in subst⁻¹ (λ (y : Answer). Answers y.outcome) o.0 o.1),
        )

    pub held_one : (x : Answer) → Held x → answer_in told' ≡ answer_numbers x
    held_one x k = answer-is ∙ ap answer_numbers ((strictly x).1 k).0

    -- Request Seven: demand 3 "for the events left once foreign replies are dropped". The count is then the conversation's and the foreign replies
    -- among the events counted.
    abbrev pub Left : Answer → Type 0
    Left = Conversation setting (chosen h a s d) (left_in l)

    abbrev pub passed : Answer → ℕ
    passed x = passed_over l.listens (entries_in l) x

    unrefused : ¬ Refused result.answer.outcome
    unrefused = not-refused result.answer.outcome (ap (λ (y : ℕ). eqb y 9) (sym outcome-is) ∙ ok)

    strictly-left : (x : Answer) → ((result.answer ≡ raised (passed result.answer) x) × Answers x.outcome) ↔ Left x
    strictly-left x =
        let by-true = subst (λ (m : Bool). ¬ Refused (call m setting (chosen h a s d) l).answer.outcome) strict unrefused in
        subst⁻¹ (λ (m : Bool). let r = (call m setting (chosen h a s d) l).answer in ((r ≡ raised (passed r) x) × Answers x.outcome) ↔ Left x)
        strict
        (foreign-replies.demand3 setting (chosen h a s d) l named never by-true x)

    pub demand-3-left : (leb (outcome_in told') 2 ≡ true) ↔ (x : Answer) × Left x
    demand-3-left =
        let says = answers result.answer.outcome in
        let drops = ap (λ (y : Result). y.answer) (foreign-replies.drops (eqb (flag 1 h) 1) setting (chosen h a s d) l unrefused) in
        let left = (call (eqb (flag 1 h) 1) setting (chosen h a s d) (dropped l)).answer in (
          λ k.
              let o = says.0 (ap (λ (y : ℕ). leb y 2) (sym outcome-is) ∙ k) in
              (left, (strictly-left left).0 (drops, subst (λ (y : Answer). Answers y.outcome) drops o)),
          λ k.
              let o = (strictly-left k.0).1 k.1 in
              ap (λ (y : ℕ). leb y 2) outcome-is ∙ says.1 (subst⁻¹ (λ (y : Answer). Answers y.outcome) o.0 o.1),
        )

    pub left_one : (x : Answer) → Left x → answer_in told' ≡ answer_numbers (raised (passed result.answer) x)
    left_one x k = answer-is ∙ ap answer_numbers ((strictly-left x).1 k).0

-- The rope-inspection theorem: of the fifteen numbers of a call that is not refused all but the sixth, the count of events read, are those of the
-- same call without the
-- foreign replies, and so is the request.
pub rope-inspection : {b b' : Bool} (h : Header) (k : ℕ) (a s : Field) (d : List ℕ) (l : Lent) {told after told' after' told₀ told₀' : List ℕ}
    → Served b (asked h k a s d l) l.buffer told₀ 0 after told → Served b' (asked h k a s d (dropped l)) l.buffer told₀' 0 after' told'
    → eqb (outcome_in told) 9 ≡ false → (take 5 told ≡ take 5 told') × (drop 6 told ≡ drop 6 told') × (after ≡ after')
unfolding numbers_of
rope-inspection h k a s d l p p' ok =
    let x = asked h k a s d l in
    let x' = asked h k a s d (dropped l) in
    let unrefused = not-refused x.answer.outcome (ap (λ (y : ℕ). eqb y 9) (sym (outcome-is h k a s d l p)) ∙ ok) in
    let drops = foreign-replies.drops (eqb (flag 1 h) 1) (in_limit (limit_in k) (setting_of h)) (chosen h a s d) l unrefused in
    let numbers = numbers-are h k a s d l p ∙ ap numbers_of drops in
    let numbers' = numbers-are h k a s d (dropped l) p' in (
      ap (take 5) numbers ∙ sym (ap (take 5) numbers'),
      ap (drop 6) numbers ∙ sym (ap (drop 6) numbers'),
      request-is h k a s d l p ∙ ap (λ (y : Result). y.buffer) drops ∙ sym (request-is h k a s d (dropped l) p'),
    )

-- "Two valid lists that differ only in foreign replies, inserted, removed or rewritten, give the same answer but for that count": the same numbers
-- but
-- for it and for places, and the same request.
unplaced-values : (x : Result) → unplaced (numbers_of (with_answer x (uncounted (bare_answer x.answer)))) ≡ unplaced (numbers_of x)
unfolding numbers_of
unplaced-values x = go x.answer.outcome
  where
    told-as : Outcome → Result
    told-as o = with_answer x (answer o x.answer.time x.answer.events x.answer.notices x.answer.reply)

    go : (o : Outcome) → unplaced (numbers_of (with_answer x (uncounted (bare_answer (told-as o).answer)))) ≡ unplaced (numbers_of (told-as o))
    go (positive p) = refl
    go suppressed = refl
    go (negative n) = refl
    go timeout = refl
    go pending_limit = refl
    go disconnected = refl
    go (transport n) = refl
    go (fault (deviation n)) = refl
    go (fault (deviation8 a b)) = refl
    go (fault bad_length) = refl
    go (fault overflow) = refl
    go (refused n) = refl

pub two-lists : {b b' : Bool} (h : Header) (k : ℕ) (a s : Field) (d : List ℕ) (l l' : Lent) {told after told' after' told₀ told₀' : List ℕ}
    → l.buffer ≡ l'.buffer → Served b (asked h k a s d l) l.buffer told₀ 0 after told
    → Served b' (asked h k a s d l') l'.buffer told₀' 0 after' told'
    → eqb (outcome_in told) 9 ≡ false → eqb (outcome_in told') 9 ≡ false → map bare (left_in l) ≡ map bare (left_in l')
    → (unplaced told ≡ unplaced told') × (after ≡ after')
two-lists h k a s d l l' same p p' ok ok' left =
    let x = asked h k a s d l in
    let x' = asked h k a s d l' in
    let unrefused = not-refused x.answer.outcome (ap (λ (y : ℕ). eqb y 9) (sym (outcome-is h k a s d l p)) ∙ ok) in
    let unrefused' = not-refused x'.answer.outcome (ap (λ (y : ℕ). eqb y 9) (sym (outcome-is h k a s d l' p')) ∙ ok') in
    let one = (foreign-replies.two-lists (eqb (flag 1 h) 1) (in_limit (limit_in k) (setting_of h))
    (chosen h a s d) l l' same unrefused unrefused').1 left in (
      ap unplaced (numbers-are h k a s d l p) ∙
          sym (unplaced-values x) ∙
          ap (λ (y : Result). unplaced (numbers_of y)) one ∙
          unplaced-values x' ∙
          sym (ap unplaced (numbers-are h k a s d l' p')),
      request-is h k a s d l p ∙ ap (λ (y : Result). y.buffer) one ∙ sym (request-is h k a s d l' p'),
    )

-- A deviation has the number 6.
deviates : (o : Outcome) → Deviates o → (values_of o).outcome ≡ 6
deviates (positive p) h = absurd h
deviates suppressed h = absurd h
deviates (negative n) h = absurd h
deviates timeout h = absurd h
deviates pending_limit h = absurd h
deviates disconnected h = absurd h
deviates (transport n) h = absurd h
deviates (fault (deviation n)) h = refl
deviates (fault (deviation8 a b)) h = refl
deviates (fault bad_length) h = absurd h
deviates (fault overflow) h = absurd h
deviates (refused n) h = absurd h

-- Lenient only adds answers: the same call with flag 1 and without. Strict reported a deviation, or the fifteen numbers and the request are the same.
pub only-adds : {b b' : Bool} (h h' : Header) (k : ℕ) (a s : Field) (d : List ℕ) (l : Lent) {told after told' after' told₀ told₀' : List ℕ}
    → eqb (flag 1 h) 1 ≡ true → eqb (flag 1 h') 1 ≡ false → setting_of h ≡ setting_of h' → chosen h a s d ≡ chosen h' a s d
    → Served b (asked h k a s d l) l.buffer told₀ 0 after told → Served b' (asked h' k a s d l) l.buffer told₀' 0 after' told'
    → (outcome_in told ≡ 6) ⊎ ((told ≡ told') × (after ≡ after'))
only-adds h h' k a s d l strict mild settings calls p p' =
    let w = in_limit (limit_in k) (setting_of h) in
    let c = chosen h a s d in
    let x : asked h k a s d l ≡ call true w c l = ap (λ (m : Bool). call m w c l) strict in
    let x' : asked h' k a s d l ≡ call false w c l = λ i. call (mild i) (in_limit (limit_in k) (sym settings i)) (sym calls i) l in
    let alike : call false w c l ≡ call true w c l → asked h k a s d l ≡ asked h' k a s d l = λ e. x ∙ sym e ∙ sym x' in
    elim (lenient w c l).differs-by-deviation [
      | inl z ↦ inl (outcome-is h k a s d l p ∙ deviates (asked h k a s d l).answer.outcome
          (subst⁻¹ (λ (y : Result). Deviates y.answer.outcome) x z))
      | inr e ↦ inr (
        numbers-are h k a s d l p ∙ ap numbers_of (alike e) ∙ sym (numbers-are h' k a s d l p'),
        request-is h k a s d l p ∙ ap (λ (y : Result). y.buffer) (alike e) ∙ sym (request-is h' k a s d l p'),
      )
    ]
