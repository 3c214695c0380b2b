-- Demands 1 to 3 of document 01, and requests Seven and Twelve, of the lines that `udslog` prints: said of logs and their text alone.
use Prim.Native.Nat.{ℕ}
use mathlib.Core.Bool.{Bool, true, false, cond, ◌||◌, false≢true}
use mathlib.Core.Path.{◌≡◌, refl, sym, ◌∙◌, ap, subst, subst⁻¹}
use mathlib.Core.Logic.{◌↔◌, ◌⊎◌, inl, inr}
use mathlib.Core.List.{List, [], ◌∷◌, ◌++◌, map}
use mathlib.Core.Option.{none}
use lib.Dec.{eqb}
use Rattle.rules.specs.Answers.{Part, Answer, answer, Outcome, positive, suppressed, negative, timeout, pending_limit, disconnected, transport}
use Rattle.rules.specs.Answers.{fault, refused, deviation, deviation8, bad_length, overflow}
use Rattle.rules.specs.Bytes.{same}
use Rattle.rules.specs.Calls.{Call}
use Rattle.rules.specs.Client.{Result, events_in, call}
use Rattle.rules.specs.Conversations.{Conversation}
use Rattle.rules.specs.Demand1.{Numbered}
use Rattle.rules.specs.Demand3.{Named, Refused, Answers}
use Rattle.rules.specs.Foreign.{left_in, raised, uncounted, bare, bare_answer}
use Rattle.rules.specs.Lenient.{Deviates}
use Rattle.rules.specs.Lines.{ascii, decimal_to, hex, line}
use Rattle.rules.specs.Logs.{header_of, flag, layout_ok, call_of, setting_of, lent_of, answer_of, line_of}
use Rattle.rules.specs.Settings.{Setting, Lent}
use Rattle.rules.proofs.Demand1.{demand1}
use Rattle.rules.proofs.Demand3.{demand3}
use Rattle.rules.proofs.Foreign.{foreign-replies}
use Rattle.rules.proofs.Lenient.{lenient}
use Rattle.original.specs.Demand2.{Domain, of_rust}
use Rattle.original.specs.Shown.{called}
use Rattle.original.proofs.Demand2.{demand2}
use Rattle.log_line.proofs.Answering.{line-sound}

-- The first word of a line.
abbrev pub first_word : List ℕ → List ℕ
first_word [] = []
first_word (c ∷ cs) = cond (eqb c 32) [] (c ∷ first_word cs)

-- It is positive, suppressed or negative; it is deviation; it is refused.
abbrev pub speaks : List ℕ → Bool
speaks l = same (first_word l) (ascii "positive") || same (first_word l) (ascii "suppressed") || same (first_word l) (ascii "negative")

abbrev pub deviates : List ℕ → Bool
deviates l = same (first_word l) (ascii "deviation")

abbrev pub turns_down : List ℕ → Bool
turns_down l = same (first_word l) (ascii "refused")

speaking : (o : Outcome) (t e n : ℕ) (p : Part) → (speaks (line (answer o t e n p)) ≡ true) ↔ Answers o
unfolding line
speaking (positive q) t e n p = (λ h. tt, λ h. refl)
speaking suppressed t e n p = (λ h. tt, λ h. refl)
speaking (negative c) t e n p = (λ h. tt, λ h. refl)
speaking timeout t e n p = (λ h. false≢true h, λ h. absurd h)
speaking pending_limit t e n p = (λ h. false≢true h, λ h. absurd h)
speaking disconnected t e n p = (λ h. false≢true h, λ h. absurd h)
speaking (transport c) t e n p = (λ h. false≢true h, λ h. absurd h)
speaking (fault (deviation k)) t e n p = (λ h. false≢true h, λ h. absurd h)
speaking (fault (deviation8 a b)) t e n p = (λ h. false≢true h, λ h. absurd h)
speaking (fault bad_length) t e n p = (λ h. false≢true h, λ h. absurd h)
speaking (fault overflow) t e n p = (λ h. false≢true h, λ h. absurd h)
speaking (refused c) t e n p = (λ h. false≢true h, λ h. absurd h)

deviating : (o : Outcome) (t e n : ℕ) (p : Part) → Deviates o → deviates (line (answer o t e n p)) ≡ true
unfolding line
deviating (fault (deviation k)) t e n p h = refl
deviating (fault (deviation8 a b)) t e n p h = refl
deviating (fault bad_length) t e n p h = absurd h
deviating (fault overflow) t e n p h = absurd h
deviating (positive q) t e n p h = absurd h
deviating suppressed t e n p h = absurd h
deviating (negative c) t e n p h = absurd h
deviating timeout t e n p h = absurd h
deviating pending_limit t e n p h = absurd h
deviating disconnected t e n p h = absurd h
deviating (transport c) t e n p h = absurd h
deviating (refused c) t e n p h = absurd h

-- A line begins with `refused` exactly where its answer is a refusal.
turned : (o : Outcome) (t e n : ℕ) (p : Part) → turns_down (line (answer o t e n p)) ≡ true → (k : ℕ) × (o ≡ refused k)
unfolding line
turned (refused c) t e n p h = (c, refl)
turned (positive q) t e n p h = absurd (false≢true h)
turned suppressed t e n p h = absurd (false≢true h)
turned (negative c) t e n p h = absurd (false≢true h)
turned timeout t e n p h = absurd (false≢true h)
turned pending_limit t e n p h = absurd (false≢true h)
turned disconnected t e n p h = absurd (false≢true h)
turned (transport c) t e n p h = absurd (false≢true h)
turned (fault (deviation k)) t e n p h = absurd (false≢true h)
turned (fault (deviation8 a b)) t e n p h = absurd (false≢true h)
turned (fault bad_length) t e n p h = absurd (false≢true h)
turned (fault overflow) t e n p h = absurd (false≢true h)

standing : (o : Outcome) (t e n : ℕ) (p : Part) → turns_down (line (answer o t e n p)) ≡ false → ¬ Refused o
unfolding line
standing (refused c) t e n p h k = false≢true (sym h)
standing (positive q) t e n p h k = k
standing suppressed t e n p h k = k
standing (negative c) t e n p h k = k
standing timeout t e n p h k = k
standing pending_limit t e n p h k = k
standing disconnected t e n p h k = k
standing (transport c) t e n p h k = k
standing (fault f) t e n p h k = k

-- `refused 0 0 0 NN`
abbrev pub refused_line : ℕ → List ℕ
refused_line n = ascii "refused 0 0 0 " ++ hex (n ∷ []) ++ (10 ∷ [])

refused-line : (n : ℕ) (x : Answer) → x.outcome ≡ refused n → x.time ≡ 0 → x.events ≡ 0 → x.notices ≡ 0 → line x ≡ refused_line n
unfolding line decimal_to
refused-line n x o t e k = rw (o, t, e, k) refl

module _ (l : List ℕ) where
  -- The call that a log says.
  abbrev pub strict_in : Bool
  strict_in = eqb (flag 1 (header_of l)) 1

  abbrev pub setting_in : Setting
  setting_in = setting_of (header_of l)

  abbrev pub call_in : Call
  call_in = call_of (header_of l) l

  abbrev pub lent_in : Lent
  lent_in = lent_of (header_of l) l

  abbrev pub result_in : Result
  result_in = call strict_in setting_in call_in lent_in

  answers-so : answer_of l ≡ result_in.answer
  unfolding answer_of
  answers-so = refl

module _ (l : List ℕ) (sound : layout_ok l ≡ true) where
  said : line_of l ≡ line (result_in l).answer
  said = line-sound l sound ∙ ap line (answers-so l)

  -- Demand 1: a line that begins with `refused` is `refused 0 0 0 NN`, and NN is one of document 01's numbers for the log's call.
  pub demand-1 : turns_down (line_of l) ≡ true → (n : ℕ) × (Numbered (call_in l) n × (line_of l ≡ refused_line n))
  demand-1 h =
      let a = (result_in l).answer in
      let found = turned a.outcome a.time a.events a.notices a.reply (ap turns_down (sym said) ∙ h) in
      let u = demand1 (strict_in l) (setting_in l) (call_in l) (lent_in l) found.0 found.1 in
      (found.0, (u.numbered, said ∙ refused-line found.0 a found.1 u.time u.events u.notices))

  -- Demand 2: in document 01's domain the line is that of a result that, told so, is what the Rust gives.
  pub demand-2 : Domain (setting_in l) (call_in l) (lent_in l)
      → (line_of l ≡ line (result_in l).answer) × (of_rust (strict_in l) (setting_in l) (call_in l) (lent_in l) ≡ called (call_in l) (result_in l))
  demand-2 h = (said, demand2 (strict_in l) (setting_in l) (call_in l) (lent_in l) h)

  unrefused : turns_down (line_of l) ≡ false → ¬ Refused (result_in l).answer.outcome
  unrefused ok =
      let a = (result_in l).answer in
      standing a.outcome a.time a.events a.notices a.reply (ap turns_down (sym said) ∙ ok)

  -- Demand 3, of a log of a strict call of the fifteen, without T, whose line is no refusal: its line begins with positive, suppressed or negative
  -- exactly when its events begin with an allowed conversation, and then the line is that conversation's.
  module _ (strict : strict_in l ≡ true) (never : (setting_in l).overall ≡ none) (named : Named (call_in l)) (ok : turns_down (line_of l) ≡ false) where
    abbrev pub Held : Answer → Type 0
    Held = Conversation (setting_in l) (call_in l) (events_in (lent_in l))

    strictly : (x : Answer) → (((result_in l).answer ≡ x) × Answers x.outcome) ↔ Held x
    strictly x =
        let by-true = subst (λ (m : Bool). ¬ Refused (call m (setting_in l) (call_in l) (lent_in l)).answer.outcome) strict (unrefused ok) in
        subst⁻¹ (λ (m : Bool). (((call m (setting_in l) (call_in l) (lent_in l)).answer ≡ x) × Answers x.outcome) ↔ Held x) strict
        (demand3 (setting_in l) (call_in l) (lent_in l) named never by-true x)

    pub demand-3 : (speaks (line_of l) ≡ true) ↔ (x : Answer) × Held x
    demand-3 =
        let a = (result_in l).answer in
        let says = speaking a.outcome a.time a.events a.notices a.reply in (
          λ k. (a, (strictly a).0 (refl, says.0 (ap speaks (sym said) ∙ k))),
          λ k. ap speaks said ∙ says.1 (let o = (strictly k.0).1 k.1 in subst⁻¹ (λ (y : Answer). Answers y.outcome) o.0 o.1),
        )

    pub held_one : (x : Answer) → Held x → line_of l ≡ line x
    held_one x k = said ∙ ap line ((strictly x).1 k).0

-- Two logs that say one call in one setting.
module _ (l l' : List ℕ) (sound : layout_ok l ≡ true) (sound' : layout_ok l' ≡ true) (settings : setting_in l ≡ setting_in l')
    (calls : call_in l ≡ call_in l') where
  -- Request Twelve, on the same events: the first with flag 1, the second without. The first line says `deviation`, or the two lines are one.
  pub only-adds : strict_in l ≡ true → strict_in l' ≡ false → lent_in l ≡ lent_in l' → (deviates (line_of l) ≡ true) ⊎ (line_of l ≡ line_of l')
  only-adds strict mild lents =
      let asked : Bool → Result = λ m. call m (setting_in l) (call_in l) (lent_in l) in
      let first : result_in l ≡ asked true = ap asked strict in
      let second : result_in l' ≡ asked false = λ i. call (mild i) (sym settings i) (sym calls i) (sym lents i) in
      elim (lenient (setting_in l) (call_in l) (lent_in l)).differs-by-deviation [
        | inl d ↦ inl (
            let a = (result_in l).answer in
            ap deviates (said l sound) ∙
            deviating a.outcome a.time a.events a.notices a.reply (subst⁻¹ (λ (x : Result). Deviates x.answer.outcome) first d)
            )
        | inr e ↦ inr (said l sound ∙ ap (λ (x : Result). line x.answer) (first ∙ sym e ∙ sym second) ∙ sym (said l' sound'))
      ]

  -- Request Seven, "Two valid lists that differ only in foreign replies, inserted, removed or rewritten": the two lines are those of one answer but
  -- for their third words, the counts of events read.
  pub two-lists : strict_in l ≡ strict_in l' → turns_down (line_of l) ≡ false → turns_down (line_of l') ≡ false
      → map bare (left_in (lent_in l)) ≡ map bare (left_in (lent_in l'))
      → (x : Answer) × ((n : ℕ) × (line_of l ≡ line (raised n (uncounted x)))) × ((m : ℕ) × (line_of l' ≡ line (raised m (uncounted x))))
  two-lists strict ok ok' left =
      let alike : call (strict_in l) (setting_in l) (call_in l) (lent_in l') ≡ result_in l' = λ i. call (strict i) (settings i) (calls i) (lent_in l') in
      let bared : Result → Answer = λ (y : Result). uncounted (bare_answer y.answer) in
      let as_one : bared (result_in l) ≡ bared (result_in l') =
      ap (λ (y : Result). y.answer)
      ((foreign-replies.two-lists (strict_in l) (setting_in l) (call_in l) (lent_in l) (lent_in l') refl (unrefused l sound ok)
      (subst⁻¹ (λ (y : Result). ¬ Refused y.answer.outcome) alike (unrefused l' sound' ok'))).1 left)
      ∙ ap bared alike in
      let told : (y : Answer) → line (raised y.events (uncounted (bare_answer y))) ≡ line y =
      λ (y : Answer). ap line (foreign-replies.but-the-count (bare_answer y)) ∙ foreign-replies.but-places y in
      let a = (result_in l).answer in
      let a' = (result_in l').answer in (
        bare_answer a,
        (a.events, said l sound ∙ sym (told a)),
        (a'.events, said l' sound' ∙ sym (told a') ∙ ap (λ (x : Answer). line (raised a'.events x)) (sym as_one)),
      )
