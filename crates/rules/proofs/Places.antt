-- Where replies stand in the lent bytes alters nothing but the places that are handed out.
use Prim.Native.Nat.{ℕ, ◌+◌, ◌%◌, ◌≤◌, max}
use native.Mathlib.Omega.{arith}
use mathlib.Core.Bool.{Bool, true, false, cond, ◌&&◌}
use mathlib.Core.Path.{◌≡◌, refl, sym, ◌∙◌, ap, ap₂, subst, subst⁻¹}
use mathlib.Core.List.{List, [], ◌∷◌, map}
use mathlib.Core.Option.{Option, none, some}
use lib.Dec.{leb, ltb, eqb}
use lib.ListN.{length, get_or}
use Rattle.rules.specs.After.{service_checks, handed, first, checked, after, number_of, timing_of}
use Rattle.rules.specs.Answers.{Part, part, behind, nowhere, length_error, Outcome, positive, suppressed, negative, timeout, pending_limit, disconnected, transport, fault, refused, if_positive, Answer, answer}
use Rattle.rules.specs.Calls.{Call, request, session, reset, security, tester_present, read_memory, write_memory, read_identifier, write_identifier, fault_count, routine, download, upload, transfer, transfer_exit, fault_list, head, suppresses}
use Rattle.rules.specs.InOrder.{Check, unless, judge}
use Rattle.rules.specs.Counts.{After}
use Rattle.rules.specs.Events.{Event, reply, idle, ended, failed, time_of, up_to}
use Rattle.rules.specs.Exchange.{Asked, Step, pending, settles, wrong, negative_checks, coded, positive_checks, by_first, look, Settled, settled, State, state, start, waits, finish, allows, notes, hears, turn, silence, settle, counted, under, exchange}
use Rattle.rules.specs.Foreign.{bare, bare_outcome, bare_answer}
use Rattle.rules.specs.Settings.{Timing}
use Rattle.rules.proofs.Turns.{Through, settle-late, settle-on, settle-ends, settle-ind}

-- What looks the same behind the checks looks the same.
judge-same : {F A B : Type 0} (f : A → B) (w : F → A) (cs : List (Check F)) (x y : A) → f x ≡ f y → f (judge w cs x) ≡ f (judge w cs y)
judge-same f w [] x y e = e
judge-same f w (c ∷ cs) x y e = go c.test (judge-same f w cs x y e)
  where
    go : (b : Bool) → f (judge w cs x) ≡ f (judge w cs y) → f (cond b (judge w cs x) (w c.fault)) ≡ f (cond b (judge w cs y) (w c.fault))
    go true h = h
    go false h = refl

abbrev unplaced : Part → Part
unplaced p = part 0 p.bytes

abbrev bare_step : Step → Step
bare_step pending = pending
bare_step (settles o) = settles (bare_outcome o)

abbrev bare_settled : Settled → Settled
bare_settled x = settled (bare_outcome x.outcome) x.time x.read x.notices (unplaced x.reply)

bare-time : (e : Event) → time_of (bare e) ≡ time_of e
bare-time (reply t p) = refl
bare-time (idle t) = refl
bare-time (ended t) = refl
bare-time (failed t n) = refl

bare-waits : (o : Outcome) → waits (bare_outcome o) ≡ waits o
bare-waits (positive p) = refl
bare-waits suppressed = refl
bare-waits (negative c) = refl
bare-waits timeout = refl
bare-waits pending_limit = refl
bare-waits disconnected = refl
bare-waits (transport n) = refl
bare-waits (fault f) = refl
bare-waits (refused n) = refl

module _ (strict : Bool) (a : Asked) where
  bare-look : (hush : Bool) (p : Part) → bare_step (look strict a hush p) ≡ bare_step (look strict a hush (unplaced p))
  unfolding look
  bare-look hush p =
      judge-same bare_step wrong (unless (ltb 0 (length p.bytes)) (length_error strict 1 none) ∷ []) (by_first strict a hush p p.bytes) (by_first strict a hush (unplaced p) p.bytes)
      (go (eqb (get_or p.bytes 0 0) 0x7f))
    where
      by : Bool → Part → Step
      by b q = cond b (judge wrong (negative_checks strict a p.bytes) (coded (get_or p.bytes 2 0))) (judge wrong (positive_checks strict a hush p.bytes) (settles (positive (behind (head a.sub) q))))

      go : (b : Bool) → bare_step (by b p) ≡ bare_step (by b (unplaced p))
      go true = refl
      go false = judge-same bare_step wrong (positive_checks strict a hush p.bytes) _ _ refl

  abbrev Unmoved : State → List Event → Settled → Type 0
  Unmoved s es x = bare_settled x ≡ bare_settled (settle strict a (map bare es) s)

  late : (d : ℕ) (es : List Event) → After d es → After d (map bare es)
  late d [] h = tt
  late d (e ∷ es) h = omega (arith, bare-time e)

  through : (s : State) (e : Event) (es : List Event) → time_of e ≤ s.deadline → Through Unmoved s e es (turn strict a s e)
  through s (reply t p) es k = by-look (look strict a s.hush p) (look strict a s.hush (unplaced p)) refl (bare-look s.hush p)
    where
      noted : look strict a s.hush (unplaced p) ≡ pending → (b : Bool) → allows a.limit (length s.notices) ≡ b → Through Unmoved s (reply t p) es (notes a s t p b)
      noted l true n = λ x h. h ∙
          sym (ap bare_settled (settle-on strict a s _ (reply t (unplaced p)) (map bare es) k (ap (hears a s t (unplaced p)) l ∙ ap (notes a s t (unplaced p)) n)))
      noted l false n =
          sym (ap bare_settled (settle-ends strict a s _ (reply t (unplaced p)) (map bare es) k (ap (hears a s t (unplaced p)) l ∙ ap (notes a s t (unplaced p)) n)))

      by-look : (z z' : Step) → look strict a s.hush (unplaced p) ≡ z' → bare_step z ≡ bare_step z' → Through Unmoved s (reply t p) es (hears a s t p z)
      by-look pending pending l e = noted l (allows a.limit (length s.notices)) refl
      by-look pending (settles o) l e = absurd (let z : ◌≡◌ {A = ℕ} 0 1 = cc in omega arith)
      by-look (settles o) pending l e = absurd (let z : ◌≡◌ {A = ℕ} 0 1 = cc in omega arith)
      by-look (settles o) (settles o') l e =
          let same : bare_outcome o ≡ bare_outcome o' = cc in
          let wait : waits o ≡ waits o' = sym (bare-waits o) ∙ ap waits same ∙ bare-waits o' in
          ap₂ (λ (v : Outcome) (b : Bool). settled v (cond (b && suppresses a.sub) (max t a.timing.p2) t) (t ∷ s.read) s.notices (unplaced p)) same wait ∙
          sym (ap bare_settled (settle-ends strict a s _ (reply t (unplaced p)) (map bare es) k (ap (hears a s t (unplaced p)) l)))
  through s (idle t) es k = λ x h. h ∙ sym (ap bare_settled (settle-on strict a s _ (idle t) (map bare es) k refl))
  through s (ended t) es k = sym (ap bare_settled (settle-ends strict a s _ (ended t) (map bare es) k refl))
  through s (failed t n) es k = sym (ap bare_settled (settle-ends strict a s _ (failed t n) (map bare es) k refl))

  unmoved : (es : List Event) (s : State) → Unmoved s es (settle strict a es s)
  unmoved = settle-ind strict a Unmoved (λ s es h. sym (ap bare_settled (settle-late strict a s (map bare es) (late s.deadline es h)))) through

  bare-under : (overall : Option ℕ) (x : Settled) → bare_answer (under overall x) ≡ under overall (bare_settled x)
  bare-under none x = refl
  bare-under (some limit) x = go (leb x.time limit)
    where
      late-answer : Answer
      late-answer = answer timeout limit (up_to limit x.read) (up_to limit x.notices) nowhere

      go : (b : Bool) → bare_answer (cond b (counted x) late-answer) ≡ cond b (counted (bare_settled x)) late-answer
      go true = refl
      go false = refl

  pub bare-exchange : (overall : Option ℕ) (es : List Event) → bare_answer (exchange strict a overall es) ≡ bare_answer (exchange strict a overall (map bare es))
  unfolding exchange
  bare-exchange overall es =
      bare-under overall (settle strict a es (start a)) ∙ ap (under overall) (unmoved es (start a)) ∙ sym (bare-under overall (settle strict a (map bare es) (start a)))

-- The checks after a positive, the number and the timing.
bare-handed : (c : Call) (p : Part) → (handed c p).bytes ≡ (handed c (unplaced p)).bytes
bare-handed (request sid sub x) p = refl
bare-handed (session sub) p = refl
bare-handed (reset sub) p = refl
bare-handed (security sub x) p = go (eqb (sub % 2) 1)
  where
    go : (b : Bool) → (cond b (behind 2 p) (first 0 (behind 2 p))).bytes ≡ (cond b (behind 2 (unplaced p)) (first 0 (behind 2 (unplaced p)))).bytes
    go true = refl
    go false = refl
bare-handed tester_present p = refl
bare-handed (read_memory a s) p = refl
bare-handed (write_memory a s x) p = refl
bare-handed (read_identifier id) p = refl
bare-handed (write_identifier id x) p = refl
bare-handed (fault_count mask) p = refl
bare-handed (routine sub id x) p = refl
bare-handed (download c e a s) p = refl
bare-handed (upload c e a s) p = refl
bare-handed (transfer counter x) p = refl
bare-handed (transfer_exit x) p = refl
bare-handed (fault_list mask) p = refl

module _ (strict : Bool) (c : Call) where
  bare-checked : (p : Part) → bare_outcome (checked strict c p) ≡ bare_outcome (checked strict c (unplaced p))
  unfolding checked
  bare-checked p = judge-same bare_outcome fault (service_checks strict c p.bytes) _ _ (ap (λ (bs : List ℕ). positive (part 0 bs)) (bare-handed c p))

  bare-outcome : (o : Outcome) (p : Part) → bare_outcome (if_positive o (λ d. checked strict c p) o) ≡ bare_outcome (if_positive (bare_outcome o) (λ d. checked strict c (unplaced p)) (bare_outcome o))
  bare-outcome (positive d) p = bare-checked p
  bare-outcome suppressed p = refl
  bare-outcome (negative n) p = refl
  bare-outcome timeout p = refl
  bare-outcome pending_limit p = refl
  bare-outcome disconnected p = refl
  bare-outcome (transport n) p = refl
  bare-outcome (fault f) p = refl
  bare-outcome (refused n) p = refl

  pub bare-after : (x : Answer) → bare_answer (after strict c x) ≡ bare_answer (after strict c (bare_answer x))
  bare-after x = ap (λ (o : Outcome). answer o x.time x.events x.notices (unplaced x.reply)) (bare-outcome x.outcome x.reply)

  pub bare-number : (o : Outcome) → number_of c o ≡ number_of c (bare_outcome o)
  bare-number (positive d) = refl
  bare-number suppressed = refl
  bare-number (negative n) = refl
  bare-number timeout = refl
  bare-number pending_limit = refl
  bare-number disconnected = refl
  bare-number (transport n) = refl
  bare-number (fault f) = refl
  bare-number (refused n) = refl

  pub bare-timing : (server : Bool) (old : Timing) (o : Outcome) → timing_of server c o old ≡ timing_of server c (bare_outcome o) old
  bare-timing server old (positive d) = refl
  bare-timing server old suppressed = refl
  bare-timing server old (negative n) = refl
  bare-timing server old timeout = refl
  bare-timing server old pending_limit = refl
  bare-timing server old disconnected = refl
  bare-timing server old (transport n) = refl
  bare-timing server old (fault f) = refl
  bare-timing server old (refused n) = refl
