-- The exchange: request_inner's loop settles as `rules` says, and so does request_exchange under T.
use Prim.Native.Nat.{ℕ, ◌+◌, ◌%◌, ◌≤◌, max}
use native.Mathlib.Omega.{arith}
use mathlib.Core.Bool.{Bool, true, false, cond, not, ◌&&◌}
use mathlib.Core.Path.{◌≡◌, refl, sym, ◌∙◌, ap}
use mathlib.Core.List.{List, [], ◌∷◌, ◌++◌}
use mathlib.Core.Option.{Option, none, some}
use lib.Dec.{leb, ltb, eqb}
use lib.ListN.{length, get_or}
use borrow.Author.Tests.{leb-true, lt-ltb, le-leb, lt-leb}
use Rattle.rules.specs.Answers.{Part, behind, Fault, Outcome, positive, suppressed, negative, timeout, pending_limit, disconnected, transport, fault}
use Rattle.rules.specs.Answers.{refused}
use Rattle.rules.specs.Calls.{head}
use Rattle.rules.specs.Calls as calls
use Rattle.rules.specs.Answers as answers
use Rattle.rules.specs.Exchange as rules
use Rattle.rules.specs.Counts.{After, Rising}
use Rattle.rules.specs.Events.{Event, reply, idle, ended, failed, time_of}
use Rattle.rules.specs.Exchange.{Asked, Step, pending, settles, wrong, negative_checks, echoing, positive_checks, look, Settled, State, start, finish}
use Rattle.rules.specs.Exchange.{turn, hears, silence, settle, counted, under, exchange}
use Rattle.rules.specs.InOrder.{unless, judge, in_strict}
use Rattle.rules.proofs.Judging.{judge-under, judge-append, both}
use Rattle.rules.proofs.Turns.{Through, settle-ind}
use Rattle.original.specs.Rust.{World, world, world_of, Run, ok, err, panics, and_then, ◌>>◌, if_else, do_if, return_err, sleep_until, is_empty}
use Rattle.original.specs.Errors.{Error, Timeout, NegativeResponse}
use Rattle.original.specs.Client.{UDSConfig, Ok, is_none, Flow, continue, return, RequestOutcome, PositiveResponse, Suppressed, Response}
use Rattle.original.specs.Client.{response, coded, negative_reply, positive_end, positive_reply, check_sub, replied, next, loop, suppresses}
use Rattle.original.specs.Client.{request-inner, within, pushed, extended, request-exchange}
use Rattle.original.specs.Shown.{Fail, fail, shown, told, exchanged}
use Rattle.original.specs.Demand2.{IsU8}
use Rattle.original.proofs.Laws.{shown-then, decide, not-leb, not-ltb, strictly-not, also-strictly, bad-length, hushing, low-7, bit-7}

module _ (config : UDSConfig) (a : Asked) (sent : List (List ℕ)) where
  -- A step of `rules` at time t as the flow of the Rust's loop.
  abbrev stepped : ℕ → List ℕ → Step → Run Fail Flow
  stepped t r pending = ok (continue true (t + a.timing.star)) (world t sent a.timing)
  stepped t r (settles o) =
      told (λ p w. ok (return (PositiveResponse (response r (head a.sub)))) w) (λ w. ok (return Suppressed) w) o r
      (world (finish a o t) sent a.timing)

  abbrev wronged : ℕ → List ℕ → Fault → Run Fail Flow
  wronged t r f = stepped t r (wrong f)

  module _ (adapter : List Event) (s : Bool) (q : s ≡ calls.suppresses a.sub) (t : ℕ) (r : List ℕ) where
    abbrev strict : Bool
    strict = config.strict

    abbrev w : World
    w = world t sent a.timing

    coded_alike : (c : ℕ) → shown (coded config adapter a.sid a.sub a.timing s a.timing.p2 c w) ≡ stepped t r (rules.coded c)
    coded_alike c = go (eqb c 0x78) s q
      where
        go : (k s : Bool) → s ≡ calls.suppresses a.sub
            → shown (if_else k (λ v. ok (continue true (v.now + a.timing.star)) v)
            (do_if s (sleep_until a.timing.p2) >> (λ v. err (NegativeResponse c) v)) w)
            ≡ stepped t r (cond k pending (settles (negative c)))
        go true s q = refl
        go false true q = rw (finish, sym q) refl
        go false false q = rw (finish, sym q) refl

    negative-checks : shown (negative_reply config adapter a.sid a.sub a.timing s a.timing.p2 r w)
        ≡ judge (wronged t r) (negative_checks strict a r) (stepped t r (rules.coded (get_or r 2 0)))
    negative-checks =
        let three : Bool = leb 3 (length r) && in_strict strict (eqb (length r) 3) in
        let b1 = also-strictly (ltb (length r) 3) (leb 3 (length r)) strict (eqb (length r) 3) (not-leb (length r) 3) in
        let same-sid : Bool = in_strict strict (eqb (get_or r 1 0) a.sid) in
        let b2 = strictly-not strict (eqb (get_or r 1 0) a.sid) in
        decide three
        (λ e. let l = leb-true 3 (length r) (both (leb 3 (length r)) (in_strict strict (eqb (length r) 3)) e).0 in
        rw (b1 ∙ ap not e, e, lt-ltb 1 (length r) (omega arith))
        (decide same-sid
        (λ e. rw (b2 ∙ ap not e, e, lt-ltb 2 (length r) (omega arith)) (coded_alike (get_or r 2 0)))
        (λ e. rw (b2 ∙ ap not e, e) refl)))
        (λ e. rw (b1 ∙ ap not e, e) (bad-length strict 3 (some 3) r w))

    negatives : shown (negative_reply config adapter a.sid a.sub a.timing s a.timing.p2 r w)
        ≡ stepped t r (judge wrong (negative_checks strict a r) (rules.coded (get_or r 2 0)))
    negatives = negative-checks ∙ sym (judge-under (stepped t r) wrong (negative_checks strict a r) (rules.coded (get_or r 2 0)))

    -- The sub-function's two checks.
    sub-checked : (sub : Option ℕ) (k : World → Run Error Flow) (X : Run Fail Flow) → shown (k w) ≡ X
        → shown (and_then (check_sub config adapter a.sid a.sub a.timing s a.timing.p2 sub r w) (λ u. k))
        ≡ judge (wronged t r) (echoing strict sub r) X
    sub-checked none k X h = h
    sub-checked (some u) k X h =
        let echo : Bool = in_strict strict (eqb (get_or r 1 0) (u % 128)) in
        let b1 = not-ltb (length r) 1 in
        let b2 = strictly-not strict (eqb (get_or r 1 0) (u % 128)) in
        decide (leb 2 (length r))
        (λ e. let l = leb-true 2 (length r) e in
        rw (b1 ∙ ap not e, e, low-7 u)
        (decide echo
        (λ e. rw (b2 ∙ ap not e, e) h)
        (λ e. rw (b2 ∙ ap not e, e) refl)))
        (λ e. rw (b1 ∙ ap not e, e) (bad-length strict 2 none r w))

    start-alike : (sub : Option ℕ) → cond {A = ℕ} (is_none sub) 1 2 ≡ head sub
    start-alike none = refl
    start-alike (some u) = refl

    positive-ends : (d : Part) → shown (positive_end config adapter a.sid a.sub a.timing s a.timing.p2 r w)
        ≡ stepped t r (settles (positive d))
    positive-ends d = rw (start-alike a.sub) (go s q)
      where
        go : (s : Bool) → s ≡ calls.suppresses a.sub
            → shown ((do_if s (sleep_until a.timing.p2) >> (λ v. ok (return (PositiveResponse (response r (head a.sub)))) v)) w)
            ≡ stepped t r (settles (positive d))
        go true q = rw (finish, sym q) refl
        go false q = rw (finish, sym q) refl

    module _ (hush pending-received : Bool) (h : hush ≡ (s && not pending-received)) where
      positive-checks : (d : Part)
          → shown (positive_reply config adapter a.sid a.sub a.timing s a.timing.p2 pending-received r (get_or r 0 0) w)
          ≡ judge (wronged t r) (positive_checks strict a hush r) (stepped t r (settles (positive d)))
      positive-checks d =
          let first : Bool = in_strict strict (eqb (get_or r 0 0) (calls.positive_sid a.sid)) in
          let b1 = strictly-not strict (eqb (get_or r 0 0) (calls.positive_sid a.sid)) in
          let b3 : (strict && s && not pending-received) ≡ not (in_strict strict (not hush)) =
          hushing strict s pending-received ∙ ap (λ (x : Bool). not (in_strict strict (not x))) (sym h) in
          decide first
          (λ e. rw (b1 ∙ ap not e, e)
          (sub-checked a.sub _ _
          (decide (in_strict strict (not hush))
          (λ e. rw (b3 ∙ ap not e, e) (positive-ends d))
          (λ e. rw (b3 ∙ ap not e, e) refl))
          ∙ sym (judge-append (wronged t r) (echoing strict a.sub r) (unless (in_strict strict (not hush)) (answers.deviation 4) ∷ [])
          (stepped t r (settles (positive d))))))
          (λ e. rw (b1 ∙ ap not e, e) refl)

  module _ (adapter : List Event) (t : ℕ) (hush pending-received : Bool) (h : hush ≡ (calls.suppresses a.sub && not pending-received)) where
    abbrev sup : Bool
    sup = calls.suppresses a.sub

    positives : (p : Part)
        → shown (positive_reply config adapter a.sid a.sub a.timing sup a.timing.p2 pending-received p.bytes (get_or p.bytes 0 0)
        (world t sent a.timing))
        ≡ stepped t p.bytes (judge wrong (positive_checks config.strict a hush p.bytes) (settles (positive (behind (head a.sub) p))))
    positives p =
        positive-checks adapter sup refl t p.bytes hush pending-received h (behind (head a.sub) p)
        ∙ sym (judge-under (stepped t p.bytes) wrong (positive_checks config.strict a hush p.bytes)
        (settles (positive (behind (head a.sub) p))))

    replied-looks : (p : Part)
        → shown (replied config adapter a.sid a.sub a.timing sup a.timing.p2 pending-received p.bytes (world t sent a.timing))
        ≡ stepped t p.bytes (look config.strict a hush p)
    unfolding look
    replied-looks p = go p.bytes refl
      where
        go : (r : List ℕ) → p.bytes ≡ r
            → shown (replied config adapter a.sid a.sub a.timing sup a.timing.p2 pending-received p.bytes (world t sent a.timing))
            ≡ stepped t p.bytes (look config.strict a hush p)
        go [] e = rw e (bad-length config.strict 1 none [] (world t sent a.timing))
        go (b ∷ bs) e =
            let n = ap (length {A = ℕ}) e in
            rw (ap is_empty e, lt-ltb 0 (length p.bytes) (omega arith))
            (decide (eqb (get_or p.bytes 0 0) 0x7f)
            (λ k. rw k (negatives adapter sup refl t p.bytes))
            (λ k. rw k (positives p)))

  -- What the loop makes of a turn that returns.
  returned : (k : Flow → World → Run Fail (RequestOutcome Response)) → ((x : RequestOutcome Response) (w : World) → k (return x) w ≡ ok x w)
      → (o : Outcome) (r : List ℕ) (t : ℕ) → and_then (stepped t r (settles o)) k
      ≡ told (λ p w. ok (PositiveResponse (response r (head a.sub))) w) (λ w. ok Suppressed w) o r (world (finish a o t) sent a.timing)
  returned k h (positive d) r t = h _ _
  returned k h suppressed r t = h _ _
  returned k h (negative c) r t = refl
  returned k h timeout r t = refl
  returned k h pending_limit r t = refl
  returned k h disconnected r t = refl
  returned k h (transport n) r t = refl
  returned k h (fault f) r t = refl
  returned k h (refused n) r t = go (leb n 3)
    where
      go : (b : Bool) → and_then (cond b (panics (world t sent a.timing)) (err (fail (refused n) []) (world t sent a.timing))) k
          ≡ cond b (panics (world t sent a.timing)) (err (fail (refused n) []) (world t sent a.timing))
      go true = refl
      go false = refl

  module _ (adapter : List Event) (unlimited : a.limit ≡ none) where
    abbrev looping : List Event → Bool → ℕ → World → Run Error (RequestOutcome Response)
    looping = loop config adapter a.sid a.sub a.timing (calls.suppresses a.sub) a.timing.p2

    abbrev Loops : State → List Event → Settled → Type 0
    Loops s es x =
        (pending-received : Bool) (now : ℕ) → s.hush ≡ (calls.suppresses a.sub && not pending-received) → now ≤ s.deadline → Rising now es
        → shown (looping es pending-received s.deadline (world now sent a.timing)) ≡ exchanged a.sub sent a.timing (counted x)

    max-right : (m n : ℕ) → m ≤ n → max m n ≡ n
    max-right m n h = omega arith

    -- No event in time.
    quiet : (s : State) (c : Bool) → s.hush ≡ c
        → shown (if_else c (Ok Suppressed) (return_err Timeout) (world s.deadline sent a.timing))
        ≡ exchanged a.sub sent a.timing (counted (silence s))
    quiet s true h = rw h refl
    quiet s false h = rw h refl

    silent : (s : State) (es : List Event) → After s.deadline es → Loops s es (silence s)
    unfolding loop
    silent s [] l pend now h n r = rw (max-right now s.deadline n) (quiet s _ h)
    silent s (e ∷ es) l pend now h n r = rw (lt-leb (time_of e) s.deadline l, max-right now s.deadline n) (quiet s _ h)

    -- A turn of the loop that hears a reply.
    turned : (s : State) (t : ℕ) (p : Part) (es : List Event) (pend : Bool) (z : Step) → s.hush ≡ (calls.suppresses a.sub && not pend)
        → look config.strict a s.hush p ≡ z
        → shown (and_then (replied config adapter a.sid a.sub a.timing (calls.suppresses a.sub) a.timing.p2 pend p.bytes
        (world t sent a.timing)) (next (looping es)))
        ≡ and_then (stepped t p.bytes z) (λ f w. shown (next (looping es) f w))
    turned s t p es pend z h e =
        shown-then (replied config adapter a.sid a.sub a.timing (calls.suppresses a.sub) a.timing.p2 pend p.bytes
        (world t sent a.timing)) (next (looping es))
        ∙ ap (λ (y : Run Fail Flow). and_then y (λ f w. shown (next (looping es) f w)))
        (replied-looks adapter t s.hush pend h p ∙ ap (stepped t p.bytes) e)

    no_longer : (b : Bool) → false ≡ (b && not true)
    no_longer true = refl
    no_longer false = refl

    turns : (s : State) (e : Event) (es : List Event) → time_of e ≤ s.deadline → Through Loops s e es (turn config.strict a s e)
    unfolding loop
    turns s (reply t p) es k = by-look (look config.strict a s.hush p) refl
      where
        by-look : (z : Step) → look config.strict a s.hush p ≡ z → Through Loops s (reply t p) es (hears a s t p z)
        by-look pending e = rw unlimited (λ x more pend now h n r.
            rw (le-leb t s.deadline k, max-right now t r.0)
            (turned s t p es pend pending h e ∙ more true t (no_longer (calls.suppresses a.sub)) (omega arith) r.1))
        by-look (settles o) e = λ pend now h n r.
            rw (le-leb t s.deadline k, max-right now t r.0)
            (turned s t p es pend (settles o) h e ∙ returned (λ f w. shown (next (looping es) f w)) (λ x w. refl) o p.bytes t)
    turns s (idle t) es k = λ x more pend now h n r. rw (le-leb t s.deadline k, max-right now t r.0) (more pend t h k r.1)
    turns s (ended t) es k = λ pend now h n r. rw (le-leb t s.deadline k, max-right now t r.0) refl
    turns s (failed t m) es k = λ pend now h n r. rw (le-leb t s.deadline k, max-right now t r.0) refl

    -- The loop from its beginning.
    loops : (es : List Event) → Rising 0 es
        → shown (looping es false a.timing.p2 (world 0 sent a.timing))
        ≡ exchanged a.sub sent a.timing (counted (settle config.strict a es (start a)))
    loops es r = settle-ind config.strict a Loops silent turns es (start a) false 0 (at_first (calls.suppresses a.sub)) (omega arith) r
      where
        at_first : (b : Bool) → b ≡ (b && not false)
        at_first true = refl
        at_first false = refl

  -- Where a run ended.
  shown-world : (r : Run Error (RequestOutcome Response)) → world_of (shown r) ≡ world_of r
  shown-world (ok x w) = refl
  shown-world (err e w) = refl
  shown-world (panics w) = refl

  exchanged-world : (o : Outcome) (r : List ℕ) (w : World) (x : RequestOutcome Response) → world_of (told (λ p w. ok x w) (λ w. ok Suppressed w) o r w)
      ≡ w
  exchanged-world (positive p) r w x = refl
  exchanged-world suppressed r w x = refl
  exchanged-world (negative n) r w x = refl
  exchanged-world timeout r w x = refl
  exchanged-world pending_limit r w x = refl
  exchanged-world disconnected r w x = refl
  exchanged-world (transport n) r w x = refl
  exchanged-world (fault f) r w x = refl
  exchanged-world (refused n) r w x = go (leb n 3)
    where
      go : (b : Bool) → world_of {A = RequestOutcome Response} (cond b (panics w) (err (fail (refused n) []) w)) ≡ w
      go true = refl
      go false = refl

  -- The outer timeout.
  in-time : (adapter : List Event) (overall : Option ℕ) (m : World → Run Error (RequestOutcome Response)) (v : World) (x : Settled) → v.now ≡ 0
      → shown (m v) ≡ exchanged a.sub sent a.timing (counted x) → shown (within config adapter overall m v)
      ≡ exchanged a.sub sent a.timing (under overall x)
  in-time adapter none m v x z h = h
  in-time adapter (some limit) m v x z h =
      let late : world_of (m v) ≡ world x.time sent a.timing =
      sym (shown-world (m v)) ∙ ap world_of h ∙ exchanged-world x.outcome x.reply.bytes (world x.time sent a.timing)
      (PositiveResponse (response x.reply.bytes (head a.sub))) in
      let there : v.now + limit ≡ limit = omega arith in
      rw (late, there)
      (decide (leb x.time limit)
      (λ e. rw e h)
      (λ e. rw e refl))

module _ (config : UDSConfig) (adapter : List Event) (a : Asked) (unlimited : a.limit ≡ none) where
  suppresses-alike : (sub : Option ℕ) → IsU8 sub → suppresses config adapter sub ≡ calls.suppresses sub
  suppresses-alike none h = refl
  suppresses-alike (some s) h = bit-7 s h

  -- request_exchange is the exchange of `rules`.
  pub exchanges : (data' : Option (List ℕ)) → IsU8 a.sub → Rising 0 adapter
      → shown (request-exchange config adapter a.sid a.sub data' (world 0 [] a.timing))
      ≡ exchanged a.sub ((a.sid ∷ pushed a.sub ++ extended data') ∷ []) a.timing
      (exchange config.strict a config.request-timeout adapter)
  unfolding exchange
  exchanges data' b r =
      in-time config a _ adapter config.request-timeout (request-inner config adapter a.sid a.sub data') (world 0 [] a.timing)
      (settle config.strict a adapter (start a)) refl
      (let z : 0 + a.timing.p2 ≡ a.timing.p2 = omega arith in
      rw (suppresses-alike a.sub b, z) (loops config a _ adapter unlimited adapter r))
