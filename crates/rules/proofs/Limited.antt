-- The limit of notices, proved.
use Prim.Native.Nat.{ℕ, zero, suc, ◌+◌, ◌*◌, ◌≤◌, max}
use native.Mathlib.Omega.{arith}
use mathlib.Core.Bool.{Bool, true, false, cond, ◌&&◌, false≢true}
use mathlib.Core.Path.{◌≡◌, refl, sym, ◌∙◌, ap, subst, subst⁻¹}
use mathlib.Core.Logic.{◌≢◌, inl, inr}
use mathlib.Core.List.{List, [], ◌∷◌, ◌++◌, map}
use mathlib.Core.Option.{Option, none, some}
use lib.Dec.{leb}
use lib.ListN.{length, length-map, take}
use borrow.Author.Tests.{leb-true, leb-false, ltb-true, lt-ltb, le-leb, lt-leb}
use Rattle.rules.specs.After.{checked}
use Rattle.rules.specs.Answers.{Part, nowhere, timeout, pending_limit, Answer, answer}
use Rattle.rules.specs.Calls.{Call, request_of, suppresses}
use Rattle.rules.specs.Client.{Result, asked, events_in, refuse, call}
use Rattle.rules.specs.Counts.{is_pending, notices_in, Passing, After, UpToSettling}
use Rattle.rules.specs.Events.{Event, reply, idle, ended, failed, time_of, up_to, within_limits, entries_from}
use Rattle.rules.specs.Exchange.{Asked, Step, pending, settles, look, Settled, State, state, start, waits, allows, notes, hears, turn, Turn, on, ends, silence, settle, counted, under, exchange}
use Rattle.rules.specs.Limited.{limited, replies_in, turn_before, hears_before, settle_before, exchange_before, Limited, limits, LimitRows}
use Rattle.rules.specs.Refusals.{refusals}
use Rattle.rules.specs.Settings.{Setting, Lent}
use Rattle.rules.proofs.Counts.{counts}
use Rattle.rules.proofs.Judging.{both, judge-ind}
use Rattle.rules.proofs.Turns.{Through, settle-late, settle-on, settle-ends, settle-ind}

pub limit-rows : LimitRows
unfolding limits call within_limits entries_from exchange settle look checked
limit-rows = refl

-- The finishing time.
module _ (strict : Bool) (a : Asked) (k : ℕ) (limit : a.limit ≡ some k) where
  -- So many notices are left; each gives at most P2*.
  abbrev Ends : State → List Event → Settled → Type 0
  Ends s es x = (left by : ℕ) → length s.notices + left ≡ k → s.deadline + left * a.timing.star ≤ by → a.timing.p2 ≤ by → x.time ≤ by

  by-finish : (b : Bool) (t by : ℕ) → t ≤ by → a.timing.p2 ≤ by → cond b (max t a.timing.p2) t ≤ by
  by-finish true t by h p = omega arith
  by-finish false t by h p = h

  through : (s : State) (e : Event) (es : List Event) → time_of e ≤ s.deadline → Through Ends s e es (turn strict a s e)
  through s (reply t p) es h = by-look (look strict a s.hush p)
    where
      heard : (b : Bool) → allows a.limit (length s.notices) ≡ b → Through Ends s (reply t p) es (notes a s t p b)
      heard true e = λ x more left by n d q. go x left by n d q more
        where
          go : (x : Settled) (left by : ℕ) → length s.notices + left ≡ k → s.deadline + left * a.timing.star ≤ by → a.timing.p2 ≤ by
              → Ends (state false (t + a.timing.star) (t ∷ s.read) (t ∷ s.notices)) es x → x.time ≤ by
          go x zero by n d q more = let room = ltb-true (length s.notices) k (subst (λ (l : Option ℕ). allows l (length s.notices) ≡ true) limit e) in absurd (omega arith)
          go x (suc left) by n d q more = more left by (omega arith) (omega arith) q
      heard false e = λ left by n d q. omega arith

      by-look : (z : Step) → Through Ends s (reply t p) es (hears a s t p z)
      by-look pending = heard (allows a.limit (length s.notices)) refl
      by-look (settles o) = λ left by n d q. by-finish (waits o && suppresses a.sub) t by (omega arith) q
  through s (idle t) es h = λ x more. more
  through s (ended t) es h = λ left by n d q. omega arith
  through s (failed t n) es h = λ left by m d q. omega arith

  pub ends_by : (es : List Event) → (settle strict a es (start a)).time ≤ a.timing.p2 + k * a.timing.star
  ends_by es = settle-ind strict a Ends (λ s es h left by n d q. omega arith) through es (start a) k _ (omega arith) (omega arith) (omega arith)

pub under-by : (by : ℕ) (s : Settled) (overall : Option ℕ) → s.time ≤ by → (under overall s).time ≤ by
under-by by s none h = h
under-by by s (some overall) h = go (leb s.time overall) refl
  where
    go : (b : Bool) → leb s.time overall ≡ b
        → (cond b (counted s) (answer timeout overall (up_to overall s.read) (up_to overall s.notices) nowhere)).time ≤ by
    go true e = h
    go false e = let k = leb-false s.time overall e in omega arith

finishes : (strict : Bool) (w : Setting) (c : Call) (l : Lent) (k : ℕ) → w.limit ≡ some k → (call strict w c l).answer.time ≤ w.timing.p2 + k * w.timing.star
unfolding call exchange
finishes strict w c l k limit =
    let by = w.timing.p2 + k * w.timing.star in
    judge-ind (λ (r : Result). r.answer.time ≤ by) (refuse w l) (refusals c (request_of w.quiet c) l.buffer l.form l.events l.replies) _ (λ n. omega arith)
    (λ p. under-by by (settle strict (asked w c) (events_in l) (start (asked w c))) w.overall (ends_by strict (asked w c) k limit (events_in l)))

-- The replies read.
module _ (strict : Bool) (a : Asked) (k : ℕ) (limit : a.limit ≡ some k) where
  passing : (n : ℕ) (es : List Event) → n ≤ k → Passing strict a n es → length (replies_in es) + n ≤ k
  passing n [] h p = omega arith
  passing n (reply t q ∷ es) h p =
      let e = both (is_pending (look strict a false q)) (allows a.limit n) p.0 in
      let room = ltb-true n k (subst (λ (l : Option ℕ). allows l n ≡ true) limit e.1) in
      let more = passing (suc n) es (omega arith) (subst (λ (b : Bool). Passing strict a (cond b (suc n) n) es) e.0 p.1) in
      omega arith
  passing n (idle t ∷ es) h p = passing n es h p.1
  passing n (ended t ∷ es) h p = absurd (false≢true p.0)
  passing n (failed t m ∷ es) h p = absurd (false≢true p.0)

  one_more : (es : List Event) (e : Event) → length (replies_in (es ++ (e ∷ []))) ≤ length (replies_in es) + 1
  one_more [] (reply t p) = omega arith
  one_more [] (idle t) = omega arith
  one_more [] (ended t) = omega arith
  one_more [] (failed t n) = omega arith
  one_more (reply t p ∷ es) e = omega (arith, one_more es e)
  one_more (idle t ∷ es) e = one_more es e
  one_more (ended t ∷ es) e = one_more es e
  one_more (failed t n ∷ es) e = one_more es e

  settling : (read rest : List Event) (time : ℕ) → UpToSettling strict a 0 read rest time → length (replies_in read) ≤ k + 1
  settling read rest time (inl (before, e, b, p, q)) =
      subst⁻¹ (λ (l : List Event). length (replies_in l) ≤ k + 1) b (omega (arith, one_more before e, passing 0 before (omega arith) p))
  settling read rest time (inr h) = omega (arith, passing 0 read (omega arith) h.0)

  fewer : (es : List Event) → length (notices_in strict a es) ≤ length (replies_in es)
  fewer [] = omega arith
  fewer (reply t p ∷ es) = go (is_pending (look strict a false p)) (fewer es)
    where
      go : (b : Bool) → length (notices_in strict a es) ≤ length (replies_in es)
          → length (cond b (reply t p ∷ notices_in strict a es) (notices_in strict a es)) ≤ length (reply t p ∷ replies_in es)
      go true h = omega arith
      go false h = omega arith
  fewer (idle t ∷ es) = fewer es
  fewer (ended t ∷ es) = fewer es
  fewer (failed t n ∷ es) = fewer es

  noticed : (es : List Event) → (exchange strict a none es).notices ≤ k + 1
  noticed es =
      let c = counts strict a es in
      omega (arith, c.notices, fewer c.read, settling c.read c.rest _ c.reads.settling)

  -- The events that an answer counts are among those read.
  most-counted : (overall : Option ℕ) (es : List Event) → (exchange strict a overall es).events ≤ length (counts strict a es).read
  most-counted none es = omega (arith, (counts strict a es).events)
  most-counted (some t) es = go (leb (exchange strict a none es).time t) refl
    where
      up-to-most : (ts : List ℕ) → up_to t ts ≤ length ts
      up-to-most [] = omega arith
      up-to-most (x ∷ ts) = step (leb x t) (up-to-most ts)
        where
          step : (b : Bool) → up_to t ts ≤ length ts → cond b 1 0 + up_to t ts ≤ suc (length ts)
          step true h = omega arith
          step false h = omega arith

      go : (b : Bool) → leb (exchange strict a none es).time t ≡ b → (exchange strict a (some t) es).events ≤ length (counts strict a es).read
      go true e =
          let c = counts strict a es in
          subst⁻¹ (λ (x : Answer). x.events ≤ length c.read) (c.within-overall t (leb-true (exchange strict a none es).time t e))
          (omega (arith, c.events))
      go false e =
          let c = counts strict a es in
          omega (
            arith,
            (c.past-overall t (leb-false (exchange strict a none es).time t e)).0,
            up-to-most (map time_of c.read),
            length-map c.read time_of,
          )

  first-replies : (n : ℕ) (read rest : List Event) → n ≤ length read → length (replies_in (take n (read ++ rest))) ≤ length (replies_in read)
  first-replies zero read rest h = omega arith
  first-replies (suc n) [] rest h = absurd (omega arith)
  first-replies (suc n) (reply t p ∷ read) rest h = omega (arith, first-replies n read rest (omega arith))
  first-replies (suc n) (idle t ∷ read) rest h = first-replies n read rest (omega arith)
  first-replies (suc n) (ended t ∷ read) rest h = first-replies n read rest (omega arith)
  first-replies (suc n) (failed t m ∷ read) rest h = first-replies n read rest (omega arith)

  few-counted : (overall : Option ℕ) (es : List Event) → length (replies_in (take (exchange strict a overall es).events es)) ≤ k + 1
  few-counted overall es =
      let c = counts strict a es in
      let n = (exchange strict a overall es).events in
      let first = first-replies n c.read c.rest (most-counted overall es) in
      let all = settling c.read c.rest _ c.reads.settling in
      subst⁻¹ (λ (l : List Event). length (replies_in (take n l)) ≤ k + 1) c.reads.begins (omega (arith, first, all))

-- Of a call; a refused one counts none.
reads-few : (strict : Bool) (w : Setting) (c : Call) (l : Lent) (k : ℕ) → w.limit ≡ some k
    → length (replies_in (take (call strict w c l).answer.events (events_in l))) ≤ k + 1
unfolding call
reads-few strict w c l k limit =
    judge-ind (λ (r : Result). length (replies_in (take r.answer.events (events_in l))) ≤ k + 1) (refuse w l)
    (refusals c (request_of w.quiet c) l.buffer l.form l.events l.replies) _ (λ n. omega arith)
    (λ p. few-counted strict (asked w c) k limit w.overall (events_in l))

-- With no limit.
module _ (strict : Bool) (a : Asked) (limit : a.limit ≡ none) where
  abbrev Before : State → List Event → Settled → Type 0
  Before s es x = settle_before strict a es s ≡ x

  same_turn : (s : State) (e : Event) → turn strict a s e ≡ turn_before strict a s e
  same_turn s (reply t p) = go (look strict a s.hush p)
    where
      go : (z : Step) → hears a s t p z ≡ hears_before a s t p z
      go pending = ap (λ (l : Option ℕ). notes a s t p (allows l (length s.notices))) limit
      go (settles o) = refl
  same_turn s (idle t) = refl
  same_turn s (ended t) = refl
  same_turn s (failed t n) = refl

  before-silent : (s : State) (es : List Event) → After s.deadline es → Before s es (silence s)
  unfolding settle_before
  before-silent s [] h = refl
  before-silent s (e ∷ es) h = rw (settle_before, lt-leb (time_of e) s.deadline h) refl

  before-took : (s : State) (e : Event) (es : List Event) → time_of e ≤ s.deadline → (z : Turn) → turn_before strict a s e ≡ z → Through Before s e es z
  unfolding settle_before
  before-took s e es h (on s') t = λ x more. rw (settle_before, le-leb (time_of e) s.deadline h, t) more
  before-took s e es h (ends x) t = rw (settle_before, le-leb (time_of e) s.deadline h, t) refl

  unlimited : (overall : Option ℕ) (es : List Event) → exchange strict a overall es ≡ exchange_before strict a overall es
  unfolding exchange exchange_before
  unlimited overall es =
      ap (under overall)
      (sym (settle-ind strict a Before before-silent (λ s e es h. before-took s e es h (turn strict a s e) (sym (same_turn s e))) es (start a)))

-- A limit that is not reached.
module _ (strict : Bool) (a : Asked) (k : ℕ) where
  abbrev free : Asked
  free = limited none a

  abbrev bound : Asked
  bound = limited (some k) a

  same-look : (hush : Bool) (p : Part) → look strict bound hush p ≡ look strict free hush p
  unfolding look
  same-look hush p = refl

  -- Few notices with none.
  abbrev Few : State → List Event → Settled → Type 0
  Few s es x = (length s.notices ≤ length x.notices) × (length x.notices ≤ k → settle strict bound es s ≡ x)

  few-through : (s : State) (e : Event) (es : List Event) → time_of e ≤ s.deadline → Through Few s e es (turn strict free s e)
  few-through s (reply t p) es h = by-look (look strict free s.hush p) (same-look s.hush p)
    where
      by-look : (z : Step) → look strict bound s.hush p ≡ z → Through Few s (reply t p) es (hears free s t p z)
      by-look pending l =
          λ x more. (
            omega (arith, more.0),
            λ few.
                settle-on strict bound s _ (reply t p) es h
                (ap (hears bound s t p) l ∙ ap (notes bound s t p) (lt-ltb (length s.notices) k (omega (arith, more.0)))) ∙ more.1 few,
          )
      by-look (settles o) l = (omega arith, λ few. settle-ends strict bound s _ (reply t p) es h (ap (hears bound s t p) l))
  few-through s (idle t) es h = λ x more. (more.0, λ few. settle-on strict bound s _ (idle t) es h refl ∙ more.1 few)
  few-through s (ended t) es h = (omega arith, λ few. settle-ends strict bound s _ (ended t) es h refl)
  few-through s (failed t n) es h = (omega arith, λ few. settle-ends strict bound s _ (failed t n) es h refl)

  few : (es : List Event) (s : State) → Few s es (settle strict free es s)
  few = settle-ind strict free Few (λ s es h. (omega arith, λ few. settle-late strict bound s es h)) few-through

  unreached : (overall : Option ℕ) (es : List Event) → (exchange strict free none es).notices ≤ k → exchange strict bound overall es ≡ exchange strict free overall es
  unfolding exchange
  unreached overall es h = ap (under overall) ((few es (start free)).1 h)

  -- Another outcome with K.
  abbrev Another : State → List Event → Settled → Type 0
  Another s es x = x.outcome ≢ pending_limit → x ≡ settle strict free es s

  another-through : (s : State) (e : Event) (es : List Event) → time_of e ≤ s.deadline → Through Another s e es (turn strict bound s e)
  another-through s (reply t p) es h = by-look (look strict bound s.hush p) (sym (same-look s.hush p))
    where
      heard : (b : Bool) → look strict free s.hush p ≡ pending → Through Another s (reply t p) es (notes bound s t p b)
      heard true l = λ x more o. more o ∙ sym (settle-on strict free s _ (reply t p) es h (ap (hears free s t p) l))
      heard false l = λ o. absurd (o refl)

      by-look : (z : Step) → look strict free s.hush p ≡ z → Through Another s (reply t p) es (hears bound s t p z)
      by-look pending l = heard (allows (some k) (length s.notices)) l
      by-look (settles o) l = λ n. sym (settle-ends strict free s _ (reply t p) es h (ap (hears free s t p) l))
  another-through s (idle t) es h = λ x more o. more o ∙ sym (settle-on strict free s _ (idle t) es h refl)
  another-through s (ended t) es h = λ o. sym (settle-ends strict free s _ (ended t) es h refl)
  another-through s (failed t n) es h = λ o. sym (settle-ends strict free s _ (failed t n) es h refl)

  another : (overall : Option ℕ) (es : List Event) → (exchange strict bound none es).outcome ≢ pending_limit → exchange strict bound overall es ≡ exchange strict free overall es
  unfolding exchange
  another overall es o = ap (under overall) (settle-ind strict bound Another (λ s es h n. sym (settle-late strict free s es h)) another-through es (start bound) o)

pub limited-holds : Limited
limited-holds = record {
  finishes = finishes;
  replies = λ strict a k limit es read rest time r. settling strict a k limit read rest time r.settling;
  notices = λ strict a k limit es. noticed strict a k limit es;
  reads-few = reads-few;
  unlimited = λ strict a overall es limit. unlimited strict a limit overall es;
  unreached = λ strict a overall es k h. unreached strict a k overall es h;
  another = λ strict a overall es k o. another strict a k overall es o;
}
