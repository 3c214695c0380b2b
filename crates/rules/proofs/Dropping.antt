-- An exchange beside the same exchange without its foreign replies.
use Prim.Native.Nat.{ℕ, zero, suc, ◌+◌, ◌≤◌, ◌<◌}
use native.Mathlib.Omega.{arith}
use mathlib.Core.Bool.{Bool, true, false, cond, ◌&&◌}
use mathlib.Core.Path.{◌≡◌, refl, sym, ◌∙◌, ap, ap₂, subst, subst⁻¹}
use mathlib.Core.List.{List, [], ◌∷◌, ◌++◌, map}
use mathlib.Core.Option.{Option, none, some}
use lib.Dec.{leb, eqb}
use lib.ListN.{length, length-map, take}
use lib.Seq.{take-append_seam, take-append-le}
use borrow.Author.Tests.{leb-true, leb-false, le-leb, lt-leb}
use Rattle.rules.specs.Answers.{Part, nowhere, Outcome, timeout, pending_limit, Answer, answer}
use Rattle.rules.specs.Counts.{After}
use Rattle.rules.specs.Events.{Entry, Event, reply, idle, ended, failed, time_of, foreign, said, event_of, up_to, rising}
use Rattle.rules.specs.Exchange.{Asked, Step, pending, settles, Settled, settled, State, state, start, look, allows, notes, hears, finish, turn, on, ends, silence, settle, counted, under, exchange}
use Rattle.rules.specs.Foreign.{ours, foreigns, raised, passed_over}
use Rattle.rules.proofs.Counts.{onto, onto-length, onto-up_to}
use Rattle.rules.proofs.Judging.{both}
use Rattle.rules.proofs.Limits.{event-time}
use Rattle.rules.proofs.Turns.{settle-late, settle-on, settle-ends}

abbrev pub times : List Entry → List ℕ
times es = map (λ e. e.time) es

-- The same state, with other events read.
abbrev pub having : State → List ℕ → State
having s read = state s.hush s.deadline read s.notices

module _ (listens : ℕ) (replies : List ℕ) where
  abbrev pub hear : Entry → Event
  hear = event_of listens replies

  -- Where the first entry is late, so is the first that is left.
  late-left : (es : List Entry) (t d : ℕ) → rising t es ≡ true → d < t → After d (map hear (ours listens es))
  late-left [] t d r h = tt
  late-left (e ∷ es) t d r h = go (foreign listens e) (both (leb t e.time) (rising e.time es) r) (late-left es e.time d)
    where
      go : (b : Bool) → (leb t e.time ≡ true) × (rising e.time es ≡ true) → (rising e.time es ≡ true → d < e.time → After d (map hear (ours listens es)))
          → After d (map hear (cond b (ours listens es) (e ∷ ours listens es)))
      go true k more = more k.1 (omega (arith, leb-true t e.time k.0))
      go false k more = omega (arith, leb-true t e.time k.0, event-time listens replies e)

  -- What x, an exchange over es, and y, one over what is left of es, have in common; r and r' had been read.
  pub record Beside (es : List Entry) (r r' : List ℕ) (x y : Settled) : Type 0 where
    pub seen : List Entry
    pub rest : List Entry
    pub splits : es ≡ seen ++ rest
    pub outcome : x.outcome ≡ y.outcome
    pub time : x.time ≡ y.time
    pub notices : x.notices ≡ y.notices
    pub reply : x.reply ≡ y.reply
    pub read : x.read ≡ onto (times seen) r
    pub left : y.read ≡ onto (times (ours listens seen)) r'

  carry : {es : List Entry} {r r' : List ℕ} {x x₀ y y₀ : Settled} → x₀ ≡ x → y₀ ≡ y → Beside es r r' x y → Beside es r r' x₀ y₀
  carry {es = es} {r = r} {r' = r'} {x = x} {y₀ = y₀} e f h = subst⁻¹ (λ (z : Settled). Beside es r r' z y₀) e (subst⁻¹ (λ (z : Settled). Beside es r r' x z) f h)

  -- Nothing read.
  neither : (es : List Entry) (s : State) (r' : List ℕ) → Beside es s.read r' (silence s) (silence (having s r'))
  neither es s r' = record { seen = []; rest = es; splits = refl; outcome = refl; time = refl; notices = refl; reply = refl; read = refl; left = refl }

  module _ (e : Entry) (es : List Entry) where
    -- A foreign reply more in front.
    passes_over : {r r' : List ℕ} {x y : Settled} → foreign listens e ≡ true → Beside es (e.time ∷ r) r' x y → Beside (e ∷ es) r r' x y
    passes_over {r' = r'} f h = record {
      seen = e ∷ h.seen;
      rest = h.rest;
      splits = ap (λ (l : List Entry). e ∷ l) h.splits;
      outcome = h.outcome;
      time = h.time;
      notices = h.notices;
      reply = h.reply;
      read = h.read;
      left = h.left ∙ rw f refl;
    }

    module _ (f : foreign listens e ≡ false) where
      -- An event of ours more in front; or it settles.
      goes_on : {r r' : List ℕ} {x y : Settled} (t : ℕ) → t ≡ e.time → Beside es (t ∷ r) (t ∷ r') x y → Beside (e ∷ es) r r' x y
      goes_on {r = r} {r' = r'} t u h = record {
        seen = e ∷ h.seen;
        rest = h.rest;
        splits = ap (λ (l : List Entry). e ∷ l) h.splits;
        outcome = h.outcome;
        time = h.time;
        notices = h.notices;
        reply = h.reply;
        read = h.read ∙ ap (λ (v : ℕ). onto (times h.seen) (v ∷ r)) u;
        left = h.left ∙ ap (λ (v : ℕ). onto (times (ours listens h.seen)) (v ∷ r')) u ∙ rw f refl;
      }

      stops : {r r' : List ℕ} (o : Outcome) (time t : ℕ) (n : List ℕ) (p : Part) → t ≡ e.time
          → Beside (e ∷ es) r r' (settled o time (t ∷ r) n p) (settled o time (t ∷ r') n p)
      stops {r = r} {r' = r'} o time t n p u = record {
        seen = e ∷ [];
        rest = es;
        splits = refl;
        outcome = refl;
        time = refl;
        notices = refl;
        reply = refl;
        read = ap (λ (v : ℕ). v ∷ r) u;
        left = ap (λ (v : ℕ). v ∷ r') u ∙ rw f refl;
      }

      module _ (strict : Bool) (a : Asked) (s : State) (r' : List ℕ) where
        abbrev all : List Event
        all = map hear es

        abbrev some_left : List Event
        some_left = map hear (ours listens es)

        abbrev More : Type 0
        More = (s₂ : State) (r₂ : List ℕ) → Beside es s₂.read r₂ (settle strict a all s₂) (settle strict a some_left (having s₂ r₂))

        turned : (v : Event) → time_of v ≡ e.time → time_of v ≤ s.deadline → More
            → Beside (e ∷ es) s.read r' (settle strict a (v ∷ all) s) (settle strict a (v ∷ some_left) (having s r'))
        turned (reply t p) u k more = by-look (look strict a s.hush p) refl
          where
            -- The limit counts notices, and both have the same.
            noted : look strict a s.hush p ≡ pending → (b : Bool) → allows a.limit (length s.notices) ≡ b
                → Beside (e ∷ es) s.read r' (settle strict a (reply t p ∷ all) s) (settle strict a (reply t p ∷ some_left) (having s r'))
            noted l true n =
                carry (settle-on strict a s _ (reply t p) all k (ap (hears a s t p) l ∙ ap (notes a s t p) n))
                (settle-on strict a (having s r') _ (reply t p) some_left k (ap (hears a (having s r') t p) l ∙ ap (notes a (having s r') t p) n))
                (goes_on t u (more (state false (t + a.timing.star) (t ∷ s.read) (t ∷ s.notices)) (t ∷ r')))
            noted l false n =
                carry (settle-ends strict a s _ (reply t p) all k (ap (hears a s t p) l ∙ ap (notes a s t p) n))
                (settle-ends strict a (having s r') _ (reply t p) some_left k (ap (hears a (having s r') t p) l ∙ ap (notes a (having s r') t p) n))
                (stops pending_limit t t (t ∷ s.notices) p u)

            by-look : (z : Step) → look strict a s.hush p ≡ z
                → Beside (e ∷ es) s.read r' (settle strict a (reply t p ∷ all) s) (settle strict a (reply t p ∷ some_left) (having s r'))
            by-look pending l = noted l (allows a.limit (length s.notices)) refl
            by-look (settles o) l =
                carry (settle-ends strict a s _ (reply t p) all k (ap (hears a s t p) l)) (settle-ends strict a (having s r') _ (reply t p) some_left k (ap (hears a (having s r') t p) l))
                (stops o (finish a o t) t s.notices p u)
        turned (idle t) u k more =
            carry (settle-on strict a s _ (idle t) all k refl) (settle-on strict a (having s r') _ (idle t) some_left k refl)
            (goes_on t u (more (having s (t ∷ s.read)) (t ∷ r')))
        turned (ended t) u k more =
            carry (settle-ends strict a s _ (ended t) all k refl) (settle-ends strict a (having s r') _ (ended t) some_left k refl) (stops _ t t s.notices nowhere u)
        turned (failed t n) u k more =
            carry (settle-ends strict a s _ (failed t n) all k refl) (settle-ends strict a (having s r') _ (failed t n) some_left k refl) (stops _ t t s.notices nowhere u)

  pub beside : (strict : Bool) (a : Asked) (es : List Entry) (t : ℕ) → rising t es ≡ true → (s : State) (r' : List ℕ)
      → Beside es s.read r' (settle strict a (map hear es) s) (settle strict a (map hear (ours listens es)) (having s r'))
  beside strict a [] t r s r' = carry (settle-late strict a s [] tt) (settle-late strict a (having s r') [] tt) (neither [] s r')
  beside strict a (e ∷ es) t r s r' =
      let k = both (leb t e.time) (rising e.time es) r in go (leb e.time s.deadline) refl (foreign listens e) refl k.1 (beside strict a es e.time k.1)
    where
      go : (b : Bool) → leb e.time s.deadline ≡ b → (f : Bool) → foreign listens e ≡ f → rising e.time es ≡ true
          → ((s₂ : State) (r₂ : List ℕ) → Beside es s₂.read r₂ (settle strict a (map hear es) s₂) (settle strict a (map hear (ours listens es)) (having s₂ r₂)))
          → Beside (e ∷ es) s.read r' (settle strict a (hear e ∷ map hear es) s) (settle strict a (map hear (cond (foreign listens e) (ours listens es) (e ∷ ours listens es))) (having s r'))
      go true d true f up more =
          carry (settle-on strict a s _ (hear e) (map hear es) (omega (arith, event-time listens replies e, leb-true e.time s.deadline d)) (rw f refl)) (rw f refl)
          (passes_over e es f (more (having s (e.time ∷ s.read)) r'))
      go true d false f up more =
          carry refl (ap (λ (q : Bool). settle strict a (map hear (cond q (ours listens es) (e ∷ ours listens es))) (having s r')) f)
          (turned e es f strict a s r' (hear e) (event-time listens replies e) (omega (arith, event-time listens replies e, leb-true e.time s.deadline d)) more)
      go false d f g up more =
          let l = leb-false e.time s.deadline d in
          carry (settle-late strict a s (hear e ∷ map hear es) (omega (arith, event-time listens replies e))) (settle-late strict a (having s r') _ (behind f g))
          (neither (e ∷ es) s r')
        where
          behind : (f : Bool) → foreign listens e ≡ f → After s.deadline (map hear (cond (foreign listens e) (ours listens es) (e ∷ ours listens es)))
          behind true g = let l = leb-false e.time s.deadline d in rw g (late-left es e.time s.deadline up l)
          behind false g = let l = leb-false e.time s.deadline d in rw g (omega (arith, event-time listens replies e))

  -- What is counted of entries: ours and the foreign ones.
  pub counted-apart : (es : List Entry) → length es ≡ length (ours listens es) + foreigns listens es
  counted-apart [] = refl
  counted-apart (e ∷ es) = go (foreign listens e) (counted-apart es)
    where
      go : (b : Bool) → length es ≡ length (ours listens es) + foreigns listens es → suc (length es) ≡ length (cond b (ours listens es) (e ∷ ours listens es)) + (cond b 1 0 + foreigns listens es)
      go true h = omega arith
      go false h = omega arith

  rising-front : (es rest : List Entry) (t : ℕ) → rising t (es ++ rest) ≡ true → rising t es ≡ true
  rising-front [] rest t h = refl
  rising-front (e ∷ es) rest t h =
      let k = both (leb t e.time) (rising e.time (es ++ rest)) h in rw k.0 (rising-front es rest e.time k.1)

  up_to-within : (limit : ℕ) (es : List Entry) → up_to limit (times es) ≤ length es
  up_to-within limit [] = omega arith
  up_to-within limit (e ∷ es) = go (leb e.time limit) (up_to-within limit es)
    where
      go : (b : Bool) → up_to limit (times es) ≤ length es → cond b 1 0 + up_to limit (times es) ≤ suc (length es)
      go true h = omega arith
      go false h = omega arith

  none-up-to : (limit : ℕ) (es : List Entry) (t : ℕ) → rising t es ≡ true → limit < t → (up_to limit (times es) ≡ 0) × (up_to limit (times (ours listens es)) ≡ 0)
  none-up-to limit [] t r h = (refl, refl)
  none-up-to limit (e ∷ es) t r h =
      let k = both (leb t e.time) (rising e.time es) r in
      let past : limit < e.time = omega (arith, leb-true t e.time k.0) in
      let m = none-up-to limit es e.time k.1 past in
      (rw (lt-leb e.time limit past) (omega (arith, m.0)), go (foreign listens e) past m.1)
    where
      go : (b : Bool) → limit < e.time → up_to limit (times (ours listens es)) ≡ 0 → up_to limit (times (cond b (ours listens es) (e ∷ ours listens es))) ≡ 0
      go true p h = h
      go false p h = rw (lt-leb e.time limit p) (omega (arith, h))

  -- The same of the entries at times up to a limit: they stand first.
  up-to-apart : (limit : ℕ) (es : List Entry) (t : ℕ) → rising t es ≡ true
      → up_to limit (times es) ≡ up_to limit (times (ours listens es)) + foreigns listens (take (up_to limit (times es)) es)
  up-to-apart limit [] t r = refl
  up-to-apart limit (e ∷ es) t r =
      let k = both (leb t e.time) (rising e.time es) r in go (leb e.time limit) refl (foreign listens e) refl k.1 (up-to-apart limit es e.time k.1)
    where
      n : ℕ
      n = up_to limit (times es)

      one_more : 1 + n ≡ suc n
      one_more = omega arith

      go : (b : Bool) → leb e.time limit ≡ b → (f : Bool) → foreign listens e ≡ f → rising e.time es ≡ true → n ≡ up_to limit (times (ours listens es)) + foreigns listens (take n es)
          → cond (leb e.time limit) 1 0 + n ≡ up_to limit (times (cond (foreign listens e) (ours listens es) (e ∷ ours listens es))) + foreigns listens (take (cond (leb e.time limit) 1 0 + n) (e ∷ es))
      go true d true f up h = rw (d, f, one_more) (omega (arith, h, ap (λ (q : Bool). cond {A = ℕ} q 1 0) f))
      go true d false f up h = rw (d, f, one_more) (omega (arith, h, ap (λ (q : Bool). cond {A = ℕ} q 1 0) d, ap (λ (q : Bool). cond {A = ℕ} q 1 0) f))
      go false d true g up h = let m = none-up-to limit es e.time up (leb-false e.time limit d) in rw (g, d, m.0, m.1) refl
      go false d false g up h = let m = none-up-to limit es e.time up (leb-false e.time limit d) in rw (g, d, m.0, m.1) refl

  -- An exchange counts the foreign replies among the events that it counts, and no more.
  pub raises : (strict : Bool) (a : Asked) (overall : Option ℕ) (es : List Entry) → rising 0 es ≡ true →
      let x = exchange strict a overall (map hear es) in x ≡ raised (passed_over listens es x) (exchange strict a overall (map hear (ours listens es)))
  unfolding exchange
  raises strict a overall es r = go overall
    where
      x : Settled
      x = settle strict a (map hear es) (start a)

      y : Settled
      y = settle strict a (map hear (ours listens es)) (start a)

      h : Beside es [] [] x y
      h = beside strict a es 0 r (start a) []

      up : rising 0 h.seen ≡ true
      up = rising-front h.seen h.rest 0 (subst (λ (l : List Entry). rising 0 l ≡ true) h.splits r)

      number : length x.read ≡ length h.seen
      number = ap (λ (l : List ℕ). length l) h.read ∙ omega (arith, onto-length (times h.seen) [], length-map h.seen (λ e. e.time))

      number' : length y.read ≡ length (ours listens h.seen)
      number' = ap (λ (l : List ℕ). length l) h.left ∙ omega (arith, onto-length (times (ours listens h.seen)) [], length-map (ours listens h.seen) (λ e. e.time))

      all_first : take (length x.read) es ≡ h.seen
      all_first = ap₂ (λ (n : ℕ) (l : List Entry). take n l) number h.splits ∙ take-append_seam h.seen h.rest

      whole : counted x ≡ raised (passed_over listens es (counted x)) (counted y)
      whole =
          let events : length x.read ≡ length y.read + foreigns listens (take (length x.read) es) =
          omega (arith, number, number', counted-apart h.seen, ap (foreigns listens) all_first)
          in
          let notices = ap (λ (l : List ℕ). length l) h.notices in
          λ i. answer (h.outcome i) (h.time i) (events i) (notices i) (h.reply i)

      go : (overall : Option ℕ) → let z = under overall x in z ≡ raised (passed_over listens es z) (under overall y)
      go none = whole
      go (some limit) = late (leb x.time limit) refl
        where
          late : (b : Bool) → leb x.time limit ≡ b → let z = under (some limit) x in z ≡ raised (passed_over listens es z) (under (some limit) y)
          late true d = let d' : leb y.time limit ≡ true = subst (λ (t : ℕ). leb t limit ≡ true) h.time d in rw (d, d') whole
          late false d =
              let events : up_to limit x.read ≡ up_to limit y.read + foreigns listens (take (up_to limit x.read) es) =
              omega (arith, early, early', up-to-apart limit h.seen 0 up, ap (foreigns listens) first)
              in
              let notices = ap (up_to limit) h.notices in
              let d' : leb y.time limit ≡ false = subst (λ (t : ℕ). leb t limit ≡ false) h.time d in
              rw (d, d') (λ i. answer timeout limit (events i) (notices i) nowhere)
            where
              early : up_to limit x.read ≡ up_to limit (times h.seen)
              early = ap (up_to limit) h.read ∙ omega (arith, onto-up_to limit (times h.seen) [])

              early' : up_to limit y.read ≡ up_to limit (times (ours listens h.seen))
              early' = ap (up_to limit) h.left ∙ omega (arith, onto-up_to limit (times (ours listens h.seen)) [])

              first : take (up_to limit x.read) es ≡ take (up_to limit (times h.seen)) h.seen
              first =
                  ap₂ (λ (n : ℕ) (l : List Entry). take n l) early h.splits ∙
                  take-append-le (up_to limit (times h.seen)) h.seen h.rest (up_to-within limit h.seen)
