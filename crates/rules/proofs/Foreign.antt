-- Several controllers on one channel, proved.
use Prim.Native.Nat.{ℕ, zero, suc, ◌+◌, ◌/◌, ◌%◌, ◌≤◌}
use native.Mathlib.Nat.{zero-add}
use native.Mathlib.Omega.{arith}
use mathlib.Core.Bool.{Bool, true, false, cond, not, ◌&&◌}
use mathlib.Core.Path.{◌≡◌, refl, sym, ◌∙◌, ap, ap₂, subst, subst⁻¹}
use mathlib.Core.Logic.{◌↔◌}
use mathlib.Core.List.{List, [], ◌∷◌, ◌++◌, map}
use mathlib.Core.Option.{Option, none, some}
use lib.Dec.{leb, eqb}
use lib.ListN.{length, length-map, drop}
use borrow.Author.Tests.{leb-true, le-leb, eq-eqb}
use Rattle.rules.specs.After.{after, number_of, timing_of}
use Rattle.rules.specs.Answers.{Part, Outcome, positive, suppressed, negative, timeout, pending_limit, disconnected, transport, fault, refused, Answer, answer}
use Rattle.rules.specs.Bytes.{every, is_byte}
use Rattle.rules.specs.Calls.{Call, request_of}
use Rattle.rules.specs.InOrder.{Check, unless}
use Rattle.rules.specs.Client.{Result, asked, entries_in, heard, events_in, answered, call}
use Rattle.rules.specs.Conversations.{Conversation, Every}
use Rattle.rules.specs.Demand3.{Named, Refused, Answers}
use Rattle.rules.specs.Events.{Form, plain, event_size, entries, entry_at, entries_from, Entry, Event, idle, foreign, said, event_of, named, rising, sound, within_limits}
use Rattle.rules.specs.Exchange.{Asked, exchange}
use Rattle.rules.specs.Foreign.{ours, left_in, raised, passed_over, with_answer, bare, bare_outcome, bare_answer, uncounted, Ours, laid, dropped, unaddressed, sourceless, Foreign}
use Rattle.rules.specs.Lines.{line}
use Rattle.rules.specs.Refusals.{arguments, refusals}
use Rattle.rules.specs.Settings.{Setting, Lent}
use Rattle.rules.proofs.Demand3.{Accepted, accepted, sound-events, both_ways}
use Rattle.rules.proofs.Dropping.{raises, counted-apart}
use Rattle.rules.proofs.Judging.{both, judge-pass, pass-append, append-pass}
use Rattle.rules.proofs.Laying.{laid-size, laid-entries, same_size, ten, picked-ours, picked-sourceless, entries-length}
use Rattle.rules.proofs.Limits.{OfBytes, Sound, rises, all-bytes}
use Rattle.rules.proofs.Places.{bare-exchange, bare-after, bare-number, bare-timing}

-- What is left keeps the limits.
pub rising-left : (listens : ℕ) (es : List Entry) (t u : ℕ) → t ≤ u → rising u es ≡ true → rising t (ours listens es) ≡ true
rising-left listens [] t u h r = refl
rising-left listens (e ∷ es) t u h r =
    let k = both (leb u e.time) (rising e.time es) r in go (foreign listens e) (leb-true u e.time k.0) (λ t' l. rising-left listens es t' e.time l k.1)
  where
    go : (b : Bool) → u ≤ e.time → ((t' : ℕ) → t' ≤ e.time → rising t' (ours listens es) ≡ true) → rising t (cond b (ours listens es) (e ∷ ours listens es)) ≡ true
    go true l more = more t (omega arith)
    go false l more = rw (le-leb t e.time (omega arith)) (more e.time (omega arith))

pub every-left : (p : Entry → Bool) (listens : ℕ) (es : List Entry) → every p es ≡ true → every p (ours listens es) ≡ true
every-left p listens [] h = refl
every-left p listens (e ∷ es) h = let k = both (p e) (every p es) h in go (foreign listens e) k.0 (every-left p listens es k.1)
  where
    go : (b : Bool) → p e ≡ true → every p (ours listens es) ≡ true → every p (cond b (ours listens es) (e ∷ ours listens es)) ≡ true
    go true h k = k
    go false h k = rw h k

-- A call that is not refused: its answer is that to what is left, with the foreign replies that it read counted.
module _ (strict : Bool) (w : Setting) (c : Call) (l : Lent) (ok : Accepted strict w c l) where
  abbrev all : Answer
  all = exchange strict (asked w c) w.overall (events_in l)

  abbrev left_answer : Answer
  left_answer = exchange strict (asked w c) w.overall (left_in l)

  abbrev more : ℕ
  more = passed_over l.listens (entries_in l) all

  is : call strict w c l ≡ answered w c l (request_of w.quiet c) (after strict c all)
  is = ok.is

  raised-left : all ≡ raised more left_answer
  raised-left = raises l.listens l.replies strict (asked w c) w.overall (entries_in l) (sound-events strict w c l ok).in_order

  answer-is : (call strict w c l).answer ≡ raised (passed_over l.listens (entries_in l) (call strict w c l).answer) (after strict c left_answer)
  answer-is =
      let e = ap (λ (r : Result). r.answer) is in
      subst⁻¹ (λ (x : Answer). x ≡ raised (passed_over l.listens (entries_in l) x) (after strict c left_answer)) e (ap (after strict c) raised-left)

  -- What does not hang on the count, of the answer to what is left.
  abbrev apart : (Answer → Answer) → Answer → Result
  apart f x = with_answer (answered w c l (request_of w.quiet c) x) (f x)

  uncounted-is : let r = call strict w c l in with_answer r (uncounted r.answer) ≡ apart uncounted (after strict c left_answer)
  uncounted-is = ap (λ (r : Result). with_answer r (uncounted r.answer)) is ∙ ap (λ (x : Answer). apart uncounted (after strict c x)) raised-left

  abbrev bared : Answer → Result
  bared x = record {
    answer = uncounted x;
    number = number_of c x.outcome;
    sent = length (request_of w.quiet c);
    timing = timing_of w.server_timing c x.outcome w.timing;
    buffer = (answered w c l (request_of w.quiet c) x).buffer;
  }

  bared-is : let r = call strict w c l in
      with_answer r (uncounted (bare_answer r.answer)) ≡ bared (bare_answer (after strict c (bare_answer (exchange strict (asked w c) w.overall (map bare (left_in l))))))
  bared-is =
      let x = after strict c left_answer in
      let number = bare-number strict c x.outcome in
      let timing = bare-timing strict c w.server_timing w.timing x.outcome in
      ap (λ (r : Result). with_answer r (uncounted (bare_answer r.answer))) is ∙
      ap (λ (y : Answer). apart (λ z. uncounted (bare_answer z)) (after strict c y)) raised-left ∙
      (λ i. record { answer = uncounted (bare_answer x); number = number i; sent = length (request_of w.quiet c); timing = timing i; buffer = (answered w c l (request_of w.quiet c) x).buffer }) ∙
      ap bared (bare-after strict c left_answer) ∙
      ap (λ (y : Answer). bared (bare_answer (after strict c y))) (bare-exchange strict (asked w c) w.overall (left_in l))

-- Other events in the same place, within the limits, are not refused either.
lent-with : (strict : Bool) (w : Setting) (c : Call) (l : Lent) (form : Form) (events : List ℕ) (listens : ℕ) → Accepted strict w c l → within_limits form events l.replies ≡ true
    → Accepted strict w c (record { buffer = l.buffer; form = form; events = events; replies = l.replies; listens = listens })
unfolding call
lent-with strict w c l form events listens h k =
    let p = pass-append (arguments c) _ h.pass in
    let message = request_of w.quiet c in
    let last : List (Check ℕ) = unless (leb (length message) 4095) 8 ∷ unless (leb (length message) (length l.buffer)) 9 ∷ unless (within_limits form events l.replies) 10 ∷ [] in
    let passes = append-pass (arguments c) last p.0 (p.1.0, (p.1.1.0, (k, tt))) in
    record { pass = passes; is = judge-pass _ (refusals c (request_of w.quiet c) l.buffer form events l.replies) _ passes }

-- What is left is within the limits.
module _ (form : Form) (listens : ℕ) (events replies : List ℕ) where
  abbrev es : List Entry
  es = entries form events

  abbrev left : List ℕ
  left = laid form form (λ e. not (foreign listens e)) events (length events / event_size form) 0

  left-are : entries form left ≡ ours listens es
  left-are = laid-entries form form (same_size form) (λ e. not (foreign listens e)) events ∙ picked-ours listens form events (length events / event_size form) 0

  left-within : Sound form listens events replies → within_limits form left replies ≡ true
  unfolding within_limits
  left-within s =
      let size = laid-size form form (same_size form) (λ e. not (foreign listens e)) events in
      let number : length left / event_size form ≡ length (ours listens es) = size.0 ∙ ap (λ (l : List Entry). length l) (picked-ours listens form events (length events / event_size form) 0) in
      let few : length (ours listens es) ≤ 512 =
      omega (arith, counted-apart listens replies es, entries-length form events (length events / event_size form) 0, leb-true (length events / event_size form) 512 s.at-most)
      in
      let a : eqb (length left % event_size form) 0 ≡ true = eq-eqb (length left % event_size form) 0 size.1 in
      let b : leb (length left / event_size form) 512 ≡ true = le-leb (length left / event_size form) 512 (omega arith) in
      let c : rising 0 (entries form left) ≡ true = ap (rising 0) left-are ∙ rising-left listens es 0 0 (omega arith) s.in_order in
      let d : every (sound replies) (entries form left) ≡ true = ap (every (sound replies)) left-are ∙ every-left (sound replies) listens es s.each in
      rw (a, b, c, d) refl

-- Without addresses too.
rising-sourceless : (t : ℕ) (es : List Entry) → rising t es ≡ true → rising t (map sourceless es) ≡ true
rising-sourceless t [] h = refl
rising-sourceless t (e ∷ es) h = let k = both (leb t e.time) (rising e.time es) h in rw k.0 (rising-sourceless e.time es k.1)

sound-sourceless : (replies : List ℕ) (es : List Entry) → every (sound replies) es ≡ true → every (sound replies) (map sourceless es) ≡ true
sound-sourceless replies [] h = refl
sound-sourceless replies (e ∷ es) h =
    let k = both (sound replies e) (every (sound replies) es) h in
    let one = both (leb e.time 4294967295) _ k.0 in
    let now : sound replies (sourceless e) ≡ true = rw one.0 (go (eqb e.kind 0) one.1) in
    rw now (sound-sourceless replies es k.1)
  where
    inside : Bool
    inside = leb e.size 4095 && leb (e.offset + e.size) (length replies) && every is_byte (named replies e).bytes

    go : (b : Bool) → cond b inside (leb e.kind 3 && leb e.size 65535 && eqb e.source 0) ≡ true → cond b inside (leb e.kind 3 && leb e.size 65535 && eqb 0 0) ≡ true
    go true h = h
    go false h = let k = both (leb e.kind 3 && leb e.size 65535) (eqb e.source 0) h in rw k.0 refl

module _ (form : Form) (listens : ℕ) (events replies : List ℕ) where
  abbrev short : List ℕ
  short = laid form plain (λ e. true) events (length events / event_size form) 0

  short-are : entries plain short ≡ map sourceless (entries form events)
  short-are = laid-entries form plain (ten form) (λ e. true) events ∙ picked-sourceless form events (length events / event_size form) 0

  short-within : Sound form listens events replies → within_limits plain short replies ≡ true
  unfolding within_limits
  short-within s =
      let size = laid-size form plain (ten form) (λ e. true) events in
      let es = entries form events in
      let number : length short / 10 ≡ length (map sourceless es) = size.0 ∙ ap (λ (l : List Entry). length l) (picked-sourceless form events (length events / event_size form) 0) in
      let few : length (map sourceless es) ≤ 512 =
      omega (arith, length-map es sourceless, entries-length form events (length events / event_size form) 0, leb-true (length events / event_size form) 512 s.at-most)
      in
      let a : eqb (length short % 10) 0 ≡ true = eq-eqb (length short % 10) 0 size.1 in
      let b : leb (length short / 10) 512 ≡ true = le-leb (length short / 10) 512 (omega arith) in
      let c : rising 0 (entries plain short) ≡ true = ap (rising 0) short-are ∙ rising-sourceless 0 es s.in_order in
      let d : every (sound replies) (entries plain short) ≡ true = ap (every (sound replies)) short-are ∙ sound-sourceless replies es s.each in
      rw (a, b, c, d) refl

module _ (strict : Bool) (w : Setting) (c : Call) (l : Lent) (ok : Accepted strict w c l) where
  pub drops : let r = call strict w c l in let r' = call strict w c (dropped l) in r ≡ with_answer r' (raised (passed_over l.listens (entries_in l) r.answer) r'.answer)
  drops =
      let request = request_of w.quiet c in
      let s = sound-events strict w c l ok in
      let ok' = lent-with strict w c l l.form (dropped l).events l.listens ok (left-within l.form l.listens l.events l.replies s) in
      let same : events_in (dropped l) ≡ left_in l = ap (heard l) (left-are l.form l.listens l.events l.replies) in
      let to = after strict c (left_answer strict w c l ok) in
      let now : call strict w c (dropped l) ≡ answered w c l request to =
      ok'.is ∙ ap (λ (es : List Event). answered w c l request (after strict c (exchange strict (asked w c) w.overall es))) same
      in
      subst⁻¹ (λ (r' : Result). call strict w c l ≡ with_answer r' (raised (passed_over l.listens (entries_in l) (call strict w c l).answer) r'.answer)) now
      (subst⁻¹ (λ (r : Result). r ≡ with_answer (answered w c l request to) (raised (passed_over l.listens (entries_in l) r.answer) to)) ok.is
      (ap (λ (x : Answer). answered w c l request (after strict c x)) (raised-left strict w c l ok)))

module _ (strict : Bool) (w : Setting) (c : Call) (l l' : Lent) (ok : Accepted strict w c l) (ok' : Accepted strict w c l') where
  two-lists : l.buffer ≡ l'.buffer → let r = call strict w c l in let r' = call strict w c l' in
      (left_in l ≡ left_in l' → with_answer r (uncounted r.answer) ≡ with_answer r' (uncounted r'.answer)) ×
      (map bare (left_in l) ≡ map bare (left_in l') → with_answer r (uncounted (bare_answer r.answer)) ≡ with_answer r' (uncounted (bare_answer r'.answer)))
  two-lists b =
      let request = request_of w.quiet c in
      let run : List Event → Answer = λ es. after strict c (exchange strict (asked w c) w.overall es) in
      let laid : List ℕ → List ℕ = λ buffer. request ++ drop (length request) buffer in
      let whole : List Event → List ℕ → Result = λ es buffer. record {
        answer = uncounted (run es);
        number = number_of c (run es).outcome;
        sent = length request;
        timing = timing_of w.server_timing c (run es).outcome w.timing;
        buffer = laid buffer;
      } in
      let bytes : List Event → Answer = λ es. bare_answer (after strict c (bare_answer (exchange strict (asked w c) w.overall es))) in
      let told : List Event → List ℕ → Result = λ es buffer. record {
        answer = uncounted (bytes es);
        number = number_of c (bytes es).outcome;
        sent = length request;
        timing = timing_of w.server_timing c (bytes es).outcome w.timing;
        buffer = laid buffer;
      } in
      (λ e. uncounted-is strict w c l ok ∙ ap₂ whole e b ∙ sym (uncounted-is strict w c l' ok'), λ e. bared-is strict w c l ok ∙ ap₂ told e b ∙ sym (bared-is strict w c l' ok'))

-- Taking the foreign replies off the count again.
lowered : (n : ℕ) (x y : Answer) → raised n x ≡ raised n y → x ≡ y
lowered n x y e =
    let outcome = ap (λ (z : Answer). z.outcome) e in
    let time = ap (λ (z : Answer). z.time) e in
    let events : x.events ≡ y.events = omega (arith, ap (λ (z : Answer). z.events) e) in
    let notices = ap (λ (z : Answer). z.notices) e in
    let reply = ap (λ (z : Answer). z.reply) e in
    λ i. answer (outcome i) (time i) (events i) (notices i) (reply i)

demand : (w : Setting) (c : Call) (l : Lent) → Named c → w.overall ≡ none → ¬ Refused (call true w c l).answer.outcome → (x : Answer) →
    let r = (call true w c l).answer in ((r ≡ raised (passed_over l.listens (entries_in l) r) x) × Answers x.outcome) ↔ Conversation w c (left_in l) x
unfolding exchange
demand w c l n t ok x =
    let s = sound-events true w c l (accepted true w c l ok) in
    let rest = ours l.listens (entries_in l) in
    let b = both_ways w c n (left_in l) (rises l.listens l.replies 0 rest (rising-left l.listens (entries_in l) 0 0 (omega arith) s.in_order))
    (all-bytes l.listens l.replies rest (every-left (sound l.replies) l.listens (entries_in l) s.each)) x
    in
    let r = (call true w c l).answer in
    let k = passed_over l.listens (entries_in l) r in
    let none-overall : after true c (exchange true (asked w c) w.overall (left_in l)) ≡ after true c (exchange true (asked w c) none (left_in l)) =
    ap (λ (u : Option ℕ). after true c (exchange true (asked w c) u (left_in l))) t
    in
    let is = answer-is true w c l (accepted true w c l ok) ∙ ap (raised k) none-overall in
    (λ h. b.0 (lowered k (after true c (exchange true (asked w c) none (left_in l))) x (sym is ∙ h.0), h.1), λ h. let a = b.1 h in (is ∙ ap (raised k) a.0, a.1))

-- As if there were no addresses.
unheard : (listens : ℕ) (replies : List ℕ) (es : List Entry) → Every (Ours listens) es → map (event_of listens replies) es ≡ map (said replies) es
unheard listens replies [] h = refl
unheard listens replies (e ∷ es) h =
    ap₂ (λ (b : Bool) (l : List Event). cond b (idle e.time) (said replies e) ∷ l) h.0 (unheard listens replies es h.1)

no_source : (events : List ℕ) (n i : ℕ) → Every (Ours 0) (entries_from plain events n i)
unfolding entries_from
no_source events zero i = tt
no_source events (suc n) i = (go (eqb (entry_at plain events i).kind 0), no_source events n (suc i))
  where
    go : (b : Bool) → (b && false) ≡ false
    go true = refl
    go false = refl

-- Entries without a source are foreign to no call that listens to 0.
ours-sourceless : (es : List Entry) → Every (Ours 0) (map sourceless es)
ours-sourceless [] = tt
ours-sourceless (e ∷ es) = (go (eqb e.kind 0), ours-sourceless es)
  where
    go : (b : Bool) → (b && false) ≡ false
    go true = refl
    go false = refl

said-sourceless : (replies : List ℕ) (es : List Entry) → map (said replies) (map sourceless es) ≡ map (said replies) es
said-sourceless replies [] = refl
said-sourceless replies (e ∷ es) = ap (λ (l : List Event). said replies e ∷ l) (said-sourceless replies es)

alone : (strict : Bool) (w : Setting) (c : Call) (l : Lent) → Every (Ours l.listens) (entries_in l) → Accepted strict w c l
    → (events_in l ≡ map (said l.replies) (entries_in l)) × (call strict w c l ≡ call strict w c (unaddressed l))
alone strict w c l h ok =
    let s = sound-events strict w c l ok in
    let es = entries_in l in
    let ok' = lent-with strict w c l plain (unaddressed l).events 0 ok (short-within l.form l.listens l.events l.replies s) in
    let here = unheard l.listens l.replies es h in
    let there : events_in (unaddressed l) ≡ map (said l.replies) es =
    ap (map (event_of 0 l.replies)) (short-are l.form l.listens l.events l.replies) ∙
    unheard 0 l.replies (map sourceless es) (ours-sourceless es) ∙
    said-sourceless l.replies es
    in
    let run : List Event → Result = λ es. answered w c l (request_of w.quiet c) (after strict c (exchange strict (asked w c) w.overall es)) in
    (here, ok.is ∙ ap run (here ∙ sym there) ∙ sym ok'.is)

but-the-count : (x : Answer) → raised x.events (uncounted x) ≡ x
but-the-count x = ap (λ (n : ℕ). answer x.outcome x.time n x.notices x.reply) (zero-add x.events)

but-places : (x : Answer) → line (bare_answer x) ≡ line x
unfolding line
but-places x = go x.outcome
  where
    go : (o : Outcome) → let y = answer o x.time x.events x.notices x.reply in line (bare_answer y) ≡ line y
    go (positive p) = refl
    go suppressed = refl
    go (negative c) = refl
    go timeout = refl
    go pending_limit = refl
    go disconnected = refl
    go (transport n) = refl
    go (fault f) = refl
    go (refused n) = refl

pub foreign-replies : Foreign
foreign-replies = record {
  exchanges = λ strict a overall listens replies es r. raises listens replies strict a overall es r;
  left-entries = λ l. left-are l.form l.listens l.events l.replies;
  drops = λ strict w c l ok. drops strict w c l (accepted strict w c l ok);
  two-lists = λ strict w c l l' b ok ok'. two-lists strict w c l l' (accepted strict w c l ok) (accepted strict w c l' ok') b;
  but-the-count = but-the-count;
  but-places = but-places;
  demand3 = demand;
  plain-entries = λ l. short-are l.form l.listens l.events l.replies;
  alone = λ strict w c l h ok. alone strict w c l h (accepted strict w c l ok);
  plainly = λ events. no_source events (length events / event_size plain) 0;
}
