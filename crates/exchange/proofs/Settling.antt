-- The loop over the events: what holds at each of them, and what that gives when one settles the exchange.
use Prim.Native.Nat.{ℕ, ◌+◌, ◌-◌, ◌/◌, ◌≤◌, ◌<◌}
use native.Mathlib.Nat.{sub-zero}
use native.Mathlib.Omega.{arith}
use mathlib.Core.Bool.{Bool, true, false, cond, and-eq-true_iff}
use mathlib.Core.Path.{◌≡◌, refl, sym, ap, subst, ◌∙◌}
use mathlib.Core.List.{List, [], ◌++◌, map}
use mathlib.Core.Option.{Option, none, some}
use lib.Dec.{leb}
use lib.ListN.{length, length-append}
use Rattle.rules.specs.Answers as answers
use Rattle.rules.specs.Bytes.{every}
use Rattle.rules.specs.Events as events
use Rattle.rules.specs.Events.{Form, event_size, Entry, event_of, entry_at, entries_from, entries, sound, within_limits}
use Rattle.rules.specs.Exchange as rules
use Rattle.rules.specs.Exchange.{Asked, state, start, on, ends, turn, settle, silence, under, exchange}
use Rattle.rules.specs.Limited.{spent}
use Rattle.rules.proofs.Turns.{raised, turn-raised, ReadsOne, turn-reads-one}
use Rattle.exchange.specs.declared.types.Answer.{Answer}
use Rattle.exchange.specs.declared.types.Outcome.TheVariants as outcome
use Rattle.exchange.specs.declared.types.Settled.{Settled}
use Rattle.exchange.specs.declared.types.State.{State}
use Rattle.exchange.specs.declared.types.Turn.{Turn}
use Rattle.exchange.specs.declared.types.Turn.TheVariants.{On, Ends}
use Rattle.exchange.specs.Counts.{count_of, plus}
use Rattle.exchange.specs.Guarded.{over}
use Rattle.exchange.specs.Meaning.{outcome_of, part_of}
use Rattle.exchange.specs.Places.{Inside, InsideOutcome, WholeReply, beginning, TurnsTo, Turns, Answers}
use Rattle.exchange.specs.States.{state_of, start_of, passed_by, silence_of, under_of}
use Rattle.exchange.proofs.Counting.{plus-counts}
use Rattle.exchange.proofs.Entries.{next-entry, idle-heard, beginning-inside, sound-whole, all_sound, few-entries}
use Rattle.exchange.proofs.Placing.{whole-inside}
use Rattle.exchange.proofs.Turning.{turns-idle, left, settle-none, settle-late, settle-on, settle-ends}

-- A settled exchange of the code is one of `rules`: it means its outcome and reply, and counts its times.
pub record Stands (overall : Option ℕ) (l : List ℕ) (s : Settled) (x : rules.Settled) : Type 0 where
  pub means : outcome_of l s.outcome ≡ x.outcome
  pub time : s.time ≡ x.time
  pub read : s.read ≡ count_of overall x.read
  pub notices : s.notices ≡ count_of overall x.notices
  pub reply : part_of l s.reply ≡ x.reply
  pub inside : InsideOutcome l s.outcome
  pub placed : Inside l s.reply

-- What T leaves of it is what T leaves there.
pub under-stands : (overall : Option ℕ) {l : List ℕ} {s : Settled} {x : rules.Settled} → Stands overall l s x
    → Answers l (under_of overall s) (under overall x)
under-stands none {s = s} {x = x} h = record {
  means = λ i. answers.answer (h.means i) (h.time i) (h.read i).all (h.notices i).all (h.reply i);
  outcome = h.inside;
  reply = h.placed;
}
under-stands (some overall) {l} {s} {x} h = go (leb s.time overall) (ap (λ t. leb t overall) h.time)
  where
    go : (b : Bool) → b ≡ leb x.time overall
        → Answers l (cond b (under_of none s) (record { outcome = outcome.Timeout; time = overall; events = s.read.early; notices = s.notices.early; reply = record { at = 0; len = 0 } }))
        (cond (leb x.time overall) (rules.counted x) (answers.answer answers.timeout overall (events.up_to overall x.read) (events.up_to overall x.notices) answers.nowhere))
    go true e = rw (← e) (record {
      means = λ i. answers.answer (h.means i) (h.time i) (h.read i).all (h.notices i).all (h.reply i);
      outcome = h.inside;
      reply = h.placed;
    })
    go false e = rw (← e) (record {
      means = λ i. answers.answer answers.timeout overall (h.read i).early (h.notices i).early answers.nowhere;
      outcome = tt;
      reply = omega arith;
    })

-- Silence stands for silence.
pub silence-stands : (overall : Option ℕ) (l : List ℕ) (s : rules.State) → Stands overall l (silence_of (state_of overall s)) (silence s)
silence-stands overall l s = go s.hush
  where
    go : (b : Bool) → let s' = state b s.deadline s.read s.notices in Stands overall l (silence_of (state_of overall s')) (silence s')
    go true = record { means = refl; time = refl; read = refl; notices = refl; reply = refl; inside = tt; placed = omega arith }
    go false = record { means = refl; time = refl; read = refl; notices = refl; reply = refl; inside = tt; placed = omega arith }

-- The exchange over all events of the list.
abbrev pub begun : Bool → Asked → Form → ℕ → List ℕ → List ℕ → rules.Settled
begun strict a form listens l r = settle strict a (map (event_of listens r) (entries form l)) (start a)

-- At event i: a state of `rules` that the code's stands for, from which the exchange over what is left is the exchange over all.
pub record Held (strict : Bool) (a : Asked) (overall : Option ℕ) (form : Form) (listens : ℕ) (l r : List ℕ) (n i : ℕ) (now : State) : Type 0 where
  pub at : rules.State
  pub small : i ≤ n
  pub bounded : n ≤ 512
  pub passed : length at.read ≡ i
  pub fewer : length at.notices ≤ i
  pub stands : now ≡ state_of overall at
  pub sound : every (sound r) (entries_from form l (n - i) i) ≡ true
  pub same : settle strict a (left form listens r l n i) at ≡ begun strict a form listens l r

started : (a : Asked) (overall : Option ℕ) → start_of a ≡ state_of overall (start a)
started a none = refl
started a (some overall) = refl

module _ {strict : Bool} {a : Asked} (overall : Option ℕ) {form : Form} {listens : ℕ} {l r : List ℕ} where
  pub held_first : within_limits form l r ≡ true → {n : ℕ} → n ≡ length l / event_size form → {now : State} → now ≡ start_of a → Held strict a overall form listens l r n 0 now
  held_first h {n} k e = record {
    at = start a;
    small = omega arith;
    bounded = rw k (few-entries form l r h);
    passed = refl;
    fewer = omega arith;
    stands = e ∙ started a overall;
    sound = rw (sub-zero, k) (all_sound form l r h);
    same = rw (sub-zero, k);
  }

  module _ {n i : ℕ} {now : State} (held : Held strict a overall form listens l r n i now) where
    -- Silence: its answer is the exchange's.
    silent : {s : Settled} {v : Answer} → s ≡ silence_of now → v ≡ under_of overall s → silence held.at ≡ begun strict a form listens l r
        → Answers r v (over strict a overall form listens l r)
    unfolding exchange
    silent quiet u e =
        rw (u, quiet, held.stands) (subst (λ (x : rules.Settled). Answers r (under_of overall (silence_of (state_of overall held.at))) (under overall x)) e
        (under-stands overall (silence-stands overall r held.at)))

    pub no_more : {s : Settled} {v : Answer} → s ≡ silence_of now → v ≡ under_of overall s → n ≤ i → Answers r v (over strict a overall form listens l r)
    no_more quiet u h = silent quiet u (sym (settle-none strict a form listens r l n i held.at h) ∙ held.same)

    -- The time that was read alone is the entry's.
    pub in-time-as : {d t : ℕ} {e : Entry} → t ≡ (entry_at form l i).time → e ≡ entry_at form l i → t ≤ d → e.time ≤ d
    in-time-as {d} et here h = subst (λ (m : ℕ). m ≤ d) (et ∙ sym (ap (λ (x : Entry). x.time) here)) h

    module _ {e : Entry} (here : e ≡ entry_at form l i) (more : i < n) where
      pub too-late : {s : Settled} {v : Answer} → s ≡ silence_of now → v ≡ under_of overall s → now.deadline < e.time
          → Answers r v (over strict a overall form listens l r)
      too-late quiet u h =
          silent quiet u (sym (settle-late strict a form listens r l n i held.at e here more (rw (ap (λ s. s.deadline) held.stands) at h)) ∙ held.same)

      rest-sound : (sound r e ≡ true) × (every (sound r) (entries_from form l (n - (i + 1)) (i + 1)) ≡ true)
      rest-sound = (and-eq-true_iff (sound r e) _).0 (rw (next-entry form l n i e here more) at held.sound)

      -- All that the next event names is there, if it is a reply.
      pub next-whole : WholeReply r e
      next-whole = sound-whole r e rest-sound.0

      module _ {x : Turn} (turns : Turns strict a overall listens now e r x) (early : e.time ≤ now.deadline) where
        -- The turn from the state where nothing was read, and the turn that is taken.
        abbrev left_over : Asked
        left_over = spent (length held.at.notices) a

        abbrev bare : rules.Turn
        bare = turn strict left_over (state held.at.hush held.at.deadline [] []) (event_of listens r e)

        turned : (z : rules.Turn) → bare ≡ z → turn strict a held.at (event_of listens r e) ≡ raised held.at.read held.at.notices z
        turned z p = turn-raised strict a held.at (event_of listens r e) ∙ ap (raised held.at.read held.at.notices) p

        in-time : e.time ≤ held.at.deadline
        in-time = rw (ap (λ s. s.deadline) held.stands) at early

        taken : (y : Turn) → x ≡ y → TurnsTo overall r (beginning e) (state_of overall held.at) y bare
        taken y p =
            subst (λ (w : Turn). TurnsTo overall r (beginning e) (state_of overall held.at) w bare) p
            (subst (λ (s : State). Turns strict a overall listens s e r x) held.stands turns).means

        -- What the code counts behind the event is what `rules` keeps there.
        counts : (ts us : List ℕ) → length ts ≤ 1 → length us ≤ i → plus overall ts (count_of overall us) ≡ count_of overall (ts ++ us)
        counts ts us h k = plus-counts overall ts us (omega (arith, more, held.bounded))

        pub after_on : {s : State} → x ≡ On s → Held strict a overall form listens l r n (i + 1) s
        after_on {s} p = go bare refl (turn-reads-one strict left_over held.at.hush held.at.deadline (event_of listens r e)) (taken (On s) p)
          where
            go : (z : rules.Turn) → bare ≡ z → ReadsOne z → TurnsTo overall r (beginning e) (state_of overall held.at) (On s) z
                → Held strict a overall form listens l r n (i + 1) s
            go (on y) q one t = record {
              at = state y.hush y.deadline (y.read ++ held.at.read) (y.notices ++ held.at.notices);
              small = omega (arith, more);
              bounded = held.bounded;
              passed = omega (arith, length-append y.read held.at.read, held.passed, one.0);
              fewer = omega (arith, length-append y.notices held.at.notices, held.fewer, one.1);
              stands = t ∙
                  rw (
                    counts y.read held.at.read (omega (arith, one.0)) (omega (arith, held.passed)),
                    counts y.notices held.at.notices one.1 held.fewer,
                  );
              sound = rest-sound.1;
              same = sym (settle-on strict a form listens r l n i held.at e here more _ in-time (turned (on y) q)) ∙ held.same;
            }
            go (ends y) q one t = absurd t

        pub ends_it : {s : Settled} {v : Answer} → x ≡ Ends s → v ≡ under_of overall s → Answers r v (over strict a overall form listens l r)
        unfolding exchange
        ends_it {s} {v} p u = go bare refl (turn-reads-one strict left_over held.at.hush held.at.deadline (event_of listens r e)) (taken (Ends s) p)
          where
            go : (z : rules.Turn) → bare ≡ z → ReadsOne z → TurnsTo overall r (beginning e) (state_of overall held.at) (Ends s) z
                → Answers r v (under overall (begun strict a form listens l r))
            go (on y) q one t = absurd t
            go (ends y) q one t =
                rw u (subst (λ (w : rules.Settled). Answers r (under_of overall s) (under overall w))
                (sym (settle-ends strict a form listens r l n i held.at e here more _ in-time (turned (ends y) q)) ∙ held.same)
                (under-stands overall (record {
                  means = t.means;
                  time = t.time;
                  read = t.read ∙ counts y.read held.at.read (omega (arith, one.0)) (omega (arith, held.passed));
                  notices = t.notices ∙ counts y.notices held.at.notices one.1 held.fewer;
                  reply = t.reply;
                  inside = t.inside;
                  placed = whole-inside r s.reply.at s.reply.len t.whole (omega (arith, t.starts, beginning-inside r e rest-sound.0));
                })))

  -- An idle event was passed, by its time and kind alone.
  pub after-idle : {n i : ℕ} {now s : State} {t k : ℕ} → Held strict a overall form listens l r n i now → i < n → t ≡ (entry_at form l i).time → k ≡ (entry_at form l i).kind
      → t ≤ now.deadline → k ≡ 1 → s ≡ passed_by overall t now → Held strict a overall form listens l r n (i + 1) s
  after-idle {i = i} {now = now} held more et ek early one is =
      let e = entry_at form l i in
      let turns = turns-idle {strict = strict} {a = a} {overall = overall} {before = now} {e = e} {l = r} (sym (idle-heard listens r e (sym ek ∙ one))) refl refl in
      after_on held refl more turns (in-time-as held et refl early) (ap On (ap (λ (m : ℕ). passed_by overall m now) (sym et) ∙ sym is))
