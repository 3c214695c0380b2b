-- One turn of the code, from a state that counts the times of one of `rules`: the turn of `rules` from there.
use Prim.Native.Nat.{ℕ, suc, ◌≤◌, ◌<◌}
use native.Mathlib.Omega.{arith}
use mathlib.Core.Bool.{Bool}
use mathlib.Core.List.{List, [], ◌++◌}
use mathlib.Core.Option.{Option}
use mathlib.Core.Path.{◌≡◌, refl, ◌∙◌, ap}
use lib.ListN.{length, length-append}
use Rattle.rules.specs.Events.{Entry, event_of}
use Rattle.rules.specs.Exchange as rules
use Rattle.rules.specs.Exchange.{Asked, state, on, ends, turn}
use Rattle.rules.specs.Limited.{spent}
use Rattle.rules.proofs.Turns.{raised, turn-raised, ReadsOne, turn-reads-one}
use Rattle.exchange.specs.Counts.{count_of, plus}
use Rattle.exchange.specs.Meaning.{outcome_of}
use Rattle.exchange.specs.Places.{beginning, TurnsTo, Turns}
use Rattle.exchange.specs.States.{state_of}
use Rattle.exchange.specs.declared.types.Settled.{Settled}
use Rattle.exchange.specs.declared.types.State.{State}
use Rattle.exchange.specs.declared.types.Turn.TheVariants.{On, Ends}
use Rattle.exchange.proofs.Counting.{plus-counts}

module _ (strict : Bool) (a : Asked) (overall : Option ℕ) (listens : ℕ) (r : List ℕ) (s : rules.State) (e : Entry)
    (fewer : length s.notices ≤ length s.read) (room : length s.read < 18446744073709551615) where
  abbrev bare : rules.Turn
  bare = turn strict (spent (length s.notices) a) (state s.hush s.deadline [] []) (event_of listens r e)

  one : ReadsOne bare
  one = turn-reads-one strict (spent (length s.notices) a) s.hush s.deadline (event_of listens r e)

  turned : (z : rules.Turn) → bare ≡ z → turn strict a s (event_of listens r e) ≡ raised s.read s.notices z
  turned z p = turn-raised strict a s (event_of listens r e) ∙ ap (raised s.read s.notices) p

  counts : (ts us : List ℕ) → length ts ≤ 1 → length us ≤ length s.read → plus overall ts (count_of overall us) ≡ count_of overall (ts ++ us)
  counts ts us h k = plus-counts overall ts us (omega arith)

  -- It goes on, and the state behind the event counts the times of the definition's.
  pub record Goes (next : State) : Type 0 where
    pub behind : rules.State
    pub turns : turn strict a s (event_of listens r e) ≡ on behind
    pub stands : next ≡ state_of overall behind
    pub read : length behind.read ≡ suc (length s.read)
    pub noted : length behind.notices ≤ length behind.read

  pub goes : {next : State} → Turns strict a overall listens (state_of overall s) e r (On next) → Goes next
  goes {next} t = go bare refl one t.means
    where
      go : (z : rules.Turn) → bare ≡ z → ReadsOne z → TurnsTo overall r (beginning e) (state_of overall s) (On next) z → Goes next
      go (on y) q h m = record {
        behind = state y.hush y.deadline (y.read ++ s.read) (y.notices ++ s.notices);
        turns = turned (on y) q;
        stands = m ∙ rw (counts y.read s.read (omega (arith, h.0)) (omega arith), counts y.notices s.notices h.1 fewer);
        read = omega (arith, length-append y.read s.read, h.0);
        noted = omega (arith, length-append y.read s.read, length-append y.notices s.notices, h.0, h.1, fewer);
      }
      go (ends y) q h m = absurd m

  -- It ends: with this outcome, at this time, and so many events read.
  pub record Stops (x : Settled) : Type 0 where
    pub settled : rules.Settled
    pub turns : turn strict a s (event_of listens r e) ≡ ends settled
    pub outcome : outcome_of r x.outcome ≡ settled.outcome
    pub time : x.time ≡ settled.time
    pub read : x.read.all ≡ length settled.read

  pub stops : {x : Settled} → Turns strict a overall listens (state_of overall s) e r (Ends x) → Stops x
  stops {x} t = go bare refl one t.means
    where
      go : (z : rules.Turn) → bare ≡ z → ReadsOne z → TurnsTo overall r (beginning e) (state_of overall s) (Ends x) z → Stops x
      go (on y) q h m = absurd m
      go (ends y) q h m = record {
        settled = rules.settled y.outcome y.time (y.read ++ s.read) (y.notices ++ s.notices) y.reply;
        turns = turned (ends y) q;
        outcome = m.means;
        time = m.time;
        read = ap (λ k. k.all) (m.read ∙ counts y.read s.read (omega (arith, h.0)) (omega arith));
      }
