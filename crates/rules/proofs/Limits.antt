-- What "not refused" gives of the events: their times never fall, and every reply is of bytes.
use Prim.Native.Nat.{ℕ, ◌+◌, ◌/◌, ◌%◌, ◌≤◌}
use mathlib.Core.Bool.{Bool, true, false, cond, ◌&&◌}
use mathlib.Core.Path.{◌≡◌, refl, subst⁻¹}
use mathlib.Core.List.{List, [], ◌∷◌, ◌++◌, map}
use lib.Dec.{leb, eqb}
use lib.ListN.{length}
use borrow.Author.Tests.{leb-true}
use Rattle.rules.specs.Bytes.{every, is_byte}
use Rattle.rules.specs.Conversations.{Every}
use Rattle.rules.specs.Counts.{Rising}
use Rattle.rules.specs.Events.{Form, event_size, Entry, entries, foreign, Event, reply, idle, ended, failed, time_of, named, event_of, sound, rising, within_limits}
use Rattle.rules.proofs.Judging.{both}

abbrev pub OfBytes : Event → Type 0
OfBytes (reply t p) = every is_byte p.bytes ≡ true
OfBytes (idle t) = Unit {0}
OfBytes (ended t) = Unit {0}
OfBytes (failed t n) = Unit {0}

module _ (listens : ℕ) (replies : List ℕ) where
  pub event-time : (e : Entry) → time_of (event_of listens replies e) ≡ e.time
  event-time e = go (foreign listens e) (eqb e.kind 0) (eqb e.kind 1) (eqb e.kind 2)
    where
      go : (f a b c : Bool)
          → time_of (cond f (idle e.time) (cond a (reply e.time (named replies e)) (cond b (idle e.time) (cond c (ended e.time) (failed e.time e.size))))) ≡ e.time
      go true a b c = refl
      go false true b c = refl
      go false false true c = refl
      go false false false true = refl
      go false false false false = refl

  pub rises : (t : ℕ) (es : List Entry) → rising t es ≡ true → Rising t (map (event_of listens replies) es)
  rises t [] h = tt
  rises t (e ∷ es) h =
      let k = both (leb t e.time) (rising e.time es) h in (
        subst⁻¹ (λ (u : ℕ). t ≤ u) (event-time e) (leb-true t e.time k.0),
        subst⁻¹ (λ (u : ℕ). Rising u (map (event_of listens replies) es)) (event-time e) (rises e.time es k.1),
      )

  bytes : (e : Entry) → sound replies e ≡ true → OfBytes (event_of listens replies e)
  bytes e h = go (foreign listens e) (eqb e.kind 0) (eqb e.kind 1) (eqb e.kind 2) (both (leb e.time 4294967295) _ h).1
    where
      go : (f a b c : Bool)
          → cond a (leb e.size 4095 && leb (e.offset + e.size) (length replies) && every is_byte (named replies e).bytes) (leb e.kind 3 && leb e.size 65535 && eqb e.source 0) ≡ true
          → OfBytes (cond f (idle e.time) (cond a (reply e.time (named replies e)) (cond b (idle e.time) (cond c (ended e.time) (failed e.time e.size)))))
      go true a b c k = tt
      go false true b c k =
          (both (leb e.size 4095 && leb (e.offset + e.size) (length replies)) (every is_byte (named replies e).bytes) k).1
      go false false true c k = tt
      go false false false true k = tt
      go false false false false k = tt

  pub all-bytes : (es : List Entry) → every (sound replies) es ≡ true → Every OfBytes (map (event_of listens replies) es)
  all-bytes [] h = tt
  all-bytes (e ∷ es) h = let k = both (sound replies e) (every (sound replies) es) h in (bytes e k.0, all-bytes es k.1)

-- The limits, as facts.
pub record Sound (form : Form) (listens : ℕ) (events replies : List ℕ) : Type 0 where
  pub at-most : leb (length events / event_size form) 512 ≡ true
  pub in_order : rising 0 (entries form events) ≡ true
  pub each : every (sound replies) (entries form events) ≡ true
  pub rising' : Rising 0 (map (event_of listens replies) (entries form events))
  pub of-bytes : Every OfBytes (map (event_of listens replies) (entries form events))

pub limits : (form : Form) (listens : ℕ) (events replies : List ℕ) → within_limits form events replies ≡ true → Sound form listens events replies
unfolding within_limits
limits form listens events replies h =
    let es = entries form events in
    let k =
    both (eqb (length events % event_size form) 0 && leb (length events / event_size form) 512 && rising 0 es) (every (sound replies) es) h
    in
    let r = both (eqb (length events % event_size form) 0 && leb (length events / event_size form) 512) (rising 0 es) k.0 in
    let q = both (eqb (length events % event_size form) 0) (leb (length events / event_size form) 512) r.0 in
    record { at-most = q.1; in_order = r.1; each = k.1; rising' = rises listens replies 0 es r.1; of-bytes = all-bytes listens replies es k.1 }

pub every-mid : {A : Type 0} (P : A → Type 0) (before : List A) (x : A) (rest : List A) → Every P (before ++ (x ∷ rest)) → P x
every-mid P [] x rest h = h.0
every-mid P (y ∷ before) x rest h = every-mid P before x rest h.1
