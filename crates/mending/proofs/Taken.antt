-- What a log that `udslog` takes is, as facts; and that there is nothing in it to be mended.
use Prim.Native.Nat.{ℕ, ◌+◌, ◌*◌, ◌/◌, ◌≤◌}
use native.Mathlib.Omega.{arith}
use mathlib.Core.Bool.{Bool, true, false, ◌&&◌, ◌||◌}
use mathlib.Core.List.{List, [], ◌∷◌}
use mathlib.Core.Path.{◌≡◌, refl, sym, ◌∙◌, ap}
use lib.Dec.{leb, eqb}
use lib.ListN.{length, take}
use lib.Seq.{take_all}
use borrow.Author.Tests.{leb-true, eqb-true, eq-eqb}
use Rattle.rules.specs.Bytes.{every, is_byte}
use Rattle.rules.specs.Events.{event_size, entries}
use Rattle.rules.specs.Logs.{Header, moved, header_size, form_in, header_of, flag, uses_of, all, fields_ok, areas_ok, event_ok, event_bytes, reply_bytes, laid_out, layout_ok, setting_of, call_of, lent_of, answer_of, area}
use Rattle.rules.specs.Refusals.{arguments}
use Rattle.rules.proofs.Demand3.{Accepted, accepted}
use Rattle.rules.proofs.Judging.{both, trues, trues-back, pass-append}
use Rattle.rules.proofs.Laying.{entries-length}
use Rattle.rules.proofs.Limits.{Sound, limits}
use Rattle.rules.proofs.Opened.{byte_at}
use Rattle.rules.proofs.Writing.{writing}
use Rattle.mending.specs.Mend.{events_in, left_in, kept, headed}
use Rattle.mending.specs.Promises.{Taken, entries_of}
use Rattle.mending.proofs.Runs.{run-all, whole-exact}
use Rattle.mending.proofs.Whole.{Whole}
use Rattle.mending.proofs.Written.{length-area}

-- The layout, as facts.
pub record Laid (h : Header) (l : List ℕ) : Type 0 where
  pub head : headed h l ≡ true
  pub arguments_at : h.arguments_at ≡ header_size (form_in h)
  pub events_at : h.events_at ≡ header_size (form_in h) + h.arguments
  pub replies_at : h.replies_at ≡ header_size (form_in h) + h.arguments + h.events * event_size (form_in h)
  pub total : h.total ≡ header_size (form_in h) + h.arguments + h.events * event_size (form_in h) + h.replies
  pub full : h.total ≡ length l
  pub events : every event_ok (entries (form_in h) (event_bytes h l)) ≡ true
  pub fields : fields_ok h (uses_of h.call) ≡ true

pub laid : (l : List ℕ) → layout_ok l ≡ true → Laid (header_of l) l
unfolding layout_ok
laid l ok =
    let h = header_of l in
    let long = leb (header_size (form_in h)) (length l) in
    let version = eqb h.version 1 || eqb h.version 2 in
    let first = both (laid_out h l) (fields_ok h (uses_of h.call)) ok in
    let t = trues (long ∷ version ∷ leb h.call 15 ∷ areas_ok h (length l) ∷ every event_ok (entries (form_in h) (event_bytes h l)) ∷ []) first.0 in
    let a =
    trues
    (eqb h.arguments_at (header_size (form_in h)) ∷
    eqb h.events_at (header_size (form_in h) + h.arguments) ∷
    eqb h.replies_at (h.events_at + h.events * event_size (form_in h)) ∷
    eqb h.total (h.replies_at + h.replies) ∷
    eqb h.total (length l) ∷ [])
    t.1.1.1.0
    in
    let events : h.events_at ≡ header_size (form_in h) + h.arguments = eqb-true _ _ a.1.0 in
    let replies : h.replies_at ≡ h.events_at + h.events * event_size (form_in h) = eqb-true _ _ a.1.1.0 in
    let total : h.total ≡ h.replies_at + h.replies = eqb-true _ _ a.1.1.1.0 in
    record {
      head = trues-back (long ∷ version ∷ leb h.call 15 ∷ []) (t.0, (t.1.0, (t.1.1.0, tt)));
      arguments_at = eqb-true _ _ a.0;
      events_at = events;
      replies_at = omega arith;
      total = omega arith;
      full = eqb-true _ _ a.1.1.1.1.0;
      events = t.1.1.1.1.0;
      fields = first.1;
    }

-- The total is a number of two bytes.
pub short : (l : List ℕ) → every is_byte l ≡ true → Laid (header_of l) l → length l ≤ 65535
short l bytes k =
    let i = 22 + moved (form_in (header_of l)) in
    omega (arith, k.full, byte_at l bytes i, byte_at l bytes (i + 1))

module _ (h : Header) (l : List ℕ) (k : Laid h l) where
  pub events-there : events_in h l ≡ event_bytes h l
  events-there = ap (λ (i : ℕ). area l i (h.events * event_size (form_in h))) (sym k.events_at)

  pub left_there : left_in h l ≡ reply_bytes h l
  left_there = ap (λ (i : ℕ). area l i h.replies) (sym k.replies_at)

  pub length-events : length (event_bytes h l) ≡ h.events * event_size (form_in h)
  length-events = omega (arith, length-area l h.events_at (h.events * event_size (form_in h)), k.events_at, k.total, k.full)

-- The answer of a log that is not refused passed all tests.
pub accepts : (l : List ℕ) → Taken l → let h = header_of l in Accepted (eqb (flag 1 h) 1) (setting_of h) (call_of h l) (lent_of h l)
unfolding answer_of
accepts l t = let h = header_of l in accepted (eqb (flag 1 h) 1) (setting_of h) (call_of h l) (lent_of h l) t.answered

module _ (l : List ℕ) (t : Taken l) where
  abbrev h : Header
  h = header_of l

  pub in-limits : Sound (form_in h) h.listens (event_bytes h l) (reply_bytes h l)
  in-limits = limits (form_in h) h.listens (event_bytes h l) (reply_bytes h l) (pass-append (arguments (call_of h l)) _ (accepts l t).pass).1.1.1.0

  all-kept : kept h l ≡ h.events
  all-kept =
      let k = laid l t.sound in
      let s = in-limits in
      let bs = event_bytes h l in
      let count : length bs / event_size (form_in h) ≡ h.events = whole-exact (form_in h) h.events (length bs) (length-events h l k) in
      let n = entries-length (form_in h) bs (length bs / event_size (form_in h)) 0 in
      let most = leb-true (length bs / event_size (form_in h)) 512 s.at-most in
      let few : take 512 (entries_of l) ≡ entries_of l = take_all 512 (entries_of l) (omega arith) in
      rw (events-there h l k, left_there h l k, few) (run-all 0 (reply_bytes h l) (entries_of l) s.in_order s.each ∙ n ∙ count)

  pub taken-whole : Whole h l
  taken-whole =
      let k = laid l t.sound in
      record {
        short = short l t.bytes k;
        head = k.head;
        front = writing.header-written l t.bytes (leb-true (header_size (form_in h)) (length l) (both (leb (header_size (form_in h)) (length l)) _ k.head).0);
        arguments = k.arguments_at;
        events = k.events_at;
        replies = k.replies_at;
        total = k.total;
        full = k.full;
        all = all-kept;
      }

-- A whole log is bad only for what mending leaves alone.
pub whole-layout : (l : List ℕ) → Whole (header_of l) l → let h = header_of l in layout_ok l ≡ (every event_ok (entries_of l) && fields_ok h (uses_of h.call))
unfolding layout_ok
whole-layout l w =
    let h = header_of l in
    let z = trues (leb (header_size (form_in h)) (length l) ∷ (eqb h.version 1 || eqb h.version 2) ∷ leb h.call 15 ∷ []) w.head in
    let replies : h.replies_at ≡ h.events_at + h.events * event_size (form_in h) = omega (arith, w.replies, w.events) in
    let total : h.total ≡ h.replies_at + h.replies = omega (arith, w.total, w.replies) in
    let placed =
    trues-back
    (eqb h.arguments_at (header_size (form_in h)) ∷
    eqb h.events_at (header_size (form_in h) + h.arguments) ∷
    eqb h.replies_at (h.events_at + h.events * event_size (form_in h)) ∷
    eqb h.total (h.replies_at + h.replies) ∷
    eqb h.total (length l) ∷ [])
    (eq-eqb _ _ w.arguments, (eq-eqb _ _ w.events, (eq-eqb _ _ replies, (eq-eqb _ _ total, (eq-eqb _ _ w.full, tt)))))
    in
    only _ _ _ (areas_ok h (length l)) (every event_ok (entries_of l)) (fields_ok h (uses_of h.call)) z.0 z.1.0 z.1.1.0 placed
  where
    last : (e f : Bool) → ((e && true) && f) ≡ (e && f)
    last true f = refl
    last false f = refl

    only : (a b c d e f : Bool) → a ≡ true → b ≡ true → c ≡ true → d ≡ true → (all (a ∷ b ∷ c ∷ d ∷ e ∷ []) && f) ≡ (e && f)
    only a b c d e f p q r s = rw (p, q, r, s) (last e f)
