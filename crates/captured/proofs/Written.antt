-- What stands where in the log of a capture, and what `udslog` finds in it.
use Prim.Native.Nat.{ℕ, ◌+◌, ◌*◌, ◌/◌, ◌%◌}
use native.Mathlib.Nat.{suc-mul, zero-mul}
use native.Mathlib.Omega.{arith}
use mathlib.Core.Bool.{Bool, true, false, cond, ◌&&◌, ◌||◌, false≢true}
use mathlib.Core.List.{List, [], ◌∷◌, ◌++◌, map}
use mathlib.Core.Path.{◌≡◌, refl, sym, ◌∙◌, ap, subst, subst⁻¹}
use lib.Dec.{leb, eqb}
use lib.ListN.{length, take, drop, length-append}
use lib.Seq.{take_at, drop_at, drop-drop, take-length}
use borrow.Author.Tests.{le-leb, leb-true, eq-eqb}
use Rattle.rules.specs.Bytes.{every, is_byte}
use Rattle.rules.specs.Conversations.{Every}
use Rattle.rules.specs.Events.{Form, plain, addressed, event_size, Entry, entries, sound, rising, within_limits}
use Rattle.rules.specs.Logs.{Header, header_size, form_in, header_of, flag, uses_of, most_listens, fields_ok, areas_ok, event_ok, argument_bytes, event_bytes, reply_bytes, laid_out, layout_ok}
use Rattle.rules.specs.Writing.{Sayable, put_header, put_entry, put_entries}
use Rattle.rules.proofs.Judging.{both, trues, trues-back}
use Rattle.rules.proofs.Writing.{writing}
use Rattle.mending.specs.Mend.{corrected}
use Rattle.mending.proofs.Runs.{whole-exact, whole-rest}
use Rattle.mending.proofs.Taken.{Laid, laid}
use Rattle.mending.proofs.Written.{length-area, sayable}
use Rattle.importing.specs.Import.{Item, request, reply, dropped, count}
use Rattle.importing.specs.Kept.{entry}
use Rattle.importing.specs.Promises.{entries_from, replies_of}
use Rattle.importing.proofs.Passes.{passes, no_source, long}
use Rattle.captured.specs.Capture.{is_call, from, log_of, Captured, log, too_long, no_call, capture}
use Rattle.captured.specs.Promises.{Finds, Holds}
use Rattle.captured.proofs.NotTen.{not-ten}

-- Events in a form, all from one address.
module _ (form : Form) (source : ℕ) where
  pub put-long : (es : List Entry) → length (put_entries form (map (from source) es)) ≡ length es * event_size form
  put-long [] = sym (zero-mul (event_size form))
  put-long (e ∷ es) =
      omega (
        arith,
        length-append (put_entry form (from source e)) (put_entries form (map (from source) es)),
        writing.entry-long form (from source e),
        put-long es,
        suc-mul (length es) (event_size form),
      )

  all_say : Sayable form 0 source → (es : List Entry) → Every (λ e. Sayable form 0 e.source) (map (from source) es)
  all_say s [] = tt
  all_say s (e ∷ es) = (s, all_say s es)

  same-times : (t : ℕ) (es : List Entry) → rising t (map (from source) es) ≡ rising t es
  same-times t [] = refl
  same-times t (e ∷ es) = ap (λ (b : Bool). leb t e.time && b) (same-times e.time es)

  -- The events of a text are replies: no field of theirs is unused, and their address is not looked at.
  pub replies-ok : (at : ℕ) (is : List Item) → every event_ok (map (from source) (entries_from at is)) ≡ true
  replies-ok at [] = refl
  replies-ok at (request n m ∷ is) = replies-ok at is
  replies-ok at (dropped n ∷ is) = replies-ok at is
  replies-ok at (reply t m ∷ is) = replies-ok (at + length m) is

  as_many : (at : ℕ) (is : List Item) → length (entries_from at is) ≡ count is
  as_many at [] = refl
  as_many at (request n m ∷ is) = as_many at is
  as_many at (dropped n ∷ is) = as_many at is
  as_many at (reply t m ∷ is) = omega (arith, as_many (at + length m) is)

  same-sound : (rs : List ℕ) (at : ℕ) (is : List Item) → every (sound rs) (map (from source) (entries_from at is)) ≡ every (sound rs) (entries_from at is)
  same-sound rs at [] = refl
  same-sound rs at (request n m ∷ is) = same-sound rs at is
  same-sound rs at (dropped n ∷ is) = same-sound rs at is
  same-sound rs at (reply t m ∷ is) = ap (λ (b : Bool). sound rs (entry t at (length m)) && b) (same-sound rs (at + length m) is)

  -- What passes refusal 10 in version 1 passes it in this form.
  in-form : Sayable form 0 source → (rs : List ℕ) (is : List Item) → let es = entries_from 0 is in
      within_limits plain (put_entries plain es) rs ≡ true → within_limits form (put_entries form (map (from source) es)) rs ≡ true
  unfolding within_limits
  in-form s rs is w =
      let es = entries_from 0 is in
      let back = writing.entries-read plain es (no_source 0 is) in
      let ten : length (put_entries plain es) ≡ count is * 10 = long 0 is in
      let n = length (put_entries form (map (from source) es)) in
      let first = both (eqb (length (put_entries plain es) % 10) 0 && leb (length (put_entries plain es) / 10) 512 && rising 0 (entries plain (put_entries plain es))) _ w in
      let second = both (eqb (length (put_entries plain es) % 10) 0 && leb (length (put_entries plain es) / 10) 512) _ first.0 in
      let few = leb-true (length (put_entries plain es) / 10) 512 (both (eqb (length (put_entries plain es) % 10) 0) _ second.0).1 in
      let count = whole-exact form (length es) n (put-long es) in
      let rest = whole-rest form (length es) n (put-long es) in
      rw (
        eq-eqb (n % event_size form) 0 rest,
        le-leb (n / event_size form) 512 (omega (arith, as_many 0 is)),
        writing.entries-read form (map (from source) es) (all_say s es),
        same-times 0 es,
        same-sound rs 0 is,
        ap (rising 0) (sym back) ∙ second.1,
      )
      (ap (every (sound rs)) (sym back) ∙ first.1)

-- Version 1 says no address.
says : (form : Form) (n : ℕ) → leb n (most_listens form) ≡ true → Sayable form 0 n
says plain n h = leb-true n 0 h
says addressed n h = tt

module _ (call : List ℕ) (es : List Entry) (rs : List ℕ) (ok : is_call call ≡ true) where
  abbrev h : Header
  h = header_of call

  abbrev size : ℕ
  size = event_size (form_in h)

  abbrev new : Header
  new = corrected h (length es) (length rs)

  abbrev events : List ℕ
  events = put_entries (form_in h) (map (from h.listens) es)

  pub of-call : Laid h call
  of-call = laid call (both (layout_ok call) _ ok).0

  pub length-arguments : length (argument_bytes h call) ≡ h.arguments
  length-arguments =
      let k = of-call in
      omega (arith, length-area call h.arguments_at h.arguments, k.arguments_at, k.total, k.full)

  pub length-log : length (log_of call es rs) ≡ header_size (form_in h) + h.arguments + length es * size + length rs
  length-log =
      omega (
        arith,
        length-append (put_header new) (argument_bytes h call ++ (events ++ rs)),
        writing.header-long new,
        length-append (argument_bytes h call) (events ++ rs),
        length-append events rs,
        length-arguments,
        put-long (form_in h) h.listens es,
      )

  behind-header : drop (header_size (form_in h)) (log_of call es rs) ≡ argument_bytes h call ++ (events ++ rs)
  behind-header = drop_at (put_header new) (argument_bytes h call ++ (events ++ rs)) (header_size (form_in h)) (writing.header-long new)

  behind-arguments : drop (header_size (form_in h) + h.arguments) (log_of call es rs) ≡ events ++ rs
  behind-arguments =
      sym (drop-drop h.arguments (header_size (form_in h)) (log_of call es rs)) ∙
      ap (drop h.arguments) behind-header ∙
      drop_at (argument_bytes h call) (events ++ rs) h.arguments length-arguments

  arguments-there : argument_bytes new (log_of call es rs) ≡ argument_bytes h call
  arguments-there = ap (take h.arguments) behind-header ∙ take_at (argument_bytes h call) (events ++ rs) h.arguments length-arguments

  events-there : event_bytes new (log_of call es rs) ≡ events
  events-there = ap (take (length es * size)) behind-arguments ∙ take_at events rs (length es * size) (put-long (form_in h) h.listens es)

  replies-there : reply_bytes new (log_of call es rs) ≡ rs
  replies-there =
      ap (take (length rs))
      (sym (drop-drop (length es * size) (header_size (form_in h) + h.arguments) (log_of call es rs)) ∙
      ap (drop (length es * size)) behind-arguments ∙
      drop_at events rs (length es * size) (put-long (form_in h) h.listens es)) ∙
      take-length rs

  says-address : Sayable (form_in h) 0 h.listens
  says-address =
      let u = uses_of h.call in
      let t =
      trues
      (leb (h.flags / 32) u.may ∷
      leb u.must (h.flags / 32) ∷
      leb (flag 16 h) u.named ∷
      leb h.value u.value ∷
      leb h.sub (u.sub + flag 16 h * 255) ∷
      leb h.address_length u.lengths ∷
      leb h.size_length u.lengths ∷
      leb h.listens (most_listens (form_in h)) ∷
      leb h.overall (flag 8 h * 4294967295) ∷
      leb (h.address_length + h.size_length) h.arguments ∷
      leb h.arguments (h.address_length + h.size_length + flag 32 h * 65535) ∷ [])
      of-call.fields in
      says (form_in h) h.listens t.1.1.1.1.1.1.1.0

  entries-there : entries (form_in h) (event_bytes new (log_of call es rs)) ≡ map (from h.listens) es
  entries-there =
      ap (entries (form_in h)) events-there ∙
      writing.entries-read (form_in h) (map (from h.listens) es) (all_say (form_in h) h.listens says-address es)

  same : (n : ℕ) → eqb n n ≡ true
  same n = eq-eqb n n refl

  -- The log of a sound call is sound where its events are.
  sound-as : every event_ok (map (from h.listens) es) ≡ true → (laid_out new (log_of call es rs) && fields_ok new (uses_of new.call)) ≡ true
  sound-as e =
      let k = of-call in
      let l = log_of call es rs in
      let long = leb (header_size (form_in h)) (length l) in
      let version = eqb h.version 1 || eqb h.version 2 in
      let t = trues (leb (header_size (form_in h)) (length call) ∷ version ∷ leb h.call 15 ∷ []) k.head in
      let total = header_size (form_in h) + h.arguments + length es * size + length rs in
      let areas : areas_ok new (length l) ≡ true =
      trues-back
      (eqb (header_size (form_in h)) (header_size (form_in h)) ∷
      eqb (header_size (form_in h) + h.arguments) (header_size (form_in h) + h.arguments) ∷
      eqb (header_size (form_in h) + h.arguments + length es * size) (header_size (form_in h) + h.arguments + length es * size) ∷
      eqb total total ∷
      eqb total (length l) ∷ []) (
        same (header_size (form_in h)),
        (
          same (header_size (form_in h) + h.arguments),
          (same (header_size (form_in h) + h.arguments + length es * size), (same total, (eq-eqb total (length l) (sym length-log), tt))),
        ),
      )
      in
      let events-ok = ap (every event_ok) entries-there ∙ e in
      let laid-well =
      trues-back (long ∷ version ∷ leb h.call 15 ∷ areas_ok new (length l) ∷ every event_ok (entries (form_in h) (event_bytes new l)) ∷ [])
      (le-leb (header_size (form_in h)) (length l) (omega (arith, length-log)), (t.1.0, (t.1.1.0, (areas, (events-ok, tt))))) in
      rw laid-well k.fields

-- Where a log comes out, it is of a call.
module _ (call : List ℕ) (es : List Entry) (rs l : List ℕ) where
  abbrev is-log : Captured → Bool
  is-log (log x) = true
  is-log too_long = false
  is-log no_call = false

  abbrev bytes-of : Captured → List ℕ
  bytes-of (log x) = x
  bytes-of too_long = []
  bytes-of no_call = []

  came-out : capture call es rs ≡ log l → (is_call call ≡ true) × (log_of call es rs ≡ l)
  unfolding capture
  came-out e = go (is_call call) (leb (length (log_of call es rs)) 65535) refl e
    where
      go : (a b : Bool) → is_call call ≡ a → cond a (cond b (log (log_of call es rs)) too_long) no_call ≡ log l → (is_call call ≡ true) × (log_of call es rs ≡ l)
      go true true ea k = (ea, ap bytes-of k)
      go true false ea k = absurd (false≢true (ap is-log k))
      go false b ea k = absurd (false≢true (ap is-log k))

-- All of it, for the events of a text.
finds : (call : List ℕ) (is : List Item) → every is_byte call ≡ true → is_call call ≡ true → let es = entries_from 0 is in let rs = replies_of is in
    within_limits plain (put_entries plain es) rs ≡ true → Finds call es rs (log_of call es rs)
unfolding layout_ok
finds call is bytes ok w =
    let es = entries_from 0 is in
    let rs = replies_of is in
    let h = header_of call in
    let l = log_of call es rs in
    let read : header_of l ≡ corrected h (length es) (length rs) = writing.header_read (corrected h (length es) (length rs)) _ (sayable call bytes) in
    let in-limits =
    subst⁻¹ (λ (g : Header). within_limits (form_in g) (event_bytes g l) (reply_bytes g l) ≡ true) read
    (rw (events-there call es rs ok, replies-there call es rs ok) (in-form (form_in h) h.listens (says-address call es rs ok) rs is w)) in
    record {
      header = read;
      arguments = ap (λ (g : Header). argument_bytes g l) read ∙ arguments-there call es rs ok;
      events = ap (λ (g : Header). entries (form_in g) (event_bytes g l)) read ∙ entries-there call es rs ok;
      replies = ap (λ (g : Header). reply_bytes g l) read ∙ replies-there call es rs ok;
      sound =
          subst⁻¹ (λ (g : Header). (laid_out g l && fields_ok g (uses_of g.call)) ≡ true) read
          (sound-as call es rs ok (replies-ok (form_in h) h.listens 0 is));
      limits = in-limits;
      not-ten = not-ten l in-limits;
    }

pub holds : Holds
holds ask answer text is call l e bytes out =
    let came = came-out call (entries_from 0 is) (replies_of is) l out in
    subst (Finds call (entries_from 0 is) (replies_of is)) came.1 (finds call is bytes came.0 (passes ask answer text is e).1)
