-- One reply as an event list that is lent: it says the reply at time 0, and is within the limits.
use Prim.Native.Nat.{ℕ, ◌+◌, ◌%◌, ◌/◌, ◌≤◌}
use native.Mathlib.Omega.{arith}
use mathlib.Core.Bool.{Bool, true, false, cond, not, ◌&&◌}
use mathlib.Core.Path.{◌≡◌, refl, sym, ◌∙◌, ap}
use mathlib.Core.List.{List, [], ◌∷◌, ◌++◌, append-nil, map}
use lib.Dec.{leb, eqb}
use lib.ListN.{length, take}
use lib.Seq.{take-length}
use borrow.Author.Tests.{le-leb, eq-eqb}
use Rattle.rules.specs.Answers.{part}
use Rattle.rules.specs.Bytes.{every, is_byte}
use Rattle.rules.specs.Client.{events_in}
use Rattle.rules.specs.Events.{Form, plain, addressed, event_size, Entry, entries_from, entries, Event, reply, event_of, sound, rising, within_limits}
use Rattle.rules.specs.Writing.{put_entry, Sayable}
use Rattle.rules.proofs.Writing.{writing}
use Rattle.bench.specs.Promise.{at_once, lent_by}
use Rattle.bench.specs.Responder.{Response, replied, silent, refused}

module _ (form : Form) (listens : ℕ) (r : List ℕ) where
  abbrev event : Entry
  event = record { time = 0; kind = 0; offset = 0; size = length r; source = listens }

  module _ (says : Sayable form 0 listens) where
    one_entry : entries form (put_entry form event) ≡ event ∷ []
    one_entry =
        ap (λ (l : List ℕ). entries form l) (sym (append-nil (put_entry form event))) ∙ writing.entries-read form (event ∷ []) (says, tt)

    heard-reply : event_of listens r event ≡ reply 0 (part 0 r)
    heard-reply = rw (eq-eqb listens listens refl) (ap (λ (l : List ℕ). reply 0 (part 0 l)) (take-length r))

    one-event : map (event_of listens r) (entries form (put_entry form event)) ≡ reply 0 (part 0 r) ∷ []
    one-event = ap (λ (es : List Entry). map (event_of listens r) es) one_entry ∙ ap (λ (e : Event). e ∷ []) heard-reply

    sound-entry : length r ≤ 4095 → every is_byte r ≡ true → sound r event ≡ true
    sound-entry h k =
        let inside : 0 + length r ≤ length r = omega arith in
        rw (le-leb (length r) 4095 h, le-leb (0 + length r) (length r) inside, take-length r, k) refl

    whole : (form : Form) (n : ℕ) → n ≡ event_size form → (eqb (n % event_size form) 0 && leb (n / event_size form) 512) ≡ true
    whole plain n e = rw e refl
    whole addressed n e = rw e refl

    reply-within : length r ≤ 4095 → every is_byte r ≡ true → within_limits form (put_entry form event) r ≡ true
    unfolding within_limits
    reply-within h k =
        rw (whole form (length (put_entry form event)) (writing.entry-long form event), one_entry) (rw (sound-entry h k) refl)

-- A response as it may be said: of bytes, and no longer than 4,095.
abbrev pub Good : List ℕ → Type 0
Good r = (length r ≤ 4095) × (every is_byte r ≡ true)

abbrev pub Sayings : Response → Type 0
Sayings (replied r) = Good r
Sayings silent = Unit {0}
Sayings (refused n) = Unit {0}

none_within : (form : Form) → within_limits form [] [] ≡ true
unfolding within_limits entries_from
none_within plain = refl
none_within addressed = refl

none-heard : (form : Form) (listens : ℕ) → map (event_of listens []) (entries form []) ≡ []
unfolding entries_from
none-heard plain listens = refl
none-heard addressed listens = refl

module _ (buffer : List ℕ) (form : Form) (listens : ℕ) (says : Sayable form 0 listens) where
  pub lent-heard : (x : Response) → events_in (lent_by x buffer form listens) ≡ at_once x
  lent-heard (replied r) = one-event form listens r says
  lent-heard silent = none-heard form listens
  lent-heard (refused n) = none-heard form listens

  pub lent-within : (x : Response) → Sayings x → within_limits form (lent_by x buffer form listens).events (lent_by x buffer form listens).replies ≡ true
  lent-within (replied r) h = reply-within form listens r says h.0 h.1
  lent-within silent h = none_within form
  lent-within (refused n) h = none_within form
