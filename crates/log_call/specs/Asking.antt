-- What a header asks, with address, size and data beside it.
use Rattle.std.specs.Prelude as code
use Rattle.std.specs.Prelude.{Some, None}
use Rattle.std.specs.Prelude.{ℕ, List, ◌≡◌, true, false, eqb, get_or}
use Rattle.rules.specs.Calls.{Call, Field, tester_present}
use Rattle.rules.specs.Logs as rules
use Rattle.rules.specs.Logs.{Header, form_in, header_of, flag, uses_of, fields_ok, laid_out, layout_ok, some?, choices}
use Rattle.requests.specs.Meaning.{call_from}
use Rattle.calls.specs.Meaning.{setting_of}
use Rattle.exchange.specs.Meaning.{form_of}
use Rattle.exchange.specs.declared.types.Timing.{Timing}
use Rattle.calls.specs.declared.Ask.{Ask}
use Rattle.logs.specs.Layout.{said}
use Rattle.logs.specs.declared.header.Header as written

-- The call: `call_of` of `rules`, which reads address, size and data from the log.
abbrev pub chosen : Header → Field → Field → List ℕ → Call
chosen h a s d =
    get_or (choices h.value h.sub (some? (eqb (flag 16 h) 1) h.sub) a s (some? (eqb (flag 32 h) 1) d)) h.call tester_present

abbrev pub session_of : Header → Timing
session_of h = record { p2 = h.p2; star = h.star }

-- What sound fields ask: how the call is made, over which channel, and the call with any address, size and data.
pub record Asks (h : Header) (r : Ask) : Type 0 where
  pub strict : r.strict ≡ eqb (flag 1 h) 1
  pub setting : setting_of r (session_of h) ≡ rules.setting_of h
  pub form : form_of r.channel.form ≡ form_in h
  pub listens : r.channel.listens ≡ h.listens
  pub call : (a s : Field) (d : List ℕ) → call_from r.call a s d ≡ chosen h a s d

-- The fields suit their call, and this is asked; or they do not.
abbrev pub AskedBy : Header → code.Option Ask → Type 0
AskedBy h (Some r) = (fields_ok h (uses_of h.call) ≡ true) × Asks h r
AskedBy h None = fields_ok h (uses_of h.call) ≡ false

-- The log's header, where all of its layout is sound but for what its call uses of the fields; or it is "any other layout".
abbrev pub LaidIn : List ℕ → code.Option written.Header → Type 0
LaidIn l (Some h) = (laid_out (header_of l) l ≡ true) × (said h ≡ header_of l)
LaidIn l None = laid_out (header_of l) l ≡ false

-- The log's layout is sound, and its header asks this; or it is "any other layout".
abbrev pub RecordedIn : List ℕ → code.Option (written.Header × Ask) → Type 0
RecordedIn l (Some (h, r)) = (layout_ok l ≡ true) × (said h ≡ header_of l) × Asks (said h) r
RecordedIn l None = layout_ok l ≡ false
