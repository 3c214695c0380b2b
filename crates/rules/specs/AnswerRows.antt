-- Rows for what an answer carries besides document 01's values: the reply that settled it, and where in the lent reply bytes it stands;
-- and what is asked of every outcome.
use Rattle.std.specs.Prelude.{ℕ, Bool, true, false, ◌≡◌, List, [], ◌∷◌, map, replicate}
use Rattle.std.proofs.Math.Option.{none, some}
use Rattle.rules.specs.After.{adopted}
use Rattle.rules.specs.Answers.{Part, part, deviation, deviation8, overflow, Outcome, positive, suppressed, negative, timeout, disconnected, transport, fault, refused, if_positive}
use Rattle.rules.specs.Calls.{Call, request, reset, security, read_identifier, upload, given}
use Rattle.rules.specs.Client.{asked, events_in, call}
use Rattle.rules.specs.Examples.{Said, says, idles, closes, breaks, lent, setting, usual, gives, Example, row, one, load}
use Rattle.rules.specs.Exchange.{waits, exchange}
use Rattle.rules.specs.Pins.{Hold}
use Rattle.rules.specs.Settings.{Timing, Setting}

-- A call, what is said to it, and the reply that settles it.
pub record ReplyRow : Type 0 where
  pub strict : Bool
  pub setting : Setting
  pub call : Call
  pub said : List Said
  pub reply : Part

abbrev pub settled_by : Bool → Setting → Call → List Said → Part → ReplyRow
settled_by strict w c ss p = record { strict = strict; setting = w; call = c; said = ss; reply = p }

abbrev pub notice : ℕ → Said
notice t = says t (0x7f ∷ 0x22 ∷ 0x78 ∷ [])

-- A positive, a negative, a deviation of the exchange and one behind the positive, an overflow: the whole reply, at its place. Everything
-- else: no bytes, at 0.
unfoldable pub reply_rows : List ReplyRow
reply_rows =
    settled_by true usual (read_identifier 0xf190) (notice 5 ∷ says 10 (0x62 ∷ 0xf1 ∷ 0x90 ∷ 0x41 ∷ []) ∷ []) (part 3 (0x62 ∷ 0xf1 ∷ 0x90 ∷ 0x41 ∷ [])) ∷
    settled_by false usual (read_identifier 0xf190) (notice 5 ∷ says 10 (0x7f ∷ 0x22 ∷ 0x31 ∷ []) ∷ []) (part 3 (0x7f ∷ 0x22 ∷ 0x31 ∷ [])) ∷
    settled_by true usual (read_identifier 0xf190) (notice 5 ∷ says 10 (0x63 ∷ 0xaa ∷ []) ∷ []) (part 3 (0x63 ∷ 0xaa ∷ [])) ∷
    settled_by true usual (read_identifier 0xf190) (notice 5 ∷ says 10 (0x62 ∷ 0xf1 ∷ []) ∷ []) (part 3 (0x62 ∷ 0xf1 ∷ [])) ∷
    settled_by true usual (read_identifier 0xf190) (notice 5 ∷ says 10 [] ∷ []) (part 3 []) ∷
    settled_by true usual load (says 10 (0x74 ∷ 0x90 ∷ 0x01 ∷ replicate 8 0) ∷ []) (part 0 (0x74 ∷ 0x90 ∷ 0x01 ∷ replicate 8 0)) ∷
    settled_by true usual (read_identifier 0xf190) (notice 5 ∷ []) (part 0 []) ∷
    settled_by true usual (read_identifier 0xf190) (notice 5 ∷ closes 10 ∷ []) (part 0 []) ∷
    settled_by true usual (read_identifier 0xf190) (notice 5 ∷ breaks 10 7 ∷ []) (part 0 []) ∷
    settled_by true (setting none true) (reset 0x01) (idles 5 ∷ []) (part 0 []) ∷
    settled_by true (setting (some 9) false) (read_identifier 0xf190) (notice 5 ∷ says 10 (0x62 ∷ 0xf1 ∷ 0x90 ∷ 0x41 ∷ []) ∷ []) (part 0 []) ∷
    settled_by true usual (read_identifier 0xf190) (idles 10 ∷ says 9 (0x62 ∷ []) ∷ []) (part 0 []) ∷ []

abbrev pub reply_of : ReplyRow → Part
reply_of r = (call r.strict r.setting r.call (lent r.said)).answer.reply

abbrev pub load_up : Call
load_up = upload 0 0 (given (0x20 ∷ 0x00 ∷ [])) (given (0x10 ∷ 0x00 ∷ []))

-- Call 12 as call 11: its bytes, "also return the value as a number", and each check.
unfoldable pub uploads : List Example
uploads =
    one true load_up (0x75 ∷ 0x20 ∷ 0x0f ∷ 0xfa ∷ []) (gives (positive (part 2 (0x0f ∷ 0xfa ∷ []))) 10 1 0 4090) ∷
    one true load_up (0x75 ∷ 0x10 ∷ 0x03 ∷ []) (gives (positive (part 2 (0x03 ∷ []))) 10 1 0 3) ∷
    one true load_up (0x75 ∷ 0x11 ∷ 0x03 ∷ []) (gives (fault (deviation 10)) 10 1 0 0) ∷
    one true load_up (0x75 ∷ 0x00 ∷ []) (gives (fault (deviation 9)) 10 1 0 0) ∷
    one true load_up (0x75 ∷ 0x10 ∷ 0x02 ∷ []) (gives (fault (deviation 11)) 10 1 0 0) ∷
    one true load_up (0x75 ∷ 0x90 ∷ 0x01 ∷ replicate 8 0) (gives (fault overflow) 10 1 0 0) ∷
    one true load_up (0x74 ∷ 0x20 ∷ 0x0f ∷ 0xfa ∷ []) (gives (fault (deviation 1)) 10 1 0 0) ∷
    one false load_up (0x75 ∷ 0x21 ∷ 0x00 ∷ 0x02 ∷ 0x05 ∷ []) (gives (positive (part 2 (0x00 ∷ 0x02 ∷ []))) 10 1 0 2) ∷
    one false load_up (0x75 ∷ 0x00 ∷ 0x05 ∷ []) (gives (positive (part 2 [])) 10 1 0 0) ∷
    one false load_up (0x75 ∷ 0x90 ∷ 0x01 ∷ replicate 8 0) (gives (fault overflow) 10 1 0 0) ∷ []

-- "s is the sub-function with bit 7 cleared": call 2 has its byte "exactly if s = 4", call 3 a seed if it is odd.
unfoldable pub cleared : List Example
cleared =
    row true usual (reset 0x84) (says 5 (0x7f ∷ 0x11 ∷ 0x78 ∷ []) ∷ says 10 (0x51 ∷ 0x04 ∷ 0x0f ∷ []) ∷ []) (gives (positive (part 5 (0x0f ∷ []))) 50 2 1 0) ∷
    row true usual (reset 0x84) (says 5 (0x7f ∷ 0x11 ∷ 0x78 ∷ []) ∷ says 10 (0x51 ∷ 0x04 ∷ []) ∷ []) (gives (fault (deviation8 3 (some 3))) 50 2 1 0) ∷
    row true usual (security 0x81 none) (says 5 (0x7f ∷ 0x27 ∷ 0x78 ∷ []) ∷ says 10 (0x67 ∷ 0x01 ∷ 0xab ∷ []) ∷ []) (gives (positive (part 5 (0xab ∷ []))) 50 2 1 0) ∷
    row true usual (security 0x82 (some [])) (says 5 (0x7f ∷ 0x27 ∷ 0x78 ∷ []) ∷ says 10 (0x67 ∷ 0x02 ∷ []) ∷ []) (gives (positive (part 5 [])) 50 2 1 0) ∷ []

-- Call 0 is no other call, whatever its SID: it checks nothing more, sets no timing and has no number.
unfoldable pub requested : List Example
requested =
    one true (request 0x10 (some 0x03) none) (0x50 ∷ 0x03 ∷ 0x00 ∷ 0x19 ∷ 0x01 ∷ 0xf5 ∷ [])
    (gives (positive (part 2 (0x00 ∷ 0x19 ∷ 0x01 ∷ 0xf5 ∷ []))) 10 1 0 0) ∷
    one true (request 0x10 (some 0x03) none) (0x50 ∷ 0x03 ∷ []) (gives (positive (part 2 [])) 10 1 0 0) ∷
    one true (request 0x34 none (some (0x00 ∷ []))) (0x74 ∷ 0x20 ∷ 0x0f ∷ 0xfa ∷ []) (gives (positive (part 1 (0x20 ∷ 0x0f ∷ 0xfa ∷ []))) 10 1 0 0) ∷
    one true (request 0x22 none (some (0xf1 ∷ 0x90 ∷ []))) (0x62 ∷ []) (gives (positive (part 1 [])) 10 1 0 0) ∷
    one true (request 0x2f (some 0x03) none) (0x6f ∷ []) (gives (fault (deviation8 2 none)) 10 1 0 0) ∷
    one true (request 0x2f (some 0x03) none) (0x6f ∷ 0x04 ∷ []) (gives (fault (deviation 3)) 10 1 0 0) ∷
    one true (request 0x2f (some 0x83) none) (0x6f ∷ 0x03 ∷ []) (gives (fault (deviation 4)) 10 1 0 0) ∷
    one false (request 0x2f (some 0x83) none) (0x6f ∷ 0x04 ∷ 0xaa ∷ []) (gives (positive (part 2 (0xaa ∷ []))) 50 1 0 0) ∷
    -- With SID 3F or 7F a positive would begin with 7F, and is read as a negative.
    one true (request 0x3f none none) (0x7f ∷ 0x3f ∷ 0x11 ∷ []) (gives (negative 0x11) 10 1 0 0) ∷
    -- "SID OR 40", not plus.
    one true (request 0x50 none none) (0x50 ∷ 0xaa ∷ []) (gives (positive (part 1 (0xaa ∷ []))) 10 1 0 0) ∷ []

-- Every outcome: whether it is positive, and whether it "waits until P2" under suppression.
abbrev pub outcomes : List Outcome
outcomes =
    positive (part 2 (0x41 ∷ [])) ∷
    negative 0x31 ∷
    suppressed ∷
    timeout ∷
    disconnected ∷
    transport 7 ∷
    fault overflow ∷
    refused 10 ∷ []

-- The exchange alone, before the checks of a call: a positive is all behind SID and sub-function.
abbrev pub exchanged : Call → List Said → Outcome
exchanged c ss = (exchange true (asked usual c) none (events_in (lent ss))).outcome

abbrev pub AnswerRows : Type 0
AnswerRows =
    (map reply_of reply_rows ≡ map (λ r. r.reply) reply_rows) ×
    Hold uploads ×
    Hold requested ×
    Hold cleared ×
    (exchanged (reset 0x01) (says 10 (0x51 ∷ 0x01 ∷ 0xaa ∷ []) ∷ []) ≡ positive (part 2 (0xaa ∷ []))) ×
    (exchanged (read_identifier 0xf190) (says 10 (0x62 ∷ 0xf1 ∷ []) ∷ []) ≡ positive (part 1 (0xf1 ∷ []))) ×
    (map (λ o. if_positive o (λ p. some p) none) outcomes ≡ some (part 2 (0x41 ∷ [])) ∷ none ∷ none ∷ none ∷ none ∷ none ∷ none ∷ none ∷ []) ×
    ((old : Timing) → adopted (0x00 ∷ 0x19 ∷ 0x01 ∷ 0xf4 ∷ 0x00 ∷ []) old ≡ old) ×
    (map waits outcomes ≡ true ∷ true ∷ false ∷ false ∷ false ∷ false ∷ false ∷ false ∷ [])
