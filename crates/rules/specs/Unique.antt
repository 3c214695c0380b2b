-- Events begin with at most one conversation; and every service has one of each ending, so that nothing above is true for want of cases.
use Rattle.std.specs.Prelude.{ℕ, ◌+◌, max, true, false, cond, ◌≡◌, List, [], ◌∷◌, ◌++◌, map, length}
use Rattle.rules.specs.After.{number_of}
use Rattle.rules.specs.Answers.{Answer, answer, part, nowhere, positive, suppressed, negative}
use Rattle.rules.specs.Calls.{Call, session, reset, security, tester_present, read_memory, write_memory, read_identifier, write_identifier, fault_count, routine, download, upload, transfer, transfer_exit, fault_list, given, sid_of, numbered}
use Rattle.rules.specs.Client.{call}
use Rattle.rules.specs.Conversations.{Closed, Silent, Conversation}
use Rattle.rules.specs.Events.{Event, reply}
use Rattle.rules.specs.Examples.{says, lent, usual, gives, told}
use Rattle.rules.specs.Positives.{Positive}
use Rattle.rules.specs.Settings.{Setting, suppressing, Within}
use Rattle.std.proofs.Math.Option.{none, some}

-- Two closed conversations over the same events stand at the same places; none is also silent; one answer fits.
pub record Unique : Type 0 where
  pub places : (w : Setting) (c : Call) (es : List Event) (x y : Answer) (f : Closed w c es x) (g : Closed w c es y)
      → (f.before ≡ g.before) × (f.times ≡ g.times) × (f.at ≡ g.at) × (f.rest ≡ g.rest)
  pub apart : (w : Setting) (c : Call) (es : List Event) (x y : Answer) → Closed w c es x → Silent w c es y → ⊥
  pub answers : (w : Setting) (c : Call) (es : List Event) (x y : Answer) → Conversation w c es x → Conversation w c es y → x ≡ y

-- A positive for each of the fifteen services.
pub record Sample : Type 0 where
  pub call : Call
  pub head : List ℕ
  pub payload : List ℕ

abbrev pub sample : Call → List ℕ → List ℕ → Sample
sample c h d = record { call = c; head = h; payload = d }

unfoldable pub samples : List Sample
samples =
    sample (session 0x03) (0x50 ∷ 0x03 ∷ []) (0x00 ∷ 0x32 ∷ 0x01 ∷ 0xf4 ∷ []) ∷
    sample (reset 0x04) (0x51 ∷ 0x04 ∷ []) (0x0f ∷ []) ∷
    sample (security 0x01 none) (0x67 ∷ 0x01 ∷ []) (0xab ∷ 0xcd ∷ []) ∷
    sample tester_present (0x7e ∷ 0x00 ∷ []) [] ∷
    sample (read_memory (given (0x20 ∷ 0x00 ∷ [])) (given (0x02 ∷ []))) (0x63 ∷ []) (0xaa ∷ 0xbb ∷ []) ∷
    sample (write_memory (given (0x20 ∷ 0x00 ∷ [])) (given (0x01 ∷ [])) (0xaa ∷ [])) (0x7d ∷ []) (0x12 ∷ 0x20 ∷ 0x00 ∷ 0x01 ∷ []) ∷
    sample (read_identifier 0xf190) (0x62 ∷ 0xf1 ∷ 0x90 ∷ []) (0x41 ∷ 0x42 ∷ []) ∷
    sample (write_identifier 0xf190 (0x41 ∷ [])) (0x6e ∷ 0xf1 ∷ 0x90 ∷ []) [] ∷
    sample (fault_count 0xff) (0x59 ∷ 0x01 ∷ []) (0xff ∷ 0x01 ∷ 0x00 ∷ 0x03 ∷ []) ∷
    sample (routine 0x01 0xff00 none) (0x71 ∷ 0x01 ∷ 0xff ∷ 0x00 ∷ []) [] ∷
    sample (download 0 0 (given (0x20 ∷ 0x00 ∷ [])) (given (0x10 ∷ 0x00 ∷ []))) (0x74 ∷ 0x20 ∷ []) (0x0f ∷ 0xfa ∷ []) ∷
    sample (upload 0 0 (given (0x20 ∷ 0x00 ∷ [])) (given (0x10 ∷ 0x00 ∷ []))) (0x75 ∷ 0x20 ∷ []) (0x0f ∷ 0xfa ∷ []) ∷
    sample (transfer 0x01 (some (0xaa ∷ []))) (0x76 ∷ 0x01 ∷ []) [] ∷
    sample (transfer_exit none) (0x77 ∷ []) [] ∷
    sample (fault_list 0x08) (0x59 ∷ 0x02 ∷ []) (0xff ∷ 0x12 ∷ 0x34 ∷ 0x56 ∷ 0x08 ∷ []) ∷ []

-- Every call can be closed by a refusal and, where it is suppressed, by silence; every positive of the table closes a conversation, behind a notice (where the limit allows one) also under suppression. Each service has such a positive, and its call is answered by it.
pub record Witnessed : Type 0 where
  pub negatives : (w : Setting) (c : Call) →
      let p = part 0 (0x7f ∷ sid_of c ∷ 0x10 ∷ []) in
      Closed w c (reply 0 p ∷ []) (answer (negative 0x10) (cond (suppressing w c) (max 0 w.timing.p2) 0) 1 0 p)
  pub silences : (w : Setting) (c : Call) → suppressing w c ≡ true → Silent w c [] (answer suppressed w.timing.p2 0 0 nowhere)
  pub positives : (w : Setting) (c : Call) (head d : List ℕ) → Positive c head d → Within w.limit 1 →
      let p = part 3 (head ++ d) in
      Closed w c (reply 0 (part 0 (0x7f ∷ sid_of c ∷ 0x78 ∷ [])) ∷ reply 0 p ∷ [])
      (answer (positive (part (p.at + length head) d)) (cond (suppressing w c) (max 0 w.timing.p2) 0) 2 1 p)
  pub at_once : (w : Setting) (c : Call) (head d : List ℕ) → Positive c head d → suppressing w c ≡ false →
      let p = part 3 (head ++ d) in Closed w c (reply 0 p ∷ []) (answer (positive (part (p.at + length head) d)) 0 1 0 p)
  pub services : map (λ s. numbered s.call) samples ≡ 1 ∷ 2 ∷ 3 ∷ 4 ∷ 5 ∷ 6 ∷ 7 ∷ 8 ∷ 9 ∷ 10 ∷ 11 ∷ 12 ∷ 13 ∷ 14 ∷ 15 ∷ []
  pub answered : map (λ s. told (call true usual s.call (lent (says 10 (s.head ++ s.payload) ∷ [])))) samples
      ≡ map (λ s. gives (positive (part (length s.head) s.payload)) 10 1 0 (number_of s.call (positive (part 0 s.payload)))) samples
