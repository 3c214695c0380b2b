-- Document 01, "Conversations a controller may hold": stated of the events, not by running the exchange, of which nothing is imported.
use Rattle.std.specs.Prelude.{ℕ, ◌+◌, ◌≤◌, max, true, cond, ◌≡◌, ◌≢◌, ◌⊎◌, List, [], ◌∷◌, ◌++◌, map, length}
use Rattle.rules.specs.Answers.{Part, part, nowhere, Outcome, positive, suppressed, negative, Answer}
use Rattle.rules.specs.Calls.{Call, sid_of}
use Rattle.rules.specs.Events.{Event, reply, idle, ended, failed, time_of, up_to}
use Rattle.rules.specs.Positives.{Positive}
use Rattle.rules.specs.Settings.{Setting, suppressing, Within}

-- "zero or more exact notices 7F SID 78"; "Idle events may stand anywhere before the closing". The notices' times stand beside.
pub data Waiting (sid : ℕ) : List Event → List ℕ → Type 0 where
  none : Waiting sid [] []
  idles : {t : ℕ} {es : List Event} {ts : List ℕ} → Waiting sid es ts → Waiting sid (idle t ∷ es) ts
  notice : {t at : ℕ} {es : List Event} {ts : List ℕ} → Waiting sid es ts
      → Waiting sid (reply t (part at (0x7f ∷ sid ∷ 0x78 ∷ [])) ∷ es) (t ∷ ts)

-- "The first notice or closing comes by P2; each later one within P2* of the notice before it."
abbrev pub Paced : ℕ → ℕ → List ℕ → Type 0
Paced by star [] = Unit {0}
Paced by star (t ∷ ts) = (t ≤ by) × Paced (t + star) star ts

-- "7F SID code with code other than 78; or the table's strict positive, which under suppression needs at least one notice before it"
pub data Closing (w : Setting) (c : Call) (notices : List ℕ) (p : Part) : Outcome → Type 0 where
  by_negative : {code : ℕ} → code ≢ 0x78 → p.bytes ≡ 0x7f ∷ sid_of c ∷ code ∷ [] → Closing w c notices p (negative code)
  by_positive : (head d : List ℕ) → Positive c head d → (suppressing w c ≡ true → notices ≢ []) → p.bytes ≡ head ++ d
      → Closing w c notices p (positive (part (p.at + length head) d))

-- The events begin with idles and notices, with a limit at most K of them, then one closing. "finishing time is the closing's, or under suppression P2 if later."
pub record Closed (w : Setting) (c : Call) (es : List Event) (x : Answer) : Type 0 where
  pub before : List Event
  pub times : List ℕ
  pub at : ℕ
  pub rest : List Event
  pub begins : es ≡ before ++ (reply at x.reply ∷ rest)
  pub waits : Waiting (sid_of c) before times
  pub paced : Paced w.timing.p2 w.timing.star (times ++ (at ∷ []))
  pub closes : Closing w c times x.reply x.outcome
  pub time : x.time ≡ cond (suppressing w c) (max at w.timing.p2) at
  pub events : x.events ≡ length before + 1
  pub notices : x.notices ≡ length times
  pub patient : Within w.limit (length times)

abbrev pub IsIdle : Event → Type 0
IsIdle (reply t p) = ⊥
IsIdle (idle t) = Unit {0}
IsIdle (ended t) = ⊥
IsIdle (failed t n) = ⊥

abbrev pub Every : {A : Type 0} → (A → Type 0) → List A → Type 0
Every P [] = Unit {0}
Every P (x ∷ xs) = P x × Every P xs

-- "under suppression and without a notice, silence past P2": "no event but idles at a time up to P2; it finishes at P2."
pub record Silent (w : Setting) (c : Call) (es : List Event) (x : Answer) : Type 0 where
  pub asked : suppressing w c ≡ true
  pub hush : Every (λ e. time_of e ≤ w.timing.p2 → IsIdle e) es
  pub outcome : x.outcome ≡ suppressed
  pub time : x.time ≡ w.timing.p2
  pub events : x.events ≡ up_to w.timing.p2 (map time_of es)
  pub notices : x.notices ≡ 0
  pub reply : x.reply ≡ nowhere

-- The events begin with a conversation that the call allows, and its answer is x.
abbrev pub Conversation : Setting → Call → List Event → Answer → Type 0
Conversation w c es x = Closed w c es x ⊎ Silent w c es x
