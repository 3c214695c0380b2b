-- What holds of sending and joining.
use Rattle.std.specs.Prelude.{ℕ, suc, ◌+◌, ◌/◌, ◌≤◌, ◌<◌, true, List, [], ◌∷◌, ◌++◌, map, ◌≢◌, ◌≡◌, length}
use Rattle.std.proofs.Math.Option.{none}
use Rattle.isotp.specs.Frames.{kind, low, inert, is_flow_control}
use Rattle.isotp.specs.Sending.{padded, first, number, consecutive, consecutives, segment}
use Rattle.isotp.specs.Joining.{State, idle, under, fed, passed, feed, message, dropped, join}
use Rattle.isotp.specs.Bus.{Frame, Note, noted, listened, ours}

-- A message and the padding of its frames.
pub record Sent : Type 0 where
  pub pad : List ℕ
  pub bytes : List ℕ

abbrev pub Sendable : List ℕ → Type 0
Sendable m = (1 ≤ length m) × (length m ≤ 4095)

abbrev pub Every : {A : Type 0} → (A → Type 0) → List A → Type 0
Every P [] = Unit {0}
Every P (x ∷ xs) = P x × Every P xs

abbrev pub segments : List Sent → List (List ℕ)
segments [] = []
segments (x ∷ xs) = segment x.pad x.bytes ++ segments xs

-- "Joining the frames of a correct sender gives its message back", and nothing else is told; what follows is joined from idle.
abbrev pub GivesBack : Type 0
GivesBack = (pad m : List ℕ) → Sendable m → (rest : List (List ℕ)) → join idle (segment pad m ++ rest) ≡ message m ∷ join idle rest

-- The same on a bus: the frames of other identifiers, flow control and frames that are none stand anywhere between.
abbrev pub GivesAllBack : Type 0
GivesAllBack =
    (id : ℕ) (fs : List Frame) (xs : List Sent) → Every (λ (x : Sent). Sendable x.bytes) xs → ours id fs ≡ segments xs →
    map (λ (n : Note). n.told) (listened id idle fs) ≡ map (λ (x : Sent). message x.bytes) xs

-- Frames that are no frames "are passed over and change nothing".
abbrev pub PassesOver : Type 0
PassesOver = (s : State) (f : List ℕ) → inert f ≡ true → feed s f ≡ passed s

-- "flow control frames are skipped"
abbrev pub SkipsFlowControl : Type 0
SkipsFlowControl = (f : List ℕ) → is_flow_control f ≡ true → inert f ≡ true

-- "A wrong sequence number drops that message"
abbrev pub DropsWrong : Type 0
DropsWrong =
    (due n : ℕ) (bs f : List ℕ) → kind f ≡ 2 → low f ≢ n →
    feed (under due n bs) f ≡ fed idle true none

-- "What follows of that message is passed over": its frames before frame k, one in place of frame k whose number is another, those behind it.
abbrev pub DropsOnce : Type 0
DropsOnce =
    (pad m : List ℕ) → 8 ≤ length m → length m ≤ 4095 → (k c : ℕ) (f : List ℕ) → k + 1 + c ≡ length m / 7 →
    kind f ≡ 2 → low f ≢ number k → (rest : List (List ℕ)) →
    join idle (padded pad (first m) ∷ (consecutives pad m k 0 ++ (f ∷ (consecutives pad m c (k + 1) ++ rest)))) ≡ dropped ∷ join idle rest

-- A frame sent twice is a wrong number: frame k again, before the last frame.
abbrev pub DropsTwice : Type 0
DropsTwice =
    (pad m : List ℕ) → 8 ≤ length m → length m ≤ 4095 → (k c : ℕ) → k + 1 + c ≡ length m / 7 → 1 ≤ c → (rest : List (List ℕ)) →
    join idle (padded pad (first m) ∷ (consecutives pad m (k + 1) 0 ++ (padded pad (consecutive m k) ∷ (consecutives pad m c (k + 1) ++ rest)))) ≡
    dropped ∷ join idle rest

-- A frame lost is one too, however short the frame behind it is.
abbrev pub DropsLost : Type 0
DropsLost =
    (pad m : List ℕ) → 8 ≤ length m → length m ≤ 4095 → (k c : ℕ) → k + 2 + c ≡ length m / 7 → (rest : List (List ℕ)) →
    join idle (padded pad (first m) ∷ (consecutives pad m k 0 ++ (padded pad (consecutive m (k + 1)) ∷ (consecutives pad m c (k + 2) ++ rest)))) ≡
    dropped ∷ join idle rest

-- "A message has its last frame's time": it is told at the last frame that is ours, on a bus with anything between, and what follows is heard from idle.
abbrev pub Stamps : Type 0
Stamps =
    (id : ℕ) (before : List Frame) (f : Frame) (after : List Frame) (pad m : List ℕ) → Sendable m →
    f.id ≡ id → segment pad m ≡ ours id before ++ (f.bytes ∷ []) →
    listened id idle (before ++ (f ∷ after)) ≡ noted f (message m) ∷ listened id idle after

-- The numbers of a message's consecutive frames are 1 to 15, 0, 1 and so on.
pub record Numbers : Type 0 where
  pub shown : (pad m : List ℕ) (k : ℕ) → low (padded pad (consecutive m k)) ≡ number k
  pub begins : number 0 ≡ 1
  pub steps : (k : ℕ) → number k < 15 → number (suc k) ≡ number k + 1
  pub wraps : (k : ℕ) → number k ≡ 15 → number (suc k) ≡ 0

-- A sender's frames are frames: of at most eight bytes.
abbrev pub Fits : Type 0
Fits = (pad m : List ℕ) → Every (λ (f : List ℕ). length f ≤ 8) (segment pad m)
