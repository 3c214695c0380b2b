-- What a correct sender sends behind the request comes out as events: its messages, each at its last frame's time.
use Rattle.std.specs.Prelude.{ℕ, ◌-◌, ◌/◌, List, [], ◌∷◌, ◌++◌, map, ◌≡◌}
use Rattle.std.proofs.Math.Option.{some}
use Rattle.isotp.specs.Joining as joining
use Rattle.isotp.specs.Joining.{idle}
use Rattle.isotp.specs.Sending.{segment}
use Rattle.isotp.specs.Bus.{Frame, Note, listened, ours}
use Rattle.isotp.specs.Laws.{Sent, Sendable, Every, segments}
use Rattle.candump.specs.Lines.{Line, blank, unreadable, other, frame, read}
use Rattle.importing.specs.Texts.{lines}
use Rattle.importing.specs.Import.{Item, request, reply, dropped, Known, going, begins, next, walk, told, imported}

-- The frames of lines, behind line n.
abbrev pub frame_in : ℕ → Line → List Frame
frame_in n blank = []
frame_in n unreadable = []
frame_in n (other time) = []
frame_in n (frame time id bytes) = record { line = n; time = time; id = id; bytes = bytes } ∷ []

unfoldable pub frames_from : ℕ → List (List ℕ) → List Frame
frames_from n [] = []
frames_from n (l ∷ ls) = frame_in (next n) (read l) ++ frames_from (next n) ls

-- The replies of what is told.
abbrev pub replies : List Item → List Item
replies [] = []
replies (request n m ∷ is) = replies is
replies (dropped n ∷ is) = replies is
replies (reply t m ∷ is) = reply t m ∷ replies is

-- What a joiner of the reply identifier tells, as replies to a request at time t.
abbrev pub replies_to : ℕ → List Note → List Item
replies_to t [] = []
replies_to t (n ∷ ns) = of n.told ++ replies_to t ns
  where
    of : joining.Told → List Item
    of (joining.message m) = reply ((n.time - t) / 1000) m ∷ []
    of joining.dropped = []

-- Behind the request, the replies are what the joiner tells of the frames of the lines, whatever else they have.
abbrev pub Hears : Type 0
Hears =
    (ask answer t : ℕ) (k after : Known) (ls : List (List ℕ)) → k.start ≡ some t → walk ask answer (going k) ls ≡ going after →
    replies after.told ≡ replies k.told ++ replies_to t (listened answer k.answering (frames_from k.line ls))

-- A message's frames among the first lines behind the request, the last of them f: it is the first reply, at that frame's time; so with those behind it.
abbrev pub Carries : Type 0
Carries =
    (ask answer t : ℕ) (k after : Known) (ls : List (List ℕ)) (before : List Frame) (f : Frame) (behind : List Frame) (pad m : List ℕ) →
    k.start ≡ some t → k.answering ≡ idle → Sendable m → frames_from k.line ls ≡ before ++ (f ∷ behind) → f.id ≡ answer →
    segment pad m ≡ ours answer before ++ (f.bytes ∷ []) → walk ask answer (going k) ls ≡ going after →
    replies after.told ≡ replies k.told ++ (reply ((f.time - t) / 1000) m ∷ replies_to t (listened answer idle behind))

-- All messages of a correct sender behind the request, and no other reply.
abbrev pub bytes_of : List Item → List (List ℕ)
bytes_of [] = []
bytes_of (request n m ∷ is) = bytes_of is
bytes_of (dropped n ∷ is) = bytes_of is
bytes_of (reply t m ∷ is) = m ∷ bytes_of is

abbrev pub CarriesAll : Type 0
CarriesAll =
    (ask answer t : ℕ) (k after : Known) (ls : List (List ℕ)) (xs : List Sent) → k.start ≡ some t → k.answering ≡ idle →
    Every (λ (x : Sent). Sendable x.bytes) xs → ours answer (frames_from k.line ls) ≡ segments xs → walk ask answer (going k) ls ≡ going after →
    bytes_of after.told ≡ bytes_of k.told ++ map (λ (x : Sent). x.bytes) xs

-- Of a text that is imported: its lines, those up to the request's first. No reply is under way there.
abbrev pub OfText : Type 0
OfText =
    (ask answer t : ℕ) (text : List ℕ) (first rest : List (List ℕ)) (k : Known) (xs : List Sent) (is : List Item) → lines text ≡ first ++ rest →
    walk ask answer begins first ≡ going k → k.start ≡ some t → k.answering ≡ idle → Every (λ (x : Sent). Sendable x.bytes) xs →
    ours answer (frames_from k.line rest) ≡ segments xs → imported ask answer text ≡ told is → bytes_of is ≡ bytes_of k.told ++ map (λ (x : Sent). x.bytes) xs
