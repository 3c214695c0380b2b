-- A correct sender's messages, carried through the import.
use Prim.Native.Nat.{ℕ}
use mathlib.Core.Bool.{Bool, true, false, cond, ◌||◌, false≢true}
use mathlib.Core.List.{List, [], ◌∷◌, ◌++◌, map, append_assoc, append-nil}
use mathlib.Core.Option.{Option, none, some}
use mathlib.Core.Path.{◌≡◌, refl, sym, ◌∙◌, ap, ap₂}
use lib.Dec.{ltb, eqb}
use Rattle.isotp.specs.Joining as joining
use Rattle.isotp.specs.Joining.{State, Fed, feed, Told, message, tells}
use Rattle.isotp.specs.Bus.{Frame, Note, noted, listen, listened}
use Rattle.isotp.specs.Laws.{Sent}
use Rattle.isotp.proofs.Feeding.{passes_over}
use Rattle.isotp.proofs.Bus.{gives-all-back}
use Rattle.isotp.proofs.Stamps.{stamps}
use Rattle.candump.specs.Lines.{Line, blank, unreadable, other, frame, read}
use Rattle.importing.specs.Texts.{lines}
use Rattle.importing.specs.Import as import
use Rattle.importing.specs.Import.{Item, request, reply, dropped, Known, Import, going, refused_at, begins, next, started, drops, gives, heard, framed, passed, in_order}
use Rattle.importing.specs.Import.{step, walk, within, Imported, judged, imported}
use Rattle.importing.specs.Senders.{frame_in, frames_from, replies, replies_to, bytes_of, Hears, Carries, CarriesAll, OfText}
use Rattle.importing.proofs.Rises.{told_in}

replies-behind : (a b : List Item) → replies (a ++ b) ≡ replies a ++ replies b
replies-behind [] b = refl
replies-behind (request n m ∷ a) b = replies-behind a b
replies-behind (dropped n ∷ a) b = replies-behind a b
replies-behind (reply t m ∷ a) b = ap (λ (is : List Item). reply t m ∷ is) (replies-behind a b)

-- A frame of another identifier is as one without data.
same-heard : (answer : ℕ) (s : State) (f : Frame) → heard (eqb f.id answer) s f.bytes ≡ listen answer s f
same-heard answer s f = go (eqb f.id answer)
  where
    go : (b : Bool) → heard b s f.bytes ≡ cond b (feed s f.bytes) (joining.passed s)
    go true = refl
    go false = passes_over s [] refl

-- The replies that a line tells are those of the joiner's notes.
of-line : (d e : Bool) (t n : ℕ) (f : Frame) (asked answered : Option (List ℕ)) (ns : List Note) →
    replies_to t (map (noted f) (tells e answered) ++ ns) ≡ replies (drops d n ++ gives (some t) n f.time asked answered) ++ replies_to t ns
of-line true true t n f asked none ns = refl
of-line true false t n f asked none ns = refl
of-line false true t n f asked none ns = refl
of-line false false t n f asked none ns = refl
of-line true true t n f asked (some m) ns = refl
of-line true false t n f asked (some m) ns = refl
of-line false true t n f asked (some m) ns = refl
of-line false false t n f asked (some m) ns = refl

abbrev is_going : Import → Bool
is_going (going k) = true
is_going (refused_at n line) = false

abbrev known_in : Known → Import → Known
known_in k (going x) = x
known_in k (refused_at n line) = k

module _ (ask answer t : ℕ) where
  -- A refusal stays.
  stays : (n line : ℕ) (ls : List (List ℕ)) → walk ask answer (refused_at n line) ls ≡ refused_at n line
  unfolding walk
  stays n line [] = refl
  stays n line (l ∷ ls) = stays n line ls

  never : (n line : ℕ) (ls : List (List ℕ)) (after : Known) → walk ask answer (refused_at n line) ls ≡ going after → ⊥
  never n line ls after e = false≢true (ap is_going (sym (stays n line ls) ∙ e))

  abbrev Holds : Known → List (List ℕ) → Known → Type 0
  Holds k ls after = replies after.told ≡ replies k.told ++ replies_to t (listened answer k.answering (frames_from k.line ls))

  -- A line in order, or a refusal.
  in_order_lem : (k : Known) (time : ℕ) (u : Known) (ls : List (List ℕ)) (after : Known) {A : Type 0} → walk ask answer (in_order k time u) ls ≡ going after →
      (walk ask answer (going u) ls ≡ going after → A) → A
  in_order_lem k time u ls after {A} e f = go (ltb time k.time) e
    where
      go : (b : Bool) → walk ask answer (cond b (refused_at 16 (next k.line)) (going u)) ls ≡ going after → A
      go true k = absurd (never 16 _ ls after k)
      go false k = f k

  -- A frame's line.
  behind-frame : (k after : Known) (time id : ℕ) (bytes : List ℕ) (ls : List (List ℕ)) → k.start ≡ some t → Holds (framed ask answer k time id bytes) ls after →
      replies after.told ≡
      replies k.told ++ replies_to t (listened answer k.answering (frame_in (next k.line) (frame time id bytes) ++ frames_from (next k.line) ls))
  unfolding listened
  behind-frame k after time id bytes ls es more =
      more
      ∙ ap (λ (is : List Item). is ++ replies_to t (rest answers.state)) (replies-behind k.told (told k.start))
      ∙ append_assoc (replies k.told) (replies (told k.start)) (replies_to t (rest answers.state))
      ∙ ap (λ (is : List Item). replies k.told ++ is)
      (ap (λ (s : Option ℕ). replies (told s) ++ replies_to t (rest answers.state)) es
      ∙ sym (of-line (asks.drops || answers.drops) answers.drops t (next k.line) f asks.gives answers.gives (rest answers.state))
      ∙ ap (λ (x : Fed). replies_to t (map (noted f) (tells x.drops x.gives) ++ rest x.state)) (same-heard answer k.answering f))
    where
      f : Frame
      f = record { line = next k.line; time = time; id = id; bytes = bytes }

      asks : Fed
      asks = heard (eqb id ask) k.asking bytes

      answers : Fed
      answers = heard (eqb id answer) k.answering bytes

      told : Option ℕ → List Item
      told s = drops (asks.drops || answers.drops) (next k.line) ++ gives s (next k.line) time asks.gives answers.gives

      rest : State → List Note
      rest s = listened answer s (frames_from (next k.line) ls)

  hears-from : (k after : Known) (ls : List (List ℕ)) → k.start ≡ some t → walk ask answer (going k) ls ≡ going after → Holds k ls after
  unfolding walk frames_from listened
  hears-from k after [] es e = ap (λ (i : Import). replies (known_in k i).told) (sym e) ∙ sym (append-nil (replies k.told))
  hears-from k after (l ∷ ls) es e = go (read l) e (λ (u : Known) (h : u.start ≡ some t) (w : walk ask answer (going u) ls ≡ going after). hears-from u after ls h w)
    where
      go : (x : Line) → walk ask answer (step ask answer (going k) x) ls ≡ going after →
          ((u : Known) → u.start ≡ some t → walk ask answer (going u) ls ≡ going after → Holds u ls after) →
          replies after.told ≡ replies k.told ++ replies_to t (listened answer k.answering (frame_in (next k.line) x ++ frames_from (next k.line) ls))
      go blank w more = more (passed k k.time) es w
      go unreadable w more = absurd (never 14 _ ls after w)
      go (other time) w more = in_order_lem k time (passed k time) ls after w (λ h. more (passed k time) es h)
      go (frame time id bytes) w more =
          in_order_lem k time (framed ask answer k time id bytes) ls after w
          (λ h. behind-frame k after time id bytes ls es
          (more (framed ask answer k time id bytes) (ap (λ (s : Option ℕ). started s time (heard (eqb id ask) k.asking bytes).gives) es) h))

pub hears : Hears
hears ask answer t k after ls es e = hears-from ask answer t k after ls es e

pub carries : Carries
carries ask answer t k after ls before f behind pad m es ei s ef id seg e =
    hears ask answer t k after ls es e
    ∙ ap₂ (λ (s : State) (fs : List Frame). replies k.told ++ replies_to t (listened answer s fs)) ei ef
    ∙ ap (λ (ns : List Note). replies k.told ++ replies_to t ns) (stamps answer before f behind pad m s id seg)

-- The bytes of replies, and of what is told.
bytes-replies : (is : List Item) → bytes_of (replies is) ≡ bytes_of is
bytes-replies [] = refl
bytes-replies (request n m ∷ is) = bytes-replies is
bytes-replies (dropped n ∷ is) = bytes-replies is
bytes-replies (reply t m ∷ is) = ap (λ (l : List (List ℕ)). m ∷ l) (bytes-replies is)

bytes-behind : (a b : List Item) → bytes_of (a ++ b) ≡ bytes_of a ++ bytes_of b
bytes-behind [] b = refl
bytes-behind (request n m ∷ a) b = bytes-behind a b
bytes-behind (dropped n ∷ a) b = bytes-behind a b
bytes-behind (reply t m ∷ a) b = ap (λ (l : List (List ℕ)). m ∷ l) (bytes-behind a b)

abbrev messages : List Told → List (List ℕ)
messages [] = []
messages (message m ∷ ts) = m ∷ messages ts
messages (joining.dropped ∷ ts) = messages ts

bytes-told : (t : ℕ) (ns : List Note) → bytes_of (replies_to t ns) ≡ messages (map (λ (n : Note). n.told) ns)
bytes-told t [] = refl
bytes-told t (n ∷ ns) = go n.told (bytes-told t ns)
  where
    go : (x : Told) → bytes_of (replies_to t ns) ≡ messages (map (λ (n : Note). n.told) ns) →
        bytes_of (replies_to t (record { line = n.line; time = n.time; told = x } ∷ ns)) ≡ messages (x ∷ map (λ (n : Note). n.told) ns)
    go (message m) e = ap (λ (l : List (List ℕ)). m ∷ l) e
    go joining.dropped e = e

sent : (xs : List Sent) → messages (map (λ (x : Sent). message x.bytes) xs) ≡ map (λ (x : Sent). x.bytes) xs
sent [] = refl
sent (x ∷ xs) = ap (λ (l : List (List ℕ)). x.bytes ∷ l) (sent xs)

pub carries-all : CarriesAll
carries-all ask answer t k after ls xs es ei s o e =
    let fs = frames_from k.line ls in
    sym (bytes-replies after.told)
    ∙ ap bytes_of (hears ask answer t k after ls es e)
    ∙ bytes-behind (replies k.told) (replies_to t (listened answer k.answering fs))
    ∙ ap₂ (λ (a b : List (List ℕ)). a ++ b) (bytes-replies k.told)
    (bytes-told t (listened answer k.answering fs)
    ∙ ap (λ (s : State). messages (map (λ (n : Note). n.told) (listened answer s fs))) ei
    ∙ ap messages (gives-all-back answer fs xs s o)
    ∙ sent xs)

-- What was imported was read to its end.
record Ended (i : Import) (is : List Item) : Type 0 where
  after : Known
  is-going : i ≡ going after
  same : after.told ≡ is

abbrev is_told : Imported → Bool
is_told (import.told is) = true
is_told (import.refused n) = false
is_told (import.refused_line n line) = false

to-its-end : (i : Import) (is : List Item) → judged i ≡ import.told is → Ended i is
to-its-end (refused_at n line) is e = absurd (false≢true (ap is_told e))
to-its-end (going k) is e = go k.start refl e
  where
    limits : (b : Bool) → cond b (import.told k.told) (import.refused 17) ≡ import.told is → Ended (going k) is
    limits true e = record { after = k; is-going = refl; same = ap told_in e }
    limits false e = absurd (false≢true (ap is_told e))

    go : (s : Option ℕ) → k.start ≡ s →
        judged (going (record { line = k.line; time = k.time; asking = k.asking; answering = k.answering; start = s; told = k.told })) ≡ import.told is →
        Ended (going k) is
    go none es e = absurd (false≢true (ap is_told e))
    go (some t) es e = limits (within k.told) e

walk-behind : (ask answer : ℕ) (i : Import) (a b : List (List ℕ)) → walk ask answer i (a ++ b) ≡ walk ask answer (walk ask answer i a) b
unfolding walk
walk-behind ask answer i [] b = refl
walk-behind ask answer i (l ∷ a) b = walk-behind ask answer (step ask answer i (read l)) a b

pub of-text : OfText
unfolding imported
of-text ask answer t text first rest k xs is el ek es ei s o e =
    let end = to-its-end (walk ask answer begins (lines text)) is e in
    let from-k =
    sym (ap (λ (i : Import). walk ask answer i rest) ek)
    ∙ sym (walk-behind ask answer begins first rest)
    ∙ sym (ap (walk ask answer begins) el)
    ∙ end.is-going in
    sym (ap bytes_of end.same) ∙ carries-all ask answer t k end.after rest xs es ei s o from-k
