-- The events that come out always pass refusal 10.
use Prim.Native.Nat.{ℕ, ◌+◌, ◌-◌, ◌*◌, ◌/◌, ◌%◌, ◌≤◌, min}
use native.Mathlib.Omega.{arith}
use native.Mathlib.Nat.{zero-add}
use mathlib.Core.Bool.{Bool, true, false, cond, ◌&&◌, ◌||◌}
use mathlib.Core.List.{List, [], ◌∷◌, ◌++◌}
use mathlib.Core.Option.{Option, none, some}
use mathlib.Core.Path.{◌≡◌, refl, sym, ◌∙◌, ap, subst}
use lib.Dec.{leb, ltb, eqb}
use lib.ListN.{length, take, drop, length-append, length-take}
use borrow.Author.Tests.{le-leb, lt-ltb, eq-eqb, ltb-true, leb-true, leb-false}
use Rattle.rules.specs.Bytes.{two, four, every, is_byte}
use Rattle.rules.specs.Conversations.{Every}
use Rattle.rules.specs.Events.{plain, Entry, entries, sound, rising, within_limits}
use Rattle.rules.specs.Writing.{Sayable, put_entry, put_entries}
use Rattle.rules.proofs.Judging.{both}
use Rattle.rules.proofs.Opened.{byte_at}
use Rattle.rules.proofs.Writing.{writing, every_drop, every_take}
use Rattle.isotp.specs.Frames.{kind, low, announced, is_single, is_first}
use Rattle.isotp.specs.Joining as joining
use Rattle.isotp.specs.Joining.{State, idle, under, Fed, fed, feed, busy, grown, goes_on, singles, firsts}
use Rattle.candump.specs.Text.{Space, Digit, Hex, Printable, between, run, past, number, worth, pairs}
use Rattle.candump.specs.Lines as lines
use Rattle.candump.specs.Lines.{Line, blank, unreadable, other, frame, front, rest, is_data, is_remote, is_fd, classic}
use Rattle.candump.specs.Lines.{content, is_identifier, identifier, identified, unnamed, named, timed, micros, seconds, opened, bare, read}
use Rattle.importing.specs.Texts.{lines_from}
use Rattle.importing.specs.Import.{Item, request, reply, dropped, Known, Import, going, refused_at, begins, next, started}
use Rattle.importing.specs.Import.{drops, gives, heard, framed, passed, in_order, step, walk, count, size, early, within}
use Rattle.importing.specs.Import.{Imported, refused, told, judged, imported}
use Rattle.importing.specs.Promises.{rises, entries_from, replies_of, Passes}
use Rattle.importing.proofs.Rises.{never-fall, limited, told_in}

-- The data of a readable line are bytes.
abbrev Small : Line → Type 0
Small blank = Unit {0}
Small unreadable = Unit {0}
Small (other time) = Unit {0}
Small (frame time id bytes) = every is_byte bytes ≡ true

record Bytewise (l : Line) : Type 0 where
  small : Small l

either : (b : Bool) (x y : Line) → Bytewise x → Bytewise y → Bytewise (cond b x y)
either true x y p q = p
either false x y p q = q

no_line : Bytewise unreadable
no_line = record { small = tt }

pairs_small : (t : List ℕ) → every is_byte (pairs t) ≡ true
unfolding worth
pairs_small [] = refl
pairs_small (c ∷ []) = refl
pairs_small (c ∷ d ∷ t) = rw (lt-ltb (worth c * 16 + worth d) 256 (omega arith)) (pairs_small t)

classic-small : (time id : ℕ) (bs : List ℕ) → every is_byte bs ≡ true → Bytewise (classic time id bs)
unfolding classic
classic-small time id bs h = either (leb id 0x9fffffff) (frame time id bs) (other time) (record { small = h }) (record { small = tt })

content-small : (time id : ℕ) (t : List ℕ) → Bytewise (content time id t)
unfolding content
content-small time id t =
    either (is_data t) _ _ (classic-small time id (pairs (run Hex t)) (pairs_small (run Hex t)))
    (either (is_remote t || is_fd t) (other time) unreadable (record { small = tt }) no_line)

identified-small : (time n v : ℕ) (t : List ℕ) → Bytewise (identified time n v t)
unfolding identified
identified-small time n v t =
    let count = n + length (run Hex t) in
    let value = number 16 v (run Hex t) in
    either (is_identifier count value && eqb (front (past Hex t)) 35) _ unreadable (content-small time (identifier count value) (rest (past Hex t))) no_line

unnamed-small : (time : ℕ) (t : List ℕ) → Bytewise (unnamed time t)
unfolding unnamed
unnamed-small time t = either (lines.some (run Space t)) _ unreadable (identified-small time 0 0 (past Space t)) no_line

named_small : (time : ℕ) (t : List ℕ) → Bytewise (named time t)
unfolding named
named_small time t = either (lines.some (run Printable t)) _ unreadable (unnamed-small time (past Printable t)) no_line

timed-small : (time : ℕ) (t : List ℕ) → Bytewise (timed time t)
unfolding timed
timed-small time t = either (lines.some (run Space t)) _ unreadable (named_small time (past Space t)) no_line

micros-small : (s n v : ℕ) (t : List ℕ) → Bytewise (micros s n v t)
unfolding micros
micros-small s n v t =
    either (eqb (n + length (run Digit t)) 6 && eqb (front (past Digit t)) 41) _ unreadable
    (timed-small (s * 1000000 + number 10 v (run Digit t)) (rest (past Digit t))) no_line

seconds-small : (n v : ℕ) (t : List ℕ) → Bytewise (seconds n v t)
unfolding seconds
seconds-small n v t =
    either (between 1 10 (n + length (run Digit t)) && eqb (front (past Digit t)) 46) _ unreadable
    (micros-small (number 10 v (run Digit t)) 0 0 (rest (past Digit t))) no_line

opened-small : (t : List ℕ) → Bytewise (opened t)
unfolding opened
opened-small t = either (eqb (front t) 40) _ unreadable (seconds-small 0 0 (rest t)) no_line

read_small : (l : List ℕ) → Bytewise (read l)
unfolding read
read_small l = either (lines.none (past Space (bare l))) blank _ (record { small = tt }) (opened-small (bare l))

-- A message has at most 4,095 bytes, and bytes they are: of the message under way, and of one that is given.
abbrev Short : State → Type 0
Short idle = Unit {0}
Short (under due n bs) = (length bs + due ≤ 4095) × (every is_byte bs ≡ true)

abbrev Given : Option (List ℕ) → Type 0
Given none = Unit {0}
Given (some m) = (length m ≤ 4095) × (every is_byte m ≡ true)

record Joined (x : Fed) : Type 0 where
  state : Short x.state
  gives : Given x.gives

by-test : (b : Bool) (x y : Fed) → (b ≡ true → Joined x) → (b ≡ false → Joined y) → Joined (cond b x y)
by-test true x y f g = f refl
by-test false x y f g = g refl

every-behind : (a b : List ℕ) → every is_byte a ≡ true → every is_byte b ≡ true → every is_byte (a ++ b) ≡ true
every-behind [] b ha hb = hb
every-behind (x ∷ a) b ha hb = let h = both (is_byte x) (every is_byte a) ha in rw h.0 (every-behind a b h.1 hb)

module _ (f : List ℕ) (bytes : every is_byte f ≡ true) where
  part_small : (n i : ℕ) → every is_byte (take n (drop i f)) ≡ true
  part_small n i = every_take is_byte n (drop i f) (every_drop is_byte i f bytes)

  singles-short : (s : State) → Short s → Joined (singles s f)
  singles-short s p =
      by-test (is_single f) (fed idle (busy s) (some (take (low f) (drop 1 f)))) (joining.passed s)
      (λ e. record { state = tt; gives = (omega (arith, length-take (low f) (drop 1 f)), part_small (low f) 1) })
      (λ e. record { state = p; gives = tt })

  firsts-short : (s : State) → Short s → Joined (firsts s f)
  firsts-short s p =
      by-test (is_first f) (fed (under (announced f - 6) 1 (take 6 (drop 2 f))) (busy s) none) (joining.passed s)
      (λ e.
      let least = leb-true 8 (announced f) (both (leb 8 (announced f)) (leb 8 (length f)) e).0 in
      record { state = (omega (arith, least, byte_at f bytes 1, length-take 6 (drop 2 f)), part_small 6 2); gives = tt })
      (λ e. record { state = p; gives = tt })

  on-short : (s : State) → Short s → Joined (goes_on s f)
  on-short idle p = record { state = tt; gives = tt }
  on-short (under due n bs) p =
      by-test (eqb (low f) n) _ (fed idle true none)
      (λ e. by-test (leb (min 7 due + 1) (length f)) (grown due n more) (joining.passed (under due n bs)) (λ e. more-short) (λ e. record { state = p; gives = tt }))
      (λ e. record { state = tt; gives = tt })
    where
      more : List ℕ
      more = bs ++ take (min 7 due) (drop 1 f)

      long : length more ≤ length bs + min 7 due
      long = omega (arith, length-append bs (take (min 7 due) (drop 1 f)), length-take (min 7 due) (drop 1 f))

      small : every is_byte more ≡ true
      small = every-behind bs (take (min 7 due) (drop 1 f)) p.1 (part_small (min 7 due) 1)

      more-short : Joined (grown due n more)
      more-short =
          by-test (leb due 7) (fed idle false (some more)) (fed (under (due - 7) ((n + 1) % 16) more) false none)
          (λ e. record { state = tt; gives = (omega (arith, long, p.0), small) })
          (λ e. record { state = (omega (arith, long, p.0, leb-false due 7 e), small); gives = tt })

  feed-short : (s : State) → Short s → Joined (feed s f)
  unfolding feed
  feed-short s p =
      by-test (eqb (kind f) 0) (singles s f) _ (λ e. singles-short s p)
      (λ e. by-test (eqb (kind f) 1) (firsts s f) _ (λ e. firsts-short s p)
      (λ e. by-test (eqb (kind f) 2) (goes_on s f) (joining.passed s) (λ e. on-short s p) (λ e. record { state = p; gives = tt })))

heard-short : (mine : Bool) (s : State) (bs : List ℕ) → every is_byte bs ≡ true → Short s → Joined (heard mine s bs)
heard-short true s bs h p = feed-short bs h s p
heard-short false s bs h p = feed-short [] refl s p

-- So are those of what is told. Lines are numbered in 64 bits.
abbrev Numbered : ℕ → Type 0
Numbered n = n ≤ 0xffffffffffffffff

abbrev pub Messages : List Item → Type 0
Messages [] = Unit {0}
Messages (request n m ∷ is) = Numbered n × (Given (some m) × Messages is)
Messages (dropped n ∷ is) = Numbered n × Messages is
Messages (reply t m ∷ is) = Given (some m) × Messages is

messages-behind : (a b : List Item) → Messages a → Messages b → Messages (a ++ b)
messages-behind [] b p q = q
messages-behind (request n m ∷ a) b p q = (p.0, (p.1.0, messages-behind a b p.1.1 q))
messages-behind (dropped n ∷ a) b p q = (p.0, messages-behind a b p.1 q)
messages-behind (reply t m ∷ a) b p q = (p.0, messages-behind a b p.1 q)

numbered : (n : ℕ) → Numbered n → Numbered (next n)
numbered n h = go (ltb n 0xffffffffffffffff) refl
  where
    go : (b : Bool) → ltb n 0xffffffffffffffff ≡ b → Numbered (cond b (n + 1) n)
    go true e = omega (arith, ltb-true n 0xffffffffffffffff e)
    go false e = h

-- At most one request is told, and none before it is whole.
abbrev pub requests : List Item → ℕ
requests [] = 0
requests (request n m ∷ is) = requests is + 1
requests (dropped n ∷ is) = requests is
requests (reply t m ∷ is) = requests is

abbrev whole : Option ℕ → ℕ
whole none = 0
whole (some t) = 1

requests-behind : (a b : List Item) → requests (a ++ b) ≡ requests a + requests b
requests-behind [] b = sym (zero-add (requests b))
requests-behind (request n m ∷ a) b = omega (arith, requests-behind a b)
requests-behind (dropped n ∷ a) b = requests-behind a b
requests-behind (reply t m ∷ a) b = requests-behind a b

line-requests : (d : Bool) (s : Option ℕ) (n time : ℕ) (asked answered : Option (List ℕ)) →
    whole s + requests (drops d n ++ gives s n time asked answered) ≡ whole (started s time asked)
line-requests true none n time none answered = refl
line-requests false none n time none answered = refl
line-requests true none n time (some m) answered = refl
line-requests false none n time (some m) answered = refl
line-requests true (some s) n time asked none = refl
line-requests false (some s) n time asked none = refl
line-requests true (some s) n time asked (some m) = refl
line-requests false (some s) n time asked (some m) = refl

line-messages : (d : Bool) (s : Option ℕ) (n time : ℕ) (asked answered : Option (List ℕ)) → Numbered n → Given asked → Given answered →
    Messages (drops d n ++ gives s n time asked answered)
line-messages true none n time none answered h a b = (h, tt)
line-messages false none n time none answered h a b = tt
line-messages true none n time (some m) answered h a b = (h, (h, (a, tt)))
line-messages false none n time (some m) answered h a b = (h, (a, tt))
line-messages true (some s) n time asked none h a b = (h, tt)
line-messages false (some s) n time asked none h a b = tt
line-messages true (some s) n time asked (some m) h a b = (h, (b, tt))
line-messages false (some s) n time asked (some m) h a b = (b, tt)

record Fine (k : Known) : Type 0 where
  asking : Short k.asking
  answering : Short k.answering
  messages : Messages k.told
  line : Numbered k.line
  once : requests k.told ≡ whole k.start

-- A line that tells nothing.
quiet : (k : Known) (time : ℕ) → Fine k → Fine (passed k time)
quiet k time p =
    record { asking = p.asking; answering = p.answering; messages = p.messages; line = numbered k.line p.line; once = p.once }

abbrev Sound : Import → Type 0
Sound (going k) = Fine k
Sound (refused_at n line) = Unit {0}

in_order_lem : (k : Known) (time : ℕ) (after : Known) → Fine after → Sound (in_order k time after)
in_order_lem k time after f = go (ltb time k.time)
  where
    go : (b : Bool) → Sound (cond b (refused_at 16 (next k.line)) (going after))
    go true = tt
    go false = f

module _ (ask answer : ℕ) where
  one_line : (i : Import) (l : Line) → Small l → Sound i → Sound (step ask answer i l)
  one_line (refused_at n line) l h p = tt
  one_line (going k) blank h p = quiet k k.time p
  one_line (going k) unreadable h p = tt
  one_line (going k) (other time) h p = in_order_lem k time (passed k time) (quiet k time p)
  one_line (going k) (frame time id bytes) h p =
      let a = heard (eqb id ask) k.asking bytes in
      let b = heard (eqb id answer) k.answering bytes in
      let asks = heard-short (eqb id ask) k.asking bytes h p.asking in
      let answers = heard-short (eqb id answer) k.answering bytes h p.answering in
      in_order_lem k time (framed ask answer k time id bytes)
      (record {
        asking = asks.state;
        answering = answers.state;
        messages =
            messages-behind k.told _ p.messages
            (line-messages (a.drops || b.drops) k.start (next k.line) time a.gives b.gives (numbered k.line p.line) asks.gives
            answers.gives);
        line = numbered k.line p.line;
        once =
            requests-behind k.told _ ∙
            ap (λ (n : ℕ). n + requests (drops (a.drops || b.drops) (next k.line) ++ gives k.start (next k.line) time a.gives b.gives)) p.once ∙
            line-requests (a.drops || b.drops) k.start (next k.line) time a.gives b.gives;
      })

  all_lines : (i : Import) (ls : List (List ℕ)) → Sound i → Sound (walk ask answer i ls)
  unfolding walk
  all_lines i [] p = p
  all_lines i (l ∷ ls) p = all_lines (step ask answer i (read l)) ls (one_line i (read l) (read_small l).small p)

pub record Good (is : List Item) : Type 0 where
  pub messages : Messages is
  pub once : requests is ≤ 1

at_most_one : (s : Option ℕ) → whole s ≤ 1
at_most_one none = omega arith
at_most_one (some t) = omega arith

nothing-told : Good []
nothing-told = record { messages = tt; once = omega arith }

in-the-end : (i : Import) → Sound i → Good (told_in (judged i))
in-the-end (refused_at n line) p = nothing-told
in-the-end (going k) p = go k.start
  where
    by : (b : Bool) → Good (told_in (cond b (told k.told) (refused 17)))
    by true = record { messages = p.messages; once = omega (arith, p.once, at_most_one k.start) }
    by false = nothing-told

    go : (s : Option ℕ) →
        Good (told_in (judged (going (record { line = k.line; time = k.time; asking = k.asking; answering = k.answering; start = s; told = k.told }))))
    go none = nothing-told
    go (some t) = by (within k.told)

pub good : (ask answer : ℕ) (text : List ℕ) (is : List Item) → imported ask answer text ≡ told is → Good is
unfolding imported
good ask answer text is e =
    let i = walk ask answer begins (lines_from [] text) in
    let begun : Sound begins = record { asking = tt; answering = tt; messages = tt; line = omega arith; once = refl } in
    subst (λ (x : Imported). Good (told_in x)) e (in-the-end i (all_lines ask answer begins (lines_from [] text) begun))

-- The entries of what is told.
pub no_source : (at : ℕ) (is : List Item) → Every (λ (e : Entry). Sayable plain 0 e.source) (entries_from at is)
no_source at [] = tt
no_source at (request n m ∷ is) = no_source at is
no_source at (dropped n ∷ is) = no_source at is
no_source at (reply t m ∷ is) = (omega arith, no_source (at + length m) is)

pub long : (at : ℕ) (is : List Item) → length (put_entries plain (entries_from at is)) ≡ count is * 10
long at [] = refl
long at (request n m ∷ is) = long at is
long at (dropped n ∷ is) = long at is
long at (reply t m ∷ is) = let more = long (at + length m) is in omega arith

rising-entries : (t at : ℕ) (is : List Item) → rising t (entries_from at is) ≡ rises t is
rising-entries t at [] = refl
rising-entries t at (request n m ∷ is) = rising-entries t at is
rising-entries t at (dropped n ∷ is) = rising-entries t at is
rising-entries t at (reply u m ∷ is) = ap (λ (b : Bool). leb t u && b) (rising-entries u (at + length m) is)

replies-long : (is : List Item) → length (replies_of is) ≡ size is
replies-long [] = refl
replies-long (request n m ∷ is) = replies-long is
replies-long (dropped n ∷ is) = replies-long is
replies-long (reply t m ∷ is) = length-append m (replies_of is) ∙ ap (λ (k : ℕ). length m + k) (replies-long is)

replies-small : (is : List Item) → Messages is → every is_byte (replies_of is) ≡ true
replies-small [] p = refl
replies-small (request n m ∷ is) p = replies-small is p.1.1
replies-small (dropped n ∷ is) p = replies-small is p.1
replies-small (reply t m ∷ is) p = every-behind m (replies_of is) p.0.1 (replies-small is p.1)

-- Each number of an entry has the room that a log gives it.
two-small : (n : ℕ) → n ≤ 65535 → every is_byte (two n) ≡ true
two-small n h = rw (lt-ltb (n / 256) 256 (omega arith), lt-ltb (n % 256) 256 (omega arith))

four-small : (n : ℕ) → n ≤ 4294967295 → every is_byte (four n) ≡ true
four-small n h = every-behind (two (n / 65536)) (two (n % 65536)) (two-small (n / 65536) (omega arith)) (two-small (n % 65536) (omega arith))

entry-small : (time at long : ℕ) → time ≤ 4294967295 → at ≤ 65535 → long ≤ 65535 →
    every is_byte (put_entry plain (record { time = time; kind = 0; offset = at; size = long; source = 0 })) ≡ true
entry-small time at long a b c =
    every-behind (four time) (two 0 ++ (two at ++ two long)) (four-small time a)
    (every-behind (two 0) (two at ++ two long) refl (every-behind (two at) (two long) (two-small at b) (two-small long c)))

entries-small : (at : ℕ) (is : List Item) → at + size is ≤ 65535 → Messages is → early is ≡ true → every is_byte (put_entries plain (entries_from at is)) ≡ true
entries-small at [] h p e = refl
entries-small at (request n m ∷ is) h p e = entries-small at is h p.1.1 e
entries-small at (dropped n ∷ is) h p e = entries-small at is h p.1 e
entries-small at (reply t m ∷ is) h p e =
    let soon = both (leb t 4294967295) (early is) e in
    every-behind (put_entry plain (record { time = t; kind = 0; offset = at; size = length m; source = 0 })) (put_entries plain (entries_from (at + length m) is))
    (entry-small t at (length m) (leb-true t 4294967295 soon.0) (omega arith) (omega arith))
    (entries-small (at + length m) is (omega arith) p.1 soon.1)

module _ (replies : List ℕ) (bytes : every is_byte replies ≡ true) where
  sounds : (at : ℕ) (is : List Item) → at + size is ≤ length replies → Messages is → early is ≡ true → every (sound replies) (entries_from at is) ≡ true
  sounds at [] h p e = refl
  sounds at (request n m ∷ is) h p e = sounds at is h p.1.1 e
  sounds at (dropped n ∷ is) h p e = sounds at is h p.1 e
  sounds at (reply t m ∷ is) h p e =
      let soon = both (leb t 4294967295) (early is) e in
      rw (
        soon.0,
        le-leb (length m) 4095 p.0.0,
        le-leb (at + length m) (length replies) (omega arith),
        every_take is_byte (length m) (drop at replies) (every_drop is_byte at replies bytes),
      ) (sounds (at + length m) is (omega arith) p.1 soon.1)

pass : (is : List Item) → Messages is → rises 0 is ≡ true → within is ≡ true → within_limits plain (put_entries plain (entries_from 0 is)) (replies_of is) ≡ true
unfolding within_limits
pass is p r w =
    let first = (both (leb (count is) 512 && early is) (leb (size is) 65535) w).0 in
    let few = leb-true (count is) 512 (both (leb (count is) 512) (early is) first).0 in
    let soon = (both (leb (count is) 512) (early is) first).1 in
    let whole = long 0 is in
    let rest : length (put_entries plain (entries_from 0 is)) % 10 ≡ 0 = omega arith in
    let most : length (put_entries plain (entries_from 0 is)) / 10 ≤ 512 = omega arith in
    let back : entries plain (put_entries plain (entries_from 0 is)) ≡ entries_from 0 is = writing.entries-read plain (entries_from 0 is) (no_source 0 is) in
    rw (
      back,
      eq-eqb (length (put_entries plain (entries_from 0 is)) % 10) 0 rest,
      le-leb (length (put_entries plain (entries_from 0 is)) / 10) 512 most,
      rising-entries 0 0 is,
      r,
    ) (sounds (replies_of is) (replies-small is p) 0 is (omega (arith, replies-long is)) p soon)

pub passes : Passes
passes ask answer text is e =
    let p = (good ask answer text is e).messages in
    let w = limited ask answer text is e in
    let all = both (leb (count is) 512 && early is) (leb (size is) 65535) w in
    let soon = (both (leb (count is) 512) (early is) all.0).1 in
    (entries-small 0 is (omega (arith, leb-true (size is) 65535 all.1)) p soon, pass is p (never-fall ask answer text is e) w)
