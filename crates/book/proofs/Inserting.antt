-- Laws of a log that is put behind the others: what each step leaves in the buffer.
use Prim.Native.Nat.{ℕ, suc, ◌+◌, ◌-◌, ◌*◌, ◌≤◌, ◌<◌}
use native.Mathlib.Omega.{arith}
use mathlib.Core.Bool.{true}
use mathlib.Core.List.{List, [], ◌∷◌, ◌++◌, append_assoc, append-nil}
use mathlib.Core.Path.{◌≡◌, refl, sym, ◌∙◌, ap, ap₂}
use lib.ListN.{length, take, drop, length-append, length-take, length-drop, take-append-drop}
use lib.Seq.{take_at, drop_at, drop-drop, length-take-le}
use borrow.Author.Tests.{le-leb}
use Rattle.rules.specs.Bytes.{u16_at, four}
use Rattle.rules.specs.Logs.{area}
use Rattle.rules.proofs.Writing.{two_back}
use Rattle.std.specs.List.{copy_within}
use Rattle.wire.specs.Buffers.{with}
use Rattle.bookkeeping.specs.Layout.{joined, entry, directory, start, header, book_of, logs_in}
use Rattle.bookkeeping.specs.Book.{is_book}
use Rattle.bookkeeping.proofs.Books.{Book, opened}
use Rattle.bookkeeping.proofs.Counting.{few-logs}
use Rattle.bookkeeping.proofs.Layouts.{length-directory, length-book, length-longer}
use Rattle.book.specs.Moved.{moved}

-- A part of the buffer, replaced by one as long.
pub replaced : (a x y c : List ℕ) (at : ℕ) → length a ≡ at → length x ≡ length y → with (a ++ (x ++ c)) at y ≡ a ++ (y ++ c)
unfolding with
replaced a x y c at h k =
    let l = a ++ (x ++ c) in
    let room = le-leb (at + length y) (length l) (omega (arith, length-append a (x ++ c), length-append x c)) in
    let behind : drop (at + length y) l ≡ c = sym (drop-drop (length y) at l) ∙ ap (drop (length y)) (drop_at a (x ++ c) at h) ∙ drop_at x c (length y) k in
    rw (room, take_at a (x ++ c) at h, behind) (append_assoc a y c)

-- The bytes from one index up to another, copied to 8 bytes further on.
pub moved-on : (z : List ℕ) (from to : ℕ) → from ≤ to → to + 8 ≤ length z → copy_within z from to (from + 8) ≡ with z (from + 8) (area z from (to - from))
unfolding with
moved-on z from to h room =
    let long : length (area z from (to - from)) ≡ to - from = omega (arith, length-take (to - from) (drop from z), length-drop from z) in
    let fits = le-leb (from + 8 + length (area z from (to - from))) (length z) (omega (arith, long)) in
    rw (fits, long)

-- The offsets, entry by entry: what stands in front, and what is still to be written.
abbrev pub to_come : List ℕ → ℕ → ℕ → ℕ → List ℕ
to_come l n i at = take (start i) l ++ moved at (n - i) (drop (start i) l)

pub one-offset : (l : List ℕ) (n i at : ℕ) → i < n → start n ≤ length l
    → to_come (with l (start i + 4) (four at)) n (i + 1) (at + u16_at (drop (start i) l) 2) ≡ to_come l n i at
one-offset l n i at h room =
    let d = drop (start i) l in
    let size = u16_at d 2 in
    let p = take (start i) l in
    let e = take 4 d in
    let o = take 4 (drop 4 d) in
    let r = drop 8 d in
    let long-p : length p ≡ start i = length-take-le (start i) l (omega arith) in
    let long-d : length d ≡ length l - start i = length-drop (start i) l in
    let long-e : length e ≡ 4 = length-take-le 4 d (omega arith) in
    let long-o : length o ≡ 4 = length-take-le 4 (drop 4 d) (omega (arith, length-drop 4 d)) in
    let front : length (p ++ e) ≡ start i + 4 = omega (arith, length-append p e) in
    let parts : l ≡ p ++ e ++ (o ++ r) =
    sym (append_assoc p e (o ++ r) ∙
    ap (λ (x : List ℕ). p ++ (e ++ x)) (ap (λ (x : List ℕ). o ++ x) (sym (drop-drop 4 4 d)) ∙ take-append-drop 4 (drop 4 d)) ∙
    ap (λ (x : List ℕ). p ++ x) (take-append-drop 4 d) ∙
    take-append-drop (start i) l)
    in
    let m : with l (start i + 4) (four at) ≡ p ++ e ++ (four at ++ r) =
    ap (λ (x : List ℕ). with x (start i + 4) (four at)) parts ∙ replaced (p ++ e) o (four at) r (start i + 4) front long-o
    in
    let next : start (i + 1) ≡ start i + 8 = omega arith in
    let done : length (p ++ e ++ four at) ≡ start (i + 1) = omega (arith, length-append (p ++ e) (four at)) in
    let whole : p ++ e ++ (four at ++ r) ≡ p ++ e ++ four at ++ r = sym (append_assoc (p ++ e) (four at) r) in
    let more : n - i ≡ suc (n - (i + 1)) = omega arith in
    ap (λ (x : List ℕ). to_come x n (i + 1) (at + size)) (m ∙ whole) ∙
    ap₂ (λ (x y : List ℕ). x ++ moved (at + size) (n - (i + 1)) y) (take_at (p ++ e ++ four at) r (start (i + 1)) done) (drop_at (p ++ e ++ four at) r (start (i + 1)) done) ∙
    rw more (append_assoc (p ++ e) (four at) (moved (at + size) (n - (i + 1)) r) ∙ append_assoc p e (four at ++ moved (at + size) (n - (i + 1)) r))

pub none-to-come : (l : List ℕ) (n i at : ℕ) → n ≤ i → to_come l n i at ≡ l
none-to-come l n i at h = let none : n - i ≡ 0 = omega arith in rw none (take-append-drop (start i) l)

-- The offsets of a directory that is written of logs.
offsets : (at first : ℕ) (ls : List (List ℕ)) (more : List ℕ) → moved first (length ls) (directory at ls ++ more) ≡ directory first ls ++ more
offsets at first [] more = refl
offsets at first (l ∷ ls) more =
    rw (two_back (length l))
    (ap (λ (x : List ℕ). entry first l ++ x) (offsets (at + length l) (first + length l) ls more) ∙ sym (append_assoc (entry first l) (directory (first + length l) ls) more))

-- One log more, behind the others.
directory-longer : (at : ℕ) (ls : List (List ℕ)) (log : List ℕ) → directory at (ls ++ (log ∷ [])) ≡ directory at ls ++ entry (at + length (joined ls)) log
directory-longer at [] log = let none : at + 0 ≡ at = omega arith in rw (none, append-nil (entry at log))
directory-longer at (l ∷ ls) log =
    let on : at + length l + length (joined ls) ≡ at + length (l ++ joined ls) = omega (arith, length-append l (joined ls)) in
    ap (λ (x : List ℕ). entry at l ++ x) (directory-longer (at + length l) ls log) ∙
    rw on (sym (append_assoc (entry at l) (directory (at + length l) ls) (entry (at + length (l ++ joined ls)) log)))

joined-longer : (ls : List (List ℕ)) (log : List ℕ) → joined (ls ++ (log ∷ [])) ≡ joined ls ++ log
joined-longer [] log = append-nil log
joined-longer (l ∷ ls) log = ap (λ (x : List ℕ). l ++ x) (joined-longer ls log) ∙ sym (append_assoc l (joined ls) log)

-- A buffer z whose first n bytes are a book.
module _ (z : List ℕ) (n : ℕ) (is : is_book (take n z) ≡ true) (reach : n ≤ length z) where
  abbrev pub logs : List (List ℕ)
  logs = logs_in (take n z)

  abbrev pub count : ℕ
  count = length logs

  abbrev h : List ℕ
  h = header count (length (joined logs))

  abbrev d : List ℕ
  d = directory (start count) logs

  abbrev j : List ℕ
  j = joined logs

  open-book : Book (take n z)
  open-book = opened (take n z) is

  buffer : z ≡ h ++ (d ++ j) ++ drop n z
  buffer = sym (ap (λ (x : List ℕ). x ++ drop n z) open-book.is ∙ take-append-drop n z)

  long-d : length d ≡ count * 8
  long-d = length-directory (start count) logs

  pub book-long : n ≡ start count + length j
  book-long = sym (length-take-le n z reach) ∙ ap (λ (x : List ℕ). length x) (sym open-book.is) ∙ length-book logs

  -- The count that the buffer's front says.
  pub count-in : u16_at z 4 ≡ count
  count-in = ap (λ (x : List ℕ). u16_at x 4) buffer ∙ two_back count

  -- What is read of it before a log is put behind the others: how many logs there are, and where they begin.
  pub record Read (read begins : ℕ) : Type 0 where
    pub counted : read ≡ count
    pub few : read ≤ 1489
    pub started : begins ≡ start count
    pub long : n ≡ begins + length j

  pub as-read : (read begins : ℕ) → read ≡ u16_at z 4 → begins ≡ start read → Read read begins
  as-read read begins c s =
      let counted : read ≡ count = c ∙ count-in in
      let started : begins ≡ start count = s ∙ ap start counted in
      record {
        counted = counted;
        few = omega (arith, counted, few-logs (take n z) open-book);
        started = started;
        long = book-long ∙ ap (λ (k : ℕ). k + length j) (sym started);
      }

  module _ (log : List ℕ) (room : n + 8 + length log ≤ length z) where
    abbrev rest : List ℕ
    rest = drop n z

    abbrev r : List ℕ
    r = drop (8 + length log) rest

    abbrev e : List ℕ
    e = entry (n + 8) log

    long_rest : length rest ≡ length z - n
    long_rest = length-drop n z

    -- The log.
    abbrev eight : List ℕ
    eight = take 8 rest

    pub after-log : with z (n + 8) log ≡ h ++ d ++ (j ++ (eight ++ (log ++ r)))
    after-log =
        let a = take n z ++ eight in
        let x = take (length log) (drop 8 rest) in
        let long : length a ≡ n + 8 = omega (arith, length-append (take n z) eight, length-take-le n z reach, length-take-le 8 rest (omega (arith, long_rest))) in
        let as_long : length x ≡ length log = length-take-le (length log) (drop 8 rest) (omega (arith, length-drop 8 rest, long_rest)) in
        let tail : x ++ r ≡ drop 8 rest = ap (λ (t : List ℕ). x ++ t) (sym (drop-drop (length log) 8 rest)) ∙ take-append-drop (length log) (drop 8 rest) in
        let parts : z ≡ a ++ (x ++ r) =
        sym (append_assoc (take n z) eight (x ++ r) ∙
        ap (λ (t : List ℕ). take n z ++ (eight ++ t)) tail ∙
        ap (λ (t : List ℕ). take n z ++ t) (take-append-drop 8 rest) ∙
        take-append-drop n z)
        in
        ap (λ (t : List ℕ). with t (n + 8) log) parts ∙
        replaced a x log r (n + 8) long as_long ∙
        append_assoc (take n z) eight (log ++ r) ∙
        ap (λ (t : List ℕ). t ++ (eight ++ (log ++ r))) (sym open-book.is ∙ sym (append_assoc h d j)) ∙
        append_assoc (h ++ d) j (eight ++ (log ++ r))

    -- The other logs, on by an entry. In front of them are 8 bytes of no more use.
    abbrev old : List ℕ
    old = take 8 (j ++ eight)

    front_long : length (h ++ d) ≡ start count
    front_long = omega (arith, length-append h d, long-d)

    eight-long : length eight ≡ 8
    eight-long = length-take-le 8 rest (omega (arith, long_rest))

    old-long : length old ≡ 8
    old-long = length-take-le 8 (j ++ eight) (omega (arith, length-append j eight, eight-long))

    pub after-move : (l : List ℕ) → l ≡ h ++ d ++ (j ++ (eight ++ (log ++ r))) → with l (start count + 8) (area l (start count) (length j)) ≡ h ++ d ++ (old ++ (j ++ (log ++ r)))
    after-move l is-l =
        let both = j ++ eight in
        let x = drop 8 both in
        let source : area l (start count) (length j) ≡ j =
        ap (λ (t : List ℕ). area t (start count) (length j)) is-l ∙
        ap (take (length j)) (drop_at (h ++ d) (j ++ (eight ++ (log ++ r))) (start count) front_long) ∙
        take_at j (eight ++ (log ++ r)) (length j) refl
        in
        let as_long : length x ≡ length j = omega (arith, length-drop 8 both, length-append j eight, eight-long) in
        let long : length (h ++ d ++ old) ≡ start count + 8 = omega (arith, length-append (h ++ d) old, front_long, old-long) in
        let parts : l ≡ h ++ d ++ old ++ (x ++ (log ++ r)) =
        is-l ∙
        ap (λ (t : List ℕ). h ++ d ++ t) (sym (append_assoc j eight (log ++ r)) ∙ ap (λ (t : List ℕ). t ++ (log ++ r)) (sym (take-append-drop 8 both)) ∙ append_assoc old x (log ++ r)) ∙
        sym (append_assoc (h ++ d) old (x ++ (log ++ r)))
        in
        ap₂ (λ (t s : List ℕ). with t (start count + 8) s) parts source ∙
        replaced (h ++ d ++ old) x j (log ++ r) (start count + 8) long as_long ∙
        append_assoc (h ++ d) old (j ++ (log ++ r))

    -- Its entry.
    pub after-entry : (l : List ℕ) → l ≡ h ++ d ++ (old ++ (j ++ (log ++ r))) → with l (start count) e ≡ h ++ d ++ (e ++ (j ++ (log ++ r)))
    after-entry l is-l = ap (λ (t : List ℕ). with t (start count) e) is-l ∙ replaced (h ++ d) old e (j ++ (log ++ r)) (start count) front_long old-long

    -- The offsets of the other entries.
    abbrev d' : List ℕ
    d' = directory (start count + 8) logs

    pub after-offsets : (l : List ℕ) → l ≡ h ++ d ++ (e ++ (j ++ (log ++ r))) → take 20 l ++ moved (start count + 8) count (drop 20 l) ≡ h ++ (d' ++ (e ++ (j ++ (log ++ r))))
    after-offsets l is-l =
        let tail = e ++ (j ++ (log ++ r)) in
        let parts : l ≡ h ++ (d ++ tail) = is-l ∙ append_assoc h d tail in
        ap (λ (t : List ℕ). take 20 t ++ moved (start count + 8) count (drop 20 t)) parts ∙
        ap (λ (t : List ℕ). h ++ t) (offsets (start count) (start count + 8) logs tail)

    -- The header: all of it is the longer book.
    pub after-header : (l : List ℕ) → l ≡ h ++ (d' ++ (e ++ (j ++ (log ++ r)))) → with l 0 (header (count + 1) (length j + length log)) ≡ with z 0 (book_of (logs ++ (log ∷ [])))
    after-header l is-l =
        let more = logs ++ (log ∷ []) in
        let new = book_of more in
        let h' = header (count + 1) (length j + length log) in
        let at = start count + 8 in
        let joined_is : joined more ≡ j ++ log = joined-longer logs log in
        let count-is : length more ≡ count + 1 = omega (arith, length-append logs (log ∷ [])) in
        let bytes-is : length (joined more) ≡ length j + length log = ap (λ (t : List ℕ). length t) joined_is ∙ length-append j log in
        let start_is : start (count + 1) ≡ at = omega arith in
        let there : at + length j ≡ n + 8 = omega (arith, book-long) in
        let directory-is : directory at more ≡ d' ++ e = directory-longer at logs log ∙ ap (λ (k : ℕ). d' ++ entry k log) there in
        let book-is : new ≡ h' ++ (d' ++ e ++ (j ++ log)) =
        ap₂ (λ (k m : ℕ). header k m ++ (directory (start k) more ++ joined more)) count-is bytes-is ∙
        ap (λ (k : ℕ). h' ++ (directory k more ++ joined more)) start_is ∙
        ap₂ (λ (x y : List ℕ). h' ++ (x ++ y)) directory-is joined_is
        in
        let new-long : length new ≡ n + 8 + length log =
        length-longer logs log ∙ ap (λ (k : ℕ). k + 8 + length log) (ap (λ (x : List ℕ). length x) open-book.is ∙ length-take-le n z reach)
        in
        let behind-new : drop (length new) z ≡ r =
        let sum : n + (8 + length log) ≡ length new = omega (arith, new-long) in
        sym (drop-drop (8 + length log) n z ∙ ap (λ (k : ℕ). drop k z) sum)
        in
        let right : with z 0 new ≡ new ++ r =
        ap (λ (t : List ℕ). with t 0 new) (sym (take-append-drop (length new) z)) ∙
        replaced [] (take (length new) z) new (drop (length new) z) 0 refl (length-take-le (length new) z (omega (arith, new-long))) ∙
        ap (λ (t : List ℕ). new ++ t) behind-new
        in
        let left : with l 0 h' ≡ h' ++ (d' ++ (e ++ (j ++ (log ++ r)))) =
        ap (λ (t : List ℕ). with t 0 h') is-l ∙ replaced [] h h' (d' ++ (e ++ (j ++ (log ++ r)))) 0 refl refl
        in
        let regroup : d' ++ e ++ (j ++ log) ++ r ≡ d' ++ (e ++ (j ++ (log ++ r))) =
        append_assoc (d' ++ e) (j ++ log) r ∙ append_assoc d' e (j ++ log ++ r) ∙ ap (λ (t : List ℕ). d' ++ (e ++ t)) (append_assoc j log r)
        in
        left ∙ sym (right ∙ ap (λ (t : List ℕ). t ++ r) book-is ∙ ap (λ (t : List ℕ). h' ++ t) regroup)
