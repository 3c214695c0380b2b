-- A new book is of bytes; and a log too long to say its own length is bad.
use Prim.Native.Nat.{ℕ, ◌+◌, ◌*◌, ◌≤◌, ◌<◌}
use native.Mathlib.Omega.{arith}
use mathlib.Core.Bool.{Bool, true, false, ◌&&◌, ◌||◌}
use mathlib.Core.List.{List, [], ◌∷◌, ◌++◌}
use mathlib.Core.Path.{◌≡◌, refl, sym, ◌∙◌, ap, subst}
use lib.ListN.{length, length-append}
use lib.Dec.{leb, eqb}
use lib.Seq.{drop_at}
use borrow.Author.Tests.{eqb-true}
use Rattle.rules.specs.Bytes.{u16_at, every, is_byte}
use Rattle.rules.specs.Events.{event_size, entries}
use Rattle.rules.specs.Logs.{Header, moved, header_size, form_in, header_of, all, areas_ok, event_ok, event_bytes, laid_out, layout_ok, fields_ok, uses_of}
use Rattle.rules.proofs.Judging.{both, trues}
use Rattle.rules.proofs.OfBytes.{Bytes, byte-on, two-on, four-on, list_on}
use Rattle.rules.proofs.Opened.{byte_at}
use Rattle.rules.proofs.Writing.{every_drop}
use Rattle.bookkeeping.specs.Layout.{call_byte, joined, directory, start, header, book_of, logs_in}
use Rattle.bookkeeping.specs.Promises.{OfBytes, TooLongIsBad}
use Rattle.bookkeeping.specs.Book.{is_book, add, refused}
use Rattle.bookkeeping.proofs.Layouts.{length-directory, length-book, length-longer}
use Rattle.bookkeeping.proofs.Books.{came}

split : (a b : List ℕ) → every is_byte (a ++ b) ≡ true → (every is_byte a ≡ true) × (every is_byte b ≡ true)
split [] b h = (refl, h)
split (x ∷ a) b h =
    let z = both (is_byte x) (every is_byte (a ++ b)) h in
    let r = split a b z.1 in
    (rw z.0 r.0, r.1)

joined-both : (xs ys : List (List ℕ)) → every is_byte (joined xs) ≡ true → Bytes (joined ys) → Bytes (joined (xs ++ ys))
joined-both [] ys h k = k
joined-both (x ∷ xs) ys h k = let z = split x (joined xs) h in list_on x (joined (xs ++ ys)) z.0 (joined-both xs ys z.1 k)

directory-bytes : (at : ℕ) (ls : List (List ℕ)) (more : List ℕ) → 20 ≤ at → at + length (joined ls) ≤ 65536 → every is_byte (joined ls) ≡ true → Bytes more → Bytes (directory at ls ++ more)
directory-bytes at [] more least h b m = m
directory-bytes at (l ∷ ls) more least h b m =
    let z = split l (joined ls) b in
    let n = length-append l (joined ls) in
    byte-on (call_byte l) _ (byte_at l z.0 2)
    (byte-on 0 _ (omega arith)
    (two-on (length l) _ (omega arith)
    (four-on at _ (omega arith) (directory-bytes (at + length l) ls more (omega arith) (omega arith) z.1 m))))

book-bytes : (ls : List (List ℕ)) → length (book_of ls) ≤ 65536 → Bytes (joined ls) → Bytes (book_of ls)
book-bytes ls h b =
    let n = length-book ls in
    byte-on 0x55 _ (omega arith)
    (byte-on 0x42 _ (omega arith)
    (byte-on 0 _ (omega arith)
    (byte-on 1 _ (omega arith)
    (two-on (length ls) _ (omega arith)
    (byte-on 0 _ (omega arith)
    (byte-on 20 _ (omega arith)
    (four-on (length (joined ls)) _ (omega arith)
    (four-on (start (length ls)) _ (omega arith)
    (four-on (start (length ls) + length (joined ls)) _ (omega arith)
    (directory-bytes (start (length ls)) ls (joined ls) (omega arith) (omega arith) b.so b))))))))))

logs-bytes : (ls : List (List ℕ)) → every is_byte (book_of ls) ≡ true → every is_byte (joined ls) ≡ true
logs-bytes ls h =
    let at = start (length ls) in
    let d = directory at ls in
    subst (λ (x : List ℕ). every is_byte x ≡ true) (drop_at d (joined ls) (length ls * 8) (length-directory at ls))
    (every_drop is_byte (length ls * 8) (d ++ joined ls) (every_drop is_byte 20 (book_of ls) h))

pub of-bytes : OfBytes
of-bytes b log new hb hl e =
    let c = came b log new e in
    let ls = logs_in b in
    let old = logs-bytes ls (subst (λ (x : List ℕ). every is_byte x ≡ true) (sym c.book.is) hb) in
    let one : Bytes (joined (log ∷ [])) = list_on log [] hl (record { so = refl }) in
    let fits : length (book_of (ls ++ (log ∷ []))) ≤ 65536 = omega (arith, c.room, length-longer ls log, ap (λ (x : List ℕ). length x) c.book.is) in
    subst (λ (x : List ℕ). every is_byte x ≡ true) c.is (book-bytes (ls ++ (log ∷ [])) fits (joined-both ls (log ∷ []) old one)).so

-- A log says its own length in 16 bits.
pub short : (l : List ℕ) → every is_byte l ≡ true → layout_ok l ≡ true → length l ≤ 65535
unfolding layout_ok
short l bytes ok =
    let h = header_of l in
    let laid =
    trues
    (leb (header_size (form_in h)) (length l) ∷
    (eqb h.version 1 || eqb h.version 2) ∷
    leb h.call 15 ∷
    areas_ok h (length l) ∷
    every event_ok (entries (form_in h) (event_bytes h l)) ∷ [])
    (both (laid_out h l) (fields_ok h (uses_of h.call)) ok).0
    in
    let areas =
    trues
    (eqb h.arguments_at (header_size (form_in h)) ∷
    eqb h.events_at (header_size (form_in h) + h.arguments) ∷
    eqb h.replies_at (h.events_at + h.events * event_size (form_in h)) ∷
    eqb h.total (h.replies_at + h.replies) ∷
    eqb h.total (length l) ∷ [])
    laid.1.1.1.0
    in
    let at = 22 + moved (form_in h) in
    omega (arith, eqb-true h.total (length l) areas.1.1.1.1.0, byte_at l bytes at, byte_at l bytes (at + 1))

pub too-long-is-bad : TooLongIsBad
unfolding add
too-long-is-bad b log is bytes long = bad (layout_ok log) refl
  where
    bad : (t : Bool) → layout_ok log ≡ t → add b log ≡ refused 23
    bad true e = absurd (omega (arith, long, short log bytes e))
    bad false e = rw (is, e)
