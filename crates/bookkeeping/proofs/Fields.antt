-- The test field by field is the test by writing again.
use Prim.Native.Nat.{ℕ, zero, suc, ◌+◌, ◌*◌, ◌-◌, ◌≤◌}
use native.Mathlib.Omega.{arith}
use mathlib.Core.Bool.{Bool, true, false, ◌&&◌, false≢true}
use mathlib.Core.List.{List, [], ◌∷◌, ◌++◌}
use mathlib.Core.Path.{◌≡◌, refl, sym, ◌∙◌, ap, ap₂, subst}
use lib.Dec.{leb, eqb}
use lib.ListN.{length, get_or, take, drop, length-append, length-take, length-drop, take-append-drop}
use lib.Seq.{take_at, drop_at, drop-drop}
use borrow.Author.Tests.{leb-true, le-leb, eqb-true, eq-eqb}
use Rattle.rules.specs.Bytes.{u16_at, u32_at, two, four, every, is_byte}
use Rattle.rules.specs.Logs.{all, layout_ok}
use Rattle.rules.proofs.Judging.{both, Trues, trues, trues-back}
use Rattle.rules.proofs.Opened.{empty}
use Rattle.rules.proofs.Writing.{every_drop, two_back, four-back, one_on, two-on, four-on}
use Rattle.bookkeeping.specs.Layout.{call_byte, joined, entry, directory, start, header, book_of, logs_from, logs_in}
use Rattle.bookkeeping.specs.Book.{is_book}
use Rattle.bookkeeping.specs.Fields.{head_ok, entry_ok, entries_ok, by_fields}
use Rattle.bookkeeping.specs.Promises.{ByFields}
use Rattle.bookkeeping.proofs.Layouts.{length-directory, length-book}
use Rattle.bookkeeping.proofs.Books.{Book, opened, written}

join : (a b : Bool) → a ≡ true → b ≡ true → (a && b) ≡ true
join a b p q = rw (p, q)

-- An entry that passes is the one that is written of its log.
record Entry (d : List ℕ) (at : ℕ) (rest : List ℕ) : Type 0 where
  sound : layout_ok (take (u16_at d 2) rest) ≡ true
  long : length (take (u16_at d 2) rest) ≡ u16_at d 2
  call : call_byte (take (u16_at d 2) rest) ≡ get_or d 0 0
  zero : get_or d 1 0 ≡ 0
  offset : u32_at d 4 ≡ at

entry-so : (d : List ℕ) (at : ℕ) (rest : List ℕ) → entry_ok d at rest ≡ true → Entry d at rest
entry-so d at rest ok =
    let size = u16_at d 2 in
    let log = take size rest in
    let t =
    trues
    (leb size (length rest) ∷ eqb (get_or d 1 0) 0 ∷ eqb (u32_at d 4) at ∷ layout_ok log ∷ eqb (call_byte log) (get_or d 0 0) ∷ [])
    ok
    in
    record {
      sound = t.1.1.1.0;
      long = omega (arith, length-take size rest, leb-true size (length rest) t.0);
      call = eqb-true (call_byte log) (get_or d 0 0) t.1.1.1.1.0;
      zero = eqb-true (get_or d 1 0) 0 t.1.0;
      offset = eqb-true (u32_at d 4) at t.1.1.0;
    }

-- A directory that passes is the one that is written of the logs that it says.
record Told (d : List ℕ) (n at : ℕ) (rest : List ℕ) : Type 0 where
  sound : every layout_ok (logs_from d n rest) ≡ true
  dir : directory at (logs_from d n rest) ≡ take (n * 8) d
  logs : joined (logs_from d n rest) ≡ rest
  count : length (logs_from d n rest) ≡ n

told : (d : List ℕ) (n at : ℕ) (rest : List ℕ) → every is_byte d ≡ true → n * 8 ≤ length d → entries_ok d n at rest ≡ true → Told d n at rest
told d zero at rest b h ok = record { sound = refl; dir = refl; logs = sym (empty rest (eqb-true (length rest) 0 ok)); count = refl }
told d (suc n) at rest b h ok =
    go (entry-so d at rest t.0)
    (told (drop 8 d) n (at + size) (drop size rest) (every_drop is_byte 8 d b) (omega (arith, length-drop 8 d)) t.1)
  where
    size : ℕ
    size = u16_at d 2

    log : List ℕ
    log = take size rest

    ls : List (List ℕ)
    ls = logs_from (drop 8 d) n (drop size rest)

    t : (entry_ok d at rest ≡ true) × (entries_ok (drop 8 d) n (at + size) (drop size rest) ≡ true)
    t = both (entry_ok d at rest) (entries_ok (drop 8 d) n (at + size) (drop size rest)) ok

    go : Entry d at rest → Told (drop 8 d) n (at + size) (drop size rest) → Told d (suc n) at rest
    go e r =
        let m = n * 8 in
        let eight : suc n * 8 ≡ suc (suc (suc (suc (suc (suc (suc (suc m))))))) = omega arith in
        let read : get_or d 0 0 ∷ get_or d 1 0 ∷ two size ++ (four (u32_at d 4) ++ directory (at + size) ls) ≡ take (suc (suc (suc (suc (suc (suc (suc (suc m)))))))) d =
        one_on d b 0 (suc (suc (suc (suc (suc (suc (suc m))))))) (omega arith)
        (one_on d b 1 (suc (suc (suc (suc (suc (suc m)))))) (omega arith)
        (two-on d b 2 (suc (suc (suc (suc m)))) (omega arith)
        (four-on d b 4 m (omega arith) r.dir)))
        in
        let put : directory at (log ∷ ls) ≡ get_or d 0 0 ∷ get_or d 1 0 ∷ two size ++ (four (u32_at d 4) ++ directory (at + size) ls) =
        λ i. e.call i ∷ sym e.zero i ∷ two (e.long i) ++ (four (sym e.offset i) ++ directory (at + e.long i) ls)
        in
        record {
          sound = rw e.sound r.sound;
          dir = rw eight (put ∙ read);
          logs = ap (λ (x : List ℕ). log ++ x) r.logs ∙ take-append-drop size rest;
          count = ap suc r.count;
        }

-- A header that passes, as facts.
pub record Head (b : List ℕ) : Type 0 where
  pub whole : 20 ≤ length b
  pub fits : length b ≤ 65536
  pub mark : u16_at b 0 ≡ 0x5542
  pub version : u16_at b 2 ≡ 1
  pub directory-at : u16_at b 6 ≡ 20
  pub logs_at : u32_at b 12 ≡ start (u16_at b 4)
  pub total : u32_at b 16 ≡ u32_at b 12 + u32_at b 8
  pub full : u32_at b 16 ≡ length b

abbrev head-tests : List ℕ → List Bool
head-tests b =
    leb 20 (length b) ∷
    leb (length b) 65536 ∷
    eqb (u16_at b 0) 0x5542 ∷
    eqb (u16_at b 2) 1 ∷
    eqb (u16_at b 6) 20 ∷
    eqb (u32_at b 12) (start (u16_at b 4)) ∷
    eqb (u32_at b 16) (u32_at b 12 + u32_at b 8) ∷
    eqb (u32_at b 16) (length b) ∷ []

pub head-so : (b : List ℕ) → head_ok b ≡ true → Head b
head-so b ok =
    let t = trues (head-tests b) ok in
    record {
      whole = leb-true 20 (length b) t.0;
      fits = leb-true (length b) 65536 t.1.0;
      mark = eqb-true (u16_at b 0) 0x5542 t.1.1.0;
      version = eqb-true (u16_at b 2) 1 t.1.1.1.0;
      directory-at = eqb-true (u16_at b 6) 20 t.1.1.1.1.0;
      logs_at = eqb-true (u32_at b 12) (start (u16_at b 4)) t.1.1.1.1.1.0;
      total = eqb-true (u32_at b 16) (u32_at b 12 + u32_at b 8) t.1.1.1.1.1.1.0;
      full = eqb-true (u32_at b 16) (length b) t.1.1.1.1.1.1.1.0;
    }

head-passes : (b : List ℕ) → Head b → head_ok b ≡ true
head-passes b h =
    trues-back (head-tests b) (
      le-leb 20 (length b) h.whole,
      (
        le-leb (length b) 65536 h.fits,
        (
          eq-eqb (u16_at b 0) 0x5542 h.mark,
          (
            eq-eqb (u16_at b 2) 1 h.version,
            (
              eq-eqb (u16_at b 6) 20 h.directory-at,
              (
                eq-eqb (u32_at b 12) (start (u16_at b 4)) h.logs_at,
                (eq-eqb (u32_at b 16) (u32_at b 12 + u32_at b 8) h.total, (eq-eqb (u32_at b 16) (length b) h.full, tt)),
              ),
            ),
          ),
        ),
      ),
    )

-- The seven numbers of the header.
abbrev seven : ℕ → ℕ → ℕ → ℕ → ℕ → ℕ → ℕ → List ℕ
seven a b c d e f g = two a ++ (two b ++ (two c ++ (two d ++ (four e ++ (four f ++ four g)))))

-- Numbers that stand for each other.
by-sums : (x z w n long : ℕ) → z ≡ 20 + n * 8 → x ≡ z + w → x ≡ long → (n * 8 ≤ long - 20) × (w ≡ long - (20 + n * 8))
by-sums x z w n long e f g = (omega arith, omega arith)

module _ (b : List ℕ) (bytes : every is_byte b ≡ true) (ok : by_fields b ≡ true) where
  abbrev n : ℕ
  n = u16_at b 4

  abbrev ls : List (List ℕ)
  ls = logs_in b

  parts : (head_ok b ≡ true) × (entries_ok (drop 20 b) n (u32_at b 12) (drop (start n) b) ≡ true)
  parts = both (head_ok b) (entries_ok (drop 20 b) n (u32_at b 12) (drop (start n) b)) ok

  head : Head b
  head = head-so b parts.0

  sums : (n * 8 ≤ length b - 20) × (u32_at b 8 ≡ length b - (20 + n * 8))
  sums = by-sums (u32_at b 16) (u32_at b 12) (u32_at b 8) n (length b) head.logs_at head.total head.full

  all_told : Told (drop 20 b) n (u32_at b 12) (drop (start n) b)
  all_told = told (drop 20 b) n (u32_at b 12) (drop (start n) b) (every_drop is_byte 20 b bytes) (omega (arith, length-drop 20 b, sums.0)) parts.1

  begins : start (length ls) ≡ u32_at b 12
  begins = ap start all_told.count ∙ sym head.logs_at

  logs-long : length (joined ls) ≡ u32_at b 8
  logs-long = ap (λ (x : List ℕ). length x) all_told.logs ∙ length-drop (start n) b ∙ sym sums.1

  front : header (length ls) (length (joined ls)) ≡ take 20 b
  front =
      let long = head.whole in
      let ends : start (length ls) + length (joined ls) ≡ u32_at b 16 = ap₂ (λ (x z : ℕ). x + z) begins logs-long ∙ sym head.total in
      (λ i. seven (sym head.mark i) (sym head.version i) (all_told.count i) (sym head.directory-at i) (logs-long i) (begins i) (ends i)) ∙
      two-on b bytes 0 18 (omega arith)
      (two-on b bytes 2 16 (omega arith)
      (two-on b bytes 4 14 (omega arith)
      (two-on b bytes 6 12 (omega arith)
      (four-on b bytes 8 8 (omega arith)
      (four-on b bytes 12 4 (omega arith)
      (four-on b bytes 16 0 (omega arith) refl))))))

  back : directory (start (length ls)) ls ++ joined ls ≡ drop 20 b
  back =
      ap₂ (λ (x z : List ℕ). x ++ z) (ap (λ (a : ℕ). directory a ls) begins ∙ all_told.dir) (all_told.logs ∙ sym (drop-drop (n * 8) 20 b)) ∙
      take-append-drop (n * 8) (drop 20 b)

  book-of : is_book b ≡ true
  book-of =
      let whole : book_of ls ≡ b = ap₂ (λ (x z : List ℕ). x ++ z) front back ∙ take-append-drop 20 b in
      subst (λ (x : List ℕ). is_book x ≡ true) whole (written ls all_told.sound (omega (arith, ap (λ (x : List ℕ). length x) whole, head.fits)))

-- The other way: what is written passes.
entry-passes : (d rest log : List ℕ) (at size : ℕ) → u16_at d 2 ≡ size → take size rest ≡ log
    → Trues (leb size (length rest) ∷ eqb (get_or d 1 0) 0 ∷ eqb (u32_at d 4) at ∷ layout_ok log ∷ eqb (call_byte log) (get_or d 0 0) ∷ [])
    → entry_ok d at rest ≡ true
entry-passes d rest log at size e f h =
    subst
    (λ (s : ℕ). all (leb s (length rest) ∷ eqb (get_or d 1 0) 0 ∷ eqb (u32_at d 4) at ∷ layout_ok (take s rest) ∷ eqb (call_byte (take s rest)) (get_or d 0 0) ∷ []) ≡ true)
    (sym e)
    (rw f (trues-back (leb size (length rest) ∷ eqb (get_or d 1 0) 0 ∷ eqb (u32_at d 4) at ∷ layout_ok log ∷ eqb (call_byte log) (get_or d 0 0) ∷ []) h))

entries-pass : (at : ℕ) (ls : List (List ℕ)) (more : List ℕ) → every layout_ok ls ≡ true → entries_ok (directory at ls ++ more) (length ls) at (joined ls) ≡ true
entries-pass at [] more h = refl
entries-pass at (l ∷ ls) more h =
    let k = both (layout_ok l) (every layout_ok ls) h in
    let d = directory at (l ∷ ls) ++ more in
    let rest = l ++ joined ls in
    let this =
    entry-passes d rest l at (length l) (two_back (length l)) (take_at l (joined ls) (length l) refl) (
      le-leb (length l) (length rest) (omega (arith, length-append l (joined ls))),
      (refl, (eq-eqb _ at (four-back at), (k.0, (eq-eqb (call_byte l) (call_byte l) refl, tt)))),
    )
    in
    let others : entries_ok (drop 8 d) (length ls) (at + u16_at d 2) (drop (u16_at d 2) rest) ≡ true =
    subst (λ (s : ℕ). entries_ok (drop 8 d) (length ls) (at + s) (drop s rest) ≡ true) (sym (two_back (length l)))
    (rw (drop_at l (joined ls) (length l) refl) (entries-pass (at + length l) ls more k.1))
    in
    join (entry_ok d at rest) (entries_ok (drop 8 d) (length ls) (at + u16_at d 2) (drop (u16_at d 2) rest)) this others

fields-of : (ls : List (List ℕ)) → every layout_ok ls ≡ true → length (book_of ls) ≤ 65536 → by_fields (book_of ls) ≡ true
fields-of ls h n =
    let b = book_of ls in
    let at = start (length ls) in
    let d = directory at ls in
    let count : u16_at b 4 ≡ length ls = two_back (length ls) in
    let logs_at : u32_at b 12 ≡ at = four-back at in
    let total : u32_at b 16 ≡ at + length (joined ls) = four-back (at + length (joined ls)) in
    let logs-long : u32_at b 8 ≡ length (joined ls) = four-back (length (joined ls)) in
    let rest : drop at b ≡ joined ls = sym (drop-drop (length ls * 8) 20 b) ∙ drop_at d (joined ls) (length ls * 8) (length-directory at ls) in
    let front =
    head-passes b (record {
      whole = omega arith;
      fits = n;
      mark = refl;
      version = refl;
      directory-at = refl;
      logs_at = logs_at ∙ ap start (sym count);
      total = total ∙ sym (ap₂ (λ (x z : ℕ). x + z) logs_at logs-long);
      full = total ∙ sym (length-book ls);
    })
    in
    let back : entries_ok (drop 20 b) (u16_at b 4) (u32_at b 12) (drop (start (u16_at b 4)) b) ≡ true =
    subst (λ (x : ℕ). entries_ok (d ++ joined ls) x (u32_at b 12) (drop (start x) b) ≡ true) (sym count)
    (subst (λ (x : ℕ). entries_ok (d ++ joined ls) (length ls) x (drop at b) ≡ true) (sym logs_at)
    (subst (λ (x : List ℕ). entries_ok (d ++ joined ls) (length ls) at x ≡ true) (sym rest) (entries-pass at ls (joined ls) h)))
    in
    join (head_ok b) (entries_ok (drop 20 b) (u16_at b 4) (u32_at b 12) (drop (start (u16_at b 4)) b)) front back

same_test : (a b : Bool) → (a ≡ true → b ≡ true) → (b ≡ true → a ≡ true) → a ≡ b
same_test true true f g = refl
same_test true false f g = absurd (false≢true (f refl))
same_test false true f g = absurd (false≢true (g refl))
same_test false false f g = refl

pub by-fields : ByFields
by-fields b y =
    same_test (by_fields b) (is_book b) (book-of b y)
    (λ h. let k = opened b h in
    subst (λ (x : List ℕ). by_fields x ≡ true) k.is (fields-of (logs_in b) k.sound (subst (λ (x : List ℕ). length x ≤ 65536) (sym k.is) k.fits)))
