-- Laws of a part of a file: the next log, and what stays where there is none to take.
use Prim.Native.Nat.{ℕ, zero, suc, ◌+◌, ◌-◌, ◌≤◌, ◌<◌}
use native.Mathlib.Nat.{zero-add}
use native.Mathlib.Omega.{arith}
use mathlib.Core.Bool.{Bool, true, false, cond}
use mathlib.Core.List.{List, [], ◌∷◌, ◌++◌, append_assoc}
use mathlib.Core.Path.{◌≡◌, refl, sym, ap, subst, ◌∙◌}
use borrow.Author.Tests.{lt-ltb, le-ltb, le-leb, lt-leb, leb-true, leb-false, ltb-true, ltb-false}
use lib.Dec.{leb, ltb}
use lib.ListN.{length, take, drop, length-take, length-drop, length-append, get_or-append}
use lib.Seq.{take_all, drop-append-le, take-append-le, drop-drop}
use Rattle.rules.specs.Bytes.{u32_at, every, is_byte}
use Rattle.rules.specs.Lines.{badlog}
use Rattle.rules.specs.Logs.{layout_ok, line_of}
use Rattle.rules.proofs.Judging.{both}
use Rattle.rules.proofs.Writing.{every_drop, every_take}
use Rattle.text.specs.Written.{Put}
use Rattle.text.proofs.Writing.{none}
use Rattle.log_files.specs.Files.{size, first, lines_of}
use Rattle.log_files.specs.Said.{cut_line, length_line, said_from}
use Rattle.log_files.proofs.Files.{lines-first, lines-bad}
use Rattle.log_files.proofs.Long.{long-is-bad}
use Rattle.log_files.proofs.Said.{said-whole, said-long}
use Rattle.log_lines.specs.declared.Batch.{Batch}
use Rattle.log_lines.specs.Batches.{Passed, behind, whole, said_behind, whole_said, following, Counts, Over, Goes, said_at_end, Rest, Cut}
use Rattle.log_lines.proofs.Lining.{stood}

-- No byte is no log.
pub none-is-bad : line_of [] ≡ badlog
unfolding line_of layout_ok
none-is-bad = refl

pub all-bytes : (a b : List ℕ) → every is_byte a ≡ true → every is_byte b ≡ true → every is_byte (a ++ b) ≡ true
all-bytes [] b h k = k
all-bytes (x ∷ a) b h k = let t = both (is_byte x) (every is_byte a) h in rw t.0 (all-bytes a b t.1 k)

-- Where nothing is passed over, the next log is told.
pub nothing-over : (logs : ℕ) (file : List ℕ) → said_behind 0 logs file ≡ said_from (suc logs) file
nothing-over logs file = rw (le-leb 0 (length file) (omega arith))

-- A file from a place on, of which the next length has come.
module _ (input more : List ℕ) (at : ℕ) (some : at + 4 ≤ length input) where
  abbrev here : List ℕ
  here = drop at input

  abbrev file : List ℕ
  file = drop at (input ++ more)

  four_bytes : 4 ≤ length here
  four_bytes = omega (arith, length-drop at input)

  joined : file ≡ here ++ more
  joined = drop-append-le at input more (omega arith)

  length-joined : length file ≡ length here + length more
  length-joined = ap length joined ∙ length-append here more

  same_size : size file ≡ size here
  same_size =
      ap size joined ∙
      rw (
        get_or-append here more 0 0 (omega (arith, four_bytes)),
        get_or-append here more 0 1 (omega (arith, four_bytes)),
        get_or-append here more 0 2 (omega (arith, four_bytes)),
        get_or-append here more 0 3 (omega (arith, four_bytes)),
      )

  -- A log that is whole: its own line.
  pub whole-step : (k : ℕ) (log : List ℕ) → k ≡ size here → 4 + k ≤ length here → log ≡ take k (drop 4 here)
      → lines_of file ≡ line_of log ++ lines_of (drop (4 + k) file)
  whole-step k log is fits own =
      let long : size file ≡ k = same_size ∙ sym is in
      let behind-length : drop 4 file ≡ drop 4 here ++ more = ap (drop 4) joined ∙ drop-append-le 4 here more four_bytes in
      let the-log : first file ≡ log =
      ap (λ (n : ℕ). take n (drop 4 file)) long ∙ ap (take k) behind-length ∙
      take-append-le k (drop 4 here) more (omega (arith, length-drop 4 here)) ∙ sym own
      in
      lines-first file (omega (arith, long, length-joined)) ∙ (λ i. line_of (the-log i) ++ lines_of (drop (4 + long i) file))

  -- A log that is too long: a bad one's, wherever the file ends.
  pub long-step : (k : ℕ) → k ≡ size here → 65535 < k → every is_byte input ≡ true → every is_byte more ≡ true
      → lines_of file ≡ badlog ++ lines_of (drop (4 + k) file)
  long-step k is long bytes more_bytes =
      let same : size file ≡ k = same_size ∙ sym is in
      let of-bytes = every_take is_byte (size file) (drop 4 file) (every_drop is_byte 4 file (every_drop is_byte at (input ++ more) (all-bytes input more bytes more_bytes))) in
      lines-bad file (omega (arith, length-joined, four_bytes))
      (λ fits. long-is-bad (first file) of-bytes (omega (arith, same, fits, length-take (size file) (drop 4 file), length-drop 4 file))) ∙
      ap (λ (n : ℕ). badlog ++ lines_of (drop (4 + n) file)) same

  -- What is said: nothing of a log that is whole, and of one that is too long its length.
  pub whole_says : (n k : ℕ) → k ≡ size here → 4 + k ≤ length here → k ≤ 65535 → said_behind 0 n file ≡ said_behind (4 + k) (suc n) file
  whole_says n k is fits short =
      let long : size file ≡ k = same_size ∙ sym is in
      nothing-over n file ∙
      said-whole (suc n) file (omega (arith, length-joined, four_bytes)) (omega (arith, long, length-joined)) (omega (arith, long)) ∙
      ap (λ (m : ℕ). said_from (suc (suc n)) (drop (4 + m) file)) long ∙
      sym (rw (le-leb (4 + k) (length file) (omega (arith, length-joined))))

  pub long-says : (n k : ℕ) → k ≡ size here → 65535 < k → said_behind 0 n file ≡ length_line (suc n) k ++ said_behind (4 + k) (suc n) file
  long-says n k is off =
      let long : size file ≡ k = same_size ∙ sym is in
      nothing-over n file ∙
      said-long (suc n) file (omega (arith, length-joined, four_bytes)) (omega (arith, length-joined, four_bytes)) (omega (arith, long)) ∙
      ap (λ (m : ℕ). length_line (suc n) m ++ said_behind (4 + m) (suc n) file) long

-- What is said of bytes that are passed over, once some of them are.
pub passes : (a left logs : ℕ) (file : List ℕ) → a ≤ length file → said_behind (a + left) logs file ≡ said_behind left logs (drop a file)
passes a left logs file inside = go (leb (a + left) (length file)) refl
  where
    go : (t : Bool) → leb (a + left) (length file) ≡ t → said_behind (a + left) logs file ≡ said_behind left logs (drop a file)
    go true e =
        let fits : leb left (length (drop a file)) ≡ true = le-leb left (length (drop a file))
        (omega (arith, leb-true (a + left) (length file) e, length-drop a file)) in
        rw (e, fits) (ap (said_from (suc logs)) (sym (drop-drop left a file)))
    go false e =
        let cut : leb left (length (drop a file)) ≡ false = lt-leb left (length (drop a file))
        (omega (arith, leb-false (a + left) (length file) e, length-drop a file)) in
        rw (e, cut)

-- The number of a log, of a file that is not too long for numbers.
pub numbered : (logs : ℕ) (file : List ℕ) → Counts logs file → 0 < length file → following logs ≡ suc logs
numbered logs file h some = rw (lt-ltb logs 18446744073709551615 (omega arith))

pub at-most : (logs : ℕ) → following logs ≤ suc logs
at-most logs = go (ltb logs 18446744073709551615)
  where
    go : (t : Bool) → cond t (suc logs) logs ≤ suc logs
    go true = omega arith
    go false = omega arith

-- One line more: r is behind a log of k bytes and its length, and of this log the words are said.
module _ (b r : Batch) (input out after line said told words : List ℕ) (k : ℕ) (first : b.left ≤ 0)
    (room : b.written ≤ length out) (wrote : Put out b.written line after r.written)
    (room_to_say : b.said ≤ length said) (spoke : Put said b.said words told r.said)
    (far : r.taken + r.left ≡ b.taken + (4 + k)) (counted : r.logs ≡ following b.logs) (some : b.taken + 4 ≤ length input)
    (inside : r.taken ≤ length input) (on : b.taken < r.taken) where
  begun : b.left ≡ 0
  begun = omega arith

  further : (more : List ℕ) → lines_of (drop b.taken (input ++ more)) ≡ line ++ lines_of (drop (4 + k) (drop b.taken (input ++ more)))
      → whole b input out more ≡ whole r input after more
  further more step =
      let all : List ℕ = input ++ more in
      let place : drop (4 + k) (drop b.taken all) ≡ behind r input more =
      drop-drop (4 + k) b.taken all ∙ ap (λ (n : ℕ). drop n all) (sym far) ∙ sym (drop-drop r.left r.taken all)
      in
      ap (λ (n : ℕ). take b.written out ++ lines_of (drop n (drop b.taken all))) begun ∙
      ap (λ (lines : List ℕ). take b.written out ++ lines) step ∙
      sym (append_assoc (take b.written out) line (lines_of (drop (4 + k) (drop b.taken all)))) ∙
      (λ i. sym (stood out line after b.written r.written room wrote) i ++ lines_of (place i))

  said-further : (more : List ℕ) → Counts b.logs (drop b.taken (input ++ more))
      → said_behind 0 b.logs (drop b.taken (input ++ more)) ≡ words ++ said_behind (4 + k) (suc b.logs) (drop b.taken (input ++ more))
      → whole_said b input said more ≡ whole_said r input told more
  said-further more few step =
      let all : List ℕ = input ++ more in
      let file : List ℕ = drop b.taken all in
      let long : length file ≡ length all - b.taken = length-drop b.taken all in
      let joins : length all ≡ length input + length more = length-append input more in
      let parts : 4 + k ≡ (r.taken - b.taken) + r.left = omega (arith, far, on) in
      let there : b.taken + (r.taken - b.taken) ≡ r.taken = omega (arith, on) in
      let next : suc b.logs ≡ r.logs = sym (counted ∙ numbered b.logs file few (omega (arith, long, joins, some))) in
      let place : said_behind (4 + k) (suc b.logs) file ≡ said_behind r.left r.logs (drop r.taken all) =
      ap (λ (n : ℕ). said_behind n (suc b.logs) file) parts ∙
      passes (r.taken - b.taken) r.left (suc b.logs) file (omega (arith, long, joins, inside, on)) ∙
      ap (said_behind r.left (suc b.logs)) (drop-drop (r.taken - b.taken) b.taken all ∙ ap (λ (n : ℕ). drop n all) there) ∙
      ap (λ (n : ℕ). said_behind r.left n (drop r.taken all)) next
      in
      ap (λ (n : ℕ). take b.said said ++ said_behind n b.logs file) begun ∙
      ap (λ (text : List ℕ). take b.said said ++ text) step ∙
      sym (append_assoc (take b.said said) words (said_behind (4 + k) (suc b.logs) file)) ∙
      (λ i. sym (stood said words told b.said r.said room_to_say spoke) i ++ place i)

  pub goes : r.written ≤ length after → r.said ≤ length told → Over r input
      → ((more : List ℕ) → every is_byte more ≡ true → lines_of (drop b.taken (input ++ more)) ≡ line ++ lines_of (drop (4 + k) (drop b.taken (input ++ more))))
      → ((more : List ℕ) → Counts b.logs (drop b.taken (input ++ more)) →
      said_behind 0 b.logs (drop b.taken (input ++ more)) ≡ words ++ said_behind (4 + k) (suc b.logs) (drop b.taken (input ++ more)))
      → Goes b input out said r after told
  goes ends ends-said over step step-said = record {
    inside = inside;
    room = ends;
    room_to_say = ends-said;
    over = over;
    same = λ more bytes. further more (step more bytes);
    says = λ more few. said-further more few (step-said more few);
    counts = omega (arith, counted, at-most b.logs, on);
    on = on;
  }

-- What is passed over of a log that is too long is at least its length's four bytes.
pub moves-on : (at n size left taken : ℕ) → at + 4 ≤ n → taken + left ≡ at + (4 + size) → (0 < left → taken ≡ n) → at < taken
moves-on at n size zero taken some far over = omega arith
moves-on at n size (suc left) taken some far over = omega (arith, over (omega arith))

-- The next step, by what it reads: the rest of the input, and the length that it begins with.
module _ (b : Batch) (input : List ℕ) where
  abbrev rest : List ℕ
  rest = take (length input - b.taken) (drop b.taken input)

  all_of : rest ≡ drop b.taken input
  all_of = take_all (length input - b.taken) (drop b.taken input) (omega (arith, length-drop b.taken input))

  lengths : length rest ≡ length input - b.taken
  lengths = ap length all_of ∙ length-drop b.taken input

  module _ (k : ℕ) (sized : k ≡ u32_at rest 0) where
    size_is : k ≡ size (drop b.taken input)
    size_is = sized ∙ ap size all_of

    module _ (out said : List ℕ) (first : b.left ≤ 0) (room : b.written ≤ length out) (room_to_say : b.said ≤ length said)
        (four : 4 ≤ length rest) where
      some : b.taken + 4 ≤ length input
      some = omega (arith, lengths, four)

      pub whole-goes : (after : List ℕ) (w n : ℕ) → k ≤ length rest - 4 → k ≤ 65535 → n ≡ following b.logs →
          Put out b.written (line_of (take (4 + k - 4) (drop 4 rest))) after w → w ≤ length after →
          Goes b input out said (record b { taken = b.taken + 4 + k; written = w; logs = n }) after said
      whole-goes after w n fits short counted wrote ends =
          let log : List ℕ = take (4 + k - 4) (drop 4 rest) in
          let same : 4 + k - 4 ≡ k = omega arith in
          let ends-here : 4 + k ≤ length (drop b.taken input) = omega (arith, fits, four, lengths, length-drop b.taken input) in
          let the-log : log ≡ take k (drop 4 (drop b.taken input)) = (λ i. take (same i) (drop 4 (all_of i))) in
          goes b (record b { taken = b.taken + 4 + k; written = w; logs = n }) input out after (line_of log) said said [] k
          first room wrote room_to_say (none said b.said) (omega arith) counted some
          (omega (arith, ends-here, length-drop b.taken input)) (omega arith)
          ends room_to_say (λ h. absurd (omega arith))
          (λ more bytes. whole-step input more b.taken some k log size_is ends-here the-log)
          (λ more few. whole_says input more b.taken some b.logs k size_is ends-here short)

      pub long-goes : (r : Batch) (after told : List ℕ) (w n s : ℕ) → every is_byte input ≡ true → 65535 < k → n ≡ following b.logs →
          Put out b.written (line_of []) after w → w ≤ length after → Put said b.said (length_line n k) told s → s ≤ length told →
          Passed (4 + k) b.taken (length input) w n s r → Goes b input out said r after told
      long-goes r after told w n s bytes long counted wrote ends spoke ends-said p =
          let wrote-bad : Put out b.written badlog after r.written =
          subst (λ (m : ℕ). Put out b.written badlog after m) (sym p.3)
          (subst (λ (l : List ℕ). Put out b.written l after w) none-is-bad wrote)
          in
          let spoke-here : Put said b.said (length_line n k) told r.said = subst (λ (m : ℕ). Put said b.said (length_line n k) told m)
          (sym p.6) spoke in
          goes b r input out after badlog said told (length_line n k) k first room wrote-bad room_to_say spoke-here p.1 (p.5 ∙ counted) some p.0
          (moves-on b.taken (length input) k r.left r.taken some p.1 p.4) (omega (arith, ends, p.3))
          (omega (arith, ends-said, p.6)) p.4
          (λ more more_bytes. long-step input more b.taken some k size_is long bytes more_bytes)
          (λ more few. long-says input more b.taken some b.logs k size_is long ∙
          ap (λ (m : ℕ). length_line m k ++ said_behind (4 + k) (suc b.logs) (drop b.taken (input ++ more)))
          (sym (counted ∙ numbered b.logs (drop b.taken (input ++ more)) few
          (omega (arith, some, length-drop b.taken (input ++ more), length-append input more)))))

-- What the loop of `lines` keeps.
pub record Held (left logs : ℕ) (input before unsaid out said : List ℕ) (b : Batch) : Type 0 where
  pub inside : b.taken ≤ length input
  pub room : b.written ≤ length out
  pub room_to_say : b.said ≤ length said
  pub over : Over b input
  pub none : b.taken ≡ 0 → (b.written ≡ 0) × (b.said ≡ 0)
  pub lines : (more : List ℕ) → every is_byte more ≡ true → lines_of (drop left (input ++ more)) ≡ whole b input out more
  pub says : (more : List ℕ) → Counts logs (input ++ more) → said_behind left logs (input ++ more) ≡ whole_said b input said more
  pub counts : b.logs ≤ logs + b.taken
  pub long : length out ≡ length before
  pub long-said : length said ≡ length unsaid

-- Behind the end.
module _ (left n : ℕ) (out : List ℕ) where
  pub bad-rest : (after : List ℕ) (r : ℕ) → left < n → 8222 ≤ length out → Put out 0 (line_of []) after r → Rest left n out r after
  bad-rest after r h k p =
      let wrote : Put out 0 badlog after r = subst (λ (l : List ℕ). Put out 0 l after r) none-is-bad p in
      record {
        count = rw (lt-ltb left n h, le-leb 8222 (length out) k) (wrote.next ∙ zero-add (length badlog));
        line = rw (lt-ltb left n h, le-leb 8222 (length out) k) wrote.line;
      }

-- What is said behind the end, where there is room, and where there is none.
module _ (left logs n : ℕ) (said : List ℕ) where
  module _ (fits : 60 ≤ length said) where
    spoken : (words after : List ℕ) (r : ℕ) → said_at_end left logs n ≡ words → Put said 0 words after r → Cut left logs n said r after
    spoken words after r is p =
        let room = le-leb 60 (length said) fits in
        record { count = rw (room, is) (p.next ∙ zero-add (length words)); line = rw (room, is) p.line }

    pub cut-told : (after : List ℕ) (r m : ℕ) → (n ≡ left → ⊥) → (n < left → m ≡ logs) → (left ≤ n → m ≡ following logs) →
        Put said 0 (cut_line m) after r → Cut left logs n said r after
    cut-told after r m apart inside past p = go (ltb n left) refl
      where
        go : (t : Bool) → ltb n left ≡ t → Cut left logs n said r after
        go true e = spoken (cut_line m) after r (rw e (ap cut_line (sym (inside (ltb-true n left e))))) p
        go false e =
            let behind = ltb-false n left e in
            spoken (cut_line m) after r (rw (e, lt-ltb left n (omega arith)) (ap cut_line (sym (past behind)))) p

    pub not-cut : n ≡ left → Cut left logs n said 0 said
    not-cut e = spoken [] said 0 (rw (le-ltb n left (omega arith), le-ltb left n (omega arith))) (none said 0)
