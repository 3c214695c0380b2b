-- An input that comes in any pieces is answered as `output` of `bench` says. What is kept of a line that is too long is as little a request as the line.
use Prim.Native.Nat.{ℕ, ◌+◌, ◌-◌, ◌%◌, ◌≤◌, min}
use native.Mathlib.Omega.{arith}
use mathlib.Core.Bool.{Bool, true, false, cond}
use mathlib.Core.Path.{◌≡◌, refl, sym, ◌∙◌, ap}
use mathlib.Core.List.{List, [], ◌∷◌, ◌++◌, append_assoc, append-nil}
use borrow.Author.Tests.{leb-true, leb-false}
use lib.Dec.{leb, eqb}
use lib.ListN.{length, get_or, take, length-take, length-drop}
use lib.Seq.{take_all, take-take, take-append-le}
use Rattle.rules.specs.Bytes.{every}
use Rattle.rules.specs.Lines.{ascii}
use Rattle.rules.specs.Logs.{all}
use Rattle.rules.specs.Refusals.{between}
use Rattle.rules.proofs.Judging.{both}
use Rattle.bench.specs.Stores.{store_ok}
use Rattle.bench.specs.Talk.{is_digit, is_hex_digit, number_from, unended, space_at, digits, number, numbered, line_tests, newline, Talked, talked, to_line, talk, answers, onto_first, lines_of, output}
use Rattle.bench_line.proofs.Reading.{space-inside}
use Rattle.udsbench.specs.Hearing.{Bench, bench, heard, hearing, said_to, saying, last_to, hearing_all, saying_all, joined, spoken, Hearing}

-- How long a line may be that can be read.
readable-short : (u : List ℕ) → all (line_tests u) ≡ true → length u ≤ 8195
readable-short u h =
    let a = (both (eqb (length (digits u) % 2) 0) _ h).1 in
    let b = both (leb (length (digits u)) 8190) _ a in
    let c = (both (every is_hex_digit (digits u)) _ b.1).1 in
    let d = (both (cond (numbered u) (all (between 1 4 (length (number u)) ∷ every is_digit (number u) ∷ leb (number_from 0 (number u)) 4095 ∷ [])) true) true c).0 in
    let few = leb-true (length (digits u)) 8190 b.0 in
    let n = length-take (space_at u) u in
    let m = length-drop (space_at u + 1) u in
    go few n m (space-inside u) (numbered u) refl d
  where
    go : length (digits u) ≤ 8190 → length (digits u) ≡ min (space_at u) (length u) → length (number u) ≡ length u - (space_at u + 1) → space_at u ≤ length u → (b : Bool) → numbered u ≡ b
        → cond b (all (between 1 4 (length (number u)) ∷ every is_digit (number u) ∷ leb (number_from 0 (number u)) 4095 ∷ [])) true ≡ true → length u ≤ 8195
    go few n m s true p h =
        let most = leb-true (length (number u)) 4 (both (leb 1 (length (number u))) (leb (length (number u)) 4) (both (between 1 4 (length (number u))) _ h).0).1 in
        omega arith
    go few n m s false p h = omega (arith, leb-false (space_at u + 1) (length u) p)

unended-long : (l : List ℕ) → length l - 1 ≤ length (unended l)
unended-long l = go (eqb (get_or l (length l - 1) 0) 13)
  where
    go : (b : Bool) → length l - 1 ≤ length (cond b (take (length l - 1) l) l)
    go true = let n = length-take (length l - 1) l in omega arith
    go false = omega arith

-- A line of 8,197 bytes or more is no request.
too_long : (l line : List ℕ) → 8197 ≤ length line → talk l line ≡ talked (ascii "badrequest" ++ newline) l
unfolding talk
too_long l line h = go (all (line_tests (unended line))) refl
  where
    go : (b : Bool) → all (line_tests (unended line)) ≡ b → to_line l (unended line) ≡ talked (ascii "badrequest" ++ newline) l
    go true e = let short = readable-short (unended line) e in let long = unended-long line in absurd (omega arith)
    go false e = rw e refl

-- So what is kept of it gets what it gets.
kept_same : (l line : List ℕ) → talk l (take 8197 line) ≡ talk l line
kept_same l line = go (leb (length line) 8197) refl
  where
    go : (b : Bool) → leb (length line) 8197 ≡ b → talk l (take 8197 line) ≡ talk l line
    go true e = ap (λ (k : List ℕ). talk l k) (take_all 8197 line (leb-true (length line) 8197 e))
    go false e =
        let h = leb-false (length line) 8197 e in
        let n = length-take 8197 line in
        too_long l (take 8197 line) (omega arith) ∙ sym (too_long l line (omega arith))

-- The lines of an input of whose first one p has come already.
abbrev what_left : List ℕ → List (List ℕ)
what_left [] = []
what_left (c ∷ p) = (c ∷ p) ∷ []

abbrev behind : List ℕ → List (List ℕ) → List (List ℕ)
behind p [] = what_left p
behind p (line ∷ lines) = (p ++ line) ∷ lines

behind-none : (lines : List (List ℕ)) → behind [] lines ≡ lines
behind-none [] = refl
behind-none (line ∷ lines) = refl

left-more : (p : List ℕ) (c : ℕ) → what_left (p ++ (c ∷ [])) ≡ (p ++ (c ∷ [])) ∷ []
left-more [] c = refl
left-more (x ∷ p) c = refl

behind_more : (p : List ℕ) (c : ℕ) (lines : List (List ℕ)) → behind (p ++ (c ∷ [])) lines ≡ behind p (onto_first c lines)
behind_more p c [] = left-more p c
behind_more p c (line ∷ lines) = ap (λ (k : List ℕ). k ∷ lines) (append_assoc p (c ∷ []) line)

-- Cutting once more changes nothing.
cut_again : (p : List ℕ) (c : ℕ) → take 8197 (take 8197 p ++ (c ∷ [])) ≡ take 8197 (p ++ (c ∷ []))
cut_again p c = go (leb (length p) 8197) refl
  where
    go : (b : Bool) → leb (length p) 8197 ≡ b → take 8197 (take 8197 p ++ (c ∷ [])) ≡ take 8197 (p ++ (c ∷ []))
    go true e = ap (λ (k : List ℕ). take 8197 (k ++ (c ∷ []))) (take_all 8197 p (leb-true (length p) 8197 e))
    go false e =
        let h = leb-false (length p) 8197 e in
        let n = length-take 8197 p in
        take-append-le 8197 (take 8197 p) (c ∷ []) (omega arith) ∙ take-take 8197 8197 p (omega arith) ∙ sym (take-append-le 8197 p (c ∷ []) (omega arith))

-- What is said of an input, from a bench that keeps what has come of p.
ends : (l p : List ℕ) → last_to l (take 8197 p) ≡ answers l (what_left p)
unfolding answers
ends l [] = refl
ends l (c ∷ p) = ap (λ (t : Talked). t.text) (kept_same l (c ∷ p)) ∙ sym (append-nil (talk l (c ∷ p)).text)

said_all : (cs l p : List ℕ) →
    let b = bench l (take 8197 p) in
    saying b cs ++ last_to (hearing b cs).store (hearing b cs).line ≡ answers l (behind p (lines_of cs))
unfolding saying hearing answers
said_all [] l p = ends l p
said_all (c ∷ cs) l p = go (eqb c 10) (said_all cs (talk l (take 8197 p)).store []) (said_all cs l (p ++ (c ∷ [])))
  where
    b : Bench
    b = bench l (take 8197 p)

    go : (t : Bool) →
        let x = bench (talk l (take 8197 p)).store [] in
        let y = bench l (take 8197 (p ++ (c ∷ []))) in
        saying x cs ++ last_to (hearing x cs).store (hearing x cs).line ≡ answers (talk l (take 8197 p)).store (behind [] (lines_of cs))
        → saying y cs ++ last_to (hearing y cs).store (hearing y cs).line ≡ answers l (behind (p ++ (c ∷ [])) (lines_of cs))
        → let z = cond t x (bench l (take 8197 (take 8197 p ++ (c ∷ [])))) in
        cond t (talk l (take 8197 p)).text [] ++ saying z cs ++ last_to (hearing z cs).store (hearing z cs).line ≡ answers l (behind p (cond t ([] ∷ lines_of cs) (onto_first c (lines_of cs))))
    go true h k =
        let x = bench (talk l (take 8197 p)).store [] in
        let line = talk l (take 8197 p) in
        append_assoc line.text (saying x cs) (last_to (hearing x cs).store (hearing x cs).line) ∙
        ap (λ (rest : List ℕ). line.text ++ rest) (h ∙ ap (λ (ls : List (List ℕ)). answers line.store ls) (behind-none (lines_of cs))) ∙
        ap (λ (t : Talked). t.text ++ answers t.store (lines_of cs)) (kept_same l p ∙ ap (λ (q : List ℕ). talk l q) (sym (append-nil p)))
    go false h k =
        ap (λ (q : List ℕ). let z = bench l q in saying z cs ++ last_to (hearing z cs).store (hearing z cs).line) (cut_again p c) ∙
        k ∙
        ap (λ (ls : List (List ℕ)). answers l ls) (behind_more p c (lines_of cs))

-- Pieces, one after the other, are one.
pub saying-append : (b : Bench) (a z : List ℕ) → saying b (a ++ z) ≡ saying b a ++ saying (hearing b a) z
unfolding saying hearing
saying-append b [] z = refl
saying-append b (c ∷ a) z =
    ap (λ (k : List ℕ). said_to b c ++ k) (saying-append (heard b c) a z) ∙ sym (append_assoc (said_to b c) (saying (heard b c) a) (saying (hearing (heard b c) a) z))

pub hearing-append : (b : Bench) (a z : List ℕ) → hearing b (a ++ z) ≡ hearing (hearing b a) z
unfolding hearing
hearing-append b [] z = refl
hearing-append b (c ∷ a) z = hearing-append (heard b c) a z

pieces-heard : (b : Bench) (pieces : List (List ℕ)) → (hearing_all b pieces ≡ hearing b (joined pieces)) × (saying_all b pieces ≡ saying b (joined pieces))
unfolding saying hearing
pieces-heard b [] = (refl, refl)
pieces-heard b (piece ∷ pieces) =
    let rest = pieces-heard (hearing b piece) pieces in (
      rest.0 ∙ sym (hearing-append b piece (joined pieces)),
      ap (λ (k : List ℕ). saying b piece ++ k) rest.1 ∙ sym (saying-append b piece (joined pieces)),
    )

pub any-pieces : (l : List ℕ) (pieces : List (List ℕ)) → store_ok l ≡ true →
    let b = hearing_all (bench l []) pieces in
    saying_all (bench l []) pieces ++ last_to b.store b.line ≡ output l (joined pieces)
unfolding output
any-pieces l pieces ok =
    let h = pieces-heard (bench l []) pieces in
    (λ j. h.1 j ++ last_to (h.0 j).store (h.0 j).line) ∙
    said_all (joined pieces) l [] ∙
    ap (λ (ls : List (List ℕ)). answers l ls) (behind-none (lines_of (joined pieces))) ∙
    sym (rw ok refl)

pub hearing-holds : Hearing
hearing-holds = record { any-pieces = any-pieces }

-- What is left of a line is answered where there is something.
pub last-said : (l line : List ℕ) → 1 ≤ length line → (talk l line).text ≡ last_to l line
last-said l [] h = absurd (omega arith)
last-said l (c ∷ cs) h = refl

pub none-left : (l line : List ℕ) → length line ≡ 0 → [] ≡ last_to l line
none-left l [] h = refl
none-left l (c ∷ cs) h = absurd (omega arith)

-- Of an input in one piece.
pub all-spoken : (l input : List ℕ) → store_ok l ≡ true → spoken l input ≡ output l input
unfolding saying hearing
all-spoken l input ok =
    let h = any-pieces l (input ∷ []) ok in
    let one = append-nil input in
    ap (λ (k : List ℕ). k ++ last_to (hearing (bench l []) input).store (hearing (bench l []) input).line) (sym (append-nil (saying (bench l []) input))) ∙
    h ∙ ap (λ (k : List ℕ). output l k) one

-- Where the store is none there is one line, whatever the input.
pub no-store : (l input : List ℕ) → store_ok l ≡ false → ascii "badstore" ++ newline ≡ output l input
unfolding output
no-store l input bad = sym (rw bad refl)
