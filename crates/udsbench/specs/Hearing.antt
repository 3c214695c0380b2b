-- An input that comes piece by piece: the store as it stands, and what has come of a line. What is said of it is `output` of `bench`, however it is cut.
use Rattle.std.specs.Prelude.{ℕ, ◌≤◌, cond, Bool, true, false, ◌≡◌, List, [], ◌∷◌, ◌++◌, eqb, length, take}
use Rattle.bench.specs.Stores.{store_ok}
use Rattle.bench.specs.Talk.{talk, output}
use Rattle.udsbench.specs.declared.kept.Kept.{Kept}

pub record Bench : Type 0 where
  pub store : List ℕ
  pub line : List ℕ

abbrev pub bench : List ℕ → List ℕ → Bench
bench l line = record { store = l; line = line }

-- A byte: LF ends the line, and every other is put behind it, of which 8,197 bytes are kept.
abbrev pub heard : Bench → ℕ → Bench
heard b c = cond (eqb c 10) (bench (talk b.store b.line).store []) (bench b.store (take 8197 (b.line ++ (c ∷ []))))

unfoldable pub hearing : Bench → List ℕ → Bench
hearing b [] = b
hearing b (c ∷ cs) = hearing (heard b c) cs

-- What is said: the answer to each line as it ends, and in the end to what is left of one.
abbrev pub said_to : Bench → ℕ → List ℕ
said_to b c = cond (eqb c 10) (talk b.store b.line).text []

unfoldable pub saying : Bench → List ℕ → List ℕ
saying b [] = []
saying b (c ∷ cs) = said_to b c ++ saying (heard b c) cs

abbrev pub last_to : List ℕ → List ℕ → List ℕ
last_to l [] = []
last_to l (c ∷ cs) = (talk l (c ∷ cs)).text

-- Several pieces, one after the other.
abbrev pub hearing_all : Bench → List (List ℕ) → Bench
hearing_all b [] = b
hearing_all b (piece ∷ pieces) = hearing_all (hearing b piece) pieces

abbrev pub saying_all : Bench → List (List ℕ) → List ℕ
saying_all b [] = []
saying_all b (piece ∷ pieces) = saying b piece ++ saying_all (hearing b piece) pieces

abbrev pub joined : List (List ℕ) → List ℕ
joined [] = []
joined (piece ∷ pieces) = piece ++ joined pieces

-- The bench as the code has it.
abbrev pub line_in : Kept → List ℕ
line_in k = take k.len k.bytes

abbrev pub bench_of : List ℕ → Kept → Bench
bench_of store k = bench store (line_in k)

-- A piece of the input came and was heard; or none came, since it has ended, and all stays as it was.
abbrev pub Goes : Bench → List ℕ → Type 0 → Bool → Bench → Type 0
Goes b piece ended true after = (1 ≤ length piece) × (after ≡ hearing b piece)
Goes b piece ended false after = ended × (piece ≡ []) × (after ≡ b)

-- All that is said of an input: the answers to its lines, and in the end to what is left of one.
abbrev pub spoken : List ℕ → List ℕ → List ℕ
spoken l input = let b = hearing (bench l []) input in saying (bench l []) input ++ last_to b.store b.line

pub record Hearing : Type 0 where
  -- Whatever the pieces are that an input comes in, what is said of them is all that `udsbench` writes.
  pub any-pieces : (l : List ℕ) (pieces : List (List ℕ)) → store_ok l ≡ true →
      let b = hearing_all (bench l []) pieces in
      saying_all (bench l []) pieces ++ last_to b.store b.line ≡ output l (joined pieces)
