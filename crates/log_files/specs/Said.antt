-- What is said of a file of logs on standard error: nothing where every log is whole, and a line for each thing that is off.
use Rattle.std.specs.Prelude.{ℕ, zero, suc, ◌+◌, cond, ◌&&◌, List, [], ◌∷◌, ◌++◌, leb, ltb, eqb, length}
use Rattle.rules.specs.Lines.{ascii, decimal, spaced}
use Rattle.log_files.specs.Files.{size, rest}

-- "cut N": the file ends inside log N, or inside the four bytes of its length.
abbrev pub cut_line : ℕ → List ℕ
cut_line n = ascii "cut" ++ spaced (decimal n) ++ (10 ∷ [])

-- "length N L": a length of L bytes stands in front of log N, and no log has more than 65,535.
abbrev pub length_line : ℕ → ℕ → List ℕ
length_line n l = ascii "length" ++ spaced (decimal n) ++ spaced (decimal l) ++ (10 ∷ [])

-- Of the length that stands in front of log n, once its four bytes are there.
abbrev pub length_said : ℕ → List ℕ → List ℕ
length_said n file = cond (leb 4 (length file) && ltb 65535 (size file)) (length_line n (size file)) []

-- Of at most k logs, the first of which is log n: first its length, and then, where the file ends inside of it, that it is cut.
unfoldable pub said_to : ℕ → ℕ → List ℕ → List ℕ
said_to zero n file = []
said_to (suc k) n file =
    cond (eqb (length file) 0) []
    (length_said n file ++ cond (leb (4 + size file) (length file)) (said_to k (suc n) (rest file)) (cut_line n))

-- Of a file that begins with log n.
unfoldable pub said_from : ℕ → List ℕ → List ℕ
said_from n file = said_to (length file) n file

-- Of a file: its first log is log 1.
abbrev pub said_of : List ℕ → List ℕ
said_of file = said_from 1 file
