-- The offsets of a directory, written anew.
use Rattle.std.specs.Prelude.{ℕ, zero, suc, ◌+◌, List, ◌++◌, take, drop}
use Rattle.rules.specs.Bytes.{u16_at, four}

-- The first entries of the directory d, for logs of the lengths that it says, which follow each other from index `at` on.
abbrev pub moved : ℕ → ℕ → List ℕ → List ℕ
moved at zero d = d
moved at (suc n) d = take 4 d ++ (four at ++ moved (at + u16_at d 2) n (drop 8 d))
