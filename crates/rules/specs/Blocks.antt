-- Document 01, "Cutting a download", as document 02's request Two has it.
use Rattle.std.specs.Prelude.{ℕ, ◌+◌, ◌-◌, ◌*◌, ◌%◌, List, [], ◌∷◌, leb, ltb, length, take, drop}
use Rattle.rules.specs.InOrder.{Check, unless}

-- What a request of N bytes carries behind its SID and its counter.
abbrev pub carried : ℕ → ℕ
carried n = n - 2

-- "block k carries bytes k·(N−2) up to (k+1)·(N−2) or the end"
unfoldable pub block : List ℕ → ℕ → ℕ → List ℕ
block bytes n k = take (carried n) (drop (k * carried n) bytes)

-- "Its counter starts at 1 and steps by one modulo 256, so 0 follows 255."
abbrev pub counter : ℕ → ℕ
counter k = (k + 1) % 256

-- 11: "N below 3"; 12: "no block of that number". "Order: 11, 12."
abbrev pub cuts : List ℕ → ℕ → ℕ → List (Check ℕ)
cuts bytes n k = unless (leb 3 n) 11 ∷ unless (ltb (k * carried n) (length bytes)) 12 ∷ []
