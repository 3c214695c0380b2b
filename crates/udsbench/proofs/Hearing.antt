-- A piece that is heard byte by byte.
use Rattle.std.proofs.Common.{◌≡◌, ℕ, ◌+◌, ◌<◌, List, [], ◌∷◌, ◌++◌, length, get_or, take, refl, sym, ap, ◌∙◌, add-one, append_assoc, append-nil}
use lib.Seq.{take-suc}
use Rattle.udsbench.specs.Hearing.{Bench, heard, hearing, said_to, saying}

-- One byte behind those that were heard.
hearing-next : (b : Bench) (a : List ℕ) (c : ℕ) → hearing b (a ++ (c ∷ [])) ≡ heard (hearing b a) c
unfolding hearing
hearing-next b [] c = refl
hearing-next b (x ∷ a) c = hearing-next (heard b x) a c

-- What is said of that byte stands behind what was said.
saying-next : (b : Bench) (a : List ℕ) (c : ℕ) → saying b (a ++ (c ∷ [])) ≡ saying b a ++ said_to (hearing b a) c
unfolding saying hearing
saying-next b [] c = append-nil (said_to b c)
saying-next b (x ∷ a) c =
    ap (λ (k : List ℕ). said_to b x ++ k) (saying-next (heard b x) a c) ∙
    sym (append_assoc (said_to b x) (saying (heard b x) a) (said_to (hearing (heard b x) a) c))

module _ (b : Bench) (input : List ℕ) (i : ℕ) {now : Bench} (h : i < length input) (e : now ≡ hearing b (take i input)) where
  more : take (i + 1) input ≡ take i input ++ (get_or input i 0 ∷ [])
  more = rw add-one (take-suc input i 0 h)

  pub heard-more : {after : Bench} → after ≡ heard now (get_or input i 0) → after ≡ hearing b (take (i + 1) input)
  heard-more s = rw (more, hearing-next b (take i input) (get_or input i 0), ← e) s

  pub said-more : saying b (take i input) ++ said_to now (get_or input i 0) ≡ saying b (take (i + 1) input)
  said-more = rw (more, saying-next b (take i input) (get_or input i 0), ← e)
