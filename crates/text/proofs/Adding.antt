-- Laws of adding: two texts, one behind the other, are one; nothing is added by nothing.
use Prim.Native.Nat.{ℕ, ◌+◌, ◌≤◌}
use native.Mathlib.Omega.{arith}
use mathlib.Core.List.{List, [], ◌++◌}
use mathlib.Core.Path.{◌≡◌, ◌∙◌, ap, subst}
use lib.ListN.{length, length-append, length-drop}
use lib.Seq.{length-take-le}
use Rattle.text.specs.Written.{Put, Appended, Adds, put}
use Rattle.text.proofs.Writing.{then, none, was-put}

put-long : {l m bs : List ℕ} {at n : ℕ} → n ≤ length l → Put l at bs m n → length m ≡ length l
unfolding put
put-long {l} {m} {bs} {at} {n} h p =
    let end = p.next in
    ap (λ (x : List ℕ). length x) p.line ∙ rw (length-append, length-append, length-drop, length-take-le at l (omega arith)) (omega arith)

pub appends : {bs l m : List ℕ} {at r : ℕ} → Appended bs l at r m → Adds bs l at r m
appends {bs} {l} {m} {at} a = record { put = λ room. was-put bs l at room a }

pub both : {a b l m o : List ℕ} {at n r : ℕ} → Adds a l at n m → Adds b m n r o → Adds (a ++ b) l at r o
both {a} {b} {l} {m} {o} {at} {n} {r} p q = record { put = λ room. go (simp length-append at room) }
  where
    go : at + (length a + length b) ≤ length l → Put l at (a ++ b) o r
    go room =
        let first = p.put (omega arith) in
        let end = first.next in
        let long = put-long (omega arith) first in
        then (omega arith) first (q.put (omega arith))

pub nothing : (l : List ℕ) (at : ℕ) → Adds [] l at at l
nothing l at = record { put = λ room. none l at }

-- The same text in other words.
pub saying : {a b l m : List ℕ} {at r : ℕ} → a ≡ b → Adds a l at r m → Adds b l at r m
saying {l = l} {m = m} {at = at} {r = r} e p = subst (λ (x : List ℕ). Adds x l at r m) e p
