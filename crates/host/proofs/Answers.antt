-- From what the code was answered to the numbers of the door, beside a call.
use Prim.Native.Nat.{ℕ}
use mathlib.Core.Path.{◌≡◌, sym, ◌∙◌}
use mathlib.Core.List.{List}
use Rattle.host.specs.Beside.{Blocked, Replies}

-- At most one answer fits.
pub block-unique : {bytes before : List ℕ} {n k r r' : ℕ} {a a' : List ℕ} → Blocked bytes n k before r a → Blocked bytes n k before r' a' → (r ≡ r') × (a ≡ a')
block-unique k h = (k.refusal ∙ sym h.refusal, k.block ∙ sym h.block)

pub reply-unique : {l q before told : List ℕ} {r r' : ℕ} {s s' a a' t t' : List ℕ} → Replies l q before told r s a t → Replies l q before told r' s' a' t'
    → (r ≡ r') × (s ≡ s') × (a ≡ a') × (t ≡ t')
reply-unique k h = (k.refusal ∙ sym h.refusal, k.store ∙ sym h.store, k.buffer ∙ sym h.buffer, k.size ∙ sym h.size)
