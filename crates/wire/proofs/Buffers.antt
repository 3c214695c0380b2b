-- A copy that fits, one that does not, and that there is one way to be either.
use Prim.Native.Nat.{ℕ, ◌+◌, ◌≤◌, ◌<◌}
use mathlib.Core.Bool.{Bool, true, false}
use mathlib.Core.Path.{◌≡◌, sym, ◌∙◌}
use mathlib.Core.List.{List}
use borrow.Author.Tests.{le-leb, lt-leb}
use lib.ListN.{length}
use lib.Seq.{paste, take-length}
use Rattle.wire.specs.Buffers.{Copied, with}

module _ (before : List ℕ) (at : ℕ) (source : List ℕ) where
  pub no_room : length before < at + length source → Copied before at source false before
  unfolding with
  no_room h =
      let no = lt-leb (at + length source) (length before) h in
      record { told = rw no; buffer = rw no }

  pub room : at + length source ≤ length before → Copied before at source true (paste before at source (length source))
  unfolding with
  room h =
      let yes = le-leb (at + length source) (length before) h in
      record { told = rw yes; buffer = rw (yes, take-length source) }

  pub unique : {d d' : Bool} {a a' : List ℕ} → Copied before at source d a → Copied before at source d' a' → (d ≡ d') × (a ≡ a')
  unique p q = (p.told ∙ sym q.told, p.buffer ∙ sym q.buffer)
