-- The run of leading events, one event at a time.
use Prim.Native.Nat.{ℕ, ◌+◌, ◌-◌, ◌/◌, ◌≤◌, ◌<◌, min}
use native.Mathlib.Omega.{arith}
use mathlib.Core.Bool.{true, false}
use mathlib.Core.List.{List}
use mathlib.Core.Path.{◌≡◌, sym, ◌∙◌, ap}
use lib.ListN.{length, take}
use Rattle.rules.specs.Events.{Form, event_size, Entry, entry_at, entries_from, entries}
use Rattle.exchange.proofs.Entries.{next-entry, no-entry}
use Rattle.mending.specs.Mend.{goes_on, run}
use Rattle.mending.proofs.Runs.{take-from}

module _ (form : Form) (left : ℕ) (l : List ℕ) (n i t : ℕ) where
  -- i events, and those that follow behind time t.
  abbrev pub so_far : ℕ
  so_far = i + run t left (entries_from form l (n - i) i)

  pub goes_further : (e : Entry) → e ≡ entry_at form l i → i < n → goes_on t left e ≡ true → so_far ≡ i + 1 + run e.time left (entries_from form l (n - (i + 1)) (i + 1))
  goes_further e here h g = rw (next-entry form l n i e here h, g) (omega arith)

  pub ends-here : (e : Entry) → e ≡ entry_at form l i → i < n → goes_on t left e ≡ false → so_far ≡ i
  ends-here e here h g = rw (next-entry form l n i e here h, g) (omega arith)

  pub no_more : n ≤ i → so_far ≡ i
  no_more h = rw (no-entry form l n i h) (omega arith)

-- So many events are looked at as there are, at most 512.
pub of-first : (form : Form) (left : ℕ) (l : List ℕ) (n : ℕ) → n ≡ min 512 (length l / event_size form) → run 0 left (entries_from form l n 0) ≡ run 0 left (take 512 (entries form l))
of-first form left l n e =
    ap (run 0 left) (ap (λ (k : ℕ). entries_from form l k 0) e ∙ sym (take-from form l 512 (length l / event_size form) 0))
