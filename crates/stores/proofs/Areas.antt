-- A part of a part is a part of the whole.
use Rattle.std.proofs.Common.{◌≡◌, ℕ, ◌+◌, ◌-◌, ◌≤◌, List, length, drop, arith}
use Rattle.std.proofs.lemmas.List.{length-take, drop-take, drop-drop, take-take}
use Rattle.rules.specs.Logs.{area}

pub area-area : (l : List ℕ) (at m o n : ℕ) → o + n ≤ length (area l at m) → area (area l at m) o n ≡ area l (at + o) n
area-area l at m o n h =
    let few : o + n ≤ m = omega (arith, length-take m (drop at l)) in
    let long : m ≡ o + (m - o) = omega arith in
    rw (long, drop-take, take-take n (m - o) (drop o (drop at l)) (omega arith), drop-drop)
