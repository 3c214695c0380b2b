-- What `tell` answers and leaves: the story at the buffer's front; or the buffer is too short for every story, and stays as it was.
use Rattle.std.specs.Prelude as code
use Rattle.std.specs.Prelude.{Some, None}
use Rattle.std.specs.Prelude.{ℕ, cond, List, ◌++◌, ◌≡◌, leb, length, drop}
use Rattle.telling.specs.Telling.{story}

pub record Tells (l before : List ℕ) (r : code.Option ℕ) (after : List ℕ) : Type 0 where
  pub answer : r ≡ cond (leb 163840 (length before)) (Some (length (story l))) None
  pub text : after ≡ cond (leb 163840 (length before)) (story l ++ drop (length (story l)) before) before
