-- The reply in the buffer, and the whole response.
use Rattle.std.specs.Prelude as code
use Rattle.std.specs.Prelude.{ℕ, cond, ◌≡◌, List, ◌++◌, leb, length, drop, Some, None, Result, Ok, Err}
use Rattle.wire.specs.declared.refusal.Refusal.{Refusal}
use Rattle.wire.specs.Refusing.{numbered}
use Rattle.bench.specs.Responder as bench
use Rattle.bench.specs.Responder.{replied, silent, refused, respond}

-- What the code answers: a reply's length, or none for silence; or a refusal.
abbrev pub Response : Type 0
Response = Result (code.Option ℕ) Refusal

-- The answer that a response is told by, its refusal by the number.
abbrev pub answer_to : bench.Response → Result (code.Option ℕ) ℕ
answer_to (replied r) = Ok (Some (length r))
answer_to silent = Ok None
answer_to (refused n) = Err n

-- A reply at the buffer's front, or refusal 13.
pub record Puts (bs before : List ℕ) (r : Response) (after : List ℕ) : Type 0 where
  pub answer : numbered r ≡ cond (leb (length bs) (length before)) (Ok (Some (length bs))) (Err 13)
  pub buffer : after ≡ cond (leb (length bs) (length before)) (bs ++ drop (length bs) before) before

-- The response to a request, what stands afterwards in the store, and in the buffer: those of the definition.
pub record Responds (l q before : List ℕ) (r : Response) (area after : List ℕ) : Type 0 where
  pub answer : numbered r ≡ answer_to (respond l q before).response
  pub store : area ≡ (respond l q before).store
  pub buffer : after ≡ (respond l q before).buffer
