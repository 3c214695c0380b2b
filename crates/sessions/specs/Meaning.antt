-- What a call hands out.
use Rattle.std.specs.Prelude.{ℕ, Bool, ◌≡◌, List, []}
use Rattle.rules.specs.Answers.{if_positive}
use Rattle.rules.specs.Calls as rules
use Rattle.rules.specs.Client as client
use Rattle.rules.specs.Settings.{Setting, Lent}
use Rattle.exchange.specs.Meaning.{outcome_of}
use Rattle.calls.specs.declared.Answered.{Answered}

-- The data that an answer hands out of the reply bytes; none where it is not positive.
abbrev pub handed_of : Answered → List ℕ → List ℕ
handed_of r replies = if_positive (outcome_of replies r.answer.outcome) (λ p. p.bytes) []

-- The call hands out these bytes, with this in the request buffer afterwards.
pub record HandsOut (strict : Bool) (w : Setting) (c : rules.Call) (l : Lent) (bytes : List ℕ) (buffer : List ℕ) : Type 0 where
  pub means : bytes ≡ if_positive (client.call strict w c l).answer.outcome (λ p. p.bytes) []
  pub wrote : buffer ≡ (client.call strict w c l).buffer
