-- The answer of a log, as `rules` says it.
use Rattle.std.specs.Prelude.{ℕ, true, false, ◌≡◌, List, Option, Some, None}
use Rattle.rules.specs.Logs.{header_of, reply_bytes, layout_ok, answer_of}
use Rattle.exchange.specs.Places.{Answers}
use Rattle.logs.specs.Layout.{said}
use Rattle.exchange.specs.declared.types.Answer.{Answer}
use Rattle.logs.specs.declared.header.Header.{Header}

-- The layout is sound, and the call of the log answers this out of its reply bytes; or it is "any other layout".
abbrev pub AnsweredIn : List ℕ → Option (Header × Answer) → Type 0
AnsweredIn l (Some (h, x)) = (layout_ok l ≡ true) × (said h ≡ header_of l) × Answers (reply_bytes (header_of l) l) x (answer_of l)
AnsweredIn l None = layout_ok l ≡ false
