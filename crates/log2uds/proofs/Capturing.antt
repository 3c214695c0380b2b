-- What goes to both streams where a call is given.
use Prim.Native.Nat.{ℕ, ◌+◌}
use native.Mathlib.Omega.{arith}
use mathlib.Core.List.{List, [], ◌++◌}
use mathlib.Core.Path.{◌≡◌, refl, ◌∙◌, ap₂}
use lib.ListN.{length, take, drop}
use lib.Seq.{take_at}
use borrow.Author.Tests.{le-leb}
use Rattle.rules.specs.Events.{plain, Entry, entries}
use Rattle.wire.specs.Buffers.{with}
use Rattle.captured.specs.Capture as Defined
use Rattle.captured.specs.Capture.{capture}
use Rattle.captured.specs.Answered.{Says, left, Inside, Captures}
use Rattle.captured.specs.declared.NoCapture.{NoCapture}
use Rattle.captured.specs.declared.NoCapture.TheVariants.{TooLong, NoCall}
use Rattle.imports.specs.Held.{written_of}
use Rattle.imports.specs.declared.ImportError.{ImportError}
use Rattle.imports.specs.declared.ImportError.TheVariants.{Line, Text}
use Rattle.std.specs.Prelude.{Result, Ok, Err}
use Rattle.imports.specs.declared.Told.{Told}
use Rattle.log2uds.specs.Streams.{shown, reported, noted, output, errors, log_shown, log_said}

-- A refusal goes to standard error alone.
pub refused-said : (call : List ℕ) (e : ImportError) (out log : List ℕ) {said : List ℕ} → said ≡ shown (written_of (Err e) [] []) →
    ([] ≡ log_shown call (written_of (Err e) out log)) × (said ≡ log_said call (written_of (Err e) out log))
refused-said call (Line r) out log h = (refl, h)
refused-said call (Text r) out log h = (refl, h)

-- What the answer of `capture` says of the streams.
never : {P : Type 0} → ◌≡◌ {A = ℕ} 0 1 → P
never e = absurd (omega arith)

module _ (call : List ℕ) (es : List Entry) (rs before after text : List ℕ) {r : Result ℕ NoCapture} (h : Captures call es rs before r after) where
  pub record Streams (out said : List ℕ) : Type 0 where
    pub shows : out ≡ output (capture call es rs)
    pub says : said ≡ errors text (capture call es rs)

  pub log-there : {n : ℕ} → r ≡ Ok n → Streams (take n after) text
  unfolding with
  log-there {n} e = go (capture call es rs) refl h.answer h.buffer h.inside
    where
      go : (c : Defined.Captured) → capture call es rs ≡ c → Says c r → after ≡ left c before → Inside c before → Streams (take n after) text
      go (Defined.log l) ec s b i =
          let end : length l ≡ n = cc in
          let fits = le-leb (0 + length l) (length before) (omega (arith, i)) in
          record {
            shows = rw (ec, b, fits) (take_at l (drop (0 + length l) before) n end);
            says = rw ec;
          }
      go Defined.too_long ec s b i = never (cc)
      go Defined.no_call ec s b i = never (cc)

  pub none-there : {said : List ℕ} → r ≡ Err TooLong → said ≡ errors text Defined.too_long → Streams [] said
  none-there {said} e k = go (capture call es rs) refl h.answer
    where
      go : (c : Defined.Captured) → capture call es rs ≡ c → Says c r → Streams [] said
      go (Defined.log l) ec s = never (cc)
      go Defined.too_long ec s = record { shows = rw ec; says = rw ec k }
      go Defined.no_call ec s = never (cc)

  pub no-call-there : r ≡ Err NoCall → Streams [] []
  no-call-there e = go (capture call es rs) refl h.answer
    where
      go : (c : Defined.Captured) → capture call es rs ≡ c → Says c r → Streams [] []
      go (Defined.log l) ec s = never (cc)
      go Defined.too_long ec s = never (cc)
      go Defined.no_call ec s = record { shows = rw ec; says = rw ec }

-- The lines, the events and the replies are those of the outcome.
pub of-lines : (call out log : List ℕ) (t : Told) {ls es rs x y : List ℕ} → ls ≡ take t.lines out →
    es ≡ take t.events log → rs ≡ take t.replies (drop 5120 log) → x ≡ output (capture call (entries plain es) rs) →
    y ≡ errors (noted ls ++ reported t.left_out) (capture call (entries plain es) rs) →
    (x ≡ log_shown call (written_of (Ok t) out log)) × (y ≡ log_said call (written_of (Ok t) out log))
of-lines call out log t l a b p q = (
  p ∙ ap₂ (λ (s u : List ℕ). output (capture call (entries plain s) u)) a b,
  q ∙ (λ i. errors (noted (l i) ++ reported t.left_out) (capture call (entries plain (a i)) (b i))),
)
