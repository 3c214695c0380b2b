-- `summarize` meets its contract: the counters are zeros before the first log.
use Rattle.std.proofs.Common.{rules}
use Rattle.book_layout.specs.Left.{left}
use Rattle.book.proofs.Walks.{all_sound, from_zeros}
use Rattle.bookkeeping.proofs.Counting.{raised_all}
use Rattle.rules.specs.Logs.{layout_ok}
use Rattle.rules.specs.Bytes.{every}
use lib.ListN.{replicate}
use mathlib.Core.Path.{sym, ◌∙◌, ap, ap₂}
use Prim.Native.Nat.{ℕ}
use Rattle.book.proofs.summary.summarize.Goals as goal

pub loop-log-init : goal.loop-log-init
loop-log-init c =
    let b = c.args.book.now in
    let is = sym c.is_book.ensures ∙ c.if-not-is_book.false in
    let filled = c.fill.ensures.after (λ y e. search rules) ∙ ap (λ (n : ℕ). replicate n 0) c.if-summary-ne-COUNTERS.false in
    let all = ap left c.into_iter-log-iterator.ensures.into_iter_gives ∙ c.logs_in-log-items.ensures.all in
    (ap (every layout_ok) all ∙ all_sound b is, ap₂ raised_all filled all ∙ from_zeros b is)
