-- What is written is the line of what was read.
use Rattle.std.proofs.Common.{◌≡◌, ℕ, length, take, subst, ap, ◌∙◌, arith}
use Rattle.std.specs.Io.KnownBytes.{Appends}
use Rattle.rules.specs.Logs.{line_of}
use Rattle.streams.proofs.Ends.{on_ok, if_some}
use Rattle.udslog.proofs.print_line.Goals as goal

pub returns : goal.returns
returns g c =
    let long : length c.read_full.new.buf ≡ 65536 = omega (arith, c.read_full.auto.buf) in
    on_ok c.write_full.result
    (λ written.
    if_some (g.R.Read.remaining c.args.log.now)
    (λ bytes front.
    subst (Appends _ _)
    (c.part-2.ensures ∙ c.line_of-m.ensures ∙ ap line_of (c.part.ensures ∙ front ∙ ap (λ (k : ℕ). take k bytes) long))
    written)
    c.in_ok-n.ensures.front)
    c.write_full.ensures
