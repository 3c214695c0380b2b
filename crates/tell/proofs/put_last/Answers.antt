-- `put_last` meets its contract: there is always room for a line.
use Rattle.std.specs.Prelude as code
use Rattle.std.specs.Option.{unwrap_or}
use Rattle.std.proofs.Common.{ℕ, ◌<◌, ◌≡◌, ◌∙◌, ap, arith, get_or, length, take}
use Rattle.rules.specs.Logs.{line_of}
use Rattle.log_line.proofs.Longest.{always-room, stands}
use Rattle.text.proofs.Adding.{appends, saying}
use Rattle.tell.proofs.put_last.Goals as goal

pub returns : goal.returns
returns c =
    let log = c.args.log.now in
    let bytes : (i : ℕ) → get_or log i 0 < 256 = λ i. omega (arith, c.type_inv.log i) in
    let room = always-room log bytes (omega arith) c.line_of.ensures in
    let long : c.unwrap_or-n.result ≡ length (line_of log) = c.unwrap_or-n.ensures ∙ ap (λ (w : code.Option ℕ). unwrap_or w 0) room in
    let line : take (length (line_of log)) c.line_of.new.line ≡ line_of log = stands log bytes (omega arith) c.line_of.ensures room in
    saying (c.part.ensures ∙ ap (λ (n : ℕ). take n c.line_of.new.line) long ∙ line) (appends c.append.ensures)
