-- `line_of` meets its contract: there is always room.
use Rattle.std.specs.Prelude as code
use Rattle.std.specs.Option.{unwrap_or}
use Rattle.std.proofs.Common.{ℕ, ◌<◌, get_or, ◌∙◌, ap, arith}
use Rattle.log_line.proofs.Longest.{always-room, stands}
use Rattle.udslog.proofs.line_of.Goals as goal

pub returns : goal.returns
returns c =
    let log = c.args.log.now in
    let bytes : (i : ℕ) → get_or log i 0 < 256 = λ i. omega (arith, c.type_inv.log i) in
    let room = always-room log bytes c.requires c.line_of.ensures in
    rw (c.unwrap_or.ensures ∙ ap (λ (w : code.Option ℕ). unwrap_or w 0) room) (stands log bytes c.requires c.line_of.ensures room)
