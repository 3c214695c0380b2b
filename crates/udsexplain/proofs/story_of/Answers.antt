-- `story_of` meets its contract: there is always room.
use Rattle.std.specs.Prelude as code
use Rattle.std.specs.Prelude.{Some}
use Rattle.std.specs.Option.{unwrap_or}
use Prim.Native.Nat.{ℕ}
use mathlib.Core.List.{◌++◌}
use mathlib.Core.Path.{◌≡◌, ◌∙◌, ap}
use borrow.Author.Tests.{le-leb}
use lib.ListN.{length, drop}
use lib.Seq.{take-append_seam}
use Rattle.telling.specs.Telling.{story}
use Rattle.udsexplain.proofs.story_of.Goals as goal

pub returns : goal.returns
returns c =
    let log = c.part.result.now in
    let all = story log in
    let before = c.args.text.now in
    let fits = le-leb 163840 (length before) c.requires in
    let room : c.tell.result ≡ Some (length all) = c.tell.ensures.answer ∙ rw fits in
    let whole : c.tell.new.text ≡ all ++ drop (length all) before = c.tell.ensures.text ∙ rw fits in
    rw (← c.part.ensures, c.unwrap_or.ensures ∙ ap (λ (w : code.Option ℕ). unwrap_or w 0) room, whole) (take-append_seam all (drop (length all) before))
