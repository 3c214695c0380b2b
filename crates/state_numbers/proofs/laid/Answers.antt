-- `state_numbers::laid` meets its contract: an array is its numbers, one by one.
use Rattle.std.proofs.Common.{rules, ◌≡◌, length, []}
use Rattle.state_numbers.proofs.Keeping.{listed-are}
use Rattle.state_numbers.proofs.laid.Goals as goal

pub returns : goal.returns
returns c =
    let nine : 9 ≡ length c.args.asked = search rules in
    let fifteen : 15 ≡ length c.args.answer = search rules in
    rw (
      c.copy_from_slice-3.ensures.after,
      c.copy_from_slice-2.ensures.after,
      c.copy_from_slice.ensures.after,
      listed-are 9 0 c.args.asked [] nine,
      listed-are 15 0 c.args.answer _ fifteen,
    )
