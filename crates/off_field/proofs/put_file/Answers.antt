-- `off_field::put_file` meets its contract.
use Rattle.std.proofs.Common.{rules}
use Rattle.text.proofs.Adding.{appends, both}
use Rattle.off_field.proofs.put_file.Goals as goal

pub returns : goal.returns
returns c = search (rules, both, appends)
