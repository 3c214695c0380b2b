-- `log2uds::run_call` meets its contract.
use borrow.Author.Rules.{rules}
use Rattle.log2uds.proofs.run_call.Goals as goal

pub import_log-requires : goal.import_log-requires
import_log-requires c = (search rules, search rules)
