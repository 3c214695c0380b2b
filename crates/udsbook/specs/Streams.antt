-- What each command of `udsbook` writes to the two streams, of the book and the log that were read.
use Rattle.std.specs.Prelude as code
use Rattle.std.specs.Prelude.{Some, None}
use Rattle.std.specs.Prelude.{ℕ, List, [], ◌≡◌}
use Rattle.bookkeeping.specs.Layout.{book_of}
use Rattle.bookkeeping.specs.Book.{added_to, add, find, summary}
use Rattle.bookkeeping.specs.Said as Said
use Rattle.book_text.specs.Texts.{usage}
use Rattle.book_words.specs.declared.Command.{Command}
use Rattle.book_words.specs.declared.Command.TheVariants.{New, Add, Find, Summary}
use Rattle.udsbook.specs.declared.Ends.{Ends}

abbrev pub out_of : code.Option Command → List ℕ → List ℕ → List ℕ
out_of (Some New) b log = book_of []
out_of (Some Add) b log = Said.add_out b (add b log)
out_of (Some (Find c k)) b log = Said.out (find b c k)
out_of (Some Summary) b log = Said.summary_out (summary b)
out_of None b log = []

abbrev pub said_of : code.Option Command → List ℕ → List ℕ → List ℕ
said_of (Some New) b log = []
said_of (Some Add) b log = Said.add_said (added_to b log) (add b log)
said_of (Some (Find c k)) b log = Said.said (find b c k)
said_of (Some Summary) b log = Said.said (summary b)
said_of None b log = usage

pub record Answers (command : code.Option Command) (b log : List ℕ) (r : Ends) : Type 0 where
  pub out : r.out.now ≡ out_of command b log
  pub report : r.said.now ≡ said_of command b log
