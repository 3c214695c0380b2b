-- `command_of` meets its contract: where a word is none of those that are tried.
use Rattle.std.proofs.Common.{arith}
use Rattle.std.proofs.lemmas.Grind.{common_steps}
use Rattle.rules.specs.Lines.{ascii}
use Rattle.book_words.specs.Words.{command_of}
use Rattle.book_words.proofs.Commands.{another}
use Rattle.book_words.proofs.command_of.Goals as goal

pub returns-in_default : goal.returns-in_default
unfolding command_of
returns-in_default c =
    let new = another c.args.word.now _ (ascii "new") c.eq.ensures c.as_slice.ensures c.if-eq.false in
    rw (c.in-2-default.is-0, new) (grind (arith, common_steps))

pub returns-in_default-2 : goal.returns-in_default-2
unfolding command_of
returns-in_default-2 c =
    let add = another c.args.word.now _ (ascii "add") c.eq-then-this.ensures c.as_slice-then-this.ensures c.if-eq-2.false in
    let summary = another c.args.word.now _ (ascii "summary") c.eq-then-this-2.ensures c.as_slice-then-this-2.ensures c.if-eq-3.false in
    rw (c.in-3-true.is-0, c.in-3-true.is-1, add, summary)

pub returns-in_default-4 : goal.returns-in_default-4
unfolding command_of
returns-in_default-4 c =
    let find = another c.args.word.now _ (ascii "find") c.eq-then-this-2-2.ensures c.as_slice-then-this-2-2.ensures c.if-eq-4.false in
    rw (c.in-5-true.is-0, c.in-5-true.is-1, find)
