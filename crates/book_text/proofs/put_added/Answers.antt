-- `put_added` meets its contract.
use native.Mathlib.Omega.{arith}
use Rattle.book_text.proofs.Texts.{inside, five-digits, twenty-digits, line-long}
use Rattle.bookkeeping.specs.Said.{counter_line}
use Rattle.text.proofs.Adding.{appends, both}
use Rattle.text.specs.Written.{counted}
use Rattle.rules.specs.Lines.{ascii, decimal, spaced}
use lib.ListN.{length, get_or, length-append}
use mathlib.Core.Path.{◌≡◌, ◌∙◌, ap}
use Rattle.std.specs.Option.{unwrap_or}
use mathlib.Core.List.{[], ◌∷◌, ◌++◌, append_assoc}
use Prim.Native.Nat.{◌≤◌}
use borrow.Author.Tests.{le-leb}
use Rattle.book_text.proofs.put_added.Goals as goal

pub returns : goal.returns
returns c =
    let x = c.args in
    let e = x.entry in
    let s = x.summary.now in
    let number = get_or s e.place 0 in
    let line = counter_line e.place number in
    let call = counted (ascii "added") e.call in
    let nth = counted [] e.number in
    let is : c.unwrap_or-counter.result ≡ number =
    c.unwrap_or-counter.ensures ∙ ap (λ o. unwrap_or o 0) c.copied.ensures ∙ c.get.ensures.lookup.4 (omega arith) 0
    in
    let all =
    both (both (both (appends c.put_counted-call.ensures) (appends c.put_counted-number.ensures)) (appends c.append-line.ensures))
    (rw is at c.put_counter.ensures)
    in
    let short : length (call ++ nth ++ (10 ∷ line)) ≤ 200 =
    omega (
      arith,
      length-append (call ++ nth) (10 ∷ line),
      length-append call nth,
      length-append (ascii "added") (spaced (decimal e.call)),
      five-digits e.call (omega arith),
      twenty-digits e.number (omega arith),
      line-long e.place number (λ some. omega (arith, inside s e.place some)) (omega (arith, c.type_inv.summary e.place)),
    )
    in
    rw (le-leb 200 (length x.text.now) (omega arith), le-leb (length s) 4176 (omega arith))
    ((rw (append_assoc (call ++ nth) (10 ∷ []) line) at all).put (omega (arith, short)))
