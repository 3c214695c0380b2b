-- What `put_line` writes is the line of document 01; and how long a line can be.
use Prim.Native.Nat.{ℕ, ◌+◌, ◌≤◌, ◌<◌}
use native.Mathlib.Omega.{arith}
use mathlib.Core.List.{List, []}
use mathlib.Core.Path.{◌≡◌, refl}
use lib.ListN.{length}
use Rattle.rules.specs.Answers.{Answer}
use Rattle.rules.specs.Lines.{ascii, word, detail, decimal_to, line, badlog}
use Rattle.text.specs.Written.{text, shown}
use Rattle.text.proofs.Numerals.{digits, text-length}

pub line-text : (x : Answer) → line x ≡ text (ascii (word x.outcome)) x.time x.events x.notices (detail x.outcome x.reply.bytes)
unfolding line text
line-text x = refl

pub badlog-text : badlog ≡ text (ascii "badlog") 0 0 0 []
unfolding text decimal_to
badlog-text = refl

-- A deviation's word has 9 letters, and its number and reply have at most 4,096 bytes: 9 + 8,192 is 8,201, and no other outcome has more.
pub longest : (w d : List ℕ) (t e n : ℕ) → length w + shown (length d) ≤ 8201 → t < 10000000000 → e < 1000 → n < 1000 → length (text w t e n d) ≤ 8222
longest w d t e n h ht he hn =
    omega (arith, text-length w d t e n refl refl refl refl, digits 19 9 t ht, digits 19 2 e he, digits 19 2 n hn)
