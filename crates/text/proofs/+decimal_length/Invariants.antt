-- `text::decimal_length` meets its contract; the value falls with each call.
use Rattle.text.proofs.+decimal_length.Given as goal

abbrev pub decreases-decimal_length : goal.decreases-decimal_length
decreases-decimal_length l = l.value
