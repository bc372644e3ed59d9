-- `put_last_digits` calls itself at k − 1, which is smaller.
use Rattle.text_columns.proofs.+put_last_digits.Given as goal

abbrev pub decreases-put_last_digits : goal.decreases-put_last_digits
decreases-put_last_digits l = l.k
