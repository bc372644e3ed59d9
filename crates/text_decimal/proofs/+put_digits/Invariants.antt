-- `put_digits` calls itself on n / 10, which is smaller.
use Rattle.text_decimal.proofs.+put_digits.Given as goal

abbrev pub decreases-put_digits : goal.decreases-put_digits
decreases-put_digits l = l.n
