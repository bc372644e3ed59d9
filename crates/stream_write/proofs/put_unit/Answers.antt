-- A word, two words and a word in turn.
use native.Mathlib.Omega.{arith}
use Rattle.text_decimal.proofs.Writing.{then}
use Rattle.stream_put.proofs.Halves.{after}
use Rattle.stream_write.proofs.put_unit.Goals as goal

pub put_two_words-requires : goal.put_two_words-requires
put_two_words-requires c = omega (arith, after 4 _ c.put_word.ensures)

pub put_word-requires-2 : goal.put_word-requires-2
put_word-requires-2 c = omega (arith, after 8 _ c.put_two_words.ensures, after 4 _ c.put_word.ensures)

pub returns : goal.returns
returns c = then c.put_word.ensures (then c.put_two_words.ensures c.put_word-2.ensures)
