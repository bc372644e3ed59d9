-- The bytes that std gives are those of the definition.
use Rattle.text_decimal.proofs.Writing.{says}
use Rattle.stream_put.proofs.Halves.{bytes_as}
use Rattle.stream_put.proofs.put_two_words.Goals as goal

pub returns : goal.returns
returns c = says (rw c.to_be_bytes-eight.ensures (bytes_as 8 c.args.x)) c.bytes.ensures
