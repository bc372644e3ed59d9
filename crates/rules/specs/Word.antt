-- Document 02, [3]: the 32-bit word at the front of a part of the stream.
use Rattle.std.specs.Prelude.{ℕ, List, length, ltb}
use Rattle.rules.specs.Refusals.{Judged, refuse, judged}
use Rattle.rules.specs.Stream.{big_endian}

-- "or 17 when fewer than four bytes are left"
unfoldable pub word_refusal : List ℕ → ℕ
word_refusal part = refuse (ltb (length part) 4) 17

-- "the 32-bit word at the front of a part, first byte highest"
unfoldable pub word_of : List ℕ → Judged ℕ
word_of part = judged (word_refusal part) (big_endian 4 part 0)
