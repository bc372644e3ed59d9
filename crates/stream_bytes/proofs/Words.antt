-- The word at the front of a part (document 02, [3]), and a number of eight bytes as two such words.
use Prim.Native.Nat.{ℕ, ◌+◌, ◌*◌, ◌-◌, ◌≤◌, ◌<◌}
use mathlib.Core.Path.{◌≡◌, refl, sym, ap, ◌∙◌}
use mathlib.Core.List.{List}
use lib.ListN.{length, take, drop, length-take, length-drop}
use native.Mathlib.Omega.{arith}
use borrow.Author.Tests.{lt-ltb, le-ltb}
use Rattle.rules.specs.Refusals.{Judged, refuse}
use Rattle.rules.specs.Stream.{big_endian}
use Rattle.rules.specs.Word.{word_refusal, word_of}
use Rattle.std.proofs.Common.{Result, Ok, Err}
use Rattle.refusals.specs.declared.Refusal.{Refusal}
use Rattle.refusals.specs.Number.{number_of}
use Rattle.refusals.proofs.Numbers.{not_none}
use Rattle.stream_bytes.specs.Answer.{answer_from}
use Rattle.rules.proofs.Refusals.{given_tells, refused_tells}
use Rattle.stream_bytes.proofs.Joined.{join, at_front, at_most}

pub word_refused : (part : List ℕ) → length part < 4 → Judged.refused 17 ≡ word_of part
unfolding word_of word_refusal refuse
word_refused part h = rw (lt-ltb (length part) 4 h)

pub word_given : (part : List ℕ) → 4 ≤ length part → Judged.given (big_endian 4 part 0) ≡ word_of part
unfolding word_of word_refusal refuse
word_given part h = rw (le-ltb (length part) 4 h)

-- an answer that is a word is the number that the first four bytes make
word_tells : (part : List ℕ) (word : ℕ) → Judged.given word ≡ word_of part → word ≡ big_endian 4 part 0
unfolding word_of
word_tells part word e = (given_tells (word_refusal part) (big_endian 4 part 0) word e).1

-- the four bytes from i on, as `&s[i..i + 4]` gives them, are the word that stands at i
pub word_from : (s : List ℕ) (i : ℕ) → i + 3 < length s → Judged.given (big_endian 4 s i) ≡ word_of (take (i + 4 - i) (drop i s))
word_from s i h =
    let four : 4 ≤ i + 4 - i = omega arith in
    let room : 4 ≤ length (take (i + 4 - i) (drop i s)) = omega (arith, length-drop i s, length-take (i + 4 - i) (drop i s)) in
    rw (sym (at_front 4 s i), sym (at_most 4 (i + 4 - i) (drop i s) four)) (word_given (take (i + 4 - i) (drop i s)) room)

-- THEOREM: "A turnover is two such words, the upper first, and equals the number that its eight bytes make."
pub two_such_words :
    (s : List ℕ) (i upper lower : ℕ) → Judged.given upper ≡ word_of (drop i s) → Judged.given lower ≡ word_of (drop (i + 4) s)
    → upper * 4294967296 + lower ≡ big_endian 8 s i
two_such_words s i upper lower first second =
    let high = word_tells (drop i s) upper first ∙ at_front 4 s i in
    let low = word_tells (drop (i + 4) s) lower second ∙ at_front 4 s (i + 4) in
    omega (arith, high, low, join 4 4 s i)

-- an answer that no refusal stops is the word
pub is_found : (r : Result ℕ Refusal) (word : ℕ) → answer_from r ≡ Judged.given word → r ≡ Ok word
is_found (Ok n) word e = ap Ok (given_tells 0 word n e).1
is_found (Err why) word e = absurd (not_none why 0 (refused_tells 0 (number_of why) word e) refl)
