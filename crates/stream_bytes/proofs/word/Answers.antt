-- Fewer than four bytes are refused; four make the word, the first the highest.
use native.Mathlib.Omega.{arith}
use mathlib.Core.Path.{◌≡◌, ap, ◌∙◌}
use Rattle.rules.specs.Refusals.{Judged}
use Rattle.rules.specs.Stream.{big_endian}
use Rattle.stream_bytes.proofs.Joined.{at_most}
use Rattle.stream_bytes.proofs.Words.{word_refused, word_given}
use Rattle.stream_bytes.proofs.word.Goals as goal

pub returns-in-Some : goal.returns-in-Some
unfolding big_endian
returns-in-Some c =
    let four = c.in-Some.ensures.cases in
    let here : c.from_be_bytes.result ≡ big_endian 4 c.in-Some.bytes.now 0 = omega (arith, c.from_be_bytes.ensures) in
    ap Judged.given (here ∙ ap (λ s. big_endian 4 s 0) four.same ∙ at_most 4 4 c.args.part.now (omega arith)) ∙ word_given c.args.part.now four.enough

pub returns-in-None : goal.returns-in-None
returns-in-None c = word_refused c.args.part.now c.in-None.ensures.cases
