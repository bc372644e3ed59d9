-- Document 01, "Job stream": what a stream prints, laid into a lent buffer. 6: "a result buffer shorter than" what it is to take.
use Rattle.std.specs.Prelude.{ℕ, ◌+◌, ◌≤◌, ◌≡◌, cond, List, length, ltb, Result}
use Rattle.rules.specs.Refusals.{Judged, refuse, judged, written}
use Rattle.rules.specs.Job.{output}
use Rattle.refusals.specs.Number.{answer_of}
use Rattle.refusals.specs.declared.Refusal.{Refusal}
use Rattle.text_decimal.specs.Put.{laid_at}

unfoldable pub print_refusal : List ℕ → List ℕ → ℕ
print_refusal stream out = refuse (ltb (length out) (length (output stream))) 6

-- the bytes of the text where it is laid; a refusal answers its number alone
unfoldable pub print_answer : List ℕ → List ℕ → Judged ℕ
print_answer stream out = judged (print_refusal stream out) (length (output stream))

-- the buffer afterwards
unfoldable pub printed_on : List ℕ → List ℕ → List ℕ
printed_on stream out = written (print_refusal stream out) (output stream) out

-- the code's answer, a refusal by its number
abbrev pub answer_from : Result ℕ Refusal → Judged ℕ
answer_from = answer_of (λ bytes. bytes)

-- the buffer with a part of the text from the place at on; it stays where the part has no room
unfoldable pub fitted : ℕ → List ℕ → List ℕ → List ℕ
fitted at part out = cond (ltb (length out) (at + length part)) out (laid_at at part out)

-- what a pass over the stream leaves: the bytes of its text, and the text in a buffer that has room for it
pub record Passed (stream before after : List ℕ) (bytes : ℕ) : Type 0 where
  pub count : bytes ≡ length (output stream)
  pub text : length (output stream) ≤ length before → after ≡ written 0 (output stream) before
