-- Document 01, "Job stream": the text of what a command says, and whether the stream goes on after it.
use Rattle.std.specs.Prelude.{Bool, true, false, List, ℕ}
use Rattle.rules.specs.Refusals.{Judged}
use Rattle.rules.specs.Lines.{refusal_line}
use Rattle.rules.specs.Job.{Saying, text_of}

-- "`R number offset` (of the refused command's first byte)", or what a command says that is not refused
abbrev pub text_at : Judged Saying → ℕ → List ℕ
text_at (Judged.refused n) offset = refusal_line n offset
text_at (Judged.given says) offset = text_of says

-- "… after which it stops"
abbrev pub continues : Judged Saying → Bool
continues (Judged.refused n) = false
continues (Judged.given says) = true
