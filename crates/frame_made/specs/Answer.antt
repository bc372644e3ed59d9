-- Document 02, [13]: what the code's answer is in the definitions of `rules`.
use Rattle.std.specs.Prelude.{ℕ, Result}
use Rattle.rules.specs.Refusals.{Judged}
use Rattle.refusals.specs.declared.Refusal.{Refusal}
use Rattle.refusals.specs.Number.{answer_of}

abbrev pub answer_from : Result ℕ Refusal → Judged ℕ
answer_from = answer_of (λ count. count)
