-- Document 01, "Total": the answer of the code as that of `rules`.
use Rattle.std.specs.Prelude.{ℕ, Result}
use Rattle.rules.specs.Refusals.{Judged}
use Rattle.refusals.specs.declared.Refusal.{Refusal}
use Rattle.refusals.specs.Number.{answer_of}

-- a refusal by its number
abbrev pub total_from : Result ℕ Refusal → Judged ℕ
total_from = answer_of (λ t. t)
