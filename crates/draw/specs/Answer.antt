-- What the draws answer, in the words of `rules`.
use Rattle.std.specs.Prelude.{Result}
use Rattle.rules.specs.Refusals.{Judged}
use Rattle.rules.specs.Draw as rules
use Rattle.refusals.specs.declared.Refusal.{Refusal}
use Rattle.refusals.specs.Number.{answer_of}
use Rattle.draw.specs.declared.Drawn.{Drawn}

abbrev pub answer_from : Result Drawn Refusal → Judged rules.Drawn
answer_from = answer_of (λ (d : Drawn). record { sample_size = d.n; rest = d.rest })
