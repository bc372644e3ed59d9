-- What `rotate` answers, in the words of `rules`.
use Rattle.std.specs.Prelude.{Result}
use Rattle.rules.specs.Refusals.{Judged}
use Rattle.rules.specs.Rotation as rules
use Rattle.refusals.specs.declared.Refusal.{Refusal}
use Rattle.refusals.specs.Number.{answer_of}
use Rattle.rotation.specs.declared.Rotated.{Rotated}

abbrev pub answer_from : Result Rotated Refusal → Judged rules.Rotated
answer_from = answer_of (λ (r : Rotated). record { step = r.k; start = r.start; leaving = r.count })
