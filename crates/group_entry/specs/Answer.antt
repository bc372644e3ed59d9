-- What `take_all` answers, in the words of `rules`.
use Rattle.std.specs.Prelude.{Result}
use Rattle.rules.specs.Refusals.{Judged}
use Rattle.rules.specs.TakeAll.{Taken}
use Rattle.refusals.specs.declared.Refusal.{Refusal}
use Rattle.refusals.specs.Number.{answer_of}
use Rattle.group.specs.declared.Group.{Group}

abbrev pub answer_from : Result Group Refusal → Judged Taken
answer_from = answer_of (λ g. record { size = g.q; sample_size = g.n; rest = g.rest })
