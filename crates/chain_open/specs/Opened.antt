-- Document 01, "Chain record", open: the answer of the code as that of `rules`.
use Rattle.std.specs.Prelude.{ℕ, List, Result}
use Rattle.refusals.specs.Number.{answer_of}
use Rattle.refusals.specs.declared.Refusal.{Refusal}
use Rattle.rules.specs.Refusals.{Judged, judged}
use Rattle.rules.specs.Chain as rules
use Rattle.rules.specs.Chain.{open_weight_refusal, open_record}
use Rattle.chain.specs.declared.Chain.{Chain}
use Rattle.chain.specs.Record.{record_of}

-- the code's opening: the record where it is accepted, a refusal by its number alone
abbrev pub opening_of : Result Chain Refusal → Judged rules.Chain
opening_of = answer_of record_of

-- from the u alone: 21 and 22, or else the record
abbrev pub weighed_answer : List ℕ → List ℕ → List ℕ → ℕ → Judged rules.Chain
weighed_answer marks us rs start = judged (open_weight_refusal marks us rs) (open_record us rs start)
