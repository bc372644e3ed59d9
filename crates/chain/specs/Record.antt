-- Document 01, "Chain record": the record, the calls and the answers of the code as those of `rules`.
use Rattle.std.specs.Prelude.{ℕ, List, Result}
use Rattle.refusals.specs.Number.{answer_of}
use Rattle.refusals.specs.declared.Refusal.{Refusal}
use Rattle.rules.specs.Refusals.{Judged}
use Rattle.rules.specs.Chain as rules
use Rattle.rules.specs.Chain.{Call}
use Rattle.chain_record.specs.Record.{record_with, numbers_of}
use Rattle.chain.specs.declared.Chain.{Chain}
use Rattle.chain.specs.declared.Kind.{Kind}
use Rattle.chain.specs.declared.Kind.TheVariants.{Quarter, Close}

-- the code's record, with every place of its array
abbrev pub record_of : Chain → rules.Chain
record_of c = record_with c.weights c.numbers

-- and back: the code's record of a record of `rules`
abbrev pub chain_from : rules.Chain → Chain
chain_from r = record { weights = r.weights; numbers = numbers_of r }

-- a call of this kind with these relatives
abbrev pub call_by : Kind → List ℕ → Call
call_by Quarter ps = Call.quarter ps
call_by Close ps = Call.close ps

-- the code's answer, a refusal by its number
abbrev pub answer_from : Result ℕ Refusal → Judged ℕ
answer_from = answer_of (λ f. f)
