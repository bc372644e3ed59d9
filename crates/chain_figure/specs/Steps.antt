-- Document 01, "Chain record": what quarter and close share.
use Rattle.std.specs.Prelude.{ℕ, List, Result}
use Rattle.refusals.specs.Number.{answer_of}
use Rattle.refusals.specs.declared.Refusal.{Refusal}
use Rattle.rules.specs.Refusals.{Judged, refuse, ◌then◌, judged}
use Rattle.rules.specs.Chain.{Chain, bad_index, call_input_refusal, figure_of}
use Rattle.chain_record.specs.declared.Numbers.{Numbers}
use Rattle.chain_record.specs.Record.{spent_by}

-- 19, 9 or 13, or else F
unfoldable pub reckoned_of : Chain → List ℕ → Judged ℕ
reckoned_of r ps = judged (call_input_refusal r ps) (figure_of r ps)

-- the code's answer, a refusal by its number
abbrev pub reckoned_from : Result ℕ Refusal → Judged ℕ
reckoned_from = answer_of (λ f. f)

-- 23 and 24 of a figure, on a record with these numbers
unfoldable pub late_refusal : ℕ → Numbers → ℕ
late_refusal f n = refuse (bad_index f) 23 then refuse (spent_by n) 24
