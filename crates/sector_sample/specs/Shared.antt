-- Document 02, [10]: what the code's answer is in the definitions of `rules`; after a refusal every place is 0.
use Rattle.std.specs.Prelude.{ℕ, List, Result, Ok, Err}
use Rattle.refusals.specs.declared.Refusal.{Refusal}
use Rattle.refusals.specs.Number.{number_of}
use Rattle.rules.specs.Allocation.{no_places}
use Rattle.sector_divide.specs.declared.Quotas.{Quotas}

-- the refusal's number, 0 for none
abbrev pub share_refusal : Result Quotas Refusal → ℕ
share_refusal (Ok quotas) = 0
share_refusal (Err why) = number_of why

abbrev pub counts_of : Result Quotas Refusal → List ℕ
counts_of (Ok quotas) = quotas.counts
counts_of (Err why) = no_places

abbrev pub wholes_of : Result Quotas Refusal → List ℕ
wholes_of (Ok quotas) = quotas.wholes
wholes_of (Err why) = no_places

abbrev pub remainders_of : Result Quotas Refusal → List ℕ
remainders_of (Ok quotas) = quotas.remainders
remainders_of (Err why) = no_places
