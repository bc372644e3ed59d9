-- What a caller in C gets: the refusal's number, 0 for none, and the three lists, 0 in every place after a refusal.
use Rattle.std.specs.Prelude.{Result}
use Rattle.refusals.specs.declared.Refusal.{Refusal}
use Rattle.sector_divide.specs.declared.Quotas.{Quotas}
use Rattle.sector_sample.specs.Shared.{share_refusal, counts_of, wholes_of, remainders_of}
use Rattle.rules.specs.Allocation.{Sharing, sample_refusal, sample_counts, sample_wholes, sample_remainders}
use Rattle.c_sample.specs.declared.Sample.{Sample}

abbrev pub sample_from : Sharing → Sample
sample_from a = record { refusal = sample_refusal a; counts = sample_counts a; wholes = sample_wholes a; remainders = sample_remainders a }

-- the same of what the code answers
abbrev pub shown_from : Result Quotas Refusal → Sample
shown_from answer = record { refusal = share_refusal answer; counts = counts_of answer; wholes = wholes_of answer; remainders = remainders_of answer }
