-- Document 01, "Chain record": what the checking constructor of a relative answers.
use Rattle.std.specs.Prelude.{ℕ, ◌≡◌, Result, Ok, Err}
use Rattle.rules.specs.Limits.{lowest_relative, highest_relative}
use Rattle.rules.specs.Tests.{outside}
use Rattle.rules.specs.Refusals.{Judged, refuse, judged}
use Rattle.chain_relative.specs.declared.Relative.{Relative}
use Rattle.chain_relative.specs.declared.OutOfRange.{OutOfRange}

-- the code's answer: a relative by its value, and 13, "a relative out of range"
abbrev pub answer_from : Result Relative OutOfRange → Judged ℕ
answer_from (Ok p) = Judged.given p.0
answer_from (Err _) = Judged.refused 13

-- "hundred-thousandths, 25,000 to 400,000"
abbrev pub checked_answer : ℕ → Judged ℕ
checked_answer x = judged (refuse (outside lowest_relative highest_relative x) 13) x

-- the number x is checked, with this answer
abbrev pub Checks : ℕ → Result Relative OutOfRange → Type 0
Checks x r = answer_from r ≡ checked_answer x
