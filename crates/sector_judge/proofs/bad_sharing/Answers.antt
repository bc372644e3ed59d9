-- The tests of 31 one after the other, as the definition has them.
use Rattle.std.proofs.Common.{rules}
use Rattle.rules.specs.Limits.{lowest_strength, highest_strength}
use Rattle.rules.specs.Tests.{◌or◌}
use Rattle.rules.specs.Allocation.{bad_sharing}
use Rattle.sector_judge.proofs.Strengths.{outside_as}
use Rattle.sector_judge.proofs.bad_sharing.Goals as goal

pub returns-then-sharing-gt-MOST_INTERVIEWS : goal.returns-then-sharing-gt-MOST_INTERVIEWS
unfolding bad_sharing ◌or◌
returns-then-sharing-gt-MOST_INTERVIEWS c = search (rules, outside_as lowest_strength highest_strength c.args.sharing.now.strengths.now)

pub returns-else-sharing-gt-MOST_INTERVIEWS : goal.returns-else-sharing-gt-MOST_INTERVIEWS
unfolding bad_sharing ◌or◌
returns-else-sharing-gt-MOST_INTERVIEWS c = search (rules, outside_as lowest_strength highest_strength c.args.sharing.now.strengths.now)
