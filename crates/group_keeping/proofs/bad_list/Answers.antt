-- `bad_list` meets its contract: its two tests are the definition's.
use borrow.Author.Tests.{lt-ltb, le-ltb}
use Rattle.rules.specs.Tests.{◌or◌}
use Rattle.rules.specs.Kept.{bad_list}
use Rattle.group_keeping.proofs.bad_list.Goals as goal

pub returns-then-list-gt-MOST_PANEL : goal.returns-then-list-gt-MOST_PANEL
unfolding bad_list ◌or◌
returns-then-list-gt-MOST_PANEL c = rw (lt-ltb _ _ c.if-list-gt-MOST_PANEL.true)

pub returns-else-list-gt-MOST_PANEL : goal.returns-else-list-gt-MOST_PANEL
unfolding bad_list ◌or◌
returns-else-list-gt-MOST_PANEL c = rw (le-ltb _ _ c.if-list-gt-MOST_PANEL.false, c.rising.ensures)
