-- A panel laid at the front, where the buffer has room for the longest line of each unit.
use native.Mathlib.Omega.{arith}
use borrow.Author.Rules.{rules}
use Rattle.text_lines.proofs.Room.{at_front, no_room}
use Rattle.text_lines.proofs.panel_lines.Goals as goal

pub returns-then-out-numbers : goal.returns-then-out-numbers
returns-then-out-numbers c = no_room _ _ _ (omega arith)

pub returns : goal.returns
returns c = at_front _ _ _ (omega arith) c.put_panel.ensures.put (search rules)
