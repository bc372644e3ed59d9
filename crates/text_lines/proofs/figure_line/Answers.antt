-- A line laid at the front, where the buffer has room for the longest.
use borrow.Author.Rules.{rules}
use Rattle.text_lines.proofs.Room.{line_fits, at_front, no_room}
use Rattle.text_lines.proofs.figure_line.Goals as goal

pub returns-then-out-lt-LINE_ROOM : goal.returns-then-out-lt-LINE_ROOM
returns-then-out-lt-LINE_ROOM c = no_room _ _ _ c.if-out-lt-LINE_ROOM.true

pub line-requires : goal.line-requires
line-requires c = line_fits _ _ _ _ c.if-out-lt-LINE_ROOM.false

pub returns : goal.returns
returns c = at_front _ _ _ c.if-out-lt-LINE_ROOM.false c.line.ensures.put (search rules)
