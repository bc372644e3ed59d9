-- A line laid at the front, where the buffer has room for the longest.
use mathlib.Core.Path.{sym}
use borrow.Author.Rules.{rules}
use Rattle.text_lines.proofs.Room.{line2_fits, at_front, no_room}
use Rattle.text_lines.proofs.refusal_line.Goals as goal

pub returns-then-out-lt-LINE_ROOM : goal.returns-then-out-lt-LINE_ROOM
returns-then-out-lt-LINE_ROOM c = no_room _ _ _ c.if-out-lt-LINE_ROOM.true

pub line2-requires : goal.line2-requires
line2-requires c = line2_fits _ _ _ _ _ c.if-out-lt-LINE_ROOM.false

pub returns : goal.returns
returns c = rw (sym c.from.ensures) (at_front _ _ _ c.if-out-lt-LINE_ROOM.false c.line2.ensures.put (search rules))
