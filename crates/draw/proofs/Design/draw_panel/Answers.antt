-- The room is that of a small frame where the frame is one, and that of the largest where it is not.
use native.Mathlib.Omega.{arith}
use Rattle.draw.proofs.Accepted.{kept_accepted}
use Rattle.draw.proofs.Design.draw_panel.Goals as goal

pub draw_in-requires-2-clause-room : goal.draw_in-requires-2-clause-room
draw_in-requires-2-clause-room c =
    let few = (kept_accepted _ _ _ _ _ _ c.requires).drawn.frame_ok.units.few in
    (few, omega arith)
