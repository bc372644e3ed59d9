-- The parts that are lent are the job's frame, so that the draw's answer is the one that `rules` asks.
use mathlib.Core.Path.{refl, sym}
use Rattle.job.proofs.Panels.{draw_refused, draw_accepted}
use Rattle.job.proofs.on_draw.Goals as goal

pub returns-in-Err : goal.returns-in-Err
returns-in-Err c =
    rw (sym c.from-z.ensures)
    (draw_refused c.args.job _ _ _ c.lent.ensures _ c.draw.ensures.result_value _ _ c.in-Err.is refl)

pub returns-in-Ok : goal.returns-in-Ok
returns-in-Ok c =
    rw (sym c.from-z.ensures)
    (draw_accepted c.args.job _ _ _ c.lent.ensures _ c.draw.ensures.result_value _ _ _ _ c.in-Ok.is
    c.draw.ensures.panel_after c.draw.ensures.weights_after c.hold_panel.ensures)
