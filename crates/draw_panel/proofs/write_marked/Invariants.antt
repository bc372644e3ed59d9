-- After i units those of them that have a mark are written: k of them.
use lib.ListN.{get_or}
use Rattle.draw_panel.specs.Panel.{weight_by, any_mark}
use Rattle.draw_panel.proofs.Writing.{Writing}
use Rattle.draw_panel.proofs.write_marked.Given as goal

abbrev pub invariant-units : goal.invariant-units
invariant-units l =
    Writing (any_mark l.w.marks.now) (λ j. get_or l.w.numbers.now j 0) (weight_by l.w.turnovers.now l.w.marks.now l.w.setting)
    l.initial.panel l.initial.weights l.panel l.weights l.i l.k
