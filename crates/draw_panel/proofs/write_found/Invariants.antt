-- After j listed units, those of them within the bound are written: k of them.
use lib.ListN.{length, get_or}
use Rattle.draw_list.specs.Found.{passing}
use Rattle.draw_panel.specs.Panel.{weight_by}
use Rattle.draw_panel.proofs.Writing.{Writing}
use Rattle.draw_panel.proofs.write_found.Given as goal

abbrev pub invariant-listed : goal.invariant-listed
invariant-listed l =
    Writing (passing l.found) (λ m. get_or l.w.numbers.now (get_or l.found.list.units m 0) 0)
    (λ m. weight_by l.w.turnovers.now l.w.marks.now l.w.setting (get_or l.found.list.units m 0))
    l.initial.panel l.initial.weights l.panel l.weights (length l.yielded) l.k
