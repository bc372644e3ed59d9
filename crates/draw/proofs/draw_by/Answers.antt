-- `draw_by` meets its contract: it is the draw with no lists.
use mathlib.Core.Path.{◌∙◌}
use Rattle.draw.proofs.NoLists.{answer_same, numbers_same, weights_same}
use Rattle.draw.proofs.draw_by.Goals as goal

pub returns-clause-result_value : goal.returns-clause-result_value
returns-clause-result_value c = c.draw_kept.ensures.result_value ∙ rw c.none.ensures (answer_same _ _ _ _ _)

pub returns-clause-panel_after : goal.returns-clause-panel_after
returns-clause-panel_after c = c.draw_kept.ensures.panel_after ∙ rw c.none.ensures (numbers_same _ _ _ _ _ _)

pub returns-clause-weights_after : goal.returns-clause-weights_after
returns-clause-weights_after c = c.draw_kept.ensures.weights_after ∙ rw c.none.ensures (weights_same _ _ _ _ _ _)
