-- `rotate_by` meets its contract: it is the rotation with no lists.
use mathlib.Core.Path.{◌∙◌}
use Rattle.rotation.proofs.NoLists.{answer_same, leavers_same}
use Rattle.rotation.proofs.rotate_by.Goals as goal

pub returns-clause-result_value : goal.returns-clause-result_value
returns-clause-result_value c = c.rotate_kept.ensures.result_value ∙ rw c.none.ensures (answer_same _ _ _ _ _ _ _ _)

pub returns-clause-leavers_after : goal.returns-clause-leavers_after
returns-clause-leavers_after c = c.rotate_kept.ensures.leavers_after ∙ rw c.none.ensures (leavers_same _ _ _ _ _ _ _ _)
