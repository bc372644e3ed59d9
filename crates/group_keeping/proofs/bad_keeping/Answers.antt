-- `bad_keeping` meets its contract: its tests, asked one after the other, are the definition's.
use mathlib.Core.Path.{◌≡◌, sym, ◌∙◌}
use mathlib.Core.Bool.{Bool}
use lib.Dec.{eqb, ltb}
use Rattle.std.proofs.Common.{rules}
use Rattle.rules.specs.Limits.{threshold_scale}
use Rattle.rules.specs.Tests.{◌or◌}
use Rattle.rules.specs.Kept.{Keeping, bad_list, bad_keeping}
use Rattle.rules.proofs.Tests.{or_on, or_off}
use Rattle.group_keeping.specs.Keeping.{keeping_of}
use Rattle.group_keeping.proofs.bad_keeping.Goals as goal
use Rattle.group_keeping.proofs.bad_keeping.Goals.{then-not-contains, else-not-contains}

-- γ, and then the lists
both : (k : Keeping) (first : Bool) → first ≡ ((eqb k.threshold 0 or ltb threshold_scale k.threshold) or bad_list k.first)
    → (first or bad_list k.second) ≡ bad_keeping k
unfolding bad_keeping
both k first f = rw f

pub returns-then-bad_list : goal.returns-then-bad_list
unfolding ◌or◌
returns-then-bad_list c =
    let k = c.args.keeping.now in
    let first : c.if-not-contains.value ≡ ((eqb k.threshold 0 or ltb threshold_scale k.threshold) or bad_list k.first.now) =
    elim c.if-not-contains.branch [
      | then-not-contains w ↦ search rules
      | else-not-contains w ↦ search rules
    ] in
    c.if-bad_list.true ∙ sym (or_on _ _ c.if-bad_list.true) ∙ both (keeping_of k) _ first

pub returns-else-bad_list : goal.returns-else-bad_list
unfolding ◌or◌
returns-else-bad_list c =
    let k = c.args.keeping.now in
    let first : c.if-not-contains.value ≡ ((eqb k.threshold 0 or ltb threshold_scale k.threshold) or bad_list k.first.now) =
    elim c.if-not-contains.branch [
      | then-not-contains w ↦ search rules
      | else-not-contains w ↦ search rules
    ] in
    c.bad_list-else-bad_list.ensures ∙ sym (or_off _ _ c.if-bad_list.false) ∙ both (keeping_of k) _ first
