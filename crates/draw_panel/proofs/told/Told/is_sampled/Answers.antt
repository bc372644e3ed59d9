-- By the bound or by the last sampled unit; a unit without a key is not sampled.
use mathlib.Core.Path.{refl, sym, subst, ◌∙◌}
use borrow.Author.Tests.{not-true, not-false}
use Rattle.draw_key.specs.Keyed.{over}
use Rattle.draw_key.proofs.Keys.{sampled_keyless}
use Rattle.draw_list.proofs.Within.{within_sampled}
use Rattle.draw_panel.specs.declared.told.Told.{Told}
use Rattle.draw_panel.specs.Telling.{Tells}
use Rattle.draw_panel.proofs.told.Told.is_sampled.Goals as goal

pub returns-else-has_key : goal.returns-else-has_key
returns-else-has_key c =
    c.if-has_key.false ∙ sym (sampled_keyless _ _ _ c.args.keyed.now.setting _ (not-false _ (sym c.has_key.ensures ∙ c.if-has_key.false)))

pub returns-then-has_key : goal.returns-then-has_key
returns-then-has_key c =
    let bounds = subst (λ (t : Told). over Tells c.args.keyed.now t) c.in-Within.is c.requires.0 in
    let keyed = not-true _ (sym c.has_key.ensures ∙ c.if-has_key.true) in
    c.is_within.ensures ∙ within_sampled c.args.keyed.now.units refl bounds _ c.requires.1 keyed
