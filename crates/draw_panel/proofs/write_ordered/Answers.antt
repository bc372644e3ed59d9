-- The keys in order, the marks, and the panel from them.
use mathlib.Core.Path.{ap, ◌∙◌}
use mathlib.Core.List.{List}
use Prim.Native.Nat.{ℕ, ◌≤◌}
use lib.ListN.{length}
use lib.Seq.{length-take-le}
use native.Mathlib.Omega.{arith}
use Rattle.rules.specs.Refusals.{written}
use Rattle.draw_panel.proofs.Sampled.{ranked_take, drawn_count, drawn_values, drawn_weights_lem}
use Rattle.draw_panel.proofs.write_ordered.Goals as goal

pub write_marked-requires : goal.write_marked-requires
write_marked-requires c =
    let k = c.args.keyed.now in
    let p = c.requires.markable in
    let room : k.setting.n ≤ length c.sampled_units.new.units = omega (arith, c.sampled_units.auto.units, k.units.size_low) in
    let ranked = ranked_take room c.sampled_units.ensures.in_key_order in
    let size = length-take-le k.setting.n c.sampled_units.new.units room in
    let many = drawn_count k.units p.1 size ranked c.mark.ensures in
    (omega (arith, many, c.requires.numbers_len.1), omega (arith, many, c.requires.numbers_len.2))

pub returns-clause-panel_after : goal.returns-clause-panel_after
returns-clause-panel_after c =
    let k = c.args.keyed.now in
    let p = c.requires.markable in
    let room : k.setting.n ≤ length c.sampled_units.new.units = omega (arith, c.sampled_units.auto.units, k.units.size_low) in
    let ranked = ranked_take room c.sampled_units.ensures.in_key_order in
    let size = length-take-le k.setting.n c.sampled_units.new.units room in
    c.write_marked.ensures.panel_after
    ∙ ap (λ (xs : List ℕ). written 0 xs c.args.panel.now) (drawn_values k.units p.1 size ranked c.mark.ensures _)

pub returns-clause-weights_after : goal.returns-clause-weights_after
returns-clause-weights_after c =
    let k = c.args.keyed.now in
    let p = c.requires.markable in
    let room : k.setting.n ≤ length c.sampled_units.new.units = omega (arith, c.sampled_units.auto.units, k.units.size_low) in
    let ranked = ranked_take room c.sampled_units.ensures.in_key_order in
    let size = length-take-le k.setting.n c.sampled_units.new.units room in
    c.write_marked.ensures.weights_after
    ∙ ap (λ (xs : List ℕ). written 0 xs c.args.weights.now) (drawn_weights_lem k.units p.1 size ranked c.mark.ensures)
