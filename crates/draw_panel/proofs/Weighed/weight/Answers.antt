-- The three cases of W, by the code's two tests.
use native.Mathlib.Omega.{arith}
use native.Mathlib.Nat.{mul-le-mul}
use Rattle.rules.specs.Limits.{most_turnover, most_panel}
use Rattle.rules.specs.TakeAll.{turnover}
use Rattle.selection.proofs.Sums.{place_le}
use Rattle.draw_panel.proofs.Weighed.weight.Goals as goal

pub overflow_mul-result : goal.overflow_mul-result
overflow_mul-result c = let t = turnover c.args.self.now.turnovers.now c.args.i in
    let low = place_le c.args.self.now.turnovers.now c.args.i c.requires in
    omega (arith, mul-le-mul {n₁ = c.args.self.now.setting.n} {m₁ = t} {n₂ = most_panel} {m₂ = most_turnover} c.args.self.now.weighable.size_low (omega (arith, low, c.args.self.now.weighable.total)))
