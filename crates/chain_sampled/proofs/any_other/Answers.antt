-- `any_other` asks marks and W in step, and only a mark that is not 0 lets the W be looked at.
use mathlib.Core.Path.{◌∙◌}
use Rattle.std.proofs.Common.{rules}
use Rattle.chain_sums.proofs.Pairs.{any_two}
use Rattle.chain_sampled.proofs.Turns.{sampled_other, any_sampled}
use Rattle.chain_sampled.proofs.any_other.Goals as goal

pub returns : goal.returns
returns c = any_two (sampled_other c.args.x) c.args.marks.now c.args.w.now c.any.new.self c.any.ensures.ran (search rules) (search rules) (λ x b q k. search rules)
    ∙ any_sampled c.args.x c.args.marks.now c.args.w.now
