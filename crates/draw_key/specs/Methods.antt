-- The two methods (document 02, [8]) as the code has them. A sequential Poisson key is r × X over 1,000,000 × turnover: r over turnover times a factor that
-- all keys of a draw have. So both keys are one fraction, of which the Pareto key takes n × turnover off X and r off 1,000,000, and the other nothing.
use Rattle.std.specs.Prelude.{ℕ, ◌-◌, ◌*◌}
use Rattle.rules.specs.Limits.{random_range}
use Rattle.rules.specs.Draw as rules
use Rattle.draw_key.specs.declared.Method.{Method}
use Rattle.draw_key.specs.declared.Method.TheVariants.{Pareto, SequentialPoisson}

-- the method of the definitions
abbrev pub method_of : Method → rules.Method
method_of Pareto = rules.Method.pareto
method_of SequentialPoisson = rules.Method.sequential_poisson

-- all of an amount, or nothing
unfoldable pub taken_off : Method → ℕ → ℕ
taken_off Pareto amount = amount
taken_off SequentialPoisson amount = 0

-- "(1,000,000 − r) × turnover", or 1,000,000 × turnover
unfoldable pub denominator_by : Method → ℕ → ℕ → ℕ
denominator_by m t r = (random_range - taken_off m r) * t
