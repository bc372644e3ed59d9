-- Document 01, "Chain record", 22: a sum of weights that is looked at only where it is within the limit.
use Rattle.std.specs.Prelude.{ℕ, cond, Option, Some, None, ltb}
use Rattle.rules.specs.Limits.{most_weight}

-- none where the sum is over the limit
abbrev pub limited : ℕ → Option ℕ
limited s = cond (ltb most_weight s) None (Some s)
