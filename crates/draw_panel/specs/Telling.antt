-- What tells who is sampled under a start: a bound of the units without a key and n more, or the key of the last sampled unit.
use Rattle.std.specs.Prelude.{List, ℕ, ◌+◌, length}
use Rattle.rules.specs.Selection.{count}
use Rattle.draw_key.specs.declared.Setting.{Setting}
use Rattle.draw_key.specs.Units.{keyless}
use Rattle.draw_list.specs.Found.{Bounds}
use Rattle.draw_order.specs.Sampling.{LastOf}
use Rattle.draw_panel.specs.declared.told.Told.{Told}
use Rattle.draw_panel.specs.declared.told.Told.TheVariants.{Within, UpTo}

abbrev pub Tells : List ℕ → List ℕ → List ℕ → Setting → Told → Type 0
Tells ts rs gs s (Within b) = Bounds ts rs gs s (count (keyless gs) (length ts) + s.n) b
Tells ts rs gs s (UpTo last) = LastOf ts rs gs s last
