-- The row of a good line; for a bad one the row that `row_or` names.
use mathlib.Core.Path.{◌≡◌, refl, ap, ◌∙◌}
use Prim.Native.Nat.{ℕ}
use Rattle.std.specs.Prelude.{Option, Some, None}
use Rattle.std.specs.Option.{unwrap_or}
use Rattle.rules.specs.Register.{Line as RulesLine, row_or, row_at}
use Rattle.frame_lines.specs.declared.Row.{Row}
use Rattle.frame_lines.specs.Value.{row_from, line_from}
use Rattle.frame_lines.proofs.read_row.Goals as goal

row_given : (line : Option Row) (other : Row) (at : ℕ) → row_from other ≡ row_or at RulesLine.bad → row_from (unwrap_or line other) ≡ row_or at (line_from line)
row_given None other at e = e
row_given (Some r) other at e = refl

pub returns : goal.returns
unfolding row_at
returns c = ap row_from c.unwrap_or.ensures ∙ row_given c.read_line.result _ c.args.at refl ∙ ap (row_or c.args.at) c.read_line.ensures
