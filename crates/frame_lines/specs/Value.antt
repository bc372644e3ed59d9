-- Document 02, [14]: what the code's values are in the definitions of `rules`, and a lent list of units after the call.
use Rattle.std.specs.Prelude.{ℕ, zero, suc, Option, Some, None, Result, Ok, Err, List, [], ◌∷◌, ◌++◌, length, drop}
use Rattle.rules.specs.Refusals.{stays}
use Rattle.rules.specs.Register.{Row as RulesRow, Line as RulesLine, Imported as Answer, row_at, imported, import_number, import_count}
use Rattle.frame_lines.specs.declared.Unit.{Unit}
use Rattle.frame_lines.specs.declared.Row.{Row}
use Rattle.frame_lines.specs.declared.ImportError.{ImportError}
use Rattle.frame_lines.specs.declared.ImportError.TheVariants.{BadLine, TooMany}

abbrev pub row_from : Row → RulesRow
row_from r = record { number = r.unit.number; turnover = r.unit.turnover; random = r.unit.random; next = r.next }

abbrev pub line_from : Option Row → RulesLine
line_from None = RulesLine.bad
line_from (Some r) = RulesLine.good (row_from r)

abbrev pub imported_from : Result ℕ ImportError → Answer
imported_from (Ok n) = Answer.units n
imported_from (Err (BadLine at)) = Answer.bad_line at
imported_from (Err TooMany) = Answer.too_many

-- the unit record of a line
abbrev pub unit_of : RulesRow → Unit
unit_of r = record { number = r.number; turnover = r.turnover; random = r.random }

-- the units of so many lines from an offset on, "in the order of the file"
unfoldable pub units_of : ℕ → List ℕ → ℕ → List Unit
units_of zero t at = []
units_of (suc lines) t at = unit_of (row_at t at) ∷ units_of lines t (row_at t at).next

-- "places beyond it stay", and after a refusal all of them
unfoldable pub units_after : List ℕ → List Unit → List Unit
units_after t list =
    let answer = imported t (length list) in
    stays (import_number answer) list (units_of (import_count answer) t 0 ++ drop (import_count answer) list)
