-- Document 02, [12]: what the code's line and answer are in the definitions of `rules`.
use Rattle.std.specs.Prelude.{ℕ, ℤ, Result, List, [], ◌∷◌, ◌++◌}
use Rattle.rules.specs.Limits.{name_columns, number_columns}
use Rattle.rules.specs.Refusals.{Judged}
use Rattle.rules.specs.Sheet as rules
use Rattle.refusals.specs.declared.Refusal.{Refusal}
use Rattle.refusals.specs.Number.{answer_of}
use Rattle.text_change.specs.declared.Change.{Change}
use Rattle.text_change.specs.Values.{change_from}

-- the line in the pieces that are laid
abbrev pub pieces_of : List ℕ → ℕ → ℤ → List ℕ
pieces_of name new change =
    rules.left_in name_columns name
    ++ (rules.right_in number_columns (rules.figure_text new)
    ++ (rules.right_in number_columns (rules.change_text change)
    ++ (10 ∷ [])))

abbrev pub answer_from : Result Change Refusal → Judged rules.Change
answer_from = answer_of change_from
