-- Answers as the C interface gives them: a refusal's number, or 0 and what was asked for.
use Rattle.std.specs.Prelude.{ℕ}
use Rattle.rules.specs.Refusals.{Judged}
use Rattle.c_values.specs.declared.Figure.{Figure}

-- the answer of a quarter, a close or a total; after a refusal the figure is 0
abbrev pub figure_from : Judged ℕ → Figure
figure_from (Judged.refused n) = record { refusal = n; figure = 0 }
figure_from (Judged.given f) = record { refusal = 0; figure = f }
