-- Document 02, [12]: a number with decimals and its sign, as the code has them: whether it is negative, and its size.
use Rattle.std.specs.Prelude.{ℕ, Bool, true, false, List, [], ◌∷◌, ◌++◌}
use Rattle.rules.specs.Sheet.{with_decimals}

-- "sign only if negative"
abbrev pub sign_of : Bool → List ℕ
sign_of true = 45 ∷ []
sign_of false = []

abbrev pub signed_text : Bool → ℕ → ℕ → List ℕ
signed_text negative k n = sign_of negative ++ with_decimals k n
