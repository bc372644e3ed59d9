-- Document 02, [12]: one line of the quarterly sheet, as a list of ASCII codes, and the change that it prints.
use Rattle.std.specs.Prelude.{ℕ, zero, suc, ◌+◌, ◌-◌, ◌/◌, ◌%◌, ◌^◌, Bool, List, [], ◌∷◌, ◌++◌, ℤ, pos, negsuc, ◌-ℤ◌, ◌*ℤ◌, length, replicate, ltb}
use Rattle.rules.specs.Limits.{name_columns, number_columns, line_bytes, lowest_printable, highest_printable, change_scale, figure_decimals, change_decimals}
use Rattle.rules.specs.Tests.{◌or◌, outside}
use Rattle.rules.specs.Lists.{any_of}
use Rattle.rules.specs.Refusals.{Judged, refuse, judged, written}
use Rattle.rules.specs.Decimal.{decimal_on}
use Rattle.rules.specs.Chain.{bad_index}

-- "the signed whole number c of hundredths of a percent" and "the exact rest"
pub record Change : Type 0 where
  pub hundredths : ℤ
  pub rest : ℕ

-- A whole number by d: the signed quotient, and a rest that is at least 0 and below d. A negative number −(n + 1) is −(n / d + 1) × d and the rest.
unfoldable pub divided_by : ℕ → ℤ → Change
divided_by d (pos n) = record { hundredths = pos (n / d); rest = n % d }
divided_by d (negsuc n) = record { hundredths = negsuc (n / d); rest = d - suc (n % d) }

-- "(new − old) × 10,000 = c × old + rest and 0 ≤ rest < old"
unfoldable pub change_of : ℕ → ℕ → Change
change_of new old = divided_by old ((pos new -ℤ pos old) *ℤ pos change_scale)

-- the last k digits of n, zeros among them
unfoldable pub last_digits : ℕ → ℕ → List ℕ
last_digits zero n = []
last_digits (suc k) n = last_digits k (n / 10) ++ ((48 + n % 10) ∷ [])

-- n in units of the last of k decimals: the whole part, a point and k digits
unfoldable pub with_decimals : ℕ → ℕ → List ℕ
with_decimals k n = decimal_on (n / 10 ^ k) (46 ∷ last_digits k n)

-- "figure in index points with seven decimals": an index of 100 is 10^9
abbrev pub figure_text : ℕ → List ℕ
figure_text figure = with_decimals figure_decimals figure

-- "printed as c with two decimals, sign only if negative (c = -5 prints -0.05)"
unfoldable pub change_text : ℤ → List ℕ
change_text (pos n) = with_decimals change_decimals n
change_text (negsuc n) = 45 ∷ with_decimals change_decimals (suc n)

-- "left, padded with spaces", and "right", in so many columns
unfoldable pub left_in : ℕ → List ℕ → List ℕ
left_in columns text = text ++ replicate (columns - length text) 32

unfoldable pub right_in : ℕ → List ℕ → List ℕ
right_in columns text = replicate (columns - length text) 32 ++ text

-- "A line is 48 columns and a line feed: sector name 20 wide, left, padded with spaces; figure … 14 wide, right; change … 14 wide, right."
unfoldable pub sheet_line : List ℕ → ℕ → ℕ → List ℕ
sheet_line name new old =
    left_in name_columns name
    ++ (right_in number_columns (figure_text new)
    ++ (right_in number_columns (change_text (change_of new old).hundredths)
    ++ (10 ∷ [])))

-- "A name is 1 to 20 printable ASCII bytes (32 to 126)."
unfoldable pub bad_name : List ℕ → Bool
bad_name name = outside 1 name_columns (length name) or any_of (outside lowest_printable highest_printable) name

-- 32: "a name is otherwise, a figure is outside 10^8 to 10^10 or the buffer is shorter than 49 bytes"
unfoldable pub bad_line : List ℕ → ℕ → ℕ → ℕ → Bool
bad_line name new old room = bad_name name or bad_index new or bad_index old or ltb room line_bytes

unfoldable pub sheet_refusal : List ℕ → ℕ → ℕ → List ℕ → ℕ
sheet_refusal name new old out = refuse (bad_line name new old (length out)) 32

-- "the exact rest stands in the result", and c beside it
unfoldable pub sheet_answer : List ℕ → ℕ → ℕ → List ℕ → Judged Change
sheet_answer name new old out = judged (sheet_refusal name new old out) (change_of new old)

-- "One call lays out one line in the first 49 bytes of a buffer, and the rest stays."
unfoldable pub sheet_bytes : List ℕ → ℕ → ℕ → List ℕ → List ℕ
sheet_bytes name new old out = written (sheet_refusal name new old out) (sheet_line name new old) out
