-- Document 02, [14]: registers as comma lines. A text is a list of ASCII codes; an offset counts its bytes from 0.
use Rattle.std.specs.Prelude.{ℕ, zero, suc, ◌+◌, ◌*◌, ◌-◌, Bool, cond, List, [], ◌∷◌, length, get_or, drop, leb, ltb, eqb}
use Rattle.rules.specs.Limits.{most_field, most_short, most_long}
use Rattle.rules.specs.Tests.{◌and◌, outside}
use Rattle.rules.specs.Refusals.{written}

-- ---- "three decimal fields"
unfoldable pub is_digit : ℕ → Bool
is_digit c = leb 48 c and leb c 57

-- how many digits stand at the front of a text
unfoldable pub digits_in : List ℕ → ℕ
digits_in [] = 0
digits_in (c ∷ s) = cond (is_digit c) (suc (digits_in s)) 0

-- the number that they spell, after digits that spell n
unfoldable pub spelled : ℕ → List ℕ → ℕ
spelled n [] = n
spelled n (c ∷ s) = cond (is_digit c) (spelled (n * 10 + (c - 48)) s) n

-- What stands at an offset: a number and the offset after it, or nothing of the form.
pub data Part : Type 0 where
  none : Part
  found : ℕ → ℕ → Part

-- "A field has 1 to 20 digits": a number of so many digits from an offset on
unfoldable pub sized : ℕ → ℕ → ℕ → Part
sized v at digits = cond (outside 1 most_field digits) none (found v (at + digits))

-- "and fits its width": at most `most`
unfoldable pub field_at : List ℕ → ℕ → ℕ → Part
field_at t at most =
    let s = drop at t in
    cond (ltb most (spelled 0 s)) none (sized (spelled 0 s) at (digits_in s))

-- "separated by commas": a number that ends at n, and the comma there
unfoldable pub comma_at : List ℕ → ℕ → ℕ → Part
comma_at t v n = cond (eqb (get_or t n 0) 44) (found v (n + 1)) none

-- "ended by a line feed (an optional carriage return before it; the last line feed may be missing, then with no carriage return)"
unfoldable pub end_at : List ℕ → ℕ → ℕ → Part
end_at t v n =
    cond (eqb n (length t)) (found v n)
    (cond (eqb (get_or t n 0) 10) (found v (n + 1))
    (cond (eqb (get_or t n 0) 13) (cond (eqb (get_or t (n + 1) 0) 10) (found v (n + 2)) none)
    none))

-- ---- "Import lines of three decimal fields, number, turnover and random number"
-- a part and what must follow it
abbrev pub followed : Part → (ℕ → ℕ → Part) → Part
followed none next = none
followed (found v n) next = next v n

abbrev pub field_and_comma : List ℕ → ℕ → ℕ → Part
field_and_comma t at most = followed (field_at t at most) (comma_at t)

abbrev pub field_and_end : List ℕ → ℕ → ℕ → Part
field_and_end t at most = followed (field_at t at most) (end_at t)

-- The unit of a line, and the offset of the next line.
pub record Row : Type 0 where
  pub number : ℕ
  pub turnover : ℕ
  pub random : ℕ
  pub next : ℕ

pub data Line : Type 0 where
  bad : Line
  good : Row → Line

abbrev pub on_part : Part → (ℕ → ℕ → Line) → Line
on_part none next = bad
on_part (found v n) next = next v n

-- the line that begins at an offset
unfoldable pub line_at : List ℕ → ℕ → Line
line_at t at =
    on_part (field_and_comma t at most_short) (λ a i.
    on_part (field_and_comma t i most_long) (λ b j.
    on_part (field_and_end t j most_short) (λ c n. good (record { number = a; turnover = b; random = c; next = n }))))

-- ---- the answer
-- "the answer is their count"; "34 when a line is not of this form, with the offset where the first such line begins"; "35 when there are more lines than the list holds"
pub data Imported : Type 0 where
  units : ℕ → Imported
  bad_line : ℕ → Imported
  too_many : Imported

abbrev pub import_number : Imported → ℕ
import_number (units n) = 0
import_number (bad_line at) = 34
import_number too_many = 35

-- "34 wins if both apply": 35 is asked when all lines are read
unfoldable pub ended_with : ℕ → ℕ → Imported
ended_with lines places = cond (ltb places lines) too_many (units lines)

abbrev pub on_line : Line → Imported → (ℕ → Imported) → Imported
on_line bad refusal after = refusal
on_line (good row) refusal after = after row.next

-- the lines from an offset on, after some lines; at most `most` of them
unfoldable pub scanned : ℕ → List ℕ → ℕ → ℕ → ℕ → Imported
scanned zero t at lines places = ended_with lines places
scanned (suc most) t at lines places =
    cond (ltb at (length t)) (on_line (line_at t at) (bad_line at) (λ n. scanned most t n (lines + 1) places))
    (ended_with lines places)

-- the answer for a text and a list of so many places; a line has at least one byte. "No lines gives zero units; an empty line is refused."
unfoldable pub imported : List ℕ → ℕ → Imported
imported t places = scanned (length t) t 0 0 places

-- ---- "Each line fills one unit of a lent list of unit records, in the order of the file"
-- how many units are filled: none after a refusal
abbrev pub import_count : Imported → ℕ
import_count (units n) = n
import_count (bad_line at) = 0
import_count too_many = 0

abbrev pub row_or : ℕ → Line → Row
row_or at bad = record { number = 0; turnover = 0; random = 0; next = at }
row_or at (good row) = row

-- the line at an offset, where it is of the form
unfoldable pub row_at : List ℕ → ℕ → Row
row_at t at = row_or at (line_at t at)

-- one column of so many lines from an offset on
unfoldable pub column_of : (Row → ℕ) → ℕ → List ℕ → ℕ → List ℕ
column_of field zero t at = []
column_of field (suc lines) t at = field (row_at t at) ∷ column_of field lines t (row_at t at).next

-- "places beyond it stay": what a lent list of one column holds after the call
unfoldable pub column_after : (Row → ℕ) → List ℕ → ℕ → List ℕ → List ℕ
column_after field t places before =
    let answer = imported t places in
    written (import_number answer) (column_of field (import_count answer) t 0) before

-- three lists hold as many units as the shortest has places
unfoldable pub shorter : ℕ → ℕ → ℕ
shorter a b = cond (ltb b a) b a

unfoldable pub room_of : List ℕ → List ℕ → List ℕ → ℕ
room_of ns ts rs = shorter (shorter (length ns) (length ts)) (length rs)

unfoldable pub imported_numbers : List ℕ → List ℕ → List ℕ → List ℕ → List ℕ
imported_numbers t ns ts rs = column_after (λ row. row.number) t (room_of ns ts rs) ns

unfoldable pub imported_turnovers : List ℕ → List ℕ → List ℕ → List ℕ → List ℕ
imported_turnovers t ns ts rs = column_after (λ row. row.turnover) t (room_of ns ts rs) ts

unfoldable pub imported_randoms : List ℕ → List ℕ → List ℕ → List ℕ → List ℕ
imported_randoms t ns ts rs = column_after (λ row. row.random) t (room_of ns ts rs) rs
