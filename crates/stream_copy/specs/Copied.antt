-- Document 02, [4]: what the two round trips say. Lists and streams that come from slices of their types are in their widths.
use Rattle.std.specs.Prelude.{ℕ, ◌^◌, ◌<◌, cond, List, map, get_or, take}
use Rattle.rules.specs.Lists.{elem}
use Rattle.rules.specs.Stream.{Column, operands_of}
use Rattle.rules.specs.Writing.{Row, Lists, row, lists, value_in}

-- a stream of bytes
abbrev pub Bytes : List ℕ → Type 0
Bytes s = (i : ℕ) → get_or s i 0 < 256

-- "operands in their widths"
pub record InWidths (l : Lists) : Type 0 where
  pub sizes : (i : ℕ) → get_or l.sizes i 0 < 256 ^ 1
  pub shares : (i : ℕ) → get_or l.shares i 0 < 256 ^ 2
  pub numbers : (i : ℕ) → get_or l.numbers i 0 < 256 ^ 4
  pub randoms : (i : ℕ) → get_or l.randoms i 0 < 256 ^ 4
  pub amounts : (i : ℕ) → get_or l.amounts i 0 < 256 ^ 8

-- each column by a number of its own
abbrev pub column_number : Column → ℕ
column_number Column.size = 1
column_number Column.part = 2
column_number Column.number = 3
column_number Column.random = 4
column_number Column.amount = 5

-- "an operand that a command does not have … counts as 0"
unfoldable pub kept : Row → Column → ℕ
kept r c = cond (elem (column_number c) (map column_number (operands_of r.kind))) (value_in r c) 0

unfoldable pub cleared : Row → Row
cleared r = row r.kind (kept r Column.size) (kept r Column.part) (kept r Column.number) (kept r Column.random) (kept r Column.amount)

-- the first n places of each list
abbrev pub firsts : ℕ → Lists → Lists
firsts n l = lists (take n l.kinds) (take n l.sizes) (take n l.shares) (take n l.numbers) (take n l.randoms) (take n l.amounts)
