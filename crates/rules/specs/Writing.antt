-- Document 02, [4]: a list of commands written as a job stream, and a whole stream read as such a list. The table of operands is the reader's (Stream.antt).
use Rattle.std.specs.Prelude.{ℕ, zero, suc, ◌/◌, ◌%◌, Bool, not, List, [], ◌∷◌, ◌++◌, map, length, get_or, drop, ltb, eqb}
use Rattle.rules.specs.Limits.{most_stream}
use Rattle.rules.specs.Tests.{◌or◌, outside}
use Rattle.rules.specs.Lists.{any_of}
use Rattle.rules.specs.Refusals.{Judged, refuse, ◌then◌, judged, written}
use Rattle.rules.specs.Stream.{Column, Command, Front, bytes_in, operands_of, command_by, reading, rest_of}

-- "operands in their widths": a command byte, and a value in each column
pub record Row : Type 0 where
  pub kind : ℕ
  pub size : ℕ
  pub share : ℕ
  pub number : ℕ
  pub random : ℕ
  pub amount : ℕ

abbrev pub row : ℕ → ℕ → ℕ → ℕ → ℕ → ℕ → Row
row k p g w r x = record { kind = k; size = p; share = g; number = w; random = r; amount = x }

abbrev pub value_in : Row → Column → ℕ
value_in r Column.size = r.size
value_in r Column.part = r.share
value_in r Column.number = r.number
value_in r Column.random = r.random
value_in r Column.amount = r.amount

-- ---- the bytes of a list of commands
-- "big-endian": the bytes of a number in a width, the first the highest
unfoldable pub bytes_with : ℕ → ℕ → List ℕ
bytes_with zero x = []
bytes_with (suc width) x = bytes_with width (x / 256) ++ (x % 256 ∷ [])

-- the operands of a row in these columns
abbrev pub operand_bytes : List Column → Row → List ℕ
operand_bytes [] r = []
operand_bytes (c ∷ cs) r = bytes_with (bytes_in c) (value_in r c) ++ operand_bytes cs r

-- the command byte and its operands; "an operand that a command does not have is not written"
unfoldable pub command_bytes : Row → List ℕ
command_bytes r = r.kind ∷ operand_bytes (operands_of r.kind) r

unfoldable pub stream_of : List Row → List ℕ
stream_of [] = []
stream_of (r ∷ rs) = command_bytes r ++ stream_of rs

-- "a list of commands": six lists side by side
pub record Lists : Type 0 where
  pub kinds : List ℕ
  pub sizes : List ℕ
  pub shares : List ℕ
  pub numbers : List ℕ
  pub randoms : List ℕ
  pub amounts : List ℕ

abbrev pub lists : List ℕ → List ℕ → List ℕ → List ℕ → List ℕ → List ℕ → Lists
lists ks ps gs ws rs xs = record { kinds = ks; sizes = ps; shares = gs; numbers = ws; randoms = rs; amounts = xs }

-- the rows of the lists, one for each command byte
unfoldable pub rows_of : List ℕ → List ℕ → List ℕ → List ℕ → List ℕ → List ℕ → List Row
rows_of [] ps gs ws rs xs = []
rows_of (k ∷ ks) ps gs ws rs xs =
    row k (get_or ps 0 0) (get_or gs 0 0) (get_or ws 0 0) (get_or rs 0 0) (get_or xs 0 0)
    ∷ rows_of ks (drop 1 ps) (drop 1 gs) (drop 1 ws) (drop 1 rs) (drop 1 xs)

abbrev pub rows_in : Lists → List Row
rows_in l = rows_of l.kinds l.sizes l.shares l.numbers l.randoms l.amounts

-- the stream that the lists make
unfoldable pub stream_in : Lists → List ℕ
stream_in l = stream_of (rows_in l)

-- one of five lengths is not n
unfoldable pub differ : ℕ → ℕ → ℕ → ℕ → ℕ → ℕ → Bool
differ n a b c d e = not (eqb a n) or not (eqb b n) or not (eqb c n) or not (eqb d n) or not (eqb e n)

-- "lists given are unequal"
abbrev pub unequal : Lists → Bool
unequal l = differ (length l.kinds) (length l.sizes) (length l.shares) (length l.numbers) (length l.randoms) (length l.amounts)

-- 27 "when lists given are unequal, before all else, or the buffer is shorter than the stream needs, after 15 and 16
-- (for 15 an unknown command counts one byte)": the table gives one byte to what is no command
unfoldable pub write_refusal : Lists → List ℕ → ℕ
write_refusal l out =
    refuse (unequal l) 27
    then refuse (ltb most_stream (length (stream_in l))) 15
    then refuse (any_of (outside 1 7) l.kinds) 16
    then refuse (ltb (length out) (length (stream_in l))) 27

-- "the written length is in the answer"
unfoldable pub write_answer : Lists → List ℕ → Judged ℕ
write_answer l out = judged (write_refusal l out) (length (stream_in l))

-- "and bytes beyond it stay"
unfoldable pub write_bytes : Lists → List ℕ → List ℕ
write_bytes l out = written (write_refusal l out) (stream_in l) out

-- ---- the commands of a whole stream
-- the commands read one after the other, and the refusal at which the reader stops: 0 where it comes to the end
pub record Whole : Type 0 where
  pub commands : List Command
  pub stop : ℕ

abbrev pub whole_by : Judged Front → Whole → Whole
whole_by (Judged.refused n) later = record { commands = []; stop = n }
whole_by (Judged.given Front.ended) later = record { commands = []; stop = 0 }
whole_by (Judged.given (Front.command c)) later = record { commands = c ∷ later.commands; stop = later.stop }

-- `most` bounds the readings
unfoldable pub whole_in : ℕ → List ℕ → Whole
whole_in zero s = record { commands = []; stop = 0 }
whole_in (suc most) s = whole_by (reading s) (whole_in most (rest_of s))

-- each command takes a byte or more, and one reading finds the end
unfoldable pub whole_of : List ℕ → Whole
whole_of s = whole_in (suc (length s)) s

-- a command as a row; "an operand that a command does not have … counts as 0"
abbrev pub row_of : Command → Row
row_of (Command.unit number turnover random) = row 1 0 0 number random turnover
row_of (Command.draw size start) = row 2 size 0 start 0 0
row_of (Command.share place share) = row 3 place share 0 0 0
row_of (Command.relative place relative) = row 4 place 0 relative 0 0
row_of (Command.opens start) = row 5 0 0 0 0 start
row_of Command.quarter = row 6 0 0 0 0 0
row_of Command.close = row 7 0 0 0 0 0

-- the command that a row says: those of its values that are the command's operands
unfoldable pub command_in : Row → Command
command_in r = command_by r.kind (map (value_in r) (operands_of r.kind))

-- the lists of rows
abbrev pub columns : List Row → Lists
columns rs =
    lists
    (map (λ (r : Row). r.kind) rs)
    (map (λ (r : Row). r.size) rs)
    (map (λ (r : Row). r.share) rs)
    (map (λ (r : Row). r.number) rs)
    (map (λ (r : Row). r.random) rs)
    (map (λ (r : Row). r.amount) rs)

unfoldable pub rows_read : List ℕ → List Row
rows_read s = map row_of (whole_of s).commands

-- one of six lengths is below n
unfoldable pub below : ℕ → ℕ → ℕ → ℕ → ℕ → ℕ → ℕ → Bool
below n k a b c d e = ltb k n or ltb a n or ltb b n or ltb c n or ltb d n or ltb e n

-- a list has no place for each of n commands
abbrev pub too_short : ℕ → Lists → Bool
too_short n l = below n (length l.kinds) (length l.sizes) (length l.shares) (length l.numbers) (length l.randoms) (length l.amounts)

-- the reader's 15, 16 or 17, and then 6, "a result buffer shorter"
unfoldable pub read_all_refusal : List ℕ → Lists → ℕ
read_all_refusal s l = (whole_of s).stop then refuse (too_short (length (rows_read s)) l) 6

-- the count of commands
unfoldable pub read_all_answer : List ℕ → Lists → Judged ℕ
read_all_answer s l = judged (read_all_refusal s l) (length (rows_read s))

-- news over the front of each list; after a refusal the lists as they were
abbrev pub written_over : ℕ → Lists → Lists → Lists
written_over refusal news l =
    lists
    (written refusal news.kinds l.kinds)
    (written refusal news.sizes l.sizes)
    (written refusal news.shares l.shares)
    (written refusal news.numbers l.numbers)
    (written refusal news.randoms l.randoms)
    (written refusal news.amounts l.amounts)

unfoldable pub read_all_lists : List ℕ → Lists → Lists
read_all_lists s l = written_over (read_all_refusal s l) (columns (rows_read s)) l
