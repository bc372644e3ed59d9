-- Document 02, [12]: what the code's change is in the definitions of `rules`.
use Rattle.std.specs.Prelude.{ℕ, ◌≤◌, ℤ, unsigned_abs}
use Rattle.rules.specs.Sheet as rules
use Rattle.text_change.specs.declared.Change.{Change}

-- the largest change, from 10^8 to 10^10, in hundredths of a percent
abbrev pub most_change : ℕ
most_change = 990000

abbrev pub change_from : Change → rules.Change
change_from c = record { hundredths = c.hundredths; rest = c.rest }

-- a rise or a fall within the largest change
abbrev pub Sized : ℤ → Type 0
Sized c = unsigned_abs c ≤ most_change
