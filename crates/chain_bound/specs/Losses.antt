-- What the floors of document 01, "Chain record", lose at most. These numbers are no part of the statement of demand 3: its proof counts
-- with them. One that is too small is refused by the limit beside it, one that is too large by the bound (must-fail/).
use Rattle.std.specs.Prelude.{ℕ, zero, suc, ◌+◌, ◌*◌}
use Rattle.rules.specs.Limits.{lowest_relative, link_scale}

-- Losses are counted in parts of this: to lose one part of x is to lose x / 100,000,000.
abbrev pub parts : ℕ
parts = 100000000

-- A floor that leaves at least b loses less than 1 in b. A u or v of a present unit is at least 1,000,000 (21).
abbrev pub weight_loss : ℕ
weight_loss = 100

-- L is at least 25,000,000, since a relative is at least 25,000 (13).
abbrev pub least_link : ℕ
least_link = lowest_relative * link_scale

abbrev pub link_loss : ℕ
link_loss = 4

-- F is at least 100,000,000 (23).
abbrev pub index_loss : ℕ
index_loss = 1

-- the two floors of one figure, L's and F's
abbrev pub figure_loss : ℕ
figure_loss = link_loss + index_loss

-- floors of a weight at the open: those of u, one, or two with an outside share (the inner floor), and v's
abbrev pub open_floors : ℕ → ℕ
open_floors shared = shared + 1

-- so many of u at most
abbrev pub most_shared : ℕ
most_shared = 2

-- floors of a weight at each close
abbrev pub close_floors : ℕ
close_floors = 1

-- floors that a panel's weight has had after an open with `opening` floors and so many closes
abbrev pub floors : ℕ → ℕ → ℕ
floors opening closes = opening + close_floors * closes

-- floors that C has had in a panel's weights: those of its last close, whose figure was reckoned from the weights before it
abbrev pub settled_floors : ℕ → ℕ → ℕ
settled_floors opening zero = 0
settled_floors opening (suc closes) = floors opening closes

-- The bound is derived for weights that were floored at most so many times; forty closes, of forty panels or of one, stay far below.
abbrev pub most_floors : ℕ
most_floors = 1000
