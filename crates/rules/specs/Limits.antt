-- Document 01: every limit and scale, named once. Nothing else spells these numbers.
use Rattle.std.specs.Prelude.{ℕ}

-- ---- frame and draw ("Frame and weights", "Draw", refusals 1 to 6)
-- units in a frame
abbrev pub most_frame : ℕ
most_frame = 16384

-- euros in a frame, 10^12
abbrev pub most_turnover : ℕ
most_turnover = 1000000000000

-- a random number is below this, and so is a start
abbrev pub random_range : ℕ
random_range = 1000000

-- units in a panel, and places of a chain record
abbrev pub most_panel : ℕ
most_panel = 100

-- ---- rotation ("Rotation", refusals 7 and 8)
-- f is in thousandths
abbrev pub fraction_scale : ℕ
fraction_scale = 1000

-- steps that are tried, 0 to 999
abbrev pub steps : ℕ
steps = 1000

-- how far a step moves the start
abbrev pub step_length : ℕ
step_length = 1000

-- ---- firms at the border (document 02, [9], refusal 30)
-- γ is in thousandths
abbrev pub threshold_scale : ℕ
threshold_scale = 1000

-- ---- chain ("Chain record", refusals 9 to 13, 19, 21 to 24)
-- a share of 1, in ten-thousandths of turnover
abbrev pub share_scale : ℕ
share_scale = 10000

-- a relative of 1, in hundred-thousandths (document 02, [5]), and the range that belongs to the relative
abbrev pub relative_scale : ℕ
relative_scale = 100000

abbrev pub lowest_relative : ℕ
lowest_relative = 25000

abbrev pub highest_relative : ℕ
highest_relative = 400000

-- L is a mean relative times this
abbrev pub link_scale : ℕ
link_scale = 1000

-- the least u or v of a present unit
abbrev pub least_weight : ℕ
least_weight = 1000000

-- the sum of W, and of v, 10^13 (document 02, [5])
abbrev pub most_weight : ℕ
most_weight = 10000000000000

-- an index, 10^8 to 10^10 (an index of 100 is 10^9)
abbrev pub lowest_index : ℕ
lowest_index = 100000000

abbrev pub highest_index : ℕ
highest_index = 10000000000

-- closes of one chain, over all its panels (document 02, [11]): its links
abbrev pub most_closes : ℕ
most_closes = 40

-- figures of a year: three quarters and the close (document 02, [6], refusal 28)
abbrev pub year_places : ℕ
year_places = 4

-- ---- the bound of demand 3: 10,000,000 × |F − D| ≤ 11 × (m + 1) × D
abbrev pub bound_scale : ℕ
bound_scale = 10000000

abbrev pub bound_factor : ℕ
bound_factor = 11

-- ---- total ("Total", refusal 14)
abbrev pub most_sectors : ℕ
most_sectors = 64

-- sector shares are in millionths
abbrev pub sector_scale : ℕ
sector_scale = 1000000

-- ---- job stream ("Job stream", refusals 15 and 20)
abbrev pub most_stream : ℕ
most_stream = 32768

abbrev pub most_held : ℕ
most_held = 1024

-- ---- test load (document 02, [13], refusal 33)
-- a state is below this, 2^31
abbrev pub state_range : ℕ
state_range = 2147483648

abbrev pub state_factor : ℕ
state_factor = 1103515245

abbrev pub state_addend : ℕ
state_addend = 12345

-- a turnover of a test load is at most this
abbrev pub turnover_range : ℕ
turnover_range = 10000000

-- ---- sample over sectors (document 02, [10], refusal 31)
-- a sector's strength
abbrev pub lowest_strength : ℕ
lowest_strength = 1

abbrev pub highest_strength : ℕ
highest_strength = 1000000000

-- T
abbrev pub most_interviews : ℕ
most_interviews = 6400

-- ---- registers as comma lines (document 02, [14], refusal 34)
-- digits of a field
abbrev pub most_field : ℕ
most_field = 20

-- a number of 32 bits, and one of 64
abbrev pub most_short : ℕ
most_short = 4294967295

abbrev pub most_long : ℕ
most_long = 18446744073709551615

-- ---- quarterly sheet (document 02, [12], refusal 32)
-- columns of a name, and of a figure and a change
abbrev pub name_columns : ℕ
name_columns = 20

abbrev pub number_columns : ℕ
number_columns = 14

-- bytes of a line: its 48 columns and a line feed
abbrev pub line_bytes : ℕ
line_bytes = 49

-- the printable bytes
abbrev pub lowest_printable : ℕ
lowest_printable = 32

abbrev pub highest_printable : ℕ
highest_printable = 126

-- hundredths of a percent in 1
abbrev pub change_scale : ℕ
change_scale = 10000

-- decimals of a figure in index points, and of a change in percent
abbrev pub figure_decimals : ℕ
figure_decimals = 7

abbrev pub change_decimals : ℕ
change_decimals = 2
