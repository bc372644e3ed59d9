-- Document 01, "Job stream": a text of `rules` laid at the front of a lent buffer, and what becomes of the buffer's other places.
use Rattle.std.specs.Prelude.{ℕ, ◌*◌, ◌≡◌, cond, List, ltb, length}
use Rattle.rules.specs.Limits.{most_panel}
use Rattle.rules.specs.Lines.{panel_lines}
use Rattle.rules.specs.Refusals.{written}

-- the longest line: a letter, two numbers of 20 digits, two spaces and a line feed
abbrev pub line_room : ℕ
line_room = 44

-- a line for each unit of the largest panel
abbrev pub panel_room : ℕ
panel_room = line_room * most_panel

-- the buffer with a text at its front; a buffer shorter than the room that is asked for stays as it is
unfoldable pub laid : ℕ → List ℕ → List ℕ → List ℕ
laid room text buffer = cond (ltb (length buffer) room) buffer (written 0 text buffer)

-- the bytes that were laid: all of the text, or none
unfoldable pub laid_count : ℕ → List ℕ → List ℕ → ℕ
laid_count room text buffer = cond (ltb (length buffer) room) 0 (length text)

-- what a function that lays a text says of the buffer before and after it, and of its answer
abbrev pub Lays : ℕ → List ℕ → List ℕ → List ℕ → ℕ → Type 0
Lays room text before after count = (count ≡ laid_count room text before) × (after ≡ laid room text before)

-- the lines of a panel, where there is room for the longest line of each unit
abbrev pub PanelLaid : List ℕ → List ℕ → List ℕ → List ℕ → ℕ → Type 0
PanelLaid numbers weights before after count = Lays (line_room * length numbers) (panel_lines numbers weights) before after count
