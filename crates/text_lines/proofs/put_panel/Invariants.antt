-- A text was laid, which with the lines of the units to come is the panel's, and there is room for these.
use Prim.Native.Nat.{ℕ, ◌*◌}
use mathlib.Core.Path.{◌≡◌}
use mathlib.Core.List.{List, ◌++◌}
use lib.ListN.{length}
use Rattle.text_decimal.specs.Wrote.{Wrote, Room}
use Rattle.text_lines.specs.Laid.{line_room}
use Rattle.rules.specs.Lines.{panel_lines}
use Rattle.text_lines.proofs.put_panel.Given as goal

abbrev pub invariant-loop-number : goal.invariant-loop-number
invariant-loop-number l =
    let ns = l.number-iterator.a.rest.now in
    let ws = l.number-iterator.b.rest.now in
    Room l.w (line_room * length ns) × ((text : List ℕ) × Wrote l.initial.w text l.w × (text ++ panel_lines ns ws ≡ panel_lines l.numbers l.weights))
