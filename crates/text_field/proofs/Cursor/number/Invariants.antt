-- What the field comes to from i on (`field_from`) stays what it comes to at all, and v stays within `most`.
use mathlib.Core.Path.{◌≡◌}
use Prim.Native.Nat.{◌-◌, ◌≤◌}
use lib.ListN.{length}
use Rattle.rules.specs.Register.{field_at}
use Rattle.text_field.proofs.Digits.{field_from}
use Rattle.text_field.proofs.Cursor.number.Given as goal

abbrev pub invariant-loop-i : goal.invariant-loop-i
invariant-loop-i l = (l.self ≡ l.initial.self) × (l.i - l.at ≤ length l.t - l.at) × (l.v ≤ l.most)
    × (field_from l.t l.at l.most l.v l.i ≡ field_at l.t l.at l.most)
