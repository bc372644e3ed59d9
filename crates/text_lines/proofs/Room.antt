-- A line takes at most 44 bytes, and a buffer has the room of a text or stays as it is.
use Prim.Native.Nat.{ℕ, ◌+◌, ◌≤◌, ◌<◌}
use mathlib.Core.Path.{◌≡◌, ◌∙◌}
use mathlib.Core.List.{List}
use lib.ListN.{length}
use native.Mathlib.Omega.{arith}
use borrow.Author.Tests.{lt-ltb, le-ltb}
use Rattle.rules.specs.Lines.{line_of, line_of2}
use Rattle.text_decimal.specs.Put.{Put}
use Rattle.text_decimal.specs.declared.Writer.{Writer}
use Rattle.text_decimal.specs.Wrote.{Wrote}
use Rattle.text_decimal.proofs.Laying.{counted, fronted}
use Rattle.text_decimal.proofs.Digits.{digits_length, line_length, line2_length}
use Rattle.text_lines.specs.Laid.{line_room, laid, laid_count, Lays}

-- room for the longest line is room for any
pub line_fits : (letter a at n : ℕ) → at + line_room ≤ n → at + length (line_of letter a) ≤ n
line_fits letter a at n h = omega (arith, line_length letter a, digits_length a)

pub line2_fits : (letter a b at n : ℕ) → at + line_room ≤ n → at + length (line_of2 letter a b) ≤ n
line2_fits letter a b at n h = omega (arith, line2_length letter a b, digits_length a, digits_length b)

pub line2_next : (letter a b : ℕ) {w v : Writer} → Wrote w (line_of2 letter a b) v → v.at ≤ w.at + line_room
line2_next letter a b {w} laid = omega (arith, laid.put.place, line2_fits letter a b w.at (w.at + line_room) (omega arith))

module _ (room : ℕ) (text o : List ℕ) where
  -- a text laid at the front of a buffer with the room, which is then given back
  pub at_front : {o₁ back : List ℕ} {r : ℕ} → room ≤ length o → Put 0 text o o₁ r → back ≡ o₁ → Lays room text o back r
  unfolding laid laid_count
  at_front h put e = (simp (le-ltb _ _ h) (counted put), simp (le-ltb _ _ h) (e ∙ fronted put))

  -- a buffer without the room stays
  pub no_room : length o < room → Lays room text o o 0
  unfolding laid laid_count
  no_room h = (simp (lt-ltb _ _ h), simp (lt-ltb _ _ h))
