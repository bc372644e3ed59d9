-- A part of the text laid behind what is laid already, where it has room.
use Prim.Native.Nat.{ℕ, ◌+◌, ◌≤◌, ◌<◌}
use mathlib.Core.Path.{◌≡◌, sym, ap, ◌∙◌}
use mathlib.Core.List.{List, ◌++◌}
use lib.ListN.{length, take, drop}
use lib.Seq.{length-take-le}
use native.Mathlib.Omega.{arith}
use borrow.Author.Tests.{lt-ltb, le-ltb}
use Rattle.text_decimal.specs.Put.{laid_at}
use Rattle.job_output.specs.Printed.{fitted}

pub room : (out part : List ℕ) (at : ℕ) → at + length part ≤ length out → fitted at part out ≡ laid_at at part out
unfolding fitted
room out part at h = simp (le-ltb _ _ h)

module _ (out text : List ℕ) (at count : ℕ) (within : count ≤ length text) where
  abbrev bytes : length (take count text) ≡ count
  bytes = length-take-le count text within

  -- a part without room is not laid
  pub no_room : length out < at + count → out ≡ fitted at (take count text) out
  unfolding fitted
  no_room h = simp (lt-ltb (length out) (at + length (take count text)) (omega (arith, bytes)))

  -- all bytes of a part copied
  pub all_laid : at + count ≤ length out → take at out ++ (take count text ++ drop (at + count) out) ≡ fitted at (take count text) out
  unfolding laid_at
  all_laid h =
      let part = take count text in
      ap (λ (k : ℕ). take at out ++ (part ++ drop (at + k) out)) (sym bytes) ∙ sym (room out part at (omega (arith, bytes)))
