-- `required` meets its contract: the product of at most 1,000 and at most 16,384 fits, and dividing it rounded up is the definition's sum divided.
use mathlib.Core.Path.{◌≡◌, ◌∙◌}
use Prim.Native.Nat.{ℕ, ◌+◌, ◌/◌}
use native.Mathlib.Omega.{arith}
use Rattle.std.specs.Int.{div_ceil}
use Rattle.rules.specs.Rotation.{required}
use Rattle.rotation.proofs.required.Goals as goal

rounded_up : (x : ℕ) → div_ceil x 1000 ≡ (x + 999) / 1000
rounded_up x = omega arith

pub returns : goal.returns
unfolding required
returns c = c.div_ceil.ensures ∙ rounded_up _
