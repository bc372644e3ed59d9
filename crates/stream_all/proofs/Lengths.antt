-- A test of six lengths in std's words is that of `rules`.
use Prim.Native.Nat.{ℕ}
use mathlib.Core.Path.{◌≡◌, refl}
use mathlib.Core.Bool.{Bool, true, false, ◌||◌}
use lib.Dec.{ltb}
use Rattle.std.specs.List.{list_any}
use Rattle.rules.specs.Tests.{◌or◌}
use Rattle.rules.specs.Writing.{Lists, below, too_short}
use Rattle.stream_all.specs.Answer.{lengths_of}

six : (k a b c d e : Bool) → (k || (a || (b || (c || (d || (e || false)))))) ≡ (k or a or b or c or d or e)
unfolding ◌or◌
six true a b c d e = refl
six false true b c d e = refl
six false false true c d e = refl
six false false false true d e = refl
six false false false false true e = refl
six false false false false false true = refl
six false false false false false false = refl

pub below_as :
    (n : ℕ) (l : Lists) → list_any (λ m. ltb m n) (lengths_of l) ≡ too_short n l
unfolding below
below_as n l = six _ _ _ _ _ _
