-- One unit's membership in std's words.
use mathlib.Core.Path.{◌≡◌, refl}
use mathlib.Core.Bool.{Bool, true, false, not, ◌&&◌, ◌||◌}
use mathlib.Core.List.{List}
use Prim.Native.Nat.{ℕ}
use lib.ListN.{get_or}
use lib.Dec.{eqb}
use Rattle.rules.specs.Tests.{◌or◌, ◌and◌}
use Rattle.rules.specs.Draw.{shifted}
use Rattle.rules.specs.Rotation.{within_previous}
use Rattle.group.specs.Group.{marked}
use Rattle.rotation_births.specs.declared.Previous.{Previous}
use Rattle.rotation_members.specs.Members.{member_of}

-- a take-all unit is none, whatever lists it stands in
in_words : (old birth all within : Bool) → (old and not all or (birth and not all and within)) ≡ (not all && (old || (birth && within)))
unfolding ◌or◌ ◌and◌
in_words true true true within = refl
in_words true true false within = refl
in_words true false true within = refl
in_words true false false within = refl
in_words false true true within = refl
in_words false true false within = refl
in_words false false true within = refl
in_words false false false within = refl

-- by this alone `is_member` is proved, so that a slip in any of its tests is refused by what it answers
pub member_as : (ts rs marks : List ℕ) (p : Previous) (i : ℕ) (old birth : Bool) → member_of ts rs marks p i old birth ≡
    (not (eqb (get_or marks i 0) 1) && (old || (birth && within_previous p.n p.rest (shifted p.start (get_or rs i 0)) (get_or ts i 0))))
unfolding member_of marked
member_as ts rs marks p i old birth = in_words old birth _ _
