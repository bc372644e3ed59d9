-- A step looks at the members alone, and at keys over gaps: who of them leaves, how many, the first step at which enough do, and the list of leavers
-- are those of `rules`, which look at the whole frame and its keys. The group and the members of `rules` are any.
use mathlib.Core.Path.{◌≡◌, ap, ◌∙◌}
use mathlib.Core.Bool.{Bool, not}
use mathlib.Core.List.{List}
use Prim.Native.Nat.{ℕ, ◌<◌}
use lib.ListN.{length, get_or}
use lib.Seq.{take-length}
use Rattle.rules.specs.Limits.{steps}
use Rattle.rules.specs.Selection.{count, listed}
use Rattle.rules.specs.TakeAll.{Frame, Group, frame}
use Rattle.rules.specs.Draw.{Method, sampled_by}
use Rattle.rules.specs.Rotation.{members, required, start_at, leaves, suffices, least_step, leavers}
use Rattle.selection.specs.Held.{Held}
use Rattle.selection.proofs.Held.{held_again, held_count}
use Rattle.selection.proofs.Least.{least_same}
use Rattle.selection.proofs.Listed.{listed_low, listed_same}
use Rattle.selection.proofs.Sums.{sum_same, listed_length}
use Rattle.draw_key.specs.declared.Setting.{Setting}
use Rattle.draw_key.specs.Methods.{method_of}
use Rattle.draw_key.specs.Units.{sampled_of}
use Rattle.rotation_step.specs.Leaving.{under, member_leaves, leaving, enough_leave, first_step}
use Rattle.rotation_leavers.specs.Leavers.{leaving_units, units_in_order, numbers_of}

-- what the gaps and the list of the members' places tell of a frame, its group and its members
pub record Told (ns ts rs : List ℕ) (r : Group) (who : ℕ → Bool) (gs : List ℕ) (s : Setting) (ms : List ℕ) : Type 0 where
  pub sampled : (start i : ℕ) → i < length ts → sampled_of ts rs gs (under s start) i ≡ sampled_by (method_of s.method) (frame ns ts rs) r start i
  pub members_are : ms ≡ listed who (λ i. i) (length ts)

module _ (ns ts rs : List ℕ) (r : Group) (who : ℕ → Bool) (gs : List ℕ) (s : Setting) (ms : List ℕ) (t : Told ns ts rs r who gs s ms) where
  abbrev f : Frame
  f = frame ns ts rs

  abbrev m : Method
  m = method_of s.method

  members_many : length ms ≡ members f who
  unfolding members
  members_many = ap length t.members_are ∙ listed_length who (λ i. i) (length ts)

  held : Held who (λ i. i) (length ts) ms (length ms)
  unfolding members
  held = record { many = members_many; units_are = take-length ms ∙ t.members_are }

  pub member_low : (j : ℕ) → j < length ms → get_or ms j 0 < length ts
  member_low = rw t.members_are (listed_low who (length ts))

  -- under any start
  module _ (start : ℕ) where
    leaves_at : (j : ℕ) → j < length ms → member_leaves ts rs gs ms (under s start) j ≡ not (sampled_by m f r start (get_or ms j 0))
    unfolding member_leaves
    leaves_at j l = ap not (t.sampled start (get_or ms j 0) (member_low j l))

    leaving_is : leaving ts rs gs ms (under s start) ≡ count (leaves m f r who start) (length ts)
    unfolding leaving leaves count
    leaving_is = sum_same _ _ (λ j. 1) (length ms) leaves_at ∙ held_count held (λ i. not (sampled_by m f r start i))

    units_are : leaving_units ts rs gs ms (under s start) ≡ listed (leaves m f r who start) (λ i. i) (length ts)
    unfolding leaving_units leaves
    units_are = listed_same _ _ (λ j. get_or ms j 0) (length ms) leaves_at ∙ held_again held (λ i. not (sampled_by m f r start i)) (λ i. i)

    pub leavers_are : numbers_of ns (units_in_order ts rs gs ms (under s start)) ≡ leavers m f r who start
    unfolding numbers_of units_in_order leavers
    leavers_are = rw units_are

  suffices_is : (fraction k : ℕ) → enough_leave ts rs gs ms s (required fraction (length ms)) k ≡ suffices m f r s.start who fraction k
  unfolding enough_leave suffices
  suffices_is fraction k = rw (leaving_is (start_at s.start k), members_many)

  pub first_is : (fraction : ℕ) → first_step ts rs gs ms s (required fraction (length ms)) ≡ least_step m f r s.start who fraction
  unfolding first_step least_step
  first_is fraction =
      let need = required fraction (length ms) in
      least_same (enough_leave ts rs gs ms s need) (suffices m f r s.start who fraction) steps 0 (suffices_is fraction)
