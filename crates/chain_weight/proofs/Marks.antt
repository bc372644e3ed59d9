-- The tests of a weight and a relative (`rules`, Chain) of a present unit, as code asks them.
use mathlib.Core.Path.{◌≡◌, refl, ap, ◌∙◌}
use mathlib.Core.Bool.{Bool, true, false}
use Prim.Native.Nat.{ℕ, zero, suc}
use lib.Dec.{ltb}
use Rattle.std.specs.Prelude.{Result, Ok, Err}
use Rattle.std.specs.Result.{is_err}
use Rattle.rules.specs.Limits.{lowest_relative, highest_relative, least_weight}
use Rattle.rules.specs.Tests.{outside}
use Rattle.rules.specs.Refusals.{Judged, refuse, judged}
use Rattle.rules.specs.Chain.{bad_relative, bad_weight}
use Rattle.chain_relative.specs.declared.Relative.{Relative}
use Rattle.chain_relative.specs.declared.OutOfRange.{OutOfRange}
use Rattle.chain_relative.specs.Checked.{Checks, answer_from}

pub weight_present : (mark w : ℕ) → (mark ≡ 0 → ⊥) → bad_weight mark w ≡ ltb w least_weight
unfolding bad_weight
weight_present zero w h = absurd (h refl)
weight_present (suc mark) w h = refl

-- a present unit's relative is bad exactly where the checking constructor refuses it
abbrev is_refused : Judged ℕ → Bool
is_refused (Judged.given x) = false
is_refused (Judged.refused n) = true

refused_is : (b : Bool) (x : ℕ) → is_refused (judged (refuse b 13) x) ≡ b
unfolding refuse
refused_is true x = refl
refused_is false x = refl

told : (r : Result Relative OutOfRange) → is_err r ≡ is_refused (answer_from r)
told (Ok p) = refl
told (Err e) = refl

pub relative_present : (mark p : ℕ) (r : Result Relative OutOfRange) → (mark ≡ 0 → ⊥) → Checks p r → is_err r ≡ bad_relative mark p
unfolding bad_relative
relative_present zero p r h e = absurd (h refl)
relative_present (suc mark) p r h e = told r ∙ ap is_refused e ∙ refused_is (outside lowest_relative highest_relative p) p
