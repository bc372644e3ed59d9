-- After i turns the first i units stand in the three lists (`written_to`), and s is the state after i units.
use mathlib.Core.Path.{◌≡◌}
use mathlib.Core.List.{List}
use Prim.Native.Nat.{ℕ, ◌<◌}
use Rattle.rules.specs.Limits.{state_range}
use Rattle.rules.specs.Load.{made_numbers, made_turnovers, made_randoms}
use Rattle.rules.proofs.Lists.{written_to}
use Rattle.frame_made.proofs.Made.{state_at}
use Rattle.frame_made.proofs.fill.Given as goal

-- the lists and the state after i units
pub record Filled (start count : ℕ) (ns₀ ts₀ rs₀ ns ts rs : List ℕ) (s i : ℕ) : Type 0 where
  pub state : s ≡ state_at i start
  pub low : s < state_range
  pub numbers : ns ≡ written_to i (made_numbers count 1) ns₀
  pub turnovers : ts ≡ written_to i (made_turnovers count start) ts₀
  pub randoms : rs ≡ written_to i (made_randoms count start) rs₀

abbrev pub invariant-loop-i : goal.invariant-loop-i
invariant-loop-i l = Filled l.start l.count l.initial.numbers l.initial.turnovers l.initial.randoms l.numbers l.turnovers l.randoms l.s l.i
