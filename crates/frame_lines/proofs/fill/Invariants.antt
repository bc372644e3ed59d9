-- After i turns the first i lines stand in the three lists (`written_to`), and `at` is the offset of the next one.
use mathlib.Core.Path.{◌≡◌}
use mathlib.Core.List.{List}
use Prim.Native.Nat.{ℕ}
use Rattle.rules.specs.Register.{Row, column_of}
use Rattle.rules.proofs.Lists.{written_to}
use Rattle.frame_lines.proofs.Filled.{offset_at}
use Rattle.frame_lines.proofs.fill.Given as goal

abbrev pub number : Row → ℕ
number row = row.number

abbrev pub turnover : Row → ℕ
turnover row = row.turnover

abbrev pub random : Row → ℕ
random row = row.random

pub record Filled (t : List ℕ) (count : ℕ) (ns₀ ts₀ rs₀ ns ts rs : List ℕ) (at i : ℕ) : Type 0 where
  pub offset : at ≡ offset_at i t 0
  pub numbers : ns ≡ written_to i (column_of number count t 0) ns₀
  pub turnovers : ts ≡ written_to i (column_of turnover count t 0) ts₀
  pub randoms : rs ≡ written_to i (column_of random count t 0) rs₀

abbrev pub invariant-loop-i : goal.invariant-loop-i
invariant-loop-i l = Filled l.text l.count l.initial.numbers l.initial.turnovers l.initial.randoms l.numbers l.turnovers l.randoms l.at l.i
