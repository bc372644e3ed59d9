-- After i turns the first i units stand in the three lists (`written_to`), and s is the state after i units.
use mathlib.Core.Path.{◌≡◌, refl, sym, ap, ap₂, ◌∙◌}
use Prim.Native.Nat.{ℕ, ◌+◌, ◌%◌, ◌<◌, ◌≤◌}
use native.Mathlib.Nat.{mod-lt}
use native.Mathlib.Numerals.{add-one}
use native.Mathlib.Omega.{arith}
use Rattle.rules.specs.Limits.{state_range, turnover_range}
use Rattle.rules.specs.Load.{stepped}
use Rattle.rules.proofs.Lists.{laid_next, laid_end}
use Rattle.frame_made.proofs.Made.{state_at, state_next, turnover_at, random_at, number_at, length_numbers, length_turnovers, length_randoms}
use Rattle.frame_made.proofs.fill.Goals as goal

stepped_low : (s : ℕ) → stepped s < state_range
unfolding stepped
stepped_low s = mod-lt _ (omega arith)

pub loop-i-init : goal.loop-i-init
loop-i-init c = record { state = refl; low = c.requires.0; numbers = refl; turnovers = refl; randoms = refl }

pub step-first-requires : goal.step-first-requires
step-first-requires c = c.loop-i.invariant.low

pub step-second-requires : goal.step-second-requires
step-second-requires c = rw c.step-first.ensures (stepped_low _)

pub loop-i-preserved : goal.loop-i-preserved
loop-i-preserved c =
    let at = c.loop-i in
    let s = c in
    let a = c.args in
    let more = c.loop-i-test.true in
    let first : c.step-first.result ≡ stepped (state_at at.i a.start) = c.step-first.ensures ∙ ap stepped at.invariant.state in
    let second : c.step-second.result ≡ stepped (stepped (state_at at.i a.start)) = c.step-second.ensures ∙ ap stepped first in
    record {
      state = rw add-one (second ∙ sym (state_next at.i a.start));
      low = rw c.step-second.ensures (stepped_low _);
      numbers = laid_next _ _ _ _ _ _ at.invariant.numbers (length_numbers a.count 1) more s.requires.2 (omega (arith, number_at a.count at.i 1 more));
      turnovers = laid_next _ _ _ _ _ _ at.invariant.turnovers (length_turnovers a.count a.start) more s.requires.3
          (ap (λ (n : ℕ). n % turnover_range + 1) first ∙ sym (turnover_at a.count at.i a.start more));
      randoms = laid_next _ _ _ _ _ _ at.invariant.randoms (length_randoms a.count a.start) more s.requires.4
          (ap₂ (λ (n m : ℕ). n % m) second c.from.ensures ∙ sym (random_at a.count at.i a.start more));
    }

pub returns : goal.returns
returns c =
    let at = c.loop-i in
    let a = c.args in
    let most : at.i ≤ a.count = omega arith in
    let done = c.loop-i-test.false in
    record {
      numbers_after = laid_end _ _ _ _ _ at.invariant.numbers (length_numbers a.count 1) most done;
      turnovers_after = laid_end _ _ _ _ _ at.invariant.turnovers (length_turnovers a.count a.start) most done;
      randoms_after = laid_end _ _ _ _ _ at.invariant.randoms (length_randoms a.count a.start) most done;
    }
