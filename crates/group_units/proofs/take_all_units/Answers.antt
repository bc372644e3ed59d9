-- A refused verdict answers its number and leaves the buffer; an accepted one gives the facts that the inner functions ask for.
use mathlib.Core.Path.{◌≡◌, refl, sym, ap, ◌∙◌}
use mathlib.Core.List.{List}
use Prim.Native.Nat.{ℕ, ◌≤◌}
use native.Mathlib.Omega.{arith}
use lib.ListN.{length, get_or}
use Rattle.std.proofs.Common.{rules, Err}
use Rattle.rules.specs.Refusals.{written}
use Rattle.rules.specs.Selection.{count, listed}
use Rattle.rules.specs.Kept.{Keeping, enlarged_group, take_all_units_refusal, take_all_units_answer, take_all_units}
use Rattle.refusals.proofs.Answers.{refused_by, written_by}
use Rattle.selection.proofs.Sums.{sum_same}
use Rattle.selection.proofs.Listed.{listed_same}
use Rattle.group.specs.declared.Group.{Group}
use Rattle.group.specs.Group.{marked}
use Rattle.group_keeping.specs.Keeping.{keeping_of}
use Rattle.group_kept.specs.Kept.{IsEnlarged}
use Rattle.group_kept.proofs.Enlarged.{enlarged_sound}
use Rattle.group_units.proofs.Accepted.{Accepted, accepted}
use Rattle.group_units.proofs.take_all_units.Goals as goal

-- the marks tell whom to write, and there is room for them
module _ (ns ts : List ℕ) (z : ℕ) (p : Keeping) (buffer marks : List ℕ) (g : Group) (ok : Accepted ns ts z p buffer) (is : IsEnlarged ns ts z p marks g) where
  units_are : listed (marked marks) (λ i. get_or ns i 0) (length ns) ≡ listed (enlarged_group ns ts z p).takes_all (λ i. get_or ns i 0) (length ts)
  units_are =
      ap (listed (marked marks) (λ i. get_or ns i 0)) ok.same
      ∙ listed_same (marked marks) (enlarged_group ns ts z p).takes_all (λ i. get_or ns i 0) (length ts) is.agrees.takes

  fits : count (marked marks) (length ns) ≤ length buffer
  unfolding count
  fits =
      let same = sum_same (marked marks) (enlarged_group ns ts z p).takes_all (λ i. 1) (length ts) is.agrees.takes in
      let all : count (marked marks) (length ns) ≡ count (marked marks) (length ts) = ap (count (marked marks)) ok.same in
      omega (arith, all, same, (enlarged_sound ns ts z ok.units.size_within p).parts, ok.room)

-- the verdict is the definition's
pub find_enlarged-g-requires : goal.find_enlarged-g-requires
find_enlarged-g-requires c =
    let k = accepted _ _ _ _ _ (sym c.in_ok-judge.ensures) in
    (k.ready, k.units.few)

pub write_marked-requires : goal.write_marked-requires
write_marked-requires c =
    let k = accepted _ _ _ _ _ (sym c.in_ok-judge.ensures) in
    (omega (arith, k.same, k.units.few, c.find_enlarged-g.auto.marks), fits _ _ _ _ _ _ _ k c.find_enlarged-g.ensures)

pub returns-in_err-judge : goal.returns-in_err-judge
unfolding take_all_units_answer take_all_units
returns-in_err-judge c =
    let told : c.from_residual.result ≡ Err c.in_err-judge.field-0.0 = search rules in
    rw told record { result_value = refused_by _ _ c.in_err-judge.ensures _; units_after = written_by _ _ c.in_err-judge.ensures _ _ }

pub returns : goal.returns
unfolding take_all_units_answer take_all_units
returns c =
    let a = c.args.asked.now in
    let e : take_all_units_refusal a.numbers.now a.turnovers.now a.z (keeping_of a.keeping) c.args.units.now ≡ 0 = sym c.in_ok-judge.ensures in
    let is = c.find_enlarged-g.ensures in
    rw (e, ← is.size, ← is.agrees.size_is, ← is.agrees.rest_is)
    record {
      result_value = refl;
      units_after = c.write_marked.ensures ∙ ap (λ (xs : List ℕ). written 0 xs c.args.units.now) (units_are _ _ _ _ _ _ _ (accepted _ _ _ _ _ e) is);
    }
