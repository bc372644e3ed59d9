-- `outside` meets its contract: the births below i are in the frame, which is passed as far.
use mathlib.Core.Path.{◌≡◌, refl, sym, ap, subst, ◌∙◌}
use mathlib.Core.Bool.{not}
use mathlib.Core.List.{List}
use Prim.Native.Nat.{ℕ, ◌+◌}
use lib.ListN.{get_or}
use Rattle.rules.specs.Lists.{elem}
use Rattle.rules.proofs.Lists.{one_found, one_next, one_none}
use Rattle.rotation_seek.specs.Passed.{Passed}
use Rattle.rotation_seek.proofs.Passing.{Standing, stand_first, stand_behind, reached_elem, met_reached, met_told, met_onward, met_same}
use Rattle.rotation_births.proofs.outside.Goals as goal

pub loop-unit-init : goal.loop-unit-init
loop-unit-init c = (c.new-frame.ensures.0, subst (λ (j : ℕ). Standing c.args.births.now c.args.numbers.now 0 j) (sym c.new-frame.ensures.1) (stand_first _ _), refl)

pub meets-requires : goal.meets-requires
meets-requires c =
    subst (λ (xs : List ℕ). Passed xs c.loop-unit.frame.at (get_or c.args.births.now c.loop-unit.unit-index 0)) (sym c.loop-unit.invariant.0)
    (c.loop-unit.invariant.1.passed c.loop-unit-test.true)

-- the unit at i is absent if it does not stand where the search for it stopped
pub returns-then-not-meets : goal.returns-then-not-meets
returns-then-not-meets c =
    let same = c.loop-unit.invariant.0 in
    let told : not (elem (get_or c.args.births.now c.loop-unit.unit-index 0) c.args.numbers.now) ≡ not c.meets.result =
    ap not (reached_elem (met_reached same c.meets.ensures) c.requires.0 ∙ sym (met_told same c.meets.ensures)) in
    one_found _ _ _ _ c.loop-unit.invariant.2 c.loop-unit-test.true (told ∙ ap not c.if-not-meets.true)

pub loop-unit-preserved : goal.loop-unit-preserved
loop-unit-preserved c =
    let same = c.loop-unit.invariant.0 in
    let told : not (elem (get_or c.args.births.now c.loop-unit.unit-index 0) c.args.numbers.now) ≡ not c.meets.result =
    ap not (reached_elem (met_reached same c.meets.ensures) c.requires.0 ∙ sym (met_told same c.meets.ensures)) in
    let l = c.loop-unit-test.true in (
      met_same same c.meets.ensures,
      subst (λ (j : ℕ). Standing c.args.births.now c.args.numbers.now (c.loop-unit.unit-index + 1) j) (sym (met_onward same c.meets.ensures))
          (stand_behind c.loop-unit.invariant.1 c.requires.1 l (met_reached same c.meets.ensures)),
      one_next _ _ _ _ c.loop-unit.invariant.2 l (told ∙ ap not c.if-not-meets.false),
    )

pub returns : goal.returns
returns c = one_none _ _ _ _ c.loop-unit.invariant.2 c.loop-unit-test.false
