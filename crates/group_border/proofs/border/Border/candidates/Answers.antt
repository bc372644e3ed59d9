-- `candidates` meets its contract: gathered units in order are ranked among the candidates.
use mathlib.Core.Path.{◌≡◌, subst}
use mathlib.Core.List.{◌++◌}
use Prim.Native.Nat.{ℕ}
use native.Mathlib.Omega.{arith}
use lib.ListN.{length, take, drop}
use lib.Seq.{length-take-le}
use Rattle.group_border.specs.Searched.{CandidatesOf}
use Rattle.group_border.proofs.Both.{in_order_lem}
use Rattle.group_border.proofs.border.Border.candidates.Goals as goal

-- what was gathered has its place in the list
pub returns : goal.returns
returns c =
    let g = c.gather_both-many in
    let fits : length (take g.result g.new.places) ≡ g.result =
    length-take-le _ _ (omega (arith, g.ensures.upper_bound, g.auto.places, c.requires)) in
    subst (λ (k : ℕ). CandidatesOf c.args.self.now (c.order.new.units ++ drop g.result g.new.places) k) fits
    (in_order_lem _ _ _ _ _ _ _ g.ensures.gathered c.order.ensures c.order.auto.units)
