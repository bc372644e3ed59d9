-- The listed sectors are put in order (proofs/Ranking.antt).
use mathlib.Core.Path.{sym}
use native.Mathlib.Omega.{arith}
use lib.Seq.{length-take-le}
use Rattle.sector_more.proofs.Ranking.{held_few, held_orderable, held_ranked}
use Rattle.sector_more.proofs.rank_still.Goals as goal

pub slice_bounds-order-end : goal.slice_bounds-order-end
slice_bounds-order-end c = omega (arith, held_few _ c.args.remainders.now _ _ _ c.list_still-many.ensures, c.list_still-many.auto, c.requires.2)

pub slice_bounds-order-end-2 : goal.slice_bounds-order-end-2
slice_bounds-order-end-2 c = sym (length-take-le _ _ (omega (arith, held_few _ c.args.remainders.now _ _ _ c.list_still-many.ensures, c.list_still-many.auto, c.requires.2)))

pub order-requires : goal.order-requires
order-requires c = held_orderable _ c.args.remainders.now _ _ _ c.list_still-many.ensures _ c.requires.0 c.requires.3

pub returns : goal.returns
returns c = let at-order = c in
    let s = at-order in
    held_ranked _ s.args.remainders.now _ _ _ s.list_still-many.ensures _ _ at-order.order.ensures
