-- After k turns the k first of the sectors that are still there have one more (`Given`).
use mathlib.Core.Path.{◌≡◌, sym, subst}
use mathlib.Core.List.{List}
use Prim.Native.Nat.{ℕ, ◌≤◌, ◌<◌}
use native.Mathlib.Omega.{arith}
use lib.ListN.{length, get_or, take, length-take}
use Rattle.std.proofs.Common.{rules}
use Rattle.rules.specs.Limits.{most_sectors, most_interviews}
use Rattle.rules.specs.Selection.{count}
use Rattle.rules.specs.TakeAll.{larger}
use Rattle.selection.specs.Ranked.{Ranked}
use Rattle.selection.proofs.Orders.{Order, order_among}
use Rattle.selection.proofs.TakeAll.{larger_order}
use Rattle.selection.proofs.Sums.{count_le}
use Rattle.sector_passes.specs.Marks.{still_in}
use Rattle.sector_more.specs.Given.{Givable, Given}
use Rattle.sector_more.proofs.Ranking.{ranked_first}
use Rattle.sector_more.proofs.Giving.{given_none, given_here, given_more}
use Rattle.sector_more.proofs.give.Goals as goal

-- what the places hold, over plain values
module _ (keys gone : List ℕ) (n more : ℕ) (counts₀ places : List ℕ) (asked : Givable keys gone n more counts₀)
    (all : Ranked (still_in gone) (larger keys) n places (count (still_in gone) n)) (long : length places ≡ most_sectors) where
  more_room : more ≤ length places
  more_room = omega (arith, asked.enough, count_le (still_in gone) n, asked.few, long)

  first_length : length (take more places) ≡ more
  first_length = omega (arith, length-take more places, more_room)

  abbrev order : Order (still_in gone) (larger keys) n
  order = order_among (still_in gone) (larger keys) n (larger_order keys n)

  first : Ranked (still_in gone) (larger keys) n (take more places) more
  first = ranked_first (still_in gone) (larger keys) n _ places more asked.enough all

  module _ (counts : List ℕ) (k : ℕ) (w : Given (still_in gone) (larger keys) n k counts₀ counts) (l : k < length (take more places)) where
    turn : k < more
    turn = omega (arith, l, first_length)

    place_low : get_or (take more places) k 0 < n
    place_low = first.low k turn

    place_there : get_or (take more places) k 0 < length counts
    place_there = omega (arith, place_low, asked.room, w.same)

    count_low : get_or counts (get_or (take more places) k 0) 0 ≤ most_interviews
    count_low = omega (arith, given_here order first k turn counts₀ counts w, asked.low (get_or (take more places) k 0) place_low)

pub slice_bounds-places-end : goal.slice_bounds-places-end
slice_bounds-places-end c = more_room _ _ _ _ _ _ c.requires c.rank_still.ensures c.rank_still.auto.places

pub slice_bounds-place-items-end : goal.slice_bounds-place-items-end
slice_bounds-place-items-end c = sym (first_length _ _ _ _ _ _ c.requires c.rank_still.ensures c.rank_still.auto.places)

pub loop-place-init : goal.loop-place-init
loop-place-init c = given_none _ _ _ _

pub overflow_add-counts : goal.overflow_add-counts
overflow_add-counts c = search (arith, count_low _ _ _ _ _ _ c.requires c.rank_still.ensures c.rank_still.auto.places _ _ c.loop-place.invariant c.loop-place-test.true)

pub loop-place-preserved : goal.loop-place-preserved
loop-place-preserved c =
    let a = c.args in
    let asked = c.requires in
    let all = c.rank_still.ensures in
    let long = c.rank_still.auto.places in
    let w = c.loop-place.invariant in
    given_more (order _ _ _ _ _ _ asked all long) (first _ _ _ _ _ _ asked all long) _ (turn _ _ _ _ _ _ asked all long _ _ w c.loop-place-test.true) _ _ w _ (search rules) (omega (arith, asked.room, w.same))

pub returns : goal.returns
returns c =
    let a = c.args in
    let at = c.loop-place in
    let long = first_length _ _ _ _ _ _ c.requires c.rank_still.ensures c.rank_still.auto.places in
    let end : at.place-index ≡ a.more = omega (arith, at.auto.place-index-end, c.loop-place-test.false, long) in
    subst (λ (k : ℕ). Given (still_in a.gone.now) (larger a.remainders.now) a.sectors k a.counts.now at.counts) end at.invariant
