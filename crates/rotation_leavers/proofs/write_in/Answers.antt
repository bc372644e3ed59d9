-- `write_in` meets its contract: the front of the list is who leaves, in order, and their numbers are written.
use mathlib.Core.Path.{sym}
use native.Mathlib.Nat.{le_trans}
use Rattle.rotation_leavers.proofs.Leavers.{ordered_front, ordered_few, ordered_numbered}
use Rattle.rotation_leavers.proofs.write_in.Goals as goal

pub slice_bounds-write_numbers-end : goal.slice_bounds-write_numbers-end
slice_bounds-write_numbers-end g c = sym (ordered_front _ _ _ _ _ _ _ c.list_in_order-count.ensures)

pub write_numbers-requires : goal.write_numbers-requires
write_numbers-requires g c =
    let o = c.list_in_order-count.ensures in (
      ordered_numbered _ _ _ _ _ _ _ o _ _ c.requires.numbers_len.0 c.args.search.now.searched.low,
      le_trans (ordered_few _ _ _ _ _ _ _ o) c.requires.numbers_len.1,
    )

pub returns : goal.returns
returns g c =
    let o = c.list_in_order-count.ensures in
    record { value = o.many; out_after = rw (← o.front) c.write_numbers.ensures }
