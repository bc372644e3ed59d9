-- `list_in_order` meets its contract: the front of the list is who leaves, and that part is put in order.
use mathlib.Core.Path.{sym}
use Rattle.rotation_leavers.proofs.Leavers.{listed_room, front_length, orderable, put_in_order}
use Rattle.rotation_leavers.proofs.list_in_order.Goals as goal

pub list-count-requires : goal.list-count-requires
list-count-requires c = c.requires.0

pub slice_bounds-order-end : goal.slice_bounds-order-end
slice_bounds-order-end c = listed_room _ _ _ _ _ _ _ _ c.list-count.ensures

pub slice_bounds-order-end-2 : goal.slice_bounds-order-end-2
slice_bounds-order-end-2 c = sym (front_length _ _ _ _ _ _ _ _ c.list-count.ensures)

pub order-requires : goal.order-requires
order-requires c = orderable _ _ _ _ _ _ _ _ c.list-count.ensures _ c.args.search.now.searched.low c.requires.1

pub returns : goal.returns
returns c = put_in_order _ _ _ _ _ _ _ _ c.list-count.ensures _ c.order.auto.units c.order.ensures
