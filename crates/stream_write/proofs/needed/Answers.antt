-- The bytes so far and those of what is left are all; the sum stops over the limit.
use lib.ListN.{get_or}
use native.Mathlib.Omega.{arith}
use Rattle.stream_write.proofs.Rows.{most_width, width_step, width_end}
use Rattle.stream_write.proofs.needed.Goals as goal

pub overflow_add-bytes : goal.overflow_add-bytes
overflow_add-bytes c = omega (arith, most_width (get_or c.args.kinds.now c.loop-kind.kind-index 0))

pub returns-then-bytes-gt-MOST_STREAM : goal.returns-then-bytes-gt-MOST_STREAM
returns-then-bytes-gt-MOST_STREAM c = omega (arith, width_step c.args.kinds.now c.loop-kind.kind-index (omega arith))

pub loop-kind-preserved : goal.loop-kind-preserved
loop-kind-preserved c = omega (arith, width_step c.args.kinds.now c.loop-kind.kind-index (omega arith))

pub returns : goal.returns
returns c = omega (arith, width_end c.args.kinds.now c.loop-kind.kind-index (omega arith))
