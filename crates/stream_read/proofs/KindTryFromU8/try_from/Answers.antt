-- A byte that no arm names is out of range.
use native.Mathlib.Omega.{arith}
use mathlib.Core.Path.{refl}
use Rattle.stream_read.proofs.CommandBytes.{out_of_range}
use Rattle.stream_read.proofs.KindTryFromU8.try_from.Goals as goal

pub returns-in_default : goal.returns-in_default
returns-in_default c = (refl, out_of_range c.args.k (omega arith) (omega arith) (omega arith) (omega arith) (omega arith) (omega arith) (omega arith))
