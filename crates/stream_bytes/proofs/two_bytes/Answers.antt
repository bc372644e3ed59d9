-- The two bytes by the definition, the first the highest.
use Prim.Native.Nat.{◌+◌}
use native.Mathlib.Omega.{arith}
use Rattle.stream_bytes.proofs.Joined.{join, byte}
use Rattle.stream_bytes.proofs.two_bytes.Goals as goal

pub returns : goal.returns
returns c = omega (arith, c.from_be_bytes.ensures, join 1 1 c.args.s.now c.args.i, byte c.args.s.now c.args.i, byte c.args.s.now (c.args.i + 1))
