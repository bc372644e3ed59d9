-- By the law of joined bytes, at 4 + 4.
use native.Mathlib.Omega.{arith}
use Rattle.stream_bytes.proofs.Joined.{join}
use Rattle.stream_bytes.proofs.two_words.Goals as goal

pub returns : goal.returns
returns c = omega (arith, join 4 4 c.args.s.now c.args.i)
