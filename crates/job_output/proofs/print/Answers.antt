-- `print`: the first pass counts, the second lays.
use native.Mathlib.Omega.{arith}
use Rattle.job_output.proofs.Printing.{short, fits}
use Rattle.job_output.proofs.print.Goals as goal

pub returns-then-out-bytes : goal.returns-then-out-bytes
returns-then-out-bytes c =
    let six = short c.args.stream.now c.args.out.now (omega arith) in
    record { result_value = six.0; out_after = six.1 }

pub returns : goal.returns
returns c =
    let laid = fits c.args.stream.now c.args.out.now _ _ c.count-bytes.ensures (omega arith) (c.pass.ensures.text (omega arith)) in
    record { result_value = laid.0; out_after = laid.1 }
