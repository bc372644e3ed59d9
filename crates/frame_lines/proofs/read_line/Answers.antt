-- A line that lacks one of its three parts is bad; with all three it is their row, and each number fits its field.
use mathlib.Core.Path.{sym}
use native.Mathlib.Omega.{arith}
use Rattle.rules.specs.Limits.{most_short}
use Rattle.text_field.proofs.Found.{comma_found, end_found}
use Rattle.frame_lines.proofs.Scan.{bad_first, bad_second, bad_third, good_line}
use Rattle.frame_lines.proofs.read_line.Goals as goal

pub returns-in_err-number : goal.returns-in_err-number
returns-in_err-number c = rw c.from_residual.ensures (sym (bad_first _ _ (sym c.in_err-number.ensures.is)))

pub returns-in_err-turnover : goal.returns-in_err-turnover
returns-in_err-turnover c =
    let number = c.in_ok-number.ensures in
    let turnover = rw number.same at c.in_err-turnover.ensures.is in
    rw c.from_residual-in_err-turnover.ensures (sym (bad_second _ _ _ _ (sym number.is) (sym turnover)))

pub returns-in_err-random : goal.returns-in_err-random
returns-in_err-random c =
    let number = c.in_ok-number.ensures in
    let turnover = rw number.same at c.in_ok-turnover.ensures.is in
    let random = rw (c.in_ok-turnover.ensures.same, number.same) at c.in_err-random.ensures.is in
    rw c.from_residual-in_err-random.ensures (sym (bad_third _ _ _ _ (sym number.is) _ _ (sym turnover) (sym random)))

pub overflow_cast-unit : goal.overflow_cast-unit
overflow_cast-unit c = omega (arith, (comma_found _ _ most_short _ _ (sym c.in_ok-number.ensures.is)).0)

pub overflow_cast-unit-2 : goal.overflow_cast-unit-2
overflow_cast-unit-2 c = omega (arith, (end_found _ _ most_short _ _ (sym c.in_ok-random.ensures.is)).0)

pub returns : goal.returns
returns c =
    let number = c.in_ok-number.ensures in
    let turnover = rw number.same at c.in_ok-turnover.ensures.is in
    let random = rw (c.in_ok-turnover.ensures.same, number.same) at c.in_ok-random.ensures.is in
    sym (good_line _ _ _ _ (sym number.is) _ _ (sym turnover) _ _ (sym random))
