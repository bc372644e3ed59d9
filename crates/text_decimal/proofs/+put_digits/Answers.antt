-- The digits of a tenth and one more: the last digit is laid after those of n / 10.
use Prim.Native.Nat.{◌<◌, ◌≤◌, ◌^◌}
use mathlib.Core.Path.{sym, ap}
use lib.ListN.{length}
use native.Mathlib.Omega.{arith}
use borrow.Author.Rules.{rules}
use Rattle.text_decimal.proofs.Laying.{stored, in_turn, says}
use Rattle.text_decimal.proofs.Digits.{one_digit, one_more_lem, one_more_length}
use Rattle.text_decimal.proofs.+put_digits.Goals as goal

pub bounds-out-at : goal.bounds-out-at
bounds-out-at t c = omega (arith, ap length (one_digit c.args.n (search rules)))

pub returns-then-n-lt10 : goal.returns-then-n-lt10
returns-then-n-lt10 t c =
    let one = one_digit c.args.n (search rules) in
    says (sym one) (stored _ _ _ (omega (arith, ap length one)))

pub put_digits-last-requires : goal.put_digits-last-requires
put_digits-last-requires t c = (search rules, omega (arith, one_more_length c.args.n (search rules) (search rules)))

pub bounds-out-last : goal.bounds-out-last
bounds-out-last t c = omega (arith, one_more_length c.args.n (search rules) (search rules), c.put_digits-last.auto.out)

pub overflow_add-result-2 : goal.overflow_add-result-2
overflow_add-result-2 t c = omega (arith, one_more_length c.args.n (search rules) (search rules), c.put_digits-last.auto.out)

pub returns : goal.returns
returns t c =
    let h : 10 ≤ c.args.n = omega arith in
    let fits : c.args.n < 2 ^ 64 = omega arith in
    let size = one_more_length c.args.n h fits in
    let last = stored c.put_digits-last.new.out c.put_digits-last.result _ (omega (arith, size, c.put_digits-last.auto.out)) in
    says (sym (one_more_lem c.args.n h fits)) (in_turn c.put_digits-last.ensures last (omega (arith, size)))
