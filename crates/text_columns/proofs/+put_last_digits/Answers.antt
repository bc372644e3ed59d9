-- The last digits of a tenth, one fewer of them, and one more: `put_last_digits` calls itself at k − 1.
use Prim.Native.Nat.{ℕ, suc, ◌-◌, ◌/◌}
use mathlib.Core.Path.{◌≡◌, sym, ap, ◌∙◌}
use native.Mathlib.Omega.{arith}
use Rattle.rules.specs.Sheet.{last_digits}
use Rattle.text_decimal.proofs.Laying.{stored, in_turn, says, nothing_at}
use Rattle.text_columns.proofs.Pieces.{last_none, last_more, last_length}
use Rattle.text_columns.proofs.+put_last_digits.Goals as goal

pub returns-then-k-eq0 : goal.returns-then-k-eq0
returns-then-k-eq0 t c = let a = c.args in
    says (sym (ap (λ (k : ℕ). last_digits k a.n) c.if-k-eq0.true ∙ last_none a.n)) (nothing_at a.at a.out.now)

pub bounds-out-last : goal.bounds-out-last
bounds-out-last t c = omega (arith, last_length (c.args.k - 1) (c.args.n / 10), c.put_last_digits-last.auto.out)

pub overflow_add-result : goal.overflow_add-result
overflow_add-result t c = omega (arith, last_length (c.args.k - 1) (c.args.n / 10), c.put_last_digits-last.auto.out)

pub returns : goal.returns
returns t c = let a = c.args in
    let some : suc (a.k - 1) ≡ a.k = omega arith in
    let size = last_length (a.k - 1) (a.n / 10) in
    let last = stored c.put_last_digits-last.new.out c.put_last_digits-last.result _ (omega (arith, size, c.put_last_digits-last.auto.out)) in
    says (sym (last_more (a.k - 1) a.n) ∙ ap (λ (k : ℕ). last_digits k a.n) some) (in_turn c.put_last_digits-last.ensures last (omega (arith, size)))
