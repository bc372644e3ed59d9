-- Refused: the buffer is as it was. Else the lists are what `put_all` asks, and the stream stands at the buffer's front.
use mathlib.Core.Path.{sym, ap, ◌∙◌}
use native.Mathlib.Omega.{arith}
use borrow.Author.Rules.{rules}
use Rattle.std.proofs.lemmas.Result.{err_from_is_err_and}
use Rattle.rules.specs.Refusals.{Judged}
use Rattle.rules.specs.Writing.{write_answer, write_bytes}
use Rattle.refusals.specs.Number.{refusal_of}
use Rattle.refusals.proofs.Numbers.{number_is_suc}
use Rattle.text_decimal.proofs.Laying.{counted, fronted}
use Rattle.stream_write.specs.Answer.{lists_of}
use Rattle.stream_write.proofs.Rows.{accepted}
use Rattle.stream_write.proofs.write.Goals as goal

pub returns-in_err-judge-clause-result_value : goal.returns-in_err-judge-clause-result_value
unfolding write_answer
returns-in_err-judge-clause-result_value c =
    let p = err_from_is_err_and c.from_residual.result c.from_residual.ensures.1 in
    rw (p.1, p.2, sym c.judge.ensures ∙ ap refusal_of c.in_err-judge.was, number_is_suc c.in_err-judge.field-0.0)

pub returns-in_err-judge-clause-out_after : goal.returns-in_err-judge-clause-out_after
unfolding write_bytes
returns-in_err-judge-clause-out_after c = rw (sym c.judge.ensures ∙ ap refusal_of c.in_err-judge.was, number_is_suc c.in_err-judge.field-0.0)

pub returns-clause-result_value : goal.returns-clause-result_value
unfolding write_answer
returns-clause-result_value c = rw (sym c.judge.ensures ∙ ap refusal_of c.in_ok-judge.was) (ap Judged.given (counted c.put_all.ensures.put))

pub returns-clause-out_after : goal.returns-clause-out_after
unfolding write_bytes
returns-clause-out_after c = rw (sym c.judge.ensures ∙ ap refusal_of c.in_ok-judge.was) (search rules ∙ fronted c.put_all.ensures.put)

pub put_all-requires : goal.put_all-requires
put_all-requires c =
    let all = accepted (lists_of c.args.lists.now) c.args.out.now (sym c.in_ok-judge.ensures) in
    (record { sizes = all.sizes; shares = all.shares; numbers = all.numbers; randoms = all.randoms; amounts = all.amounts }, omega (arith, all.room))
