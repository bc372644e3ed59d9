-- The part that is lent is the job's pending relatives, so that the chain's answer is the one that `rules` asks.
use Rattle.job_calls.proofs.Calls.{no_chain, call_refused, call_figure}
use borrow.Author.Rules.{rules}
use Rattle.job_calls.proofs.on_call.Goals as goal

pub returns-in_default : goal.returns-in_default
returns-in_default c = no_chain _ _ _ c.in_default.is c.said.ensures

pub returns-in-Err : goal.returns-in-Err
returns-in-Err c =
    call_refused _ _ _ _ c.in-Some.is _ c.lent.ensures.relatives c.call-answered.result c.call-answered.ensures.answer_value
    _ c.in-Err.is c.said-in-Err.ensures

pub returns-in-Ok : goal.returns-in-Ok
returns-in-Ok c =
    call_figure _ _ _ _ c.in-Some.is _ c.lent.ensures.relatives c.call-answered.result c.call-answered.ensures.answer_value (search rules)
    _ c.in-Ok.is c.call-answered.ensures.chain_value _ c.with_chain.ensures c.said-in-Ok.ensures
