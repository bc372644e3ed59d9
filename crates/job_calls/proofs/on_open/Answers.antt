-- The three parts that are lent are the job's lists, so that the answer of `open` is the one that `rules` asks of them.
use native.Mathlib.Omega.{arith}
use mathlib.Core.Path.{refl}
use Rattle.job_calls.proofs.Calls.{no_panel, open_refused, open_accepted}
use borrow.Author.Rules.{rules}
use Rattle.job_calls.proofs.on_open.Goals as goal

pub returns-then-units-eq0 : goal.returns-then-units-eq0
returns-then-units-eq0 c = no_panel c.args.job _ _ (search rules) (omega arith) c.said.ensures

pub returns-in-Err : goal.returns-in-Err
returns-in-Err c =
    open_refused c.args.job _ _ (search rules) (omega arith) c.lent.result c.lent.ensures c.open.result c.open.ensures
    _ c.in-Err.is c.said-in-Err.ensures

pub returns-in-Ok : goal.returns-in-Ok
returns-in-Ok c =
    open_accepted c.args.job _ _ (search rules) (omega arith) c.lent.result c.lent.ensures c.open.result c.open.ensures
    _ c.in-Ok.is _ (rw c.with_chain.ensures refl) c.said-in-Ok.ensures
