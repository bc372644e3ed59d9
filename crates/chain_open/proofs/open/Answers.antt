-- `open` is the opening of a panel that brings no outside share.
use Rattle.rules.specs.Chain.{open_answer}
use Rattle.rules.specs.Panel.{panel_answer}
use Rattle.chain_open.proofs.open.Goals as goal

pub returns : goal.returns
unfolding open_answer panel_answer
returns c = c.open.ensures
