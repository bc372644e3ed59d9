-- `bad_links`: forty closes need no test of their own.
use mathlib.Core.Path.{sym, ◌∙◌}
use borrow.Author.Tests.{lt-ltb, le-ltb}
use Rattle.rules.proofs.Tests.{or_on, or_off}
use Rattle.rules.proofs.Chains.{closes_follow}
use Rattle.chain_record.proofs.Numbers.bad_links.Goals as goal

pub returns-then-self-gt-MOST_CLOSES : goal.returns-then-self-gt-MOST_CLOSES
returns-then-self-gt-MOST_CLOSES c = let over = lt-ltb _ _ c.if-self-gt-MOST_CLOSES.true in
    over ∙ sym (closes_follow _ _ ∙ or_on _ _ over)

pub returns-else-self-gt-MOST_CLOSES : goal.returns-else-self-gt-MOST_CLOSES
returns-else-self-gt-MOST_CLOSES c = sym (closes_follow _ _ ∙ or_off _ _ (le-ltb _ _ c.if-self-gt-MOST_CLOSES.false))
