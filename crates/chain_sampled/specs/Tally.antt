-- Document 02, [7]: n and T as the code's pair. n is counted here beside the shares; a panel's lists are of one length.
use Rattle.std.specs.Prelude.{ℕ, List}
use Rattle.rules.specs.Panel.{sampled_size, sampled_shares}
use Rattle.chain_sampled.specs.declared.Tally.{Tally}

abbrev pub tally_of : List ℕ → List ℕ → Tally
tally_of ms gs = record { size = sampled_size ms gs; shares = sampled_shares ms gs }
