-- Document 02, [11]: what a renewal makes of what the opening of its new weights answered, and the record that the caller goes on with.
use Rattle.std.specs.Prelude.{Result, Ok, Err}
use Rattle.refusals.specs.declared.Refusal.{Refusal}
use Rattle.rules.specs.Refusals.{Judged}
use Rattle.rules.specs.Chain as rules
use Rattle.rules.specs.Renewal.{with_links}
use Rattle.chain.specs.declared.Chain.{Chain}

-- the record after a renewal of c: the one that was handed in where it is refused
abbrev pub left : Chain → Result Chain Refusal → Chain
left c (Ok d) = d
left c (Err _) = c

-- from the record r and what the opening at its C answered: the links go onward …
abbrev pub onward : rules.Chain → Judged rules.Chain → Judged rules.Chain
onward r (Judged.refused n) = Judged.refused n
onward r (Judged.given s) = Judged.given (with_links r.links s)

-- … and the record after it, which stays where the opening is refused
abbrev pub onward_after : rules.Chain → Judged rules.Chain → rules.Chain
onward_after r (Judged.refused n) = r
onward_after r (Judged.given s) = with_links r.links s
