-- Document 02, [7]: what an opening brings, as the code has it, as that of `rules`; and what is refused of it before any u is made.
use Rattle.std.specs.Prelude.{ℕ, List, Option, Some, None}
use Rattle.rules.specs.Chain.{open_input_refusal}
use Rattle.rules.specs.Panel as rules
use Rattle.rules.specs.Panel.{outside_input_refusal}
use Rattle.chain_open_weights.specs.Weighable.{Shareable}
use Rattle.chain_share.specs.Outsideable.{Outsideable}
use Rattle.chain_share.specs.declared.Outside.{Outside}
use Rattle.chain_open.specs.declared.Panel.{Panel}

abbrev pub outside_of : Option Outside → rules.Outside
outside_of None = rules.Outside.none
outside_of (Some o) = rules.Outside.share o.domain o.marks.now

abbrev pub panel_of : Panel → rules.Panel
panel_of p =
    record { base = p.lists.weights.now; shares = p.lists.shares.now; updates = p.lists.relatives.now; outside = outside_of p.outside }

-- 9 to 13, and where there is an outside share 29
abbrev pub input_refusal_by : rules.Outside → List ℕ → List ℕ → List ℕ → ℕ → ℕ
input_refusal_by rules.Outside.none ws gs rs start = open_input_refusal ws gs rs start
input_refusal_by (rules.Outside.share domain ms) ws gs rs start = outside_input_refusal domain ms ws gs rs start

abbrev pub input_refusal : rules.Panel → ℕ → ℕ
input_refusal p start = input_refusal_by p.outside p.base p.shares p.updates start

-- what either way to the u asks
abbrev pub CanShare : rules.Outside → List ℕ → List ℕ → List ℕ → Type 0
CanShare rules.Outside.none ws gs us = Shareable ws gs us
CanShare (rules.Outside.share domain ms) ws gs us = Outsideable domain ms ws gs us
