-- `outside` meets its contract: the births below i are in the frame, which is passed as far.
use mathlib.Core.Path.{◌≡◌}
use mathlib.Core.Bool.{not}
use lib.ListN.{drop}
use Rattle.rules.specs.Lists.{elem, any_of}
use Rattle.rotation_seek.proofs.Passing.{Standing}
use Rattle.rotation_births.proofs.outside.Given as goal

abbrev pub invariant-loop-unit : goal.invariant-loop-unit
invariant-loop-unit l =
    (l.frame.list.now ≡ l.numbers) × Standing l.births l.numbers l.unit-index l.frame.at × (any_of (λ unit. not (elem unit l.numbers)) (drop l.unit-index l.births) ≡ any_of (λ unit. not (elem unit l.numbers)) l.births)
