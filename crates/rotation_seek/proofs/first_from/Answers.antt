-- `first_from` meets its contract: the first place further on whose number is not below the number, or the end.
use Rattle.std.proofs.Common.{rules}
use Rattle.rotation_seek.proofs.Passing.{reached_by}
use Rattle.rotation_seek.proofs.first_from.Goals as goal

pub returns : goal.returns
returns c = reached_by _ _ _ c.requires _ _ _ c.first.ensures c.map_or.ensures (λ k told. search rules)
