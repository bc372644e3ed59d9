-- `link`: quotient and remainder of N by V, each times the scale, stay below 2^64 and make L.
use Rattle.rules.specs.Limits.{link_scale}
use Rattle.chain_figure.proofs.Reckoning.{two_steps}
use Rattle.chain_figure.proofs.link.Goals as goal

pub returns : goal.returns
returns c = two_steps c.args.n c.args.v link_scale c.requires.0
