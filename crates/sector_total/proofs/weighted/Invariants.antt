-- `weighted`: what is added up and what is left make the whole sum, which fits.
use Rattle.std.proofs.Common.{◌≡◌, ◌+◌}
use Rattle.std.specs.Slice.Iter.{iter_rest}
use Rattle.std.specs.Iterator.Adapters.{zip_first, zip_second}
use Rattle.rules.specs.Lists.{sum, products}
use Rattle.sector_total.proofs.weighted.Given as goal

abbrev pub invariant-loop-share : goal.invariant-loop-share
invariant-loop-share l = l.acc + sum (products (iter_rest (zip_first l.share-iterator)) (iter_rest (zip_second l.share-iterator))) ≡ sum (products l.shares l.indices)
