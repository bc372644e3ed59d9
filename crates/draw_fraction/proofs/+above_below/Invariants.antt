-- The measure is the first denominator, which becomes a remainder by it.
use Rattle.draw_fraction.proofs.+above_below.Given as goal

abbrev pub decreases-above : goal.decreases-above
decreases-above l = l.u.den

abbrev pub decreases-below : goal.decreases-below
decreases-below l = l.x.den
