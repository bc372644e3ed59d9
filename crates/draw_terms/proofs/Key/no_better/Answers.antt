-- A key is not below one of no larger a numerator over no smaller a denominator, nor below one whose whole part it is beyond.
use Rattle.draw_terms.proofs.Terms.{not_less, beyond_stays}
use Rattle.draw_terms.proofs.Key.no_better.Goals as goal

pub returns-then-terms-self : goal.returns-then-terms-self
returns-then-terms-self c = λ h. not_less _ _ _ _ c.if-terms-self.true.0 c.if-terms-self.true.1

pub returns-else-terms-self : goal.returns-else-terms-self
returns-else-terms-self c = λ h.
    beyond_stays _ _ _ _ _ c.requires.den_some c.args.self.divided.den_some c.args.self.divided.whole_is (c.beyond.ensures h)
