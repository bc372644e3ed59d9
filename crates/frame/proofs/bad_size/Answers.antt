-- `bad_size` meets its contract: its three tests are the definition's.
use native.Mathlib.Omega.{arith}
use borrow.Author.Tests.{eq-eqb, ne_eqb, lt-ltb, le-ltb}
use Rattle.rules.specs.Limits.{most_panel}
use Rattle.rules.specs.Tests.{◌or◌}
use Rattle.rules.specs.TakeAll.{bad_size}
use Rattle.frame.proofs.bad_size.Goals as goal
use Rattle.frame.proofs.bad_size.Goals.{then-z-eq0, else-z-eq0}

pub returns-then-z-gt-MOST_PANEL : goal.returns-then-z-gt-MOST_PANEL
unfolding bad_size ◌or◌
returns-then-z-gt-MOST_PANEL c =
    elim c.if-z-eq0.branch [
      | then-z-eq0 w ↦ rw (w.t-4-is, eq-eqb _ _ w.if-z-eq0.true)
      | else-z-eq0 w ↦ rw (w.t-4-is, ne_eqb _ _ w.if-z-eq0.false, lt-ltb most_panel c.args.z (omega (arith, c.if-z-gt-MOST_PANEL.either, w.if-z-eq0.false)))
    ]

pub returns-else-z-gt-MOST_PANEL : goal.returns-else-z-gt-MOST_PANEL
unfolding bad_size ◌or◌
returns-else-z-gt-MOST_PANEL c =
    let past = c.if-z-gt-MOST_PANEL.false in
    rw (ne_eqb c.args.z 0 (λ e. omega (arith, past, e)), le-ltb most_panel c.args.z (omega (arith, past)))
