-- The answer from the next line on (`scanned`) stays the answer of the whole text. Each line is a byte at least, so their count fits.
use mathlib.Core.Path.{refl, sym, ◌∙◌}
use Prim.Native.Nat.{◌-◌, zero-le}
use native.Mathlib.Omega.{arith}
use borrow.Author.Tests.{lt-ltb, le-ltb}
use lib.ListN.{length}
use Rattle.rules.specs.Register.{ended_with, imported}
use Rattle.frame_lines.proofs.Scan.{line_goes_on, scanned_bad, scanned_good, scanned_end}
use Rattle.frame_lines.proofs.judge.Goals as goal

pub loop-at-init : goal.loop-at-init
unfolding imported
loop-at-init c = record { few = zero-le; most = length c.args.t.now; left = omega arith; same = refl }

pub returns-in_default : goal.returns-in_default
returns-in_default c =
    let inv = c.loop-at.invariant in
    sym (scanned_bad _ c.loop-at.at c.loop-at.lines _ inv.most inv.left c.loop-at-test.true (sym c.in_default.ensures)) ∙ inv.same

pub loop-at-smaller : goal.loop-at-smaller
loop-at-smaller c = let next = line_goes_on _ _ _ (sym c.in-Some.ensures) in omega arith

-- a good line, and the next one after it
pub loop-at-preserved : goal.loop-at-preserved
loop-at-preserved c =
    let inv = c.loop-at.invariant in
    let more = c.loop-at-test.true in
    let next = line_goes_on _ _ _ (sym c.in-Some.ensures) in
    let left = inv.left in
    record {
      few = omega (arith, inv.few);
      most = inv.most - 1;
      left = omega arith;
      same = sym (scanned_good _ c.loop-at.at c.loop-at.lines _ inv.most _ left more (sym c.in-Some.ensures)) ∙ inv.same;
    }

pub returns-then-places-lines : goal.returns-then-places-lines
unfolding ended_with
returns-then-places-lines c =
    let inv = c.loop-at.invariant in
    let ended = sym (scanned_end _ c.loop-at.at c.loop-at.lines c.args.places inv.most c.loop-at-test.false) ∙ inv.same in
    simp (lt-ltb _ _ c.if-places-lines.true) at ended

pub returns : goal.returns
unfolding ended_with
returns c =
    let inv = c.loop-at.invariant in
    let ended = sym (scanned_end _ c.loop-at.at c.loop-at.lines c.args.places inv.most c.loop-at-test.false) ∙ inv.same in
    simp (le-ltb _ _ c.if-places-lines.false) at ended
