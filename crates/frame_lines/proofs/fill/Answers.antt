-- After i turns the first i lines stand in the three lists (`written_to`), and `at` is the offset of the next one.
use mathlib.Core.Path.{◌≡◌, sym, ap, ◌∙◌}
use Prim.Native.Nat.{ℕ, ◌≤◌}
use native.Mathlib.Numerals.{add-one}
use native.Mathlib.Omega.{arith}
use Rattle.rules.specs.Register.{Row, row_at}
use Rattle.rules.proofs.Lists.{laid_next, laid_end}
use Rattle.frame_lines.specs.Value.{row_from}
use Rattle.frame_lines.proofs.Filled.{offset_at, offset_next, column_at, length_column}
use Rattle.frame_lines.proofs.fill.Invariants.{number, turnover, random}
use Rattle.frame_lines.proofs.fill.Goals as goal

abbrev next : Row → ℕ
next row = row.next

pub loop-i-preserved : goal.loop-i-preserved
loop-i-preserved c =
    let t = c.args.text.now in
    let n = c.args.count in
    let i = c.loop-i.i in
    let inv = c.loop-i.invariant in
    let more = c.loop-i-test.true in
    let row : row_from c.read_row-found.result ≡ row_at t (offset_at i t 0) = c.read_row-found.ensures ∙ ap (row_at t) inv.offset in
    record {
      offset = rw add-one (ap next row ∙ sym (offset_next i t 0));
      numbers = laid_next _ _ _ _ _ _ inv.numbers (length_column number n t 0) more c.requires.0 (ap number row ∙ sym (column_at number n i t 0 more));
      turnovers = laid_next _ _ _ _ _ _ inv.turnovers (length_column turnover n t 0) more c.requires.1 (ap turnover row ∙ sym (column_at turnover n i t 0 more));
      randoms = laid_next _ _ _ _ _ _ inv.randoms (length_column random n t 0) more c.requires.2 (ap random row ∙ sym (column_at random n i t 0 more));
    }

pub returns : goal.returns
returns c =
    let a = c.args in
    let inv = c.loop-i.invariant in
    let most : c.loop-i.i ≤ a.count = omega arith in
    let done = c.loop-i-test.false in
    record {
      numbers_after = laid_end _ _ _ _ _ inv.numbers (length_column number a.count a.text.now 0) most done;
      turnovers_after = laid_end _ _ _ _ _ inv.turnovers (length_column turnover a.count a.text.now 0) most done;
      randoms_after = laid_end _ _ _ _ _ inv.randoms (length_column random a.count a.text.now 0) most done;
    }
