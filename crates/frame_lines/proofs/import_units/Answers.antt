-- A turn stores the unit of the next line, and after the last turn the list is the defined one.
use mathlib.Core.Path.{sym, ap, ◌∙◌}
use Prim.Native.Nat.{ℕ, ◌+◌, ◌-◌}
use native.Mathlib.Omega.{arith}
use lib.ListN.{length, set, length-set}
use Rattle.rules.specs.Register.{Row as RulesRow, import_count}
use Rattle.frame_lines.specs.Value.{unit_of}
use Rattle.frame_lines.proofs.Scan.{count_le}
use Rattle.frame_lines.proofs.Filled.{stored, stored_step, stored_end, units_stored}
use Rattle.frame_lines.proofs.import_units.Goals as goal

-- the loop takes as many lines as the answer does, which has a place for each
pub offset_bounds-list-i : goal.offset_bounds-list-i
offset_bounds-list-i c =
    let taken = c.taken-n.ensures ∙ ap import_count c.judge-answer.ensures in
    omega (arith, taken, count_le c.args.text.now (length c.args.list.now))

pub loop-i-preserved : goal.loop-i-preserved
loop-i-preserved c =
    let less = c.loop-i-test.true in
    let inv = c.loop-i.invariant in
    let t = c.args.text.now in
    let l = c.loop-i.list in
    let i = c.loop-i.i in
    let n = c.taken-n.result in
    record {
      same = length-set l i _ ∙ inv.same;
      goes = ap (λ (q : RulesRow). stored (n - (i + 1)) t q.next (i + 1) (set l i (unit_of q))) c.read_row-row.ensures
          ∙ sym (stored_step n t c.loop-i.at i l less) ∙ inv.goes;
    }

pub bounds-list-i : goal.bounds-list-i
bounds-list-i c =
    let taken = c.taken-n.ensures ∙ ap import_count c.judge-answer.ensures in
    omega (arith, taken, count_le c.args.text.now (length c.args.list.now), c.loop-i.invariant.same)

pub returns : goal.returns
returns c =
    let taken = c.taken-n.ensures ∙ ap import_count c.judge-answer.ensures in
    let t = c.args.text.now in
    let ys = c.args.list.now in
    let full = sym (stored_end c.taken-n.result t c.loop-i.at c.loop-i.i c.loop-i.list (omega arith)) ∙ c.loop-i.invariant.goes in
    (c.judge-answer.ensures, full ∙ ap (λ (k : ℕ). stored k t 0 0 ys) taken ∙ units_stored t ys)
