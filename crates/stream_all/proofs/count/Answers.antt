-- The commands counted and those of the unread part are all; both parts stop alike.
use Prim.Native.Nat.{ℕ}
use mathlib.Core.Path.{◌≡◌, sym, ap, ◌∙◌}
use mathlib.Core.List.{List}
use lib.ListN.{length}
use native.Mathlib.Omega.{arith}
use Rattle.rules.specs.Refusals.{Judged, judged}
use Rattle.rules.specs.Writing.{whole_of, rows_read}
use Rattle.refusals.proofs.Answers.{refused_by}
use Rattle.std.proofs.Common.{Ok}
use Rattle.std.proofs.lemmas.Result.{err_from_is_err_and}
use Rattle.stream_read.specs.Value.{reading_from}
use Rattle.stream_read.proofs.Unread.{rest_shorter}
use Rattle.stream_all.proofs.Readings.{found, ended, stopped}
use Rattle.stream_all.proofs.count.Goals as goal

counted : (m stop n : ℕ) → stop ≡ 0 → m ≡ n → Judged.given m ≡ judged stop n
counted m stop n e p = rw (e, p)

pub returns-in_err-read : goal.returns-in_err-read
returns-in_err-read c =
    let e = stopped c.commands.t.now _ (sym c.read.ensures ∙ ap reading_from c.in_err-read.was) in
    let p = err_from_is_err_and c.from_residual.result c.from_residual.ensures.1 in
    rw (p.1, p.2) (refused_by c.in_err-read.field-0.0 _ (sym e.1 ∙ c.commands.invariant.1) _)

-- what is unread after a command that stands at the front of the unread part is shorter
pub commands-smaller : goal.commands-smaller
commands-smaller c =
    let command = sym c.read.ensures ∙ ap reading_from (c.in_ok-read.was ∙ ap Ok c.in-Some.is) in
    omega (arith, rest_shorter _ _ command, ap length c.unread-t.ensures)

pub commands-preserved : goal.commands-preserved
commands-preserved c =
    let command = sym c.read.ensures ∙ ap reading_from (c.in_ok-read.was ∙ ap Ok c.in-Some.is) in
    let e = found c.commands.t.now _ command in (
      omega (arith, ap length e.0, ap (λ (l : List ℕ). length (rows_read l)) c.unread-t.ensures, c.commands.invariant.0),
      ap (λ (l : List ℕ). (whole_of l).stop) c.unread-t.ensures ∙ sym e.1 ∙ c.commands.invariant.1,
      omega (arith, rest_shorter _ _ command, ap length c.unread-t.ensures, c.commands.invariant.2),
    )

pub returns : goal.returns
returns c =
    let e = ended c.commands.t.now (sym c.read.ensures ∙ ap reading_from (c.in_ok-read.was ∙ ap Ok c.in_default.is)) in
    counted _ _ _ (sym c.commands.invariant.1 ∙ e.1) (omega (arith, ap length e.0, c.commands.invariant.0))
