-- What a draw that no refusal stops knows: the frame is accepted and both buffers have z places.
use mathlib.Core.Path.{◌≡◌}
use mathlib.Core.List.{List}
use Prim.Native.Nat.{ℕ, ◌≤◌}
use lib.ListN.{length}
use borrow.Author.Tests.{ltb-false}
use Rattle.rules.specs.TakeAll.{Frame}
use Rattle.rules.specs.Kept.{Keeping}
use Rattle.rules.specs.Draw.{frame_refusal, draw_refusal, kept_draw_refusal}
use Rattle.rules.proofs.Tests.{or_false}
use Rattle.rules.proofs.Refusals.{refuse_none, then_none}
use Rattle.frame.proofs.Accepted.{Accepted, accepted}
use Rattle.group_kept.specs.Kept.{Enlargeable}
use Rattle.group_kept.proofs.Accepted.{enlargeable}

pub record DrawAccepted (f : Frame) (z start : ℕ) (numbers weights : List ℕ) : Type 0 where
  pub none : frame_refusal f z start ≡ 0
  pub frame_ok : Accepted f z start
  pub numbers_room : z ≤ length numbers
  pub weights_room : z ≤ length weights

pub draw_accepted :
    (f : Frame) (z start : ℕ) (numbers weights : List ℕ) → draw_refusal f z start numbers weights ≡ 0 → DrawAccepted f z start numbers weights
unfolding draw_refusal
draw_accepted f z start numbers weights e =
    let n = then_none _ _ e in
    let room = or_false _ _ (refuse_none _ 5 n.1) in
    record { none = n.0; frame_ok = accepted f z start n.0; numbers_room = ltb-false _ _ room.0; weights_room = ltb-false _ _ room.1 }

-- with γ and previous lists ([9]): they are fit for the search too
pub record KeptAccepted (f : Frame) (z start : ℕ) (p : Keeping) (numbers weights : List ℕ) : Type 0 where
  pub drawn : DrawAccepted f z start numbers weights
  pub ready : Enlargeable f.numbers f.turnovers z p

pub kept_accepted :
    (f : Frame) (z start : ℕ) (p : Keeping) (numbers weights : List ℕ) → kept_draw_refusal f z start p numbers weights ≡ 0
    → KeptAccepted f z start p numbers weights
unfolding kept_draw_refusal
kept_accepted f z start p numbers weights e =
    let n = then_none _ _ e in
    let k = draw_accepted f z start numbers weights n.0 in
    let ok = k.frame_ok in
    record { drawn = k; ready = enlargeable ok.units ok.numbers_length ok.rises n.1 }
