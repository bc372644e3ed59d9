-- A turn of the pass: the list is filled with the members below unit i, and the old panel and the births are passed as far.
use mathlib.Core.Path.{◌≡◌, ◌∙◌}
use mathlib.Core.Bool.{Bool, true, false}
use mathlib.Core.List.{List}
use Prim.Native.Nat.{ℕ, ◌+◌, ◌≤◌, ◌<◌}
use native.Mathlib.Omega.{arith}
use lib.ListN.{length, get_or, set}
use Rattle.rules.specs.Tests.{◌or◌, ◌and◌}
use Rattle.rules.specs.Lists.{rising}
use Rattle.rules.specs.Rotation.{old_member, joins, member}
use Rattle.rules.proofs.Tests.{by_test, not_both}
use Rattle.group.specs.Group.{marked}
use Rattle.frame.specs.declared.Frame.{Frame}
use Rattle.frame.specs.Frame.{frame_of}
use Rattle.rotation_births.specs.declared.Candidates.{Candidates}
use Rattle.rotation_births.specs.Candidates.{births_of}
use Rattle.rotation_seek.specs.Passed.{Reached, stands, behind}
use Rattle.rotation_seek.proofs.Passing.{Standing, stand_behind, reached_elem, behind_one, behind_on}
use Rattle.rotation_members.specs.Members.{member_of}
use Rattle.rotation_members.specs.Filled.{Filled}
use Rattle.rotation_members.proofs.Filling.{fill_not, fill_more}

-- who is to be listed
abbrev pub Who : Frame → List ℕ → Candidates → ℕ → Bool
Who f marks c = member (frame_of f) (marked marks) c.previous.start c.panel.now (births_of c)

-- where a turn stands: old panel and births passed as far as the frame, no more listed than places passed, and the list filled with the members so far
pub record At (f : Frame) (marks : List ℕ) (c : Candidates) (before after : List ℕ) (count j b i : ℕ) : Type 0 where
  pub in_panel : Standing f.numbers.now c.panel.now i j
  pub in_births : Standing f.numbers.now c.births.now i b
  pub fewer : count ≤ j + b
  pub filled : Filled (Who f marks c) (λ k. k) i before after count

-- a turn at unit i, for whom the searches stop at r and q
module _ (f : Frame) (marks : List ℕ) (c : Candidates) (before after : List ℕ) (count j b i r q : ℕ)
    (at : At f marks c before after count j b i)
    (up : rising f.numbers.now ≡ true) (old-up : rising c.panel.now ≡ true) (births-up : rising c.births.now ≡ true) (l : i < length f.numbers.now)
    (h : Reached c.panel.now j (get_or f.numbers.now i 0) r) (k : Reached c.births.now b (get_or f.numbers.now i 0) q) where
  abbrev x : ℕ
  x = get_or f.numbers.now i 0

  -- the two places tell whether the unit is a member
  told : Who f marks c i ≡ member_of f.turnovers.now f.randoms.now marks c.previous i (stands c.panel.now r x) (stands c.births.now q x)
  unfolding member old_member joins member_of
  told = rw (reached_elem h old-up, reached_elem k births-up)

  abbrev part : Bool
  part = member_of f.turnovers.now f.randoms.now marks c.previous i (stands c.panel.now r x) (stands c.births.now q x)

  -- a member stands in one of the lists, which is then passed by a place more
  passed_one : part ≡ true → r + q + 1 ≤ behind c.panel.now r x + behind c.births.now q x
  unfolding member_of ◌or◌ ◌and◌
  passed_one e =
      by_test (stands c.panel.now r x)
      (λ s. omega (arith, behind_one c.panel.now r x s, behind_on c.births.now q x))
      (λ s.
      by_test (stands c.births.now q x)
      (λ t. omega (arith, behind_on c.panel.now r x, behind_one c.births.now q x t))
      (λ t. absurd (not_both part e (rw (s, t)))))

  pub turn_out : part ≡ false → At f marks c before after count (behind c.panel.now r x) (behind c.births.now q x) (i + 1)
  turn_out e = record {
    in_panel = stand_behind at.in_panel up l h;
    in_births = stand_behind at.in_births up l k;
    fewer = omega (arith, at.fewer, h.onward, k.onward, behind_on c.panel.now r x, behind_on c.births.now q x);
    filled = fill_not at.filled (told ∙ e);
  }

  pub turn_in :
      part ≡ true → count < length before → (v : ℕ) → v ≡ i
      → At f marks c before (set after count v) (count + 1) (behind c.panel.now r x) (behind c.births.now q x) (i + 1)
  turn_in e room v place = record {
    in_panel = stand_behind at.in_panel up l h;
    in_births = stand_behind at.in_births up l k;
    fewer = omega (arith, at.fewer, h.onward, k.onward, passed_one e);
    filled = fill_more at.filled v (told ∙ e) place room;
  }
