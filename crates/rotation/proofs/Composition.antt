-- A rotation that refusals 1 to 6, 30, 7, 25 and 26 let pass, put together from what its callees ensure: the group, the members, the first step, and the
-- leavers at its start are those of the definition.
use mathlib.Core.Path.{◌≡◌, refl, sym, ap, ◌∙◌}
use mathlib.Core.Bool.{Bool}
use mathlib.Core.List.{List}
use Prim.Native.Nat.{ℕ, ◌≤◌, ◌<◌}
use lib.Dec.{leb}
use lib.ListN.{length}
use borrow.Author.Tests.{le-leb, lt-leb}
use Rattle.rules.specs.Limits.{steps}
use Rattle.rules.specs.Refusals.{Judged, refuse, ◌then◌, written}
use Rattle.rules.specs.Selection.{listed}
use Rattle.rules.specs.TakeAll.{Frame, frame, Group as RulesGroup}
use Rattle.rules.specs.Kept.{Keeping, enlarged_group}
use Rattle.rules.specs.Draw.{Method, frame_refusal}
use Rattle.rules.specs.Rotation.{required, Births, start_at, old_member, joins, member, least_step, leavers, kept_lists_refusal, kept_rotation_refusal, kept_rotation_answer, kept_rotation_leavers}
use Rattle.rules.proofs.Refusals.{then_none, then_goes, then_assoc}
use Rattle.selection.proofs.Listed.{listed_same}
use Rattle.refusals.specs.declared.Refusal.{Refusal}
use Rattle.refusals.specs.Number.{number_of}
use Rattle.refusals.proofs.Numbers.{number_is_suc}
use Rattle.refusals.proofs.Answers.{stops_by_lem}
use Rattle.frame.proofs.Accepted.{Accepted, accepted}
use Rattle.group.specs.declared.Group.{Group}
use Rattle.group.specs.Group.{Sound, marked}
use Rattle.group_kept.specs.Kept.{Enlargeable, IsEnlarged}
use Rattle.group_kept.proofs.Enlarged.{enlarged_sound}
use Rattle.group_kept.proofs.Accepted.{enlargeable}
use Rattle.draw_key.specs.declared.Method.{Method as KeyMethod}
use Rattle.draw_key.specs.declared.Setting.{Setting}
use Rattle.draw_key.specs.Methods.{method_of}
use Rattle.draw_key.specs.Units.{Units}
use Rattle.draw_gaps.specs.Gaps.{Gaps}
use Rattle.draw_gaps.proofs.Bridge.{units_of_lem, keyless_size, sampled_is}
use Rattle.rotation_judge.proofs.Accepted.{ListsAccepted, lists_accepted}
use Rattle.rotation_step.specs.Leaving.{under, setting_at, leaving, first_step}
use Rattle.rotation_step.specs.Searched.{Searched}
use Rattle.rotation_leavers.specs.Leavers.{units_in_order, numbers_of}
use Rattle.rotation_leavers.proofs.Leavers.{numbers_length_lem, in_order_many}
use Rattle.rotation.proofs.Members.{Told, member_low, first_is, leavers_are}

-- one of them stops it
pub refused_early :
    (m : Method) (f : Frame) (z old : ℕ) (panel : List ℕ) (fraction : ℕ) (b : Births) (p : Keeping) (buffer : List ℕ) (why : Refusal)
    → number_of why ≡ (frame_refusal f z old then kept_lists_refusal f.numbers panel fraction b p buffer)
    → (Judged.refused (number_of why) ≡ kept_rotation_answer m f z old panel fraction b p buffer) × (buffer ≡ kept_rotation_leavers m f z old panel fraction b p buffer)
unfolding kept_rotation_answer kept_rotation_leavers kept_rotation_refusal
refused_early m f z old panel fraction b p buffer why e =
    let stopped : number_of why ≡ kept_rotation_refusal m f z old panel fraction b p buffer = stops_by_lem why _ _ e ∙ then_assoc _ _ _ in
    rw (← stopped, number_is_suc why) (refl, refl)

module _ (method : KeyMethod) (ns ts rs : List ℕ) (z old : ℕ) (panel : List ℕ) (fraction : ℕ) (b : Births) (p : Keeping) (buffer : List ℕ)
    (none : (frame_refusal (frame ns ts rs) z old then kept_lists_refusal ns panel fraction b p buffer) ≡ 0) where
  abbrev f : Frame
  f = frame ns ts rs

  abbrev m : Method
  m = method_of method

  pub frame_ok : Accepted f z old
  frame_ok = accepted f z old (then_none _ _ none).0

  pub lists_ok : ListsAccepted panel fraction b p buffer
  lists_ok = lists_accepted ns panel fraction b p buffer (then_none _ _ none).1

  -- the enlarged group of the definition
  abbrev r : RulesGroup
  r = enlarged_group ns ts z p

  pub ready : Enlargeable ns ts z p
  ready = enlargeable frame_ok.units frame_ok.numbers_length frame_ok.rises lists_ok.kept

  pub group_sound : Sound ts z r
  group_sound = enlarged_sound ns ts z frame_ok.units.size_within p

  -- the members, by the group of the definition
  abbrev who : ℕ → Bool
  who = member f r.takes_all old panel b

  -- only 8 is left
  left_over : kept_rotation_refusal m f z old panel fraction b p buffer ≡ refuse (leb steps (least_step m f r old who fraction)) 8
  unfolding kept_rotation_refusal
  left_over = sym (then_assoc _ _ _) ∙ then_goes _ _ none

  -- the group by its marks, the gaps, and the members' places
  module _ (marks : List ℕ) (g : Group) (is : IsEnlarged ns ts z p marks g) (gs : List ℕ) (filled : Gaps ts marks method g.n g.rest gs)
      (ms : List ℕ) (h : ms ≡ listed (member f (marked marks) old panel b) (λ i. i) (length ns)) where
    abbrev setting : Setting
    setting = record { method = method; start = old; n = g.n; rest = g.rest }

    -- the marks tell who is take-all, and so who is a member
    same_member : (i : ℕ) → i < length ts → member f (marked marks) old panel b i ≡ who i
    unfolding member old_member joins
    same_member i l = rw (is.agrees.takes i l)

    told : Told ns ts rs r who gs setting ms
    told = record {
      sampled = λ start i l. sampled_is f (under setting start) group_sound is.agrees filled i l;
      members_are =
          h
          ∙ ap (listed (member f (marked marks) old panel b) (λ i. i)) frame_ok.numbers_length
          ∙ listed_same (member f (marked marks) old panel b) who (λ i. i) (length ts) same_member;
    }

    pub units_here : Units ts rs gs setting
    units_here = units_of_lem f setting group_sound is.agrees filled frame_ok frame_ok.start_low

    pub searched : Searched ts gs ms setting z
    searched = record { sized = keyless_size f setting group_sound is.agrees filled; low = member_low _ _ _ _ _ _ _ _ told }

    module _ (k need : ℕ) (first : k ≡ first_step ts rs gs ms setting need) (n : need ≡ required fraction (length ms)) where
      step_is : least_step m f r old who fraction ≡ k
      step_is = rw (first, n) (sym (first_is _ _ _ _ _ _ _ _ told fraction))

      -- no step is enough
      pub turn_refused : steps ≤ k → (Judged.refused 8 ≡ kept_rotation_answer m f z old panel fraction b p buffer) × (buffer ≡ kept_rotation_leavers m f z old panel fraction b p buffer)
      unfolding kept_rotation_answer kept_rotation_leavers refuse
      turn_refused l = rw (left_over, step_is, le-leb steps k l) (refl, refl)

      -- step k is the first that is enough, and those who leave at its start are written
      module _ (at : Setting) (s : at ≡ setting_at setting k) where
        abbrev units : List ℕ
        units = units_in_order ts rs gs ms at

        leavers_at : leavers m f r who (start_at old k) ≡ numbers_of ns units
        leavers_at = rw s (sym (leavers_are _ _ _ _ _ _ _ _ told (start_at old k)))

        many_at : leaving ts rs gs ms at ≡ length (numbers_of ns units)
        many_at = sym (numbers_length_lem ns units ∙ in_order_many ts rs gs ms at)

        pub turn_given :
            k < steps → (count : ℕ) → count ≡ leaving ts rs gs ms at → (after : List ℕ) → after ≡ written 0 (numbers_of ns units) buffer
            → (Judged.given (record { step = k; start = at.start; leaving = count }) ≡ kept_rotation_answer m f z old panel fraction b p buffer)
            × (after ≡ kept_rotation_leavers m f z old panel fraction b p buffer)
        unfolding kept_rotation_answer kept_rotation_leavers refuse
        turn_given low count c after w =
            let there : at.start ≡ start_at old k = ap (λ (x : Setting). x.start) s in
            rw (left_over, step_is, lt-leb steps k low, leavers_at, ← there) (rw (c, many_at), w)
