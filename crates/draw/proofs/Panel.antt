-- The panel that is written is the definition's: the bridge's laws, at a sound group of an accepted frame.
use mathlib.Core.Path.{◌≡◌, refl, ap₂, ◌∙◌}
use mathlib.Core.Bool.{Bool, cond}
use mathlib.Core.List.{List}
use Prim.Native.Nat.{ℕ, ◌≤◌, ◌<◌}
use native.Mathlib.Omega.{arith}
use lib.ListN.{length, get_or}
use borrow.Author.Tests.{eq-eqb}
use Rattle.rules.specs.Tests.{◌or◌}
use Rattle.rules.specs.Selection.{count, listed}
use Rattle.rules.specs.TakeAll.{Frame, base_weight, Group as RulesGroup}
use Rattle.rules.specs.Draw.{drawn_by, panel_numbers, panel_weights, frame_refusal}
use Rattle.rules.proofs.Tests.{by_test, not_both}
use Rattle.frame.proofs.Accepted.{Accepted}
use Rattle.selection.proofs.Sums.{sum_same}
use Rattle.selection.proofs.Listed.{listed_both}
use Rattle.group.specs.declared.Group.{Group}
use Rattle.group.specs.Group.{rules_group, Agree, Sound}
use Rattle.draw_key.specs.declared.Method.{Method}
use Rattle.draw_key.specs.declared.Setting.{Setting}
use Rattle.draw_key.specs.Methods.{method_of}
use Rattle.draw_key.specs.Units.{has_key, Units}
use Rattle.draw_list.specs.declared.found.Found.{Found}
use Rattle.draw_list.specs.Found.{IsFound, passing, found_of, Passing}
use Rattle.draw_list.proofs.Searched.{found_listed, found_passing, found_count}
use Rattle.draw_list.proofs.Within.{within_is}
use Rattle.draw_bound.specs.Bound.{within}
use Rattle.draw_gaps.specs.Gaps.{Gaps}
use Rattle.draw_gaps.proofs.Bridge.{gap_inside, units_of_lem, keyless_size, sampled_is, drawn_is, weight_is}
use Rattle.draw_panel.specs.Panel.{Weighable, Markable, weight_by, drawn_of}
use Rattle.draw.proofs.Intended.{drawn_of_lem}

-- a frame that no refusal stops, with its group r, the marks and gaps
pub record Drawing (m : Method) (f : Frame) (z start : ℕ) (r : RulesGroup) (marks gs : List ℕ) (g : Group) : Type 0 where
  pub none : frame_refusal f z start ≡ 0
  pub ok : Accepted f z start
  pub sound_is : Sound f.turnovers z r
  pub mark_is : (i : ℕ) → i < length f.turnovers → get_or marks i 0 ≡ cond (r.takes_all i) 1 0
  pub agrees : Agree (length f.turnovers) (rules_group marks g.n g.rest) r
  pub filled : Gaps f.turnovers marks m g.n g.rest gs

abbrev pub setting_of : Method → ℕ → Group → Setting
setting_of m start g = record { method = m; start = start; n = g.n; rest = g.rest }

module _ {m : Method} {f : Frame} {z start : ℕ} {r : RulesGroup} {marks gs : List ℕ} {g : Group} (d : Drawing m f z start r marks gs g) where
  abbrev s : Setting
  s = setting_of m start g

  pub units_here : Units f.turnovers f.randoms gs s
  units_here = units_of_lem f s d.sound_is d.agrees d.filled d.ok d.ok.start_low

  pub size_low : g.n ≤ z
  size_low = omega (arith, d.sound_is.parts, d.agrees.size_is)

  pub weighable : length f.turnovers ≤ length marks → Weighable f.turnovers marks s
  weighable room = record { total = d.ok.units.total; size_low = units_here.size_low; marks_room = room }

  -- ---- from marks
  pub markable : Markable f.turnovers gs marks
  markable = record {
    low = λ i l. by_test (r.takes_all i) (λ h. rw (d.mark_is i l, h) (omega arith)) (λ h. rw (d.mark_is i l, h) (omega arith));
    keyed = λ i l has. by_test (r.takes_all i)
        (λ h. absurd (not_both (has_key gs i) has (rw (eq-eqb (get_or gs i 0) 0 (gap_inside f s d.sound_is d.agrees d.filled i l h)))))
        (λ h. rw (d.mark_is i l, h));
  }

  abbrev drawn : ℕ → Bool
  drawn = drawn_of f.turnovers f.randoms gs marks s

  drawn_here : (i : ℕ) → i < length f.turnovers → drawn i ≡ drawn_by (method_of m) f r start i
  unfolding drawn_by
  drawn_here i l = ap₂ (λ (a b : Bool). a or b) (d.agrees.takes i l) (sampled_is f s d.sound_is d.agrees d.filled i l)

  pub drawn_size : count drawn (length f.turnovers) ≡ z
  unfolding count
  drawn_size = sum_same drawn (drawn_by (method_of m) f r start) (λ i. 1) (length f.turnovers) drawn_here ∙ drawn_of_lem (method_of m) f z start d.none r d.sound_is

  weight_here : (i : ℕ) → i < length f.turnovers → weight_by f.turnovers marks s i ≡ base_weight f.turnovers r i
  weight_here = weight_is f.turnovers marks d.agrees

  pub drawn_numbers : listed drawn (λ i. get_or f.numbers i 0) (length f.turnovers) ≡ panel_numbers (method_of m) f r start
  unfolding panel_numbers
  drawn_numbers = listed_both drawn (drawn_by (method_of m) f r start) _ _ (length f.turnovers) drawn_here (λ i l. refl)

  pub drawn_weights_lem : listed drawn (weight_by f.turnovers marks s) (length f.turnovers) ≡ panel_weights (method_of m) f r start
  unfolding panel_weights
  drawn_weights_lem = listed_both drawn (drawn_by (method_of m) f r start) _ _ (length f.turnovers) drawn_here weight_here

  -- ---- from a short list
  module _ (found : Found) (w : IsFound f.turnovers f.randoms gs s z found) where
    abbrev bounded : ℕ → Bool
    bounded = within f.turnovers f.randoms gs s found.bound

    within_here : (i : ℕ) → i < length f.turnovers → bounded i ≡ drawn_by (method_of m) f r start i
    within_here i l =
        within_is units_here (keyless_size f s d.sound_is d.agrees d.filled w.sampled) w.bounds i l
        ∙ drawn_is f s d.sound_is d.agrees d.filled w.sampled i l

    pub found_here : Passing (length f.turnovers) found
    found_here = found_passing f.turnovers f.randoms gs s z found w

    pub found_size : count (passing found) found.list.count ≡ z
    found_size = found_count f.turnovers f.randoms gs s z found w

    pub found_numbers : found_of found (λ i. get_or f.numbers i 0) ≡ panel_numbers (method_of m) f r start
    unfolding panel_numbers
    found_numbers =
        found_listed f.turnovers f.randoms gs s z found w _
        ∙ listed_both bounded (drawn_by (method_of m) f r start) _ _ (length f.turnovers) within_here (λ i l. refl)

    pub found_weights : found_of found (weight_by f.turnovers marks s) ≡ panel_weights (method_of m) f r start
    unfolding panel_weights
    found_weights =
        found_listed f.turnovers f.randoms gs s z found w _
        ∙ listed_both bounded (drawn_by (method_of m) f r start) _ _ (length f.turnovers) within_here weight_here
