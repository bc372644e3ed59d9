-- The job that each command leaves, whole, is the one that `rules` names, read by `job_of`.
use Prim.Native.Nat.{ℕ, ◌+◌, ◌<◌, ◌≤◌}
use native.Mathlib.Numerals.{add-one}
use native.Mathlib.Nat.{min-eq_left}
use mathlib.Core.Path.{◌≡◌, refl, sym, ap, ◌∙◌}
use mathlib.Core.List.{List}
use lib.ListN.{length, take, drop, set, replicate}
use lib.Seq.{take-suc-set, take-set-lt, take_at}
use Rattle.rules.specs.Limits.{most_panel, share_scale}
use Rattle.rules.specs.Chain as rules-chain
use Rattle.rules.specs.Refusals.{written}
use Rattle.rules.specs.Job.{snoc, with_unit, with_panel, with_share, with_relative, with_chain}
use Rattle.chain.specs.Record.{chain_from}
use Rattle.job_state.specs.declared.Job.{Job}
use Rattle.job_state.specs.State.{job_of}
use Rattle.job_state.specs.Steps.{each, unit_held, panel_held, share_held, relative_held, chain_held}
use Rattle.job_state.proofs.FirstPlaces.{named, filled_front}

-- one more place is named, and holds what was stored there
joined : (l : List ℕ) (at x : ℕ) → at < length l → take (at + 1) (set l at x) ≡ snoc (take at l) x
joined l at x h = rw add-one (take-suc-set l at x h)

module _ (j : Job) where
  pub unit_held_lem : (n t r : ℕ) → j.frame.units < length j.frame.numbers → j.frame.units < length j.frame.turnovers → j.frame.units < length j.frame.randoms
      → job_of (unit_held j n t r) ≡ with_unit (job_of j) n t r
  unfolding with_unit
  unit_held_lem n t r hn ht hr = cc (joined j.frame.numbers j.frame.units n hn, joined j.frame.turnovers j.frame.units t ht, joined j.frame.randoms j.frame.units r hr)

  pub share_held_lem : (place g : ℕ) → place < j.panel.size → job_of (share_held j place g) ≡ with_share (job_of j) place g
  unfolding with_share
  share_held_lem place g h = cc (take-set-lt j.panel.size j.panel.shares place g h)

  pub relative_held_lem : (place p : ℕ) → place < j.panel.size → job_of (relative_held j place p) ≡ with_relative (job_of j) place p
  unfolding with_relative
  relative_held_lem place p h = cc (take-set-lt j.panel.size j.panel.pending place p h)

  pub panel_held_lem : (z : ℕ) (weights : List ℕ) → length weights ≡ z → z ≤ most_panel
      → job_of (panel_held j z (written 0 weights (each 0))) ≡ with_panel (job_of j) z weights
  unfolding with_panel
  panel_held_lem z weights l h =
      let filled : (x : ℕ) → take z (each x) ≡ replicate z x =
      λ x. filled_front (each x) z most_panel x refl ∙ ap (λ (n : ℕ). replicate n x) (min-eq_left h) in
      cc (take_at weights (drop (length weights) (each 0)) z l, filled share_scale, filled 0)

  pub chain_held_lem : (r : rules-chain.Chain) → length j.panel.weights ≡ most_panel → job_of (chain_held j (chain_from r)) ≡ with_chain (job_of j) r
  unfolding with_chain
  chain_held_lem r h =
      let places : take j.panel.size (each 0) ≡ replicate (length (job_of j).panel) 0 =
      filled_front (each 0) j.panel.size most_panel 0 refl ∙ ap (λ (n : ℕ). replicate n 0) (sym (named j.panel.weights j.panel.size most_panel h)) in
      cc
