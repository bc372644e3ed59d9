-- Words over lists and a setting, said of a search; and the search that a step leads to.
use Rattle.std.specs.Prelude.{◌≡◌, List, ℕ}
use Rattle.draw_key.specs.declared.Setting.{Setting}
use Rattle.rotation_step.specs.declared.Search.{Search}
use Rattle.rotation_step.specs.Leaving.{setting_at}

-- a word of the units' turnovers, random numbers and gaps, of the members' places and of the setting
abbrev pub of {ℓ} : {A : Type ℓ} → (List ℕ → List ℕ → List ℕ → List ℕ → Setting → A) → Search → A
of word q = word q.keyed.turnovers.now q.keyed.randoms.now q.keyed.gaps.now q.members.now q.keyed.setting

-- r is q under the start that step k leads to
pub record Moved (q : Search) (k : ℕ) (r : Search) : Type 0 where
  pub turnovers_are : r.keyed.turnovers.now ≡ q.keyed.turnovers.now
  pub randoms_are : r.keyed.randoms.now ≡ q.keyed.randoms.now
  pub gaps_are : r.keyed.gaps.now ≡ q.keyed.gaps.now
  pub members_are : r.members.now ≡ q.members.now
  pub setting_is : r.keyed.setting ≡ setting_at q.keyed.setting k
