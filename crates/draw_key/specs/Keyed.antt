-- Words over lists and a setting, said of the units of a frame that have keys.
use Rattle.std.specs.Prelude.{ℕ, List, length}
use Rattle.draw_key.specs.declared.Setting.{Setting}
use Rattle.draw_key.specs.declared.Keyed.{Keyed}

-- a word of the units' turnovers, random numbers and gaps and of the setting
abbrev pub over {ℓ} : {A : Type ℓ} → (List ℕ → List ℕ → List ℕ → Setting → A) → Keyed → A
over word k = word k.turnovers.now k.randoms.now k.gaps.now k.setting

-- how many units
abbrev pub size_of : Keyed → ℕ
size_of k = length k.turnovers.now
