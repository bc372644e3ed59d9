-- Document 02, [7]: what the steps of an opening with an outside share need, so that every place is there and no product on the way is too large.
use Rattle.std.specs.Prelude.{ℕ, ◌*◌, ◌<◌, ◌≤◌, ◌^◌, ◌≡◌, false, List, length, get_or}
use Rattle.rules.specs.Limits.{share_scale, most_panel, most_weight}
use Rattle.rules.specs.Lists.{sum}
use Rattle.rules.specs.Panel.{bad_outside}

-- a mark and a share for each W, at most a panel
pub record Marked (ms ws gs : List ℕ) : Type 0 where
  pub marks : length ms ≡ length ws
  pub shares : length gs ≡ length ws
  pub most : length ws ≤ most_panel

-- the u of all units, from an inner floor and T
pub record Layable (inner t : ℕ) (ms ws gs us : List ℕ) : Type 0 where
  pub marked : Marked ms ws gs
  pub room : length us ≡ length ws
  pub take_all : (i : ℕ) → get_or ws i 0 * get_or gs i 0 < 2 ^ 64
  pub sampled : (i : ℕ) → inner * get_or gs i 0 < 2 ^ 64
  pub divides : (i : ℕ) → i < length ms → (get_or ms i 0 ≡ 0 → ⊥) → 0 < t

-- the u from the panel: W and shares within their limits, and 29 does not apply
pub record Outsideable (domain : ℕ) (ms ws gs us : List ℕ) : Type 0 where
  pub marked : Marked ms ws gs
  pub room : length us ≡ length ws
  pub limit : sum ws ≤ most_weight
  pub small : (i : ℕ) → get_or gs i 0 ≤ share_scale
  pub passes : bad_outside domain ms ws gs ≡ false
