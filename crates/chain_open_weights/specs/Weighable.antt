-- Document 01, "Chain record", open: what each step needs so that no product on the way is too large.
use Rattle.std.specs.Prelude.{◌<◌, ◌^◌, ℕ, ◌≡◌, List, length}
use Rattle.rules.specs.Lists.{sum, products}

-- the u: W and shares of one length, and room of that length
pub record Shareable (ws gs us : List ℕ) : Type 0 where
  pub shares : length gs ≡ length ws
  pub room : length us ≡ length ws
  pub fit : sum (products ws gs) < 2 ^ 64

-- the v: a mark and an updating relative for each u
pub record Weighable (marks us rs : List ℕ) : Type 0 where
  pub marked : length marks ≡ length us
  pub relatives : length rs ≡ length us
  pub fit : sum (products us rs) < 2 ^ 64
