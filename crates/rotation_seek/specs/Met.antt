-- What a search from where the last one stopped leaves.
use Rattle.std.specs.Prelude.{Bool, ◌≡◌, ℕ}
use Rattle.rotation_seek.specs.declared.Seek.{Seek}
use Rattle.rotation_seek.specs.Passed.{Reached, stands, behind}

-- x was sought in the list from its place on: the search reached a place that tells whether x stands there, and the next search goes on behind x
pub record Met (before after : Seek) (x : ℕ) (answer : Bool) : Type 0 where
  pub same : after.list ≡ before.list
  pub place : ℕ
  pub reached : Reached before.list.now before.at x place
  pub told : answer ≡ stands before.list.now place x
  pub onward : after.at ≡ behind before.list.now place x
