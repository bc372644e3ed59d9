-- The start that a step leads to, what is then asked of a frame, and what the count of those who leave there says of the step.
use mathlib.Core.Path.{◌≡◌}
use mathlib.Core.Bool.{true, false}
use mathlib.Core.List.{List}
use Prim.Native.Nat.{ℕ, ◌≤◌, ◌<◌}
use native.Mathlib.Nat.{mod-lt}
use lib.Dec.{lit<}
use borrow.Author.Tests.{le-leb, lt-leb}
use Rattle.rules.specs.Limits.{random_range}
use Rattle.rules.specs.Rotation.{start_at}
use Rattle.draw_key.specs.declared.Setting.{Setting}
use Rattle.rotation_step.specs.Leaving.{setting_at, leaving, enough_leave}
use Rattle.draw_key.specs.Units.{Units}
use Rattle.rotation_step.specs.declared.Search.{Search}
use Rattle.rotation_step.specs.Moved.{of, Moved}

-- a start that a step leads to is one
start_low_lem : (old k : ℕ) → start_at old k < random_range
unfolding start_at
start_low_lem old k = mod-lt _ (lit< tt)

-- what is asked of units under one start is given under each
module _ (s : Setting) (k : ℕ) (at : Setting) (e : at ≡ setting_at s k) where
  pub units_moved : (ts rs gs : List ℕ) → Units ts rs gs s → Units ts rs gs at
  units_moved ts rs gs u =
      rw e (record {
        same = u.same;
        room = u.room;
        positive = u.positive;
        within = u.within;
        random_low_lem = u.random_low_lem;
        start_low_lem = start_low_lem s.start k;
        gap_low = u.gap_low;
        size_low = u.size_low;
        product_low = u.product_low;
        enough = u.enough;
      })

-- what the search that a step leads to says of the step
module _ (q : Search) (k : ℕ) (r : Search) (m : Moved q k r) where
  pub word_moved : {A : Type 0} (word : List ℕ → List ℕ → List ℕ → List ℕ → Setting → A) → of word r
      ≡ word q.keyed.turnovers.now q.keyed.randoms.now q.keyed.gaps.now q.members.now (setting_at q.keyed.setting k)
  word_moved word = rw (m.turnovers_are, m.randoms_are, m.gaps_are, m.members_are, m.setting_is)

  module _ (need count : ℕ) (l : count ≡ of leaving r) where
    pub enough : need ≤ count → of enough_leave q need k ≡ true
    unfolding enough_leave
    enough h = rw (← word_moved leaving, ← l) (le-leb need count h)

    pub too_few : count < need → of enough_leave q need k ≡ false
    unfolding enough_leave
    too_few h = rw (← word_moved leaving, ← l) (lt-leb need count h)
