-- A run of the program over a stream of n bytes: turns that each meet the contract of `turn`, from a job and the unread part on, until one says that
-- the stream does not go on; with the bytes that are printed, the first `count` of each turn's buffer.
use Rattle.std.specs.Prelude.{ℕ, true, false, ◌≡◌, List, ◌++◌, take}
use Rattle.rules.specs.Stream.{rest_of}
use Rattle.job_state.specs.declared.Job.{Job}
use Rattle.job_turn.specs.declared.Turned.{Turned}
use Rattle.job_turn.specs.Turn.{Renders}

pub data Run (n : ℕ) : List ℕ → Job → List ℕ → Type 0 where
  stops : {s : List ℕ} {j : Job} (r : Turned) (before after : List ℕ) → Renders n s j r before after → r.more ≡ false
      → Run n s j (take r.count after)
  goes_on : {s : List ℕ} {j : Job} {later : List ℕ} (r : Turned) (before after : List ℕ) → Renders n s j r before after → r.more ≡ true
      → Run n (rest_of s) r.job later → Run n s j (take r.count after ++ later)
