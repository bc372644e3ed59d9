-- Document 02, [13]: a test load that both bureaus can make.
use Rattle.std.specs.Prelude.{ℕ, zero, suc, ◌+◌, ◌*◌, ◌%◌, Bool, List, [], ◌∷◌, length, leb, ltb, eqb}
use Rattle.rules.specs.Limits.{most_frame, random_range, state_range, state_factor, state_addend, turnover_range}
use Rattle.rules.specs.Tests.{◌or◌}
use Rattle.rules.specs.Refusals.{Judged, refuse, judged, written}
use Rattle.rules.specs.TakeAll.{Frame, frame}

-- "State s … steps to (s × 1,103,515,245 + 12,345) mod 2^31."
unfoldable pub stepped : ℕ → ℕ
stepped s = (s * state_factor + state_addend) % state_range

-- "For unit i from 1, two steps: the first state mod 10,000,000 plus 1 is the turnover": of so many units, from a state on
unfoldable pub made_turnovers : ℕ → ℕ → List ℕ
made_turnovers zero s = []
made_turnovers (suc units) s = (stepped s % turnover_range + 1) ∷ made_turnovers units (stepped (stepped s))

-- "the second mod 1,000,000 is the random number"
unfoldable pub made_randoms : ℕ → ℕ → List ℕ
made_randoms zero s = []
made_randoms (suc units) s = (stepped (stepped s) % random_range) ∷ made_randoms units (stepped (stepped s))

-- "and i is the unit number"
unfoldable pub made_numbers : ℕ → ℕ → List ℕ
made_numbers zero i = []
made_numbers (suc units) i = i ∷ made_numbers units (suc i)

-- the frame of so many units from the caller's number
abbrev pub made_frame : ℕ → ℕ → Frame
made_frame start count = frame (made_numbers count 1) (made_turnovers count start) (made_randoms count start)

-- 33: "the start is 2^31 or more, or the count is 0 or over 16,384, or a buffer is shorter", by the lengths of the three buffers
unfoldable pub bad_load : ℕ → ℕ → ℕ → ℕ → ℕ → Bool
bad_load start count numbers turnovers randoms =
    leb state_range start
    or eqb count 0
    or ltb most_frame count
    or ltb numbers count
    or ltb turnovers count
    or ltb randoms count

unfoldable pub load_refusal : ℕ → ℕ → List ℕ → List ℕ → List ℕ → ℕ
load_refusal start count ns ts rs = refuse (bad_load start count (length ns) (length ts) (length rs)) 33

-- the count in the answer
unfoldable pub load_answer : ℕ → ℕ → List ℕ → List ℕ → List ℕ → Judged ℕ
load_answer start count ns ts rs = judged (load_refusal start count ns ts rs) count

-- "Places beyond the count stay."
unfoldable pub load_numbers : ℕ → ℕ → List ℕ → List ℕ → List ℕ → List ℕ
load_numbers start count ns ts rs = written (load_refusal start count ns ts rs) (made_numbers count 1) ns

unfoldable pub load_turnovers : ℕ → ℕ → List ℕ → List ℕ → List ℕ → List ℕ
load_turnovers start count ns ts rs = written (load_refusal start count ns ts rs) (made_turnovers count start) ts

unfoldable pub load_randoms : ℕ → ℕ → List ℕ → List ℕ → List ℕ → List ℕ
load_randoms start count ns ts rs = written (load_refusal start count ns ts rs) (made_randoms count start) rs
