-- No case has the number 0, which says that no refusal applies.
use mathlib.Core.Path.{◌≡◌, refl}
use Prim.Native.Nat.{ℕ, suc, pred}
use native.Mathlib.Omega.{arith}
use Rattle.refusals.specs.Number.{number_of}
use Rattle.refusals.specs.declared.Refusal.{Refusal}
use Rattle.refusals.specs.declared.Refusal.TheVariants.{FrameLists, UnitNumbers, Turnovers, RandomNumbers, PanelSize, ResultBuffer, OldPanel, NoStep, UnitLists, BaseWeights, Shares, StartIndex, Relatives, Sectors, StreamLength, UnknownCommand, CutShort, Place, State, FrameFull, LowWeight, WeightSum, FigureRange, ClosesSpent, TestLoad, Sample, RegisterLine, RegisterRoom, SheetLine, Writing, PreviousSample, Births, YearRoom, OutsideShare, PreviousLists}

pub number_is_suc : (why : Refusal) → number_of why ≡ suc (pred (number_of why))
number_is_suc FrameLists = refl
number_is_suc UnitNumbers = refl
number_is_suc Turnovers = refl
number_is_suc RandomNumbers = refl
number_is_suc PanelSize = refl
number_is_suc ResultBuffer = refl
number_is_suc OldPanel = refl
number_is_suc NoStep = refl
number_is_suc UnitLists = refl
number_is_suc BaseWeights = refl
number_is_suc Shares = refl
number_is_suc StartIndex = refl
number_is_suc Relatives = refl
number_is_suc Sectors = refl
number_is_suc StreamLength = refl
number_is_suc UnknownCommand = refl
number_is_suc CutShort = refl
number_is_suc Place = refl
number_is_suc State = refl
number_is_suc FrameFull = refl
number_is_suc LowWeight = refl
number_is_suc WeightSum = refl
number_is_suc FigureRange = refl
number_is_suc ClosesSpent = refl
number_is_suc TestLoad = refl
number_is_suc Sample = refl
number_is_suc RegisterLine = refl
number_is_suc RegisterRoom = refl
number_is_suc SheetLine = refl
number_is_suc Writing = refl
number_is_suc PreviousSample = refl
number_is_suc Births = refl
number_is_suc YearRoom = refl
number_is_suc OutsideShare = refl
number_is_suc PreviousLists = refl

pub number_some : (why : Refusal) → (n : ℕ) × (number_of why ≡ suc n)
number_some why = (pred (number_of why), number_is_suc why)

-- a refusal that tests give is none of "no refusal"
pub not_none : (why : Refusal) (n : ℕ) → number_of why ≡ n → n ≡ 0 → ⊥
not_none why n e z = omega (arith, number_is_suc why)
