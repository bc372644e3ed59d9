-- Document 01, "Refusals caused by the input" and "… by the state": the number of each case.
use Rattle.std.specs.Prelude.{ℕ, Result, Ok, Err}
use Rattle.rules.specs.Refusals.{Judged}
use Rattle.refusals.specs.declared.Refusal.{Refusal}
use Rattle.refusals.specs.declared.Refusal.TheVariants.{FrameLists, UnitNumbers, Turnovers, RandomNumbers, PanelSize, ResultBuffer, OldPanel, NoStep, UnitLists, BaseWeights, Shares, StartIndex, Relatives, Sectors, StreamLength, UnknownCommand, CutShort, Place, State, FrameFull, LowWeight, WeightSum, FigureRange, ClosesSpent, TestLoad, Sample, RegisterLine, RegisterRoom, SheetLine, Writing, PreviousSample, Births, YearRoom, OutsideShare, PreviousLists}

abbrev pub number_of : Refusal → ℕ
-- "frame lists unequal, empty or over 16,384"
number_of FrameLists = 1
-- "unit numbers not rising"
number_of UnitNumbers = 2
-- "a turnover 0, or total over 10^12"
number_of Turnovers = 3
-- "random number or start over 999,999"
number_of RandomNumbers = 4
-- "z is 0, over 100 or over the units"
number_of PanelSize = 5
-- "a result buffer shorter than z, or for leavers than the old panel"
number_of ResultBuffer = 6
-- "f over 1,000, or old panel over 100 or not rising"
number_of OldPanel = 7
-- "no step rotates enough"
number_of NoStep = 8
-- "unit lists empty, over 100, or unequal to each other or to the record"
number_of UnitLists = 9
-- "a W of 0, or their sum over 10^13" (document 02, [5])
number_of BaseWeights = 10
-- "a share over 10,000, or all 0"
number_of Shares = 11
-- "start index outside 10^8 to 10^10"
number_of StartIndex = 12
-- "a relative out of range, 0 for a present unit, or not 0 for an absent one"
number_of Relatives = 13
-- "sector lists unequal, empty, over 64, not adding to 1,000,000, or an index outside 12's range"
number_of Sectors = 14
-- "stream over 32,768 bytes"
number_of StreamLength = 15
-- "command not 1 to 7"
number_of UnknownCommand = 16
-- "command cut short"
number_of CutShort = 17
-- "place not below panel size"
number_of Place = 18
-- "open without a panel, quarter or close without a chain"; a record that breaks a limit
number_of State = 19
-- "a unit when 1,024 are held"
number_of FrameFull = 20
-- "a present u or v below 1,000,000, at open or after close"
number_of LowWeight = 21
-- "sum of v over 10^13, likewise" (document 02, [5])
number_of WeightSum = 22
-- "F outside 10^8 to 10^10"
number_of FigureRange = 23
-- "forty closes accepted (quarter too)"
number_of ClosesSpent = 24
-- document 02, [13]: "the start is 2^31 or more, or the count is 0 or over 16,384, or a buffer is shorter"
number_of TestLoad = 33
-- document 02, [10]: "the lists are unequal, empty or over 64, a strength is out of range, T is over 6,400 or the minima together exceed T"
number_of Sample = 31
-- document 02, [14]: "a line is not of this form"
number_of RegisterLine = 34
-- "there are more lines than the list holds"
number_of RegisterRoom = 35
-- document 02, [12]: "a name is otherwise, a figure is outside 10^8 to 10^10 or the buffer is shorter than 49 bytes"
number_of SheetLine = 32
-- document 02, [4]: "lists given are unequal, or the buffer is shorter than the stream needs"
number_of Writing = 27
-- document 02, [2]: "n' is over 100, X' is over 10^12, or X' is 0 while n' is not"
number_of PreviousSample = 25
-- document 02, [2]: "births exceed 16,384, are not rising or are not all in the frame"
number_of Births = 26
-- document 02, [6]: "the figures buffer has fewer than four places"
number_of YearRoom = 28
-- document 02, [7]: "some unit is sampled and G is 0 or over 10,000, T is 0, or sampled units differ in W"
number_of OutsideShare = 29
-- document 02, [9]: "γ is 0 or over 1,000, or a previous list is over 100 or not rising"
number_of PreviousLists = 30

-- what a group of tests finds: 0 where no refusal applies, else the number of the first that does
abbrev pub refusal_of : Result Unit Refusal → ℕ
refusal_of (Ok _) = 0
refusal_of (Err why) = number_of why

-- what an entry answers, in the words of `rules`: a refusal by its number, or what it was asked for, as `words` has it
abbrev pub answer_of : {A B : Type 0} → (A → B) → Result A Refusal → Judged B
answer_of words (Ok answer) = Judged.given (words answer)
answer_of words (Err why) = Judged.refused (number_of why)
