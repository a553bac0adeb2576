-- The numbers of the refusals.
use Rattle.std.specs.Prelude.{ℕ}
use Rattle.verdicts.specs.declared.Refusal.{Refusal}
use Rattle.verdicts.specs.declared.Refusal.TheVariants.{NoGoalList, TooLarge, Settings, Allowance, ScratchShort, PathShort}

abbrev pub number_of : Refusal → ℕ
number_of NoGoalList = 6
number_of TooLarge = 7
number_of Settings = 12
number_of Allowance = 14
number_of ScratchShort = 15
number_of PathShort = 16
