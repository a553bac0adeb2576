-- The numbers of the refusals, and the names of the search's.
use Rattle.std.specs.Prelude.{ℕ}
use Rattle.store.specs.declared.Refusal.{Refusal}
use Rattle.store.specs.declared.Refusal.TheVariants.{NotTerms, TooLarge, EquationsFull, MarksFull, NotNewest, NotSolved, NoVariable, Allowance, ScratchShort, OutputShort}
use Rattle.verdicts.specs.declared.Refusal as search
use Rattle.verdicts.specs.declared.Refusal.TheVariants as searched

abbrev pub number_of : Refusal → ℕ
number_of NotTerms = 6
number_of TooLarge = 7
number_of EquationsFull = 8
number_of MarksFull = 9
number_of NotNewest = 10
number_of NotSolved = 11
number_of NoVariable = 13
number_of Allowance = 14
number_of ScratchShort = 15
number_of OutputShort = 16

abbrev pub refusal_of : search.Refusal → Refusal
refusal_of searched.NoGoalList = NotTerms
refusal_of searched.TooLarge = TooLarge
refusal_of searched.Settings = Allowance
refusal_of searched.Allowance = Allowance
refusal_of searched.ScratchShort = ScratchShort
refusal_of searched.PathShort = OutputShort
