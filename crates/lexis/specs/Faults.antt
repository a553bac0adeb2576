-- The number that each cause of a refusal is told by.
use Rattle.std.specs.Prelude.{ℕ}
use Rattle.lexis.specs.declared.fault.Cause.{Cause}
use Rattle.lexis.specs.declared.fault.Cause.TheVariants.{Grammar, Size, Full, Question}

abbrev pub number_of : Cause → ℕ
number_of Grammar = 1
number_of Size = 2
number_of Full = 3
number_of Question = 7
