-- What is told of a fault.
use Rattle.std.specs.Prelude.{ℕ, List, ◌++◌, codes, decimal}
use Rattle.records.specs.declared.fault.BenchFault.{BenchFault}
use Rattle.records.specs.declared.fault.Cause.{Cause}
use Rattle.records.specs.declared.fault.Cause.TheVariants.{Short, Map, Cycles}

abbrev pub number_of : Cause → ℕ
number_of Short = 4
number_of Map = 5
number_of Cycles = 18

-- the cause's number and the place
abbrev pub fault_text : BenchFault → List ℕ
fault_text f = decimal (number_of f.cause) ++ (codes " at " ++ decimal f.at)
