-- How a fault is told.
use Rattle.std.specs.Prelude.{ℕ, List, ◌++◌, codes, decimal}
use Rattle.lexis.specs.Faults.{number_of}
use Rattle.lexis.specs.declared.fault.Fault.{Fault}

-- the number of the cause, and the place
abbrev pub told : Fault → List ℕ
told f = decimal (number_of f.cause) ++ (codes " at " ++ decimal f.at)
