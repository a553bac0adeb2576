use Rattle.std.specs.Prelude.{ℕ, List, length, sum_by}
use Rattle.terms.specs.declared.Cell.{Cell}

-- how many cells the clauses have
abbrev pub sizes : List (List Cell) → ℕ
sizes cs = sum_by (λ c. length c) cs
