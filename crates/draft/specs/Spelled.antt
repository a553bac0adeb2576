-- What a clause or question that was read spells.
use Rattle.std.specs.Prelude.{◌≡◌, ℕ, ◌+◌, ◌≤◌, List, length, Some, All}
use Rattle.terms.specs.declared.Cell.{Cell}
use Rattle.terms.specs.Shape.{goals}
use Rattle.clauses.specs.Clauses.{InOrder, Low}

-- h heads and at most 8 goals in at most 32 cells, with variables below 32, numbered by first appearance
pub record Spelled (h : ℕ) (cs : List Cell) : Type 0 where
  pub count : ℕ
  pub goal_list : goals 0 0 cs ≡ Some (h + count)
  pub eight : count ≤ 8
  pub few : length cs ≤ 32
  pub in_order : InOrder 0 cs
  pub low : All Low cs
