-- Goals, clauses and programs, spelt in cells.
use Rattle.std.specs.Prelude.{◌≡◌, ℕ, List, [], ◌∷◌, ◌++◌, map}
use Rattle.terms.specs.declared.Cell.{Cell}
use Rattle.typing.specs.Terms.{Equation, fun}
use Rattle.trees.specs.Tree.{Goal, Clause, Program}
use Rattle.graphs.specs.Flat.{flat}

-- a goal is its symbol's cell, and then its arguments'
abbrev pub spell_goal : Goal → List Cell
spell_goal g = flat (fun g.symbol g.arguments)

-- one goal after another
abbrev pub spell_goals : List Goal → List Cell
spell_goals [] = []
spell_goals (g ∷ gs) = spell_goal g ++ spell_goals gs

-- the head first, then the body
abbrev pub spell_clause : Clause → List Cell
spell_clause c = spell_goal c.head ++ spell_goals c.body

-- the left side first, the right side right after it
abbrev pub spell_equation : Equation → List Cell
spell_equation e = flat e.left ++ flat e.right

-- the lists of a source spell the program P
abbrev pub Spells : Program → (ℕ → ℕ → List (List Cell)) → Type 0
Spells P lists = (s a : ℕ) → map spell_clause (P s a) ≡ lists s a
