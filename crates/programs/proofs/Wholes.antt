-- Cells that spell goals are whole terms.
use Rattle.std.proofs.Common.{List, [], ◌∷◌, ◌++◌, subst}
use Rattle.std.proofs.lemmas.List.{append-nil}
use Rattle.typing.specs.Terms.{fun, none, more}
use Rattle.trees.specs.Tree.{Goal, Clause}
use Rattle.graphs.specs.Whole.{Whole}
use Rattle.graphs.proofs.Spelt.{whole_terms}
use Rattle.graphs.proofs.Wholes.{whole_append}
use Rattle.programs.specs.Spelling.{spell_goal, spell_goals, spell_clause}

pub whole_goal : (g : Goal) → Whole (spell_goal g)
whole_goal g = subst Whole (append-nil (spell_goal g)) (whole_terms (more (fun g.symbol g.arguments) none))

pub whole_goals : (gs : List Goal) → Whole (spell_goals gs)
whole_goals [] = whole_terms none
whole_goals (g ∷ gs) = whole_append (spell_goal g) (spell_goals gs) (whole_goal g) (whole_goals gs)

pub whole_goal_goals : (g : Goal) (gs : List Goal) → Whole (spell_goal g ++ spell_goals gs)
whole_goal_goals g gs = whole_goals (g ∷ gs)

pub whole_clause : (c : Clause) → Whole (spell_clause c)
whole_clause c = whole_goals (c.head ∷ c.body)
