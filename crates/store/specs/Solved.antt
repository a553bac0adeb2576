-- The standing equations, as a search holds them.
use Rattle.std.specs.Prelude.{◌≡◌, ℕ, List}
use Rattle.terms.specs.declared.Cell.{Cell}
use Rattle.typing.specs.Terms.{Eqs, Signature}
use Rattle.typing.specs.Rules.{ComesTo}
use Rattle.trees.specs.Terms.{EqsBelow}
use Rattle.unification.specs.declared.Outcome.{Outcome}
use Rattle.unification.specs.declared.Outcome.TheVariants.{Solved}
use Rattle.unification.specs.Standing.{named, Standing}
use Rattle.store.specs.Calls.{Spelt}

-- the outcome of the equations that the entries spell; where it is solved, they stand in the cells and links
pub record Stood (kind : Signature) (entries : List (List Cell)) (cells : List Cell) (links : List ℕ) (o : Outcome) : Type 0 where
  pub equations : Eqs
  pub spelt : Spelt equations entries
  pub below : EqsBelow 32 equations
  pub comes : ComesTo kind equations (named o)
  pub stands : o ≡ Solved → Standing kind cells links equations
