use Rattle.std.proofs.Common.{◌≡◌, ℕ, List, refl}
use Rattle.terms.specs.declared.Cell.{Cell}
use Rattle.graphs.specs.declared.Pair.{Pair}
use Rattle.unification.specs.declared.Outcome.{Outcome}
use Rattle.unification.specs.declared.Outcome.TheVariants.{Solved, False, Wrong}
use Rattle.graphs.specs.Links.{up_of}
use Rattle.graphs.specs.Cells.{graph}
use Rattle.graphs.specs.Meaning.{arena, answer}
use Rattle.graphs.proofs.Exclusive.{solved_wrong}
use Rattle.unification.specs.Outcomes.{Told}
use Rattle.unification.proofs.laws.laws_stand.Goals as goal

one_outcome : (kind : ℕ → ℕ → ℕ) (cs : List Cell) (E : List Pair) (l l' : List ℕ) (a b : Outcome) → Told kind cs E l a → Told kind cs E l' b → a ≡ b
one_outcome kind cs E l l' Solved Solved x y = refl
one_outcome kind cs E l l' Solved False x y = absurd (y.none _ x.1.1.unifies)
one_outcome kind cs E l l' Solved Wrong x y = absurd (solved_wrong kind arena (graph cs) E (answer arena (graph cs) (up_of l) x.0) x.1.1.unifies y)
one_outcome kind cs E l l' False Solved x y = absurd (x.none _ y.1.1.unifies)
one_outcome kind cs E l l' False False x y = refl
one_outcome kind cs E l l' False Wrong x y = absurd (y x.fits.0 x.fits.1)
one_outcome kind cs E l l' Wrong Solved x y = absurd (solved_wrong kind arena (graph cs) E (answer arena (graph cs) (up_of l') y.0) y.1.1.unifies x)
one_outcome kind cs E l l' Wrong False x y = absurd (x y.fits.0 y.fits.1)
one_outcome kind cs E l l' Wrong Wrong x y = refl

pub returns : goal.returns
returns c = one_outcome
