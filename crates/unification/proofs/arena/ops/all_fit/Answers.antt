use Rattle.std.proofs.Common.{◌≡◌, ◌&&◌, List, [], ◌∷◌, refl, ap, ◌∙◌, rules, tests}
use Rattle.std.specs.List.{list_all}
use Rattle.std.proofs.lemmas.Iterator.{YieldsList-from_slice}
use Rattle.std.proofs.lemmas.Iterator.Search.{all_from_yields_List}
use Rattle.terms.specs.declared.Cell.{Cell}
use Rattle.graphs.specs.Cells.{all_fit, fits}
use Rattle.unification.proofs.arena.ops.all_fit.Goals as goal

all_is : (cs : List Cell) → list_all fits cs ≡ all_fit cs
all_is [] = refl
all_is (c ∷ cs) = ap (λ b. fits c && b) (all_is cs)

pub returns : goal.returns
returns c = all_from_yields_List fits _ _ _ c.all.ensures.ran (YieldsList-from_slice c.args.cells.now cc) (λ x b q k. search (rules, tests)) ∙ all_is c.args.cells.now
