use Rattle.std.proofs.Common.{vec_items, rules}
use Rattle.std.proofs.lemmas.Iterator.{YieldsList-from_slice, YieldsList-from_zip}
use Rattle.std.proofs.lemmas.Iterator.Search.{find_from_yields_List}
use Rattle.draft.specs.Sketch.{is_variable}
use Rattle.draft.proofs.Variables.{variable_found}
use Rattle.draft.proofs.Draft.same_variable.Goals as goal

pub returns-clause-value : goal.returns-clause-value
returns-clause-value c =
    variable_found _ c.args.text.now c.args.sought.now (vec_items c.args.self.now.cells) (vec_items c.args.self.now.spans) c.args.self.now.vars c.map_or.result c.find.result
    (find_from_yields_List (λ p. is_variable c.args.text.now c.args.sought.now p.0 p.1) c.find.new.self _ c.find.result c.find.ensures.ran
    (YieldsList-from_zip (YieldsList-from_slice (vec_items c.args.self.now.cells) (search rules)) (YieldsList-from_slice (vec_items c.args.self.now.spans) (search rules))) (λ x b q k. search rules))
    (search rules)
