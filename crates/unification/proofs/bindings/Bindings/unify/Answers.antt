use Rattle.std.proofs.Common.{ap, ◌∙◌, arith}
use Rattle.unification.specs.Held.{held, count, room}
use Rattle.unification.specs.Outcomes.{opened}
use Rattle.unification.specs.State.{cells_of, links_of}
use Rattle.unification.proofs.Runs.{few_cells}
use Rattle.unification.proofs.States.{first_ready, told_next, led_next}
use Rattle.unification.proofs.Standing.{unified}
use Rattle.unification.proofs.bindings.Bindings.unify.Goals as goal

pub settle-requires : goal.settle-requires
settle-requires g c =
    let b = c.args.self.now in let pairs = c.push_equation.new.pairs in
    let st = c.push_equation.ensures.held ∙ ap (opened (cells_of b) c.args.left c.args.right) c.new-pairs.ensures.held in
    first_ready b.arena b.links c.args.left c.args.right (held pairs) (count pairs) (room pairs) st (omega arith) (omega arith)

pub returns-clause-tells : goal.returns-clause-tells
returns-clause-tells g c =
    let kind = g.S.Signature.kind c.args.signature.now in let b = c.args.self.now in
    let st = c.push_equation.ensures.held ∙ ap (opened (cells_of b) c.args.left c.args.right) c.new-pairs.ensures.held in
    told_next kind (cells_of b) (few_cells b.arena) (links_of b) c.args.left c.args.right (held c.push_equation.new.pairs) st (links_of c.settle.new.self) c.settle.result c.settle.ensures.tells

pub returns-clause-leads : goal.returns-clause-leads
returns-clause-leads g c =
    let kind = g.S.Signature.kind c.args.signature.now in let b = c.args.self.now in
    let st = c.push_equation.ensures.held ∙ ap (opened (cells_of b) c.args.left c.args.right) c.new-pairs.ensures.held in
    led_next kind (cells_of b) (few_cells b.arena) (links_of b) c.args.left c.args.right (held c.push_equation.new.pairs) st (links_of c.settle.new.self) c.settle.result c.settle.ensures.leads

pub returns-clause-means : goal.returns-clause-means
returns-clause-means g c =
    let kind = g.S.Signature.kind c.args.signature.now in let b = c.args.self.now in
    let st = c.push_equation.ensures.held ∙ ap (opened (cells_of b) c.args.left c.args.right) c.new-pairs.ensures.held in
    unified kind (cells_of b) (few_cells b.arena) (links_of b) c.args.left c.args.right (links_of c.settle.new.self) c.settle.result
    (told_next kind (cells_of b) (few_cells b.arena) (links_of b) c.args.left c.args.right (held c.push_equation.new.pairs) st (links_of c.settle.new.self) c.settle.result c.settle.ensures.tells)
    (led_next kind (cells_of b) (few_cells b.arena) (links_of b) c.args.left c.args.right (held c.push_equation.new.pairs) st (links_of c.settle.new.self) c.settle.result c.settle.ensures.leads)
