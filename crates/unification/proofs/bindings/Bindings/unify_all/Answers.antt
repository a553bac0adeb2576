use Rattle.std.proofs.Common.{ap, ◌∙◌, arith}
use Rattle.unification.specs.Held.{held, count, room}
use Rattle.unification.specs.Several.{stacked}
use Rattle.unification.specs.State.{cells_of, links_of}
use Rattle.unification.proofs.Runs.{few_cells}
use Rattle.unification.proofs.Several.{all_ready, all_unified}
use Rattle.unification.proofs.bindings.Bindings.unify_all.Goals as goal

pub settle-requires : goal.settle-requires
settle-requires g c =
    let b = c.args.self.now in let pairs = c.push_all.new.pairs in
    let st = c.push_all.ensures.held ∙ ap (stacked (cells_of b) c.args.equations.now) c.new-pairs.ensures.held in
    all_ready b.arena b.links c.args.equations.now (held pairs) (count pairs) (room pairs) st (omega arith) (omega arith)

pub returns-clause-means : goal.returns-clause-means
returns-clause-means g c =
    let kind = g.S.Signature.kind c.args.signature.now in let b = c.args.self.now in
    let st = c.push_all.ensures.held ∙ ap (stacked (cells_of b) c.args.equations.now) c.new-pairs.ensures.held in
    all_unified kind (cells_of b) (links_of b) c.args.equations.now (held c.push_all.new.pairs) (links_of c.settle.new.self) c.settle.result (few_cells b.arena) st c.settle.ensures.tells c.settle.ensures.leads
