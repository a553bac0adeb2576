use Rattle.std.proofs.Common.{sym, ◌∙◌, arith}
use Rattle.unification.specs.State.{cells_in}
use Rattle.unification.proofs.Places.{shared_small}
use Rattle.unification.proofs.solve.push_equation.Goals as goal

pub push_args-requires : goal.push_args-requires
push_args-requires c =
    let h = shared_small (cells_in c.args.arena.now) c.args.arena.now.fit c.args.left c.args.right c.in-Some.n (sym c.shared_arity.ensures ∙ c.in-Some.is) in
    omega arith

pub returns-in-Some-clause-count : goal.returns-in-Some-clause-count
returns-in-Some-clause-count c =
    let h = shared_small (cells_in c.args.arena.now) c.args.arena.now.fit c.args.left c.args.right c.in-Some.n (sym c.shared_arity.ensures ∙ c.in-Some.is) in
    omega arith
