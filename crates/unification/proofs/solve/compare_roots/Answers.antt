use Rattle.std.proofs.Common.{sym, ◌∙◌}
use Rattle.unification.specs.State.{cells_in}
use Rattle.unification.proofs.Meeting.{meet_args, meet_same, apart, above_constant, constant_above}
use Rattle.unification.proofs.solve.compare_roots.Goals as goal

pub returns-in-true-true : goal.returns-in-true-true
returns-in-true-true g c =
    meet_args (g.S.Signature.kind c.args.signature.now) (cells_in c.args.arena.now) c.args.r c.args.q c.in-Some-Some.x c.in-Some-Some.y (sym c.cell.ensures ∙ c.in-Some-Some.is-0) (sym c.cell-2.ensures ∙ c.in-Some-Some.is-1)
    c.in-true-true.is-0 c.in-true-true.is-1 c.if-x-y.true c.if-x-y-2.true

pub returns-in-false-false : goal.returns-in-false-false
returns-in-false-false g c =
    meet_same (g.S.Signature.kind c.args.signature.now) (cells_in c.args.arena.now) c.args.r c.args.q c.in-Some-Some.x c.in-Some-Some.y (sym c.cell.ensures ∙ c.in-Some-Some.is-0) (sym c.cell-2.ensures ∙ c.in-Some-Some.is-1)
    c.in-false-false.is-0 c.in-false-false.is-1 c.if-x-y-3.true c.if-x-y-4.true

pub returns-in_default-2 : goal.returns-in_default-2
returns-in_default-2 g c ρ val e =
    apart (g.S.Signature.kind c.args.signature.now) (cells_in c.args.arena.now) c.args.r c.args.q c.in-Some-Some.x c.in-Some-Some.y (sym c.cell.ensures ∙ c.in-Some-Some.is-0) (sym c.cell-2.ensures ∙ c.in-Some-Some.is-1) ρ val e
    c.in-true-true.is-0 c.in-true-true.is-1 (λ w. c.if-x-y-2.false w.1)

pub returns-in_default-2-2 : goal.returns-in_default-2-2
returns-in_default-2-2 g c ρ val e =
    apart (g.S.Signature.kind c.args.signature.now) (cells_in c.args.arena.now) c.args.r c.args.q c.in-Some-Some.x c.in-Some-Some.y (sym c.cell.ensures ∙ c.in-Some-Some.is-0) (sym c.cell-2.ensures ∙ c.in-Some-Some.is-1) ρ val e
    c.in-true-true.is-0 c.in-true-true.is-1 (λ w. c.if-x-y.false w.0)

pub returns-in_default-2-3 : goal.returns-in_default-2-3
returns-in_default-2-3 g c ρ val e =
    above_constant (g.S.Signature.kind c.args.signature.now) (cells_in c.args.arena.now) c.args.r c.args.q c.in-Some-Some.x c.in-Some-Some.y (sym c.cell.ensures ∙ c.in-Some-Some.is-0) (sym c.cell-2.ensures ∙ c.in-Some-Some.is-1) ρ val e c.in_default-2.is-0 c.in_default-2.is-1

pub returns-in_default-2-4 : goal.returns-in_default-2-4
returns-in_default-2-4 g c ρ val e =
    constant_above (g.S.Signature.kind c.args.signature.now) (cells_in c.args.arena.now) c.args.r c.args.q c.in-Some-Some.x c.in-Some-Some.y (sym c.cell.ensures ∙ c.in-Some-Some.is-0) (sym c.cell-2.ensures ∙ c.in-Some-Some.is-1) ρ val e c.in_default-2.is-0 c.in_default-2.is-1
