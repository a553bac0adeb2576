use Rattle.std.proofs.Common.{sym, refl, ap, ◌∙◌, subst, arith}
use Rattle.unification.specs.Arguments.{rest_of}
use Rattle.unification.specs.Reading.{Counts, Counting}
use Rattle.unification.specs.State.{cells_of, links_of}
use Rattle.unification.proofs.Places.{kid_below}
use Rattle.unification.proofs.Reading.{count_none, count_start, count_more, count_short, count_end}
use Rattle.unification.proofs.Runs.{few_cells}
use Rattle.unification.proofs.bindings.Bindings.+fits.Goals as goal

pub returns-in_err-rest-clause-counts : goal.returns-in_err-rest-clause-counts
returns-in_err-rest-clause-counts t c =
    let cs = cells_of c.args.self.now in let l = links_of c.args.self.now in
    subst (Counts cs l c.args.node c.args.room) (sym c.from_residual.ensures) (count_none cs l c.args.node c.args.room (omega (arith, c.in_err-rest.ensures)))

pub loop-kid-init : goal.loop-kid-init
loop-kid-init t c =
    let cs = cells_of c.args.self.now in let l = links_of c.args.self.now in
    let n = c.head-n.result.arity in let r = c.find-r.result in
    subst (λ k. Counting cs l r n c.args.room k (rest_of c.into_iter-kid-iterator.result)) (sym c.in_ok-rest.ensures.1)
    (subst (Counting cs l r n c.args.room _) (sym (ap rest_of c.into_iter-kid-iterator.ensures.into_iter_gives ∙ c.arguments-kid-items.ensures)) (count_start cs l r n c.args.room c.in_ok-rest.ensures.0))

pub fits-requires : goal.fits-requires
fits-requires t c =
    let b = kid_below c.loop-kid.kid-iterator c.in-Some.kid (rest_of c.next.new.self) c.in-Some.ensures.steps in let h = c.loop-kid.invariant.0 in
    (omega arith, omega arith)

pub returns-in_err-rest-2-clause-counts : goal.returns-in_err-rest-2-clause-counts
returns-in_err-rest-2-clause-counts t c =
    let cs = cells_of c.args.self.now in let l = links_of c.args.self.now in
    subst (Counts cs l c.args.node c.args.room) (sym c.from_residual-in_err-rest-2.ensures)
    (count_short cs l c.find-r.result c.head-n.result.arity c.args.room c.loop-kid.rest (rest_of c.loop-kid.kid-iterator) c.loop-kid.invariant
    (few_cells c.args.self.now.arena) c.args.node c.head-n.result c.find-r.ensures.value c.find-r.ensures.top c.head-n.ensures refl c.in-Some.kid (rest_of c.next.new.self) c.in-Some.ensures.steps c.in_err-rest-2.ensures.counts)

pub loop-kid-preserved : goal.loop-kid-preserved
loop-kid-preserved t c =
    let cs = cells_of c.args.self.now in let l = links_of c.args.self.now in
    count_more cs l c.find-r.result c.head-n.result.arity c.args.room c.loop-kid.rest (rest_of c.loop-kid.kid-iterator) c.loop-kid.invariant
    c.in-Some.kid (rest_of c.next.new.self) c.in-Some.ensures.steps c.in_ok-rest-2.rest c.in_ok-rest-2.ensures.less c.in_ok-rest-2.ensures.counts

pub returns-clause-counts : goal.returns-clause-counts
returns-clause-counts t c =
    let cs = cells_of c.args.self.now in let l = links_of c.args.self.now in
    count_end cs l c.find-r.result c.head-n.result.arity c.args.room c.loop-kid.rest (rest_of c.loop-kid.kid-iterator) c.loop-kid.invariant
    (few_cells c.args.self.now.arena) c.args.node c.head-n.result c.find-r.ensures.value c.find-r.ensures.top c.head-n.ensures refl c.in-None.ensures.steps.0
