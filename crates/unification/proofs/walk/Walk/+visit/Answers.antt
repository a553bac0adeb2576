use Rattle.std.proofs.Common.{◌+◌, ◌≤◌, length, sym, refl, ap, ◌∙◌, subst, arith}
use Rattle.unification.specs.declared.walk.mark.Mark.TheVariants.{Done}
use Rattle.graphs.specs.Cells.{arguments}
use Rattle.unification.specs.Arguments.{rest_of}
use Rattle.unification.specs.Marks.{Walking}
use Rattle.unification.specs.State.{cells_in, links_in}
use Rattle.unification.proofs.Marks.{done_seen, unseen_set, walk_opened, walk_start, walk_open, walk_done, walk_visited, walk_cycle, walk_end}
use Rattle.unification.proofs.walk.Walk.+visit.Goals as goal

pub loop-kid-init : goal.loop-kid-init
loop-kid-init t c = (
  refl,
  refl,
  walk_opened c.args.self.now c.args.r c.requires,
  subst (Walking (cells_in c.args.self.now.arena.now) (links_in c.args.self.now.links.now) c.args.self.now.marks.now c.args.r _) (sym (ap rest_of c.into_iter-kid-iterator.ensures.into_iter_gives ∙ (c.arguments-kid-items.ensures ∙ ap (λ n. arguments (cells_in c.args.self.now.arena.now) n (c.args.r + 1)) c.arity.ensures.value)))
      (walk_start c.args.self.now c.args.r c.requires),
)

pub returns-in-Open-clause-walks : goal.returns-in-Open-clause-walks
returns-in-Open-clause-walks t c =
    let same = c.loop-kid.invariant in let arena = sym same.0 in let links = sym same.1 in
    walk_open c.args.self.now c.args.r c.requires c.loop-kid.self.marks.now (rest_of c.loop-kid.kid-iterator) same.3 c.in-Some.kid (rest_of c.next.new.self) c.in-Some.ensures.steps c.find-k.result (rw links c.find-k.ensures.value) (rw arena (sym c.mark.ensures ∙ c.in-Open.is))

pub returns-then-not-visit-clause-walks : goal.returns-then-not-visit-clause-walks
returns-then-not-visit-clause-walks t c =
    let same = c.loop-kid.invariant in let arena = sym same.0 in let links = sym same.1 in
    walk_cycle c.args.self.now c.args.r c.requires c.loop-kid.self.marks.now (rest_of c.loop-kid.kid-iterator) same.3 c.in-Some.kid (rest_of c.next.new.self) c.in-Some.ensures.steps c.find-k.result (rw links c.find-k.ensures.value) (rw arena (sym c.mark.ensures ∙ c.in-Unseen.is)) c.visit.new.self.marks.now c.visit.new.self.marks.now (rw (arena, links) c.if-not-visit.ensures.walks)

pub loop-kid-preserved-else-not-visit : goal.loop-kid-preserved-else-not-visit
loop-kid-preserved-else-not-visit t c =
    let same = c.loop-kid.invariant in let arena = sym same.0 in let links = sym same.1 in
    let fewer = same.2 in let f = c.visit.ensures.fewer in
    (c.visit.ensures.arena ∙ same.0, c.visit.ensures.links ∙ same.1, omega arith, walk_visited c.args.self.now c.args.r c.requires c.loop-kid.self.marks.now (rest_of c.loop-kid.kid-iterator) same.3 c.in-Some.kid (rest_of c.next.new.self) c.in-Some.ensures.steps c.find-k.result (rw links c.find-k.ensures.value) (rw arena (sym c.mark.ensures ∙ c.in-Unseen.is)) c.visit.new.self.marks.now (rw (arena, links) c.if-not-visit.ensures.walks))

pub loop-kid-preserved : goal.loop-kid-preserved
loop-kid-preserved t c =
    let same = c.loop-kid.invariant in let arena = sym same.0 in let links = sym same.1 in
    (same.0, same.1, same.2, walk_done c.args.self.now c.args.r c.requires c.loop-kid.self.marks.now (rest_of c.loop-kid.kid-iterator) same.3 c.in-Some.kid (rest_of c.next.new.self) c.in-Some.ensures.steps c.find-k.result (rw links c.find-k.ensures.value) (rw arena (sym c.mark.ensures ∙ c.in-Done.is)))

pub returns-clause-fewer : goal.returns-clause-fewer
returns-clause-fewer t c = let a = unseen_set c.loop-kid.self.marks.now c.args.r Done done_seen in let b = c.loop-kid.invariant.2 in omega arith

pub returns-clause-walks : goal.returns-clause-walks
returns-clause-walks t c =
    let same = c.loop-kid.invariant in let arena = sym same.0 in let links = sym same.1 in
    let one = c.loop-kid.self.one_each in
    walk_end c.args.self.now c.args.r c.requires c.loop-kid.self.marks.now (rest_of c.loop-kid.kid-iterator) same.3 c.in-None.ensures.steps.0 (rw arena (let e : length (cells_in c.loop-kid.self.arena.now) ≤ length c.loop-kid.self.marks.now = omega arith in e))
