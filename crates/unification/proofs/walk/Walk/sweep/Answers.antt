use Rattle.std.proofs.Common.{◌≡◌, ◌+◌, sym, refl, ◌∙◌, subst, arith}
use Rattle.unification.specs.declared.walk.Walk.{Walk}
use Rattle.unification.specs.Marks.{Sweeping}
use Rattle.unification.specs.State.{cells_in, links_in}
use Rattle.unification.proofs.Runs.{few_cells, laid}
use Rattle.unification.proofs.Marks.{is_unseen, not_unseen, sweep_clean, swept, sweep_more, sweep_cycle, swept_all}
use Rattle.unification.proofs.walk.Walk.sweep.Goals as goal

pub loop-n-init : goal.loop-n-init
loop-n-init c =
    let few = few_cells c.args.self.now.arena.now in let one = c.args.self.now.one_each in
    (refl, refl, sweep_clean (cells_in c.args.self.now.arena.now) (links_in c.args.self.now.links.now) c.args.nodes.now c.args.self.now.marks.now (laid c.args.self.now.arena.now c.args.self.now.links.now) (omega arith) (omega arith) c.requires)

pub returns-then-not-visit : goal.returns-then-not-visit
returns-then-not-visit c =
    let cs = cells_in c.args.self.now.arena.now in let l = links_in c.args.self.now.links.now in let same = c.loop-n.invariant in let arena = same.0 in let links = same.1 in
    sweep_cycle cs l c.args.nodes.now c.loop-n.self.marks.now c.loop-n.n-index same.2 c.find-r.result (rw (sym links) c.find-r.ensures.value) (rw (sym arena) (sym c.mark.ensures ∙ is_unseen c.mark.result (sym c.if-eq.ensures))) c.visit.new.self.marks.now (rw (sym arena, sym links) c.if-not-visit.ensures.walks)

pub loop-n-preserved : goal.loop-n-preserved
loop-n-preserved c =
    let cs = cells_in c.args.self.now.arena.now in let l = links_in c.args.self.now.links.now in let same = c.loop-n.invariant in let arena = same.0 in let links = same.1 in
    elim c.else-eq.branch [
      | goal.else-eq-via-then-eq+else-not-visit w ↦
          subst (λ (x : Walk). (x.arena ≡ c.args.self.now.arena) × (x.links ≡ c.args.self.now.links) × Sweeping cs l c.args.nodes.now x.marks.now (c.loop-n.n-index + 1)) (sym w.self-is)
          (w.visit.ensures.arena ∙ arena, w.visit.ensures.links ∙ links, sweep_more cs l c.args.nodes.now c.loop-n.self.marks.now c.loop-n.n-index same.2 c.find-r.result (rw (sym links) c.find-r.ensures.value) (rw (sym arena) (sym c.mark.ensures ∙ is_unseen c.mark.result (sym w.if-eq.ensures))) w.visit.new.self.marks.now (rw (sym arena, sym links) w.if-not-visit.ensures.walks))
      | goal.else-eq-via-else-eq w ↦
          subst (λ (x : Walk). (x.arena ≡ c.args.self.now.arena) × (x.links ≡ c.args.self.now.links) × Sweeping cs l c.args.nodes.now x.marks.now (c.loop-n.n-index + 1)) (sym w.self-is)
          (arena, links, swept cs l c.args.nodes.now c.loop-n.self.marks.now c.loop-n.n-index same.2 c.find-r.result (rw (sym links) c.find-r.ensures.value) (rw (sym arena) (λ e. not_unseen c.mark.result (sym w.if-eq.ensures) (c.mark.ensures ∙ e))))
    ]

pub returns : goal.returns
returns c = swept_all (cells_in c.args.self.now.arena.now) (links_in c.args.self.now.links.now) c.args.nodes.now c.loop-n.self.marks.now c.loop-n.n-index c.loop-n.invariant.2 (omega arith)
