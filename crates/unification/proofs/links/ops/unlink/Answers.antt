use Rattle.std.proofs.Common.{◌≡◌, ℕ, ◌+◌, List, get_or, drop, set, sym, ◌∙◌, subst, arith}
use Rattle.std.proofs.lemmas.List.{at_drop_more, at_drop_all}
use Rattle.graphs.specs.Links.{restore}
use Rattle.graphs.proofs.Lists.{set_outside}
use Rattle.unification.proofs.Linked.{restore_first}
use Rattle.unification.proofs.links.ops.unlink.Goals as goal

pub loop-r-preserved : goal.loop-r-preserved
loop-r-preserved c =
    let l = c.loop-r.up in let t = c.args.nodes.now in let i = c.loop-r.r-index in let r = get_or t i 0 in
    let next : restore (set l r r) (drop (i + 1) t) ≡ restore c.args.up.now t = restore_first l (drop (i + 1) t) r ∙ (sym (at_drop_more (restore l) t i 0 (omega arith)) ∙ c.loop-r.invariant) in
    elim c.if-r-up.branch [
      | goal.then-r-up w ↦ subst (λ (x : List ℕ). restore x (drop (i + 1) t) ≡ restore c.args.up.now t) (sym w.up-is) next
      | goal.else-r-up w ↦ subst (λ (x : List ℕ). restore x (drop (i + 1) t) ≡ restore c.args.up.now t) (set_outside l r w.if-r-up.false ∙ sym w.up-is) next
    ]

pub returns : goal.returns
returns c = sym (at_drop_all (restore c.loop-r.up) c.args.nodes.now c.loop-r.r-index (omega arith)) ∙ c.loop-r.invariant
