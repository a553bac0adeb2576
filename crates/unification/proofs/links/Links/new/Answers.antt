use Rattle.std.proofs.Common.{◌≡◌, vec_items, ◌∙◌, refl, subst, arith}
use Rattle.std.specs.Prelude.{IfOk}
use Rattle.std.specs.List.{range_with_len}
use Rattle.std.proofs.lemmas.Iterator.{YieldsList-from_range, items_from_collect}
use Rattle.unification.proofs.Linked.{fresh, range_roots}
use Rattle.unification.proofs.links.Links.new.Goals as goal

pub invariant_of-result : goal.invariant_of-result
invariant_of-result c =
    let e = subst (λ r. IfOk r (λ w. vec_items w ≡ range_with_len 0 2624)) c.in_ok-up.was (items_from_collect c.collect.result c.collect.ensures.ran (YieldsList-from_range 0 2624 2624 refl refl)) in
    let w = fresh (vec_items c.in_ok-up.up) (e ∙ range_roots 0 2624) in
    let n = w.length in let ok = c.in_ok-up.up.ok.0 in
    let zero = c.in_ok-trail.ensures.len in let light = w.light in let cap = c.in_ok-trail.ensures.capacity in
    record { nodes = omega arith; down = w.down; paper = omega arith; long = omega arith }

pub returns : goal.returns
returns c =
    let e = subst (λ r. IfOk r (λ w. vec_items w ≡ range_with_len 0 2624)) c.in_ok-up.was (items_from_collect c.collect.result c.collect.ensures.ran (YieldsList-from_range 0 2624 2624 refl refl)) in
    (e ∙ range_roots 0 2624, c.in_ok-trail.ensures.items)
