use Rattle.std.proofs.Common.{◌≡◌, ℕ, List, get_or, sym, ap, ◌∙◌, arith}
use Rattle.std.proofs.lemmas.List.{get_or_past}
use Rattle.graphs.specs.Graph.{find}
use Rattle.graphs.specs.Links.{up_of}
use Rattle.graphs.proofs.Walks.{walk_fixed, find_up}
use Rattle.graphs.proofs.Lists.{up_read}
use Rattle.unification.specs.State.{links_in}
use Rattle.unification.proofs.links.Links.find.Goals as goal

pub returns-then-node-up-clause-value : goal.returns-then-node-up-clause-value
returns-then-node-up-clause-value c =
    let l = links_in c.args.self.now in let n = c.args.node in
    sym (walk_fixed (up_of l) n n (get_or_past l n n (omega (arith, c.args.self.now.up.ok.0, c.as_slice-up.ensures.len, c.if-node-up.true))))

pub loop-at-smaller : goal.loop-at-smaller
loop-at-smaller c =
    let l = links_in c.args.self.now in let n = c.loop-at.at in
    let v = ap (λ (xs : List ℕ). get_or xs n 0) c.as_slice-up.ensures.value in
    let e = v ∙ up_read l n c.loop-at.invariant.1 in
    let d = c.args.self.now.down n in
    omega (arith, e, d, c.loop-at-test.true)

pub loop-at-preserved : goal.loop-at-preserved
loop-at-preserved c =
    let l = links_in c.args.self.now in let n = c.loop-at.at in let down = c.args.self.now.down in
    let v = ap (λ (xs : List ℕ). get_or xs n 0) c.as_slice-up.ensures.value in
    let e = v ∙ up_read l n c.loop-at.invariant.1 in
    let d = down n in
    let b = c.loop-at.invariant.0 in
    let i = c.loop-at.invariant.1 in
    (omega arith, omega arith, ap (find (up_of l)) e ∙ (find_up (up_of l) down n ∙ c.loop-at.invariant.2))

pub returns-clause-value : goal.returns-clause-value
returns-clause-value c =
    let l = links_in c.args.self.now in let n = c.loop-at.at in
    let v = ap (λ (xs : List ℕ). get_or xs n 0) c.as_slice-up.ensures.value in
    let t : up_of l n ≡ n = sym (v ∙ up_read l n c.loop-at.invariant.1) ∙ c.loop-at-test.false in
    sym (walk_fixed (up_of l) n n t) ∙ c.loop-at.invariant.2
