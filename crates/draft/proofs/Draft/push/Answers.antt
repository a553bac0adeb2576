use Rattle.std.proofs.Common.{◌≤◌, [], ◌∷◌, vec_items, vec_len, arith, rules}
use Rattle.clauses.specs.Clauses.{Slim}
use Rattle.draft.specs.Under.{Under}
use Rattle.names.proofs.Laws.{each_joined, each_one}
use Rattle.draft.proofs.Counts.{vars_up, vars_most, vars_cell}
use Rattle.draft.proofs.Draft.push.Goals as goal

pub invariant_of-self-2 : goal.invariant_of-self-2
invariant_of-self-2 c =
    let s = c.args.self.now in
    let cells = c.push_reserved.new.self in
    let n = c.counted-self.result in
    let up : s.vars ≤ n = omega (arith, vars_up s.vars c.args.cell, c.counted-self.ensures) in
    let most = vars_most s.vars c.args.cell in
    let low = each_joined (Under n) (vec_items s.cells) (_ ∷ []) (vec_items cells) (vec_len s.cells) (vec_len cells) c.push_reserved.ensures.items s.cells.ok.0 cells.ok.0
    (λ k d h t. omega (arith, s.low k d h t))
    (each_one (Under n) _ (λ t. omega (arith, vars_cell s.vars c.args.cell t (c.requires.low t), c.counted-self.ensures))) in
    let slim = each_joined Slim (vec_items s.cells) (_ ∷ []) (vec_items cells) (vec_len s.cells) (vec_len cells) c.push_reserved.ensures.items s.cells.ok.0 cells.ok.0
    s.slim (each_one Slim _ c.requires.slim) in
    record {
      space = (search rules, search rules);
      room = (search rules, search rules);
      few = search rules;
      level = search rules;
      few_fresh = search rules;
      nested = search rules;
      numbered = omega arith;
      low = low;
      slim = slim;
    }
