use Rattle.std.proofs.Common.{drop, vec_items, refl, ap, ◌∙◌, arith}
use Rattle.unification.specs.State.{cells_of}
use Rattle.frames.proofs.Listing.{listed_none, listed_more}
use Rattle.resolution.proofs.machine.Machine.+list_goals.Goals as goal

pub returns-then-place-len-clause-lists : goal.returns-then-place-len-clause-lists
returns-then-place-len-clause-lists t c =
    listed_none (cells_of c.args.self.now.bindings) c.args.place (vec_items c.args.self.now.waiting) c.args.rest (let past = c.len.ensures in omega arith)

pub returns-clause-lists : goal.returns-clause-lists
returns-clause-lists t c =
    let w = c.args.self.now.waiting in let cells = cells_of c.args.self.now.bindings in
    listed_more cells c.args.place (vec_items w) (vec_items c.list_goals-after.new.self.waiting) (vec_items c.push_reserved.new.self) (record { goal = c.args.place; rest = c.list_goals-after.result }) c.len-first.result c.args.rest
    (omega arith) refl c.push_reserved.ensures.items (omega (arith, c.len-first.ensures, c.list_goals-after.new.self.waiting.ok.0))
    (λ bs gs e. c.list_goals-after.ensures.lists bs gs (ap (λ n. drop n cells) c.end_of-next.ensures.value ∙ e))
