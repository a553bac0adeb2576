use Rattle.std.proofs.Common.{◌≡◌, List, [], ◌++◌, length, drop, None, vec_items, vec_len, sym, refl, ap, ◌∙◌, subst, arith}
use Rattle.std.proofs.lemmas.List.{nil_from_length}
use Rattle.std.proofs.lemmas.Result.{MatchResult-weaker}
use Rattle.trees.specs.Tree.{Goal}
use Rattle.trees.specs.Summaries.{summary}
use Rattle.programs.specs.Spelling.{spell_goals}
use Rattle.unification.specs.Held.{held}
use Rattle.unification.specs.State.{cells_of, links_of, trail_of}
use Rattle.frames.specs.declared.Node.{Node}
use Rattle.frames.specs.Frames.{Rising, cells_at, waiting_at}
use Rattle.frames.specs.Goals.{Lists}
use Rattle.frames.proofs.Questions.{placed, some_place}
use Rattle.frames.proofs.Asking.{entering_root, root_grown, root_standing, root_listed, home_again, cases_both, more_steps}
use Rattle.resolution.specs.State.{memory, branch, shortest}
use Rattle.resolution.proofs.machine.Machine.whole_tree.Goals as goal

pub unreachable-requires : goal.unreachable-requires
unreachable-requires g c =
    let j = c.requires.judged in
    c.in_default.not-Some _ (placed _ c.args.question.now _ _ c.requires.few j.few j.list j.low c.append.ensures.value c.append.ensures.cells).0

pub list_goals-requires : goal.list_goals-requires
list_goals-requires g c =
    let j = c.requires.judged in
    let put = placed _ c.args.question.now _ _ c.requires.few j.few j.list j.low c.append.ensures.value c.append.ensures.cells in
    let few = put.2 in let at : c.in-Some.place ≡ length (cells_of c.args.self.now.bindings) = some_place _ _ _ c.in-Some.is put.0 in
    let none = c.requires.idle in let small = c.requires.few in
    record { space = omega arith }

pub invariant_of-progress-clause-rising : goal.invariant_of-progress-clause-rising
invariant_of-progress-clause-rising g c = subst Rising (sym c.new.ensures.held) tt

pub arrive-requires-clause-fits : goal.arrive-requires-clause-fits
arrive-requires-clause-fits g c =
    let j = c.requires.judged in
    let put = placed _ c.args.question.now _ _ c.requires.few j.few j.list j.low c.append.ensures.value c.append.ensures.cells in
    let few = put.2 in let at : c.in-Some.place ≡ length (cells_of c.args.self.now.bindings) = some_place _ _ _ c.in-Some.is put.0 in
    let same = ap (λ b. length (cells_of b)) c.list_goals.ensures.bindings in
    let none = c.requires.idle in let small = c.requires.few in let listed = c.list_goals.ensures.few in
    let step = ap (λ (n : Node). n.step) c.root-root.ensures in
    (omega (arith, ap cells_at step), omega (arith, ap waiting_at step))

pub returns-clause-tree : goal.returns-clause-tree
returns-clause-tree g c =
    let self = c.args.self.now in let question = c.args.question.now in let j = c.requires.judged in let task = c.args.task.now in
    let home = memory self in let listed = c.list_goals.new.self in let walked = c.walk-result.new.self in
    let kind = g.K.Signature.kind task.kinds.now in let limit = task.settings.limit in
    let put = placed _ question _ _ c.requires.few j.few j.list j.low c.append.ensures.value c.append.ensures.cells in
    let at : c.in-Some.place ≡ length home.cells = some_place _ _ _ c.in-Some.is put.0 in
    let same = c.list_goals.ensures.bindings in
    let cells : cells_of listed.bindings ≡ home.cells ++ question = ap cells_of same ∙ put.1 in
    let small = listed.bindings.arena.few in let ok = listed.bindings.arena.cells.ok.0 in let idle = c.requires.idle in let waiting = self.waiting.ok.0 in
    let n : Node = c.root-root.result in
    λ prog gs E t spells spelt standing is.
    let grown = root_grown home question gs spelt (cells_of listed.bindings) (links_of listed.bindings) (trail_of listed.bindings) (vec_items listed.waiting) c.in-Some.place (vec_len self.waiting) c.list_goals.result
    cells (ap links_of same ∙ c.append.ensures.links) (ap trail_of same ∙ c.append.ensures.trail) c.list_goals.ensures.kept at in
    let stood = root_standing home question gs spelt (cells_of listed.bindings) (links_of listed.bindings) (trail_of listed.bindings) (vec_items listed.waiting) c.in-Some.place (vec_len self.waiting) c.list_goals.result
    cells (ap links_of same ∙ c.append.ensures.links) (ap trail_of same ∙ c.append.ensures.trail) c.list_goals.ensures.kept at kind E (omega arith) standing in
    let goals = root_listed home question gs spelt (cells_of listed.bindings) (links_of listed.bindings) (trail_of listed.bindings) (vec_items listed.waiting) c.in-Some.place (vec_len self.waiting) c.list_goals.result
    cells (ap links_of same ∙ c.append.ensures.links) (ap trail_of same ∙ c.append.ensures.trail) c.list_goals.ensures.kept at
    (subst (λ b. (bs hs : List Goal) → drop c.in-Some.place (cells_of b) ≡ spell_goals bs → Lists (cells_of b) home.waiting None hs → Lists (cells_of b) (vec_items listed.waiting) c.list_goals.result (bs ++ hs)) (sym same) c.list_goals.ensures.lists) in
    let root = entering_root home prog kind limit gs E t (memory listed) (branch listed) (shortest listed) n _ is grown stood (subst (λ (x : Node). Lists (cells_of listed.bindings) (vec_items listed.waiting) x.goals gs) (sym c.root-root.ensures) goals)
    (ap (λ (x : Node). x.flag) c.root-root.ensures) (ap (λ (x : Node). x.step) c.root-root.ensures) refl (held c.new.result) c.new.ensures.held in
    let on = c.arrive.ensures.arrives home prog kind (summary [] t) root in
    let told = cases_both _ _ _ _ (c.walk-result.ensures.walked home prog (summary [] t) spells on) in
    let back = home_again home (memory walked) (record { cells = cells_of c.roll_back.new.self; links = links_of c.roll_back.new.self; trail = trail_of c.roll_back.new.self; waiting = vec_items c.clear.new.self })
    (record { node = n; clause = 0; bindings = c.snapshot-before.result; waiting = 0 })
    (record { cells = c.snapshot-before.ensures.cells; trail = c.snapshot-before.ensures.trail; waiting = omega arith })
    told.1 c.roll_back.ensures.cells c.roll_back.ensures.links c.roll_back.ensures.trail (c.clear.ensures.items ∙ sym (nil_from_length home.waiting (omega arith))) in
    (MatchResult-weaker c.walk-result.result told.0 (λ x h. h) (λ e h. more_steps t task.settings.allowance h), back)
