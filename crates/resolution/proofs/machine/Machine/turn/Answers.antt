use Rattle.std.proofs.Common.{◌≡◌, ◌∷◌, length, sym, refl, ap, ◌∙◌, subst, arith}
use Rattle.unification.specs.Held.{held}
use Rattle.unification.specs.State.{cells_of}
use Rattle.std.proofs.lemmas.Bool.{leb-true}
use Rattle.frames.specs.Owed.{Arrives, one_more}
use Rattle.frames.specs.Steps.{with_cells, next_clause}
use Rattle.frames.proofs.Memories.{memory_path}
use Rattle.frames.proofs.Turns.{none_of, first_of, same_branch, turn_done, turn_since, turn_counts, turn_steps}
use Rattle.resolution.specs.State.{memory, branch, shortest}
use Rattle.unification.proofs.Stacks.{length_newest}
use Rattle.frames.specs.Frames.{Rising}
use Rattle.resolution.proofs.machine.Machine.turn.Goals as goal

-- all clauses of the frame have been tried
pub returns-then-frame-gt0-clause-underway : goal.returns-then-frame-gt0-clause-underway
returns-then-frame-gt0-clause-underway g c =
    let self = c.args.self.now in let gone = c.go_back.new.self in let loaded = c.load-head.new.bindings in let task = c.args.task.now in let p = c.args.progress.now in
    λ home prog whole spells on.
    turn_done home prog (g.K.Signature.kind task.kinds.now) task.settings.limit whole (memory self) (branch gone) (shortest gone) c.args.frame (held p.frames) p.tally
    (same_branch home prog _ _ whole (memory self) (branch self) (branch gone) (shortest self) (shortest gone) _ _ c.go_back.ensures.branch.0 c.go_back.ensures.branch.1 on) (memory gone) c.go_back.ensures.memory
    (g.P.Source.clauses task.source.now) spells c.in-Some.goal c.in-Some.ensures (cells_of loaded) c.load-head.result c.load-head.ensures.fetched
    (none_of c.load-head.result c.if-is_none.ensures) c.if-frame-gt0.true _ (memory_path _ (with_cells (memory gone) (cells_of loaded)) refl c.load-head.ensures.links c.load-head.ensures.trail refl)

-- a step is to come, and the allowance is spent
pub returns-then-is_spent-clause-underway : goal.returns-then-is_spent-clause-underway
returns-then-is_spent-clause-underway g c =
    let self = c.args.self.now in let gone = c.go_back.new.self in let loaded = c.load-head.new.bindings in let task = c.args.task.now in let p = c.args.progress.now in
    λ home prog whole spells on.
    let kind = g.K.Signature.kind task.kinds.now in
    let on' = same_branch home prog _ _ whole (memory self) (branch self) (branch gone) (shortest self) (shortest gone) _ _ c.go_back.ensures.branch.0 c.go_back.ensures.branch.1 on in
    let more = turn_counts home prog kind task.settings.limit whole (memory self) (branch gone) (shortest gone) c.args.frame (held p.frames) p.tally
    on' (memory gone) c.go_back.ensures.memory
    (g.P.Source.clauses task.source.now) spells c.in-Some.goal c.in-Some.ensures (cells_of loaded) c.load-head.result c.load-head.ensures.fetched
    (first_of c.load-head.result c.is_none.result c.args.frame.clause c.is_none.ensures c.else-is_none.either) in
    let spent = leb-true task.settings.allowance p.tally.steps (sym c.is_spent.ensures ∙ c.if-is_spent.true) in let few = loaded.arena.few in let ok = loaded.arena.cells.ok.0 in
    let since = turn_since home prog kind task.settings.limit whole (memory self) (branch gone) (shortest gone) c.args.frame (held p.frames) p.tally
    on' (memory gone) c.go_back.ensures.memory
    (g.P.Source.clauses task.source.now) spells c.in-Some.goal c.in-Some.ensures (cells_of loaded) c.load-head.result c.load-head.ensures.fetched (omega arith) _
    (memory_path _ (with_cells (memory gone) (cells_of loaded)) refl c.load-head.ensures.links c.load-head.ensures.trail refl) in
    (omega arith, since)

pub invariant_of-progress-clause-rising : goal.invariant_of-progress-clause-rising
invariant_of-progress-clause-rising g c =
    let p = c.args.progress.now in let frames = p.frames in let below = c.requires.below in
    let next : held c.put.new.self ≡ next_clause c.args.frame ∷ held frames = c.put.ensures.held ∙ ap (λ f. f ∷ held frames) c.next_clause.ensures in
    subst Rising (sym next) (c.requires.roomy, omega (arith, length_newest _ _ frames.inside), p.rising)

-- a step was made
pub returns-clause-underway : goal.returns-clause-underway
returns-clause-underway g c =
    let self = c.args.self.now in let gone = c.go_back.new.self in let loaded = c.load-head.new.bindings in let task = c.args.task.now in let p = c.args.progress.now in
    let few = loaded.arena.few in let ok = loaded.arena.cells.ok.0 in let early = c.requires.roomy.0 in let long = ap length c.go_back.ensures.branch.0 in
    let next : held c.put.new.self ≡ next_clause c.args.frame ∷ held p.frames = c.put.ensures.held ∙ ap (λ f. f ∷ held p.frames) c.next_clause.ensures in
    let resolved = c.resolve-outcome.new.self in let node = c.resolve-outcome.result.0 in let outcome = c.resolve-outcome.result.1 in
    λ home prog whole spells on.
    let kind = g.K.Signature.kind task.kinds.now in let limit = task.settings.limit in
    let arrives = turn_steps home prog kind limit whole (memory self) (branch gone) (shortest gone) c.args.frame (held p.frames) p.tally
    (same_branch home prog _ _ whole (memory self) (branch self) (branch gone) (shortest self) (shortest gone) _ _ c.go_back.ensures.branch.0 c.go_back.ensures.branch.1 on) (memory gone) c.go_back.ensures.memory
    (g.P.Source.clauses task.source.now) spells c.in-Some.goal c.in-Some.ensures (cells_of loaded) c.load-head.result c.load-head.ensures.fetched
    (first_of c.load-head.result c.is_none.result c.args.frame.clause c.is_none.ensures c.else-is_none.either)
    (omega arith) (omega arith) _ (memory resolved) (memory_path _ (with_cells (memory gone) (cells_of loaded)) refl c.load-head.ensures.links c.load-head.ensures.trail refl)
    node outcome (branch resolved) c.resolve-outcome.ensures.resolved c.resolve-outcome.ensures.trodden in
    c.arrive.ensures.arrives home prog kind whole
    (subst (λ t. Arrives home prog kind limit whole (memory resolved) (branch resolved) (shortest resolved) (held c.put.new.self) t node outcome) (sym c.one_more-progress.ensures)
    (subst (λ b. Arrives home prog kind limit whole (memory resolved) (branch resolved) b (held c.put.new.self) (one_more p.tally) node outcome) (sym c.resolve-outcome.ensures.shortest)
    (subst (λ fs. Arrives home prog kind limit whole (memory resolved) (branch resolved) (shortest gone) fs (one_more p.tally) node outcome) (sym next) arrives)))
