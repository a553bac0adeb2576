use Rattle.std.proofs.Common.{rules, ◌≡◌, length, Ok, refl, ap, ◌∙◌, subst, arith}
use Rattle.std.specs.Result.{result_map_both}
use Rattle.graphs.specs.Links.{restore}
use Rattle.frames.specs.Memory.{Memory}
use Rattle.store.specs.Judged.{judged_question}
use Rattle.store.specs.Numbers.{refusal_of}
use Rattle.store.proofs.Judging.{path_judged}
use Rattle.store.proofs.Asking.{inferred}
use Rattle.store.proofs.solver.Solver.ask.Goals as goal

pub invariant_of-self : goal.invariant_of-self
invariant_of-self g c =
    let s = c.in-Solved.ensures in
    let same = c.ask.ensures.restored (g.met.P.ProgramSource.of_predicate c.args.base.now.source) s.equations (s.stands refl) in
    record { undone = ap (λ (m : Memory). restore m.links m.trail) same ∙ c.stand.new.self.undone }

pub returns : goal.returns
returns g c =
    let s = c.in-Solved.ensures in
    let e : length c.args.pairs.now ≡ length c.stand.new.pairs = omega arith in
    let pre = subst (λ n. judged_question c.args.question.now n (length c.args.frames.now) ≡ Ok tt) e c.requires in
    let j = path_judged c.args.question.now (length c.stand.new.pairs) (length c.args.frames.now) (length c.args.path.now) tt pre in
    let is : c.map_err.result ≡ result_map_both (λ a. a) refusal_of c.ask.result = search rules in
    inferred _ _ _ _ _ _ _ _ _ _ _ s c.ask.result _ j is (c.ask.ensures.asked (g.met.P.ProgramSource.of_predicate c.args.base.now.source) s.equations (s.stands refl)) c.ask.ensures.bounded
