use Rattle.std.proofs.Common.{◌≡◌, length, take, drop, Ok, Err, sym, refl, ap, ◌∙◌, subst, arith}
use Rattle.verdicts.specs.declared.Refusal.TheVariants.{Allowance}
use Rattle.verdicts.specs.declared.Verdict.TheVariants.{Holds}
use Rattle.verdicts.specs.Leaves.{verdict_of}
use Rattle.frames.specs.Asked.{Asked, Answered}
use Rattle.frames.proofs.Asking.{Wrote, answered_ok, answered_err, some_question, wrote_other, path_other}
use Rattle.resolution.specs.State.{shortest, standing_cells, standing_links}
use Rattle.verdicts.proofs.Branches.{holds_few}
use Rattle.frames.proofs.Questions.{judged_none}
use Rattle.std.proofs.lemmas.Result.{err_from_is_err_and}
use Rattle.resolution.proofs.search.Search.ask.Goals as goal

pub whole_tree-requires-clause-judged : goal.whole_tree-requires-clause-judged
whole_tree-requires-clause-judged g c = (judged_none _ _ _ _ c.in_ok-judge.ensures).0

pub write_path-requires-clause-path : goal.write_path-requires-clause-path
write_path-requires-clause-path g c =
    let few = holds_few c.in_ok-tally.tally.leaves c.in-Holds.uses c.in-Holds.ensures c.in_ok-tally.ensures.within.1 in
    let long = (judged_none c.args.question.now (length c.args.pairs.now) (length c.args.frames.now) (length c.args.path.now) c.in_ok-judge.ensures).1 in
    omega arith

pub returns-in_err-tally-clause-asked : goal.returns-in_err-tally-clause-asked
returns-in_err-tally-clause-asked g c =
    let self = c.args.self.now in let question = c.args.question.now in let lists = g.P.Source.clauses c.args.source.now in let kind = g.K.Signature.kind c.args.kinds.now in
    let limit = c.args.settings.limit in let allowance = c.args.settings.allowance in let path = c.args.path.now in
    let none = c.in_ok-judge.ensures in
    let j = (judged_none question (length c.args.pairs.now) (length c.args.frames.now) (length path) none).0 in
    let p = err_from_is_err_and c.from_residual-in_err-tally.result c.from_residual-in_err-tally.ensures.1 in
    let is : c.from_residual-in_err-tally.result ≡ Err Allowance = p.1 ∙ ap Err (p.2 ∙ c.in_err-tally.ensures.within) in
    let few = self.few in
    λ formed E standing.
    subst (λ o. Asked o lists kind limit allowance question E path path c.from_residual-in_err-tally.result) (sym none)
    (subst (Answered lists kind limit allowance question E path path) (sym is)
    (answered_err lists formed kind limit allowance question j.list j.low (standing_cells self) (standing_links self) E (omega arith) standing path path (λ Q hs t sp e is. (c.in_err-tally.ensures.tree Q hs E t sp e standing is).0) refl))

pub returns-in_err-tally-clause-restored : goal.returns-in_err-tally-clause-restored
returns-in_err-tally-clause-restored g c =
    let question = c.args.question.now in
    let j = (judged_none question (length c.args.pairs.now) (length c.args.frames.now) (length c.args.path.now) c.in_ok-judge.ensures).0 in
    λ formed E standing.
    some_question (g.P.Source.clauses c.args.source.now) formed (g.K.Signature.kind c.args.kinds.now) c.args.settings.limit question j.list j.low E _ (λ Q hs t sp e is. (c.in_err-tally.ensures.tree Q hs E t sp e standing is).1)

pub returns-in-Holds-clause-asked : goal.returns-in-Holds-clause-asked
returns-in-Holds-clause-asked g c =
    let self = c.args.self.now in let question = c.args.question.now in let lists = g.P.Source.clauses c.args.source.now in let kind = g.K.Signature.kind c.args.kinds.now in
    let limit = c.args.settings.limit in let allowance = c.args.settings.allowance in let path = c.args.path.now in let after = c.write_path.new.path in
    let none = c.in_ok-judge.ensures in
    let j = (judged_none question (length c.args.pairs.now) (length c.args.frames.now) (length path) none).0 in
    let tally = c.in_ok-tally.tally in let best = shortest c.whole_tree.new.self in let n = c.in-Holds.uses in
    let is : Holds n ≡ verdict_of tally.leaves = c.in-Holds.ensures in
    let wrote : (take n after ≡ take n best) × (drop n after ≡ drop n path) = (c.write_path.ensures.written, c.write_path.ensures.kept) in
    let few = self.few in
    λ formed E standing.
    subst (λ o. Asked o lists kind limit allowance question E path after (Ok (record { verdict = Holds n; steps = tally.steps }))) (sym none)
    (subst (λ v. Answered lists kind limit allowance question E path after (Ok (record { verdict = v; steps = tally.steps }))) (sym is)
    (answered_ok lists formed kind limit allowance question j.list j.low (standing_cells self) (standing_links self) E (omega arith) standing path after tally best
    (λ Q hs t sp e it. (c.in_ok-tally.ensures.tree Q hs E t sp e standing it).0) c.in_ok-tally.ensures.within.0 (subst (λ v. Wrote v best path after) is wrote)))

pub returns-in-Holds-clause-restored : goal.returns-in-Holds-clause-restored
returns-in-Holds-clause-restored g c =
    let question = c.args.question.now in
    let j = (judged_none question (length c.args.pairs.now) (length c.args.frames.now) (length c.args.path.now) c.in_ok-judge.ensures).0 in
    λ formed E standing.
    some_question (g.P.Source.clauses c.args.source.now) formed (g.K.Signature.kind c.args.kinds.now) c.args.settings.limit question j.list j.low E _ (λ Q hs t sp e it. (c.in_ok-tally.ensures.tree Q hs E t sp e standing it).1)

pub returns-in_default-clause-asked : goal.returns-in_default-clause-asked
returns-in_default-clause-asked g c =
    let self = c.args.self.now in let question = c.args.question.now in let lists = g.P.Source.clauses c.args.source.now in let kind = g.K.Signature.kind c.args.kinds.now in
    let limit = c.args.settings.limit in let allowance = c.args.settings.allowance in let path = c.args.path.now in
    let none = c.in_ok-judge.ensures in
    let j = (judged_none question (length c.args.pairs.now) (length c.args.frames.now) (length path) none).0 in
    let tally = c.in_ok-tally.tally in let best = shortest c.whole_tree.new.self in let v = c.verdict-verdict.result in
    let is : v ≡ verdict_of tally.leaves = c.verdict-verdict.ensures in
    let few = self.few in
    λ formed E standing.
    subst (λ o. Asked o lists kind limit allowance question E path path (Ok (record { verdict = v; steps = tally.steps }))) (sym none)
    (subst (λ v. Answered lists kind limit allowance question E path path (Ok (record { verdict = v; steps = tally.steps }))) (sym is)
    (answered_ok lists formed kind limit allowance question j.list j.low (standing_cells self) (standing_links self) E (omega arith) standing path path tally best
    (λ Q hs t sp e it. (c.in_ok-tally.ensures.tree Q hs E t sp e standing it).0) c.in_ok-tally.ensures.within.0 (subst (λ v. Wrote v best path path) is (wrote_other v best path c.in_default.not-Holds))))

pub returns-in_default-clause-restored : goal.returns-in_default-clause-restored
returns-in_default-clause-restored g c =
    let question = c.args.question.now in
    let j = (judged_none question (length c.args.pairs.now) (length c.args.frames.now) (length c.args.path.now) c.in_ok-judge.ensures).0 in
    λ formed E standing.
    some_question (g.P.Source.clauses c.args.source.now) formed (g.K.Signature.kind c.args.kinds.now) c.args.settings.limit question j.list j.low E _ (λ Q hs t sp e it. (c.in_ok-tally.ensures.tree Q hs E t sp e standing it).1)

pub returns-in_default-clause-path : goal.returns-in_default-clause-path
returns-in_default-clause-path g c = path_other c.verdict-verdict.result c.args.path.now c.in_default.not-Holds
