use Rattle.std.proofs.Common.{sym, subst, rules}
use Rattle.std.proofs.lemmas.Result.{err_from_is_err_and}
use Rattle.draft.specs.Sketch.{sketch_of, GoalsRefused}
use Rattle.draft.specs.Sketch.GoalsRefused.{unread, no_rest, more_text, too_large}
use Rattle.draft.proofs.Readings.{reads_state, cases_err}
use Rattle.draft.proofs.Draft.goals.Goals as goal

pub returns-in_err-end : goal.returns-in_err-end
returns-in_err-end c =
    let p = err_from_is_err_and c.from_residual.result c.from_residual.ensures.1 in
    cases_err _ (GoalsRefused c.args.text.now c.args.query) c.from_residual.result p.0 _ p.1 p.2 (unread (reads_state _ _ _ _ _ _ _ c.begin.ensures c.in_err-end.ensures.reads))

pub returns-in_err-last : goal.returns-in_err-last
returns-in_err-last c =
    let p = err_from_is_err_and c.from_residual-in_err-last.result c.from_residual-in_err-last.ensures.1 in
    cases_err _ (GoalsRefused c.args.text.now c.args.query) c.from_residual-in_err-last.result p.0 _ p.1 p.2
    (no_rest c.in_ok-end.end (sketch_of c.read.new.self) (reads_state _ _ _ _ _ _ _ c.begin.ensures c.in_ok-end.ensures.reads) (sym c.in_err-last.ensures.value))

pub returns-then-ne : goal.returns-then-ne
returns-then-ne c =
    subst (GoalsRefused c.args.text.now c.args.query) (sym c.at.ensures)
    (more_text c.in_ok-end.end (sketch_of c.read.new.self) c.in_ok-last.last (reads_state _ _ _ _ _ _ _ c.begin.ensures c.in_ok-end.ensures.reads)
    (sym c.in_ok-last.ensures.value) (λ h. search rules))

pub returns-then-self : goal.returns-then-self
returns-then-self c =
    subst (GoalsRefused c.args.text.now c.args.query) (sym c.at-then-self.ensures)
    (too_large c.in_ok-end.end (sketch_of c.read.new.self) c.in_ok-last.last (reads_state _ _ _ _ _ _ _ c.begin.ensures c.in_ok-end.ensures.reads)
    (sym c.in_ok-last.ensures.value) (search rules) c.if-self.true)
