use Rattle.std.proofs.Common.{◌≡◌, ◌∷◌, MatchOption, Some, None, sym, ◌∙◌, ap, subst, rules}
use Rattle.terms.specs.Shape.{skip}
use Rattle.terms.proofs.Laws.{skip_first, skip_shorter, args_none, args_some}
use Rattle.terms.proofs.check.+after_term_after_terms.Goals as goal

pub after_term-returns : goal.after_term-returns
after_term-returns t c =
    let e : c.args.cells.now ≡ c.in_ok-c.c.now ∷ c.in_ok-c.arguments.now = search rules in
    subst (λ o. MatchOption c.after_terms.result (o ≡ None) (λ left. o ≡ Some left.now))
    (sym (ap (skip 1) e ∙ skip_first c.in_ok-c.c.now c.in_ok-c.arguments.now (sym c.is_term_cell.ensures ∙ c.if-not-is_term_cell.false)))
    c.after_terms.ensures

pub after_terms-returns-in_err-rest : goal.after_terms-returns-in_err-rest
after_terms-returns-in_err-rest t c = let e = args_none c.args.n c.args.cells.now c.if-n-eq0.false (search rules) in search rules

pub after_terms-after_terms-requires : goal.after_terms-after_terms-requires
after_terms-after_terms-requires t c = let h = skip_shorter 1 c.args.cells.now c.in_ok-rest.rest.now (search rules) in search rules

pub after_terms-returns : goal.after_terms-returns
after_terms-returns t c =
    subst (λ o. MatchOption c.after_terms.result (o ≡ None) (λ left. o ≡ Some left.now))
    (sym (args_some c.args.n c.args.cells.now c.in_ok-rest.rest.now c.if-n-eq0.false (search rules)))
    c.after_terms.ensures
