use Rattle.std.proofs.Common.{◌≡◌, [], ◌∷◌, ◌++◌, vec_items, sym, ap, ◌∙◌, append-nil, rules}
use Rattle.cases.specs.Escapes.{escaped, escape_length, unescaped}
use Rattle.cases.proofs.Escaping.{plain_cons, escape_step, carried, no_first}
use Rattle.cases.proofs.unescape.Goals as goal

pub loop-first-preserved-then-first-eq92 : goal.loop-first-preserved-then-first-eq92
loop-first-preserved-then-first-eq92 c =
    let rest = c.loop-first.rest.now in
    let r = c.args.round in
    let n = c.in_ok-n.n in
    let e : rest ≡ c.in-Some.first.now ∷ c.in-Some.tail.now = search rules in
    carried (vec_items c.loop-first.out) (vec_items c.escape.new.out) (escaped r rest) (unescaped r rest) (unescaped r c.after-rest.result.now) _ c.in_ok-n.ensures.added
    (rw e (escape_step r c.in-Some.first.now n c.in-Some.tail.now c.if-first-eq92.true c.in_ok-n.ensures.bound (c.in_ok-n.ensures.size ∙ ap escape_length e))
    ∙ ap (λ x. escaped r rest ++ unescaped r x) (sym c.after-rest.ensures))
    c.loop-first.invariant

pub loop-first-preserved : goal.loop-first-preserved
loop-first-preserved c =
    let r = c.args.round in
    let tail = c.in-Some.tail.now in
    let e : c.loop-first.rest.now ≡ c.in-Some.first.now ∷ tail = search rules in
    carried (vec_items c.loop-first.out) (vec_items c.push.new.self) (c.in-Some.first.now ∷ []) (unescaped r c.loop-first.rest.now) (unescaped r tail) _ c.in_ok-push.ensures.items
    (ap (unescaped r) e ∙ plain_cons r c.in-Some.first.now tail c.if-first-eq92.false) c.loop-first.invariant

pub returns : goal.returns
unfolding unescaped
returns c =
    let e : c.loop-first.rest.now ≡ [] = no_first c.loop-first.rest.now (search rules) in
    sym (append-nil (vec_items c.loop-first.out)) ∙ (ap (λ x. vec_items c.loop-first.out ++ unescaped c.args.round x) (sym e) ∙ c.loop-first.invariant)
