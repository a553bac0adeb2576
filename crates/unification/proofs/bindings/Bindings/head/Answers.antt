use Rattle.std.proofs.Common.{◌+◌, sym, ap, ◌∙◌}
use Rattle.graphs.proofs.CellLaws.{arguments_length}
use Rattle.unification.specs.Reading.{head_of}
use Rattle.unification.specs.State.{cells_of}
use Rattle.unification.proofs.Meeting.{found_app}
use Rattle.unification.proofs.bindings.Bindings.head.Goals as goal

pub returns-in-Some : goal.returns-in-Some
returns-in-Some c =
    let cs = cells_of c.args.self.now in let r = c.args.r in let x = c.in-Some.c in
    c.symbol.ensures ∙ sym (ap (λ sh. head_of sh r) (found_app cs r x (sym c.cell.ensures ∙ c.in-Some.is) c.if-c-eq2.true) ∙ ap (λ m. record { tag = 2; form = 0; arity = m; value = x.value }) (arguments_length cs x.arity (r + 1)))
