use Rattle.store.proofs.Asking.{shown, written_out}
use Rattle.store.proofs.solver.Solver.read.Goals as goal

pub returns : goal.returns
returns g c =
    let s = c.in-Solved.ensures in
    shown _ _ _ _ _ _ _ s c.read.result c.ok_or.result (λ xs w. written_out c.read.result c.ok_or.result c.ok_or.ensures.value xs _ _ w) c.read.ensures.reads
