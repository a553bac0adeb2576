use Rattle.std.proofs.Common.{◌+◌, ◌*◌, length}
use Rattle.terms.proofs.check.+after_term_after_terms.Given as goal

-- the cells still unread, twice; one more where the next term is still to be taken
abbrev pub decreases-after_terms : goal.decreases-after_terms
decreases-after_terms l = 2 * length l.cells.now + 1

abbrev pub decreases-after_term : goal.decreases-after_term
decreases-after_term l = 2 * length l.cells.now
