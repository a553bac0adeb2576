use Rattle.grammar.proofs.Accepted.{clause_accepted}
use Rattle.grammar.proofs.Clauses.{clause_written}
use Rattle.grammar.proofs.Local.{clause_dotted, clause_local}
use Rattle.grammar.proofs.Numbers.{clause_numbered}
use Rattle.grammar.proofs.grammar_stands.Goals as goal

pub returns : goal.returns
returns c = (clause_written, clause_numbered, clause_accepted, clause_dotted, clause_local)
