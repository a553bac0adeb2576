use Rattle.std.proofs.Common.{rules}
use Rattle.clauses.proofs.Renaming.{tail_spliced, length_renamed}
use Rattle.clauses.proofs.rename.write_from.Goals as goal

pub returns : goal.returns
returns c =
    tail_spliced c.args.at _ c.args.out.now _ c.copy_out.new.out (search rules)
    (length_renamed c.args.base c.args.clause.now) c.copy_out.ensures
