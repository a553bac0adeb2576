use Rattle.std.proofs.Common.{◌++◌, take, drop, set, ap, ◌∙◌, arith, rules}
use Rattle.std.proofs.lemmas.List.Elements.{All-get_or}
use Rattle.clauses.specs.Clauses.{Low, renamed}
use Rattle.clauses.proofs.Renaming.{renamed_more, renamed_none, renamed_all}
use Rattle.clauses.proofs.rename.copy_out.Goals as goal

pub loop-i-init : goal.loop-i-init
loop-i-init c = renamed_none c.args.base c.args.clause.now c.args.out.now

pub raise-requires : goal.raise-requires
raise-requires c = (All-get_or Low c.args.clause.now c.loop-i.i _ (search rules) c.requires.0, c.requires.1.0)

pub loop-i-preserved : goal.loop-i-preserved
loop-i-preserved c =
    ap (λ xs. set xs c.loop-i.i c.raise.result) c.loop-i.invariant
    ∙ (ap (λ v. set (renamed c.args.base (take c.loop-i.i c.args.clause.now) ++ drop c.loop-i.i c.args.out.now) c.loop-i.i v) c.raise.ensures
    ∙ renamed_more c.args.base c.loop-i.i c.args.clause.now c.args.out.now _ (search rules) (search rules))

pub returns : goal.returns
returns c = c.loop-i.invariant ∙ renamed_all c.args.base c.loop-i.i c.args.clause.now c.args.out.now (omega arith)
