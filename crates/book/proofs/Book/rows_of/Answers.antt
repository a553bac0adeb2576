use Rattle.std.proofs.Common.{vec_items, rules}
use Rattle.std.proofs.lemmas.List.Sorted.{IsPartitionPoint-from_clause}
use Rattle.book.specs.Meaning.{is_for}
use Rattle.book.specs.Rows.{parted_rest, rows_found}
use Rattle.book.proofs.Book.rows_of.Goals as goal

pub returns : goal.returns
returns c =
    let p = c.args.predicate in
    let rows = vec_items c.args.self.now.rows in
    let rest = c.rows_from-rest.result.now in
    let w = c.rows_from-rest.ensures in
    let parted = parted_rest p.symbol p.arity rows rest w c.args.self.now.sorted in
    let point = IsPartitionPoint-from_clause (is_for p.symbol p.arity) _ _ c.partition_point-end.ensures.partitioned parted (λ a r q k. search rules) in
    rows_found p.symbol p.arity rows rest w c.partition_point-end.result c.partition_point-end.ensures.bound point
