use Rattle.std.proofs.Common.{vec_items, rules}
use Rattle.std.proofs.lemmas.List.Sorted.{IsPartitionPoint-from_clause}
use Rattle.book.specs.Fit.{before}
use Rattle.book.specs.Rows.{before-joined, parted_by, parted_from}
use Rattle.book.proofs.Book.start_of.Goals as goal

pub returns : goal.returns
returns c =
    let rows = vec_items c.args.self.now.rows in
    let p = c.args.predicate in
    let parted = parted_by rows (λ q. before q p) c.args.self.now.sorted (λ q r e f. before-joined q r p e f) c.as_slice.result.now c.as_slice.ensures.value in
    let point = IsPartitionPoint-from_clause (λ r. before r.predicate p) _ _ c.partition_point.ensures.partitioned parted (λ a r q k. search rules) in
    parted_from rows (λ q. before q p) c.partition_point.result c.as_slice.result.now c.as_slice.ensures.value c.partition_point.ensures.bound point
