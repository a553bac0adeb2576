use Rattle.std.proofs.Common.{vec_items, arith}
use Rattle.store.proofs.Loading.{cut_length}
use Rattle.store.proofs.table.Table.count.Goals as goal

pub returns : goal.returns
returns c =
    let t = c.args.self.now in
    let n = cut_length (vec_items t.places) (vec_items t.cells) in let ok = t.places.ok.0 in omega arith
