use Rattle.std.proofs.Common.{◌≡◌, ℕ, [], ◌∷◌, ◌++◌, length, vec_items, refl, ap, ◌∙◌, arith}
use Rattle.store.specs.Model.{entries_of}
use Rattle.store.proofs.Loading.{cut_length}
use Rattle.store.proofs.Rows.{same_model}
use Rattle.store.proofs.table.Table.mark.Goals as goal

pub returns : goal.returns
returns c =
    let t = c.args.self.now in
    let k = cut_length (vec_items t.places) (vec_items t.cells) in
    let a = t.places.ok.0 in let z = c.len.ensures in
    let n : c.len.result ≡ length (entries_of t) = omega arith in
    same_model refl (c.push_reserved.ensures.items ∙ ap (λ (i : ℕ). vec_items t.marks ++ (i ∷ [])) n)
