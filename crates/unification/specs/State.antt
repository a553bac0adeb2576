-- What bindings hold.
use Rattle.std.specs.Prelude.{ℕ, ◌+◌, Bool, cond, ◌&&◌, List, length, Some, None, vec_items, Option, nat_le, nat_lt, slice_index_or}
use Rattle.terms.specs.declared.Cell.{Cell}
use Rattle.unification.specs.declared.arena.Arena.{Arena}
use Rattle.unification.specs.declared.links.Links.{Links}
use Rattle.unification.specs.declared.bindings.Bindings.{Bindings}
use Rattle.graphs.specs.Cells.{blank, all_fit}

abbrev pub cells_in : Arena → List Cell
cells_in a = vec_items a.cells

abbrev pub links_in : Links → List ℕ
links_in l = vec_items l.up

abbrev pub trail_in : Links → List ℕ
trail_in l = vec_items l.trail

abbrev pub cells_of : Bindings → List Cell
cells_of b = cells_in b.arena

abbrev pub links_of : Bindings → List ℕ
links_of b = links_in b.links

abbrev pub trail_of : Bindings → List ℕ
trail_of b = trail_in b.links

-- whether more cells have their place: at most 1,568 in all, each with an arity of at most 8, each variable below 1,056
abbrev pub takes : List Cell → List Cell → Bool
takes cs more = nat_le (length cs + length more) 1568 && all_fit more

abbrev pub cell_at : List Cell → ℕ → Option Cell
cell_at cs p = cond (nat_lt p (length cs)) (Some (slice_index_or cs p blank)) None
