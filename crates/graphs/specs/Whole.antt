use Rattle.std.specs.Prelude.{◌≡◌, ℕ, zero, suc, ◌+◌, ◌<◌, List, [], ◌∷◌, length, drop, slice_index_or}
use Rattle.terms.specs.declared.Cell.{Cell}
use Rattle.graphs.specs.Cells.{blank}

-- how many of the next `need` terms the cells leave unfinished
abbrev pub left : List Cell → ℕ → ℕ
left [] need = need
left (c ∷ cs) zero = 0
left (c ∷ cs) (suc need) = left cs (need + c.arity)

-- every function's arguments stand within the cells
abbrev pub Whole : List Cell → Type 0
Whole cs = (p : ℕ) → p < length cs → (slice_index_or cs p blank).tag ≡ 2 → left (drop (p + 1) cs) (slice_index_or cs p blank).arity ≡ 0
