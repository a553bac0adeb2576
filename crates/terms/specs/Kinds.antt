-- The kinds of constants under declared groups.
use Rattle.std.specs.Prelude.{ℕ, ◌+◌, cond, List, ◌==◌, slice_index}

-- an atom's kind is 16 plus its group, which is 0 past the end of the groups; any other constant's is its form
abbrev pub declared_kind : List ℕ → ℕ → ℕ → ℕ
declared_kind groups f v = cond (f == 2) (16 + slice_index groups v) f
