-- The names of a table.
use Rattle.std.specs.Prelude.{ℕ, Bool, ◌&&◌, List, length, vec_items, nat_le}
use Rattle.names.specs.Spans.{words_in, bytes_of}
use Rattle.names.specs.declared.Names.{Names}

-- the number of a name is its place
abbrev pub names_of : Names → List (List ℕ)
names_of n = words_in (vec_items n.bytes) (vec_items n.spans)

-- a table has at most 256 names and 4,096 bytes of names
abbrev pub names_fit : List (List ℕ) → Bool
names_fit words = nat_le (length words) 256 && nat_le (bytes_of words) 4096
