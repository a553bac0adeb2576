use Rattle.std.specs.Prelude.{◌≡◌, ℕ, suc, List, [], ◌∷◌, ◌++◌, drop}
use Rattle.terms.specs.declared.Cell.{Cell}
use Rattle.graphs.specs.Terms.{Term, Terms, var, con, fun, none, more}

abbrev pub count : Terms → ℕ
count none = 0
count (more t ts) = suc (count ts)

-- a term in cells: its symbol's cell, and then its arguments', one after another
abbrev mutual
  pub flat : Term → List Cell
  flat (var x) = record { tag = 0; form = 0; arity = 0; value = x } ∷ []
  flat (con f v) = record { tag = 1; form = f; arity = 0; value = v } ∷ []
  flat (fun s ts) = record { tag = 2; form = 0; arity = count ts; value = s } ∷ flats ts

  pub flats : Terms → List Cell
  flats none = []
  flats (more t ts) = flat t ++ flats ts

-- the term t stands at p
abbrev pub Stands : List Cell → ℕ → Term → Type 0
Stands cs p t = (post : List Cell) × (drop p cs ≡ flat t ++ post)
