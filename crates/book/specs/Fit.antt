-- What holds of the tables of a book.
use Rattle.std.specs.Prelude.{◌≡◌, ℕ, ◌+◌, ◌<◌, ◌≤◌, Bool, true, false, not, ◌&&◌, ◌||◌, List, [], ◌∷◌, length, take, drop, Some, None, Option, ◌==◌, nat_le, nat_lt, slice_index_or}
use Rattle.terms.specs.declared.Cell.{Cell}
use Rattle.terms.specs.Shape.{goals}
use Rattle.clauses.specs.Clauses.{vars_after, head_of}
use Rattle.clauses.specs.declared.Predicate.{Predicate}
use Rattle.book.specs.declared.Row.{Row}

-- a row's cells stand among the first n cells, and are 1 to 32
abbrev pub Inside : ℕ → Row → Type 0
Inside n r = (0 < r.len) × (r.len ≤ 32) × (r.from + r.len ≤ n)

abbrev pub clause_of : List Cell → Row → List Cell
clause_of cells r = take r.len (drop r.from cells)

-- a head and 0 to 8 body goals
abbrev pub clause_goals : Option ℕ → Bool
clause_goals (Some g) = nat_lt 0 g && nat_le g 9
clause_goals None = false

-- whether variables are numbered by first appearance, n having come before
abbrev pub in_order : ℕ → List Cell → Bool
in_order n [] = true
in_order n (c ∷ cs) = (not (c.tag == 0) || nat_le c.value n) && in_order (vars_after n c) cs

-- whether the cells are a clause of the predicate, its variables in order
unfoldable pub is_clause : ℕ → ℕ → List Cell → Bool
is_clause p n cs = clause_goals (goals 0 0 cs) && (in_order 0 cs && ((head_of cs).value == p && (head_of cs).arity == n))

-- a row's cells are a clause of its predicate
abbrev pub Right : List Cell → Row → Type 0
Right cells r = is_clause r.predicate.symbol r.predicate.arity (clause_of cells r) ≡ true

-- a row's predicate has at most 8 arguments
abbrev pub Narrow : Row → Type 0
Narrow r = r.predicate.arity ≤ 8

-- the order of predicates, by their symbols and then by their arities: the first comes before the second
abbrev pub before : Predicate → Predicate → Bool
before q p = nat_lt q.symbol p.symbol || (q.symbol == p.symbol && nat_lt q.arity p.arity)

-- the same, or they are one
abbrev pub up_to : Predicate → Predicate → Bool
up_to q p = nat_lt q.symbol p.symbol || (q.symbol == p.symbol && nat_le q.arity p.arity)

-- the rows are in order
abbrev pub Rising : List Row → Type 0
Rising rows = (i k : ℕ) (d : Row) → i + k < length rows → up_to (slice_index_or rows i d).predicate (slice_index_or rows (i + k) d).predicate ≡ true

-- so many rows pass the test of their predicates, and come first
pub record Parted (rows : List Row) (test : Predicate → Bool) (at : ℕ) : Type 0 where
  pub most : at ≤ length rows
  pub below : (k : ℕ) (d : Row) → k < at → test (slice_index_or rows k d).predicate ≡ true
  pub above : (k : ℕ) (d : Row) → at ≤ k → k < length rows → test (slice_index_or rows k d).predicate ≡ false

-- the rows from the first on that does not come before the predicate
pub record From (rows : List Row) (p : Predicate) (rest : List Row) : Type 0 where
  pub first : ℕ
  pub parted : Parted rows (λ q. before q p) first
  pub after : rest ≡ drop first rows
