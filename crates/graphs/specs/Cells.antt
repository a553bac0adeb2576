use Rattle.std.specs.Prelude.{ℕ, zero, suc, ◌+◌, Bool, true, cond, ◌&&◌, List, [], ◌∷◌, length, drop, ◌==◌, nat_le, nat_lt, slice_index_or}
use Rattle.terms.specs.declared.Cell.{Cell}
use Rattle.graphs.specs.Graph.{Shape, free, atom, app, Graph}
use Rattle.graphs.specs.Meaning.{arena}

abbrev pub blank : Cell
blank = record { tag = 0; form = 0; arity = 0; value = 0 }

-- how many cells the next `need` terms take
abbrev pub span : List Cell → ℕ → ℕ
span [] need = 0
span (c ∷ cs) zero = 0
span (c ∷ cs) (suc need) = suc (span cs (need + c.arity))

-- the position after the term at p
abbrev pub after : List Cell → ℕ → ℕ
after cs p = p + span (drop p cs) 1

abbrev pub node_of : Cell → ℕ → ℕ
node_of c p = cond (c.tag == 0) (arena + c.value) p

-- the node of the term at p
abbrev pub node_at : List Cell → ℕ → ℕ
node_at cs p = node_of (slice_index_or cs p blank) p

-- the nodes of n terms from p on
abbrev pub arguments : List Cell → ℕ → ℕ → List ℕ
arguments cs zero p = []
arguments cs (suc n) p = node_at cs p ∷ arguments cs n (after cs p)

abbrev pub shape_of : List Cell → Cell → ℕ → Shape
shape_of cs c n = cond (c.tag == 2) (app c.value (arguments cs c.arity (n + 1))) (atom c.form c.value)

-- The graph of the cells. (A variable's own cell is no node; what stands there does not matter.)
abbrev pub graph : List Cell → Graph
graph cs n = cond (nat_lt n (length cs)) (shape_of cs (slice_index_or cs n blank) n) free

-- how many arguments a node has
abbrev pub arity_sh : Shape → ℕ
arity_sh free = 0
arity_sh (atom f v) = 0
arity_sh (app s ks) = length ks

-- a cell that has its place: an arity of at most 8, and a variable below 1,056
abbrev pub fits : Cell → Bool
fits c = nat_le c.arity 8 && cond (c.tag == 0) (nat_lt c.value 1056) true

abbrev pub all_fit : List Cell → Bool
all_fit [] = true
all_fit (c ∷ cs) = fits c && all_fit cs

-- the arguments that a root may still owe
abbrev pub owes : List Cell → ℕ → ℕ
owes cs n = arity_sh (graph cs n)
