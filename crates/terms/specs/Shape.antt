-- Which cells spell terms and goal lists.
use Rattle.std.specs.Prelude.{ℕ, zero, suc, ◌+◌, ◌-◌, Bool, true, false, cond, not, ◌&&◌, ◌||◌, List, [], ◌∷◌, length, Some, None, Option, ◌==◌, nat_lt}
use Rattle.terms.specs.declared.Cell.{Cell}

-- a cell of a term: a variable, a constant, or a function of 1 to 8 arguments; atoms, strings and symbols have numbers below 65,536
abbrev pub term_cell : Cell → Bool
term_cell c =
    cond (c.tag == 0) (c.form == 0 && c.arity == 0)
    (cond (c.tag == 1) (c.arity == 0 && (nat_lt c.form 2 || (nat_lt c.form 4 && nat_lt c.value 65536)))
    (cond (c.tag == 2) (c.form == 0 && (nat_lt 0 c.arity && (nat_lt c.arity 9 && nat_lt c.value 65536))) false))

-- a predicate cell, of 0 to 8 arguments
abbrev pub goal_cell : Cell → Bool
goal_cell c = c.tag == 2 && (c.form == 0 && (nat_lt c.arity 9 && nat_lt c.value 65536))

-- what is left of the cells after so many terms
abbrev pub skip : ℕ → List Cell → Option (List Cell)
skip zero cs = Some cs
skip (suc n) [] = None
skip (suc n) (c ∷ cs) = cond (term_cell c) (skip (c.arity + n) cs) None

-- cells are left over, or none: where none, the answer
abbrev pub nothing_left : Option (List Cell) → ℕ → Option ℕ
nothing_left None p = None
nothing_left (Some []) p = Some p
nothing_left (Some (c ∷ cs)) p = None

-- of so many cells these are left after the first term: they are to be one term more
abbrev pub second_term : ℕ → Option (List Cell) → Option ℕ
second_term n None = None
second_term n (Some left) = nothing_left (skip 1 left) (n - length left)

-- the place where the second term begins, where the cells are two terms, one right after the other
abbrev pub two_terms : List Cell → Option ℕ
two_terms cells = second_term (length cells) (skip 1 cells)

-- the number of goals, where k goals stand before these cells and so many terms are due first
abbrev pub goals : ℕ → ℕ → List Cell → Option ℕ
goals k zero [] = Some k
goals k (suc n) [] = None
goals k zero (c ∷ cs) = cond (goal_cell c) (goals (k + 1) c.arity cs) None
goals k (suc n) (c ∷ cs) = cond (term_cell c) (goals k (c.arity + n) cs) None

-- a variable's number is at most 31
abbrev pub low_cell : Cell → Bool
low_cell c = not (c.tag == 0) || nat_lt c.value 32

abbrev pub all_low : List Cell → Bool
all_low [] = true
all_low (c ∷ cs) = cond (low_cell c) (all_low cs) false
