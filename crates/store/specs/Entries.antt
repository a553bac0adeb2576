-- The equations of a table: the cells of all stand one after another, and places tell where the sides of each begin.
use Rattle.std.specs.Prelude.{◌≡◌, ℕ, ◌+◌, ◌≤◌, true, List, [], ◌∷◌, length, take, drop, Some, None, Option, All}
use Rattle.std.specs.List.{flat_map}
use Rattle.terms.specs.declared.Cell.{Cell}
use Rattle.terms.specs.Shape.{two_terms, all_low}
use Rattle.unification.specs.declared.Equation.{Equation}

-- the place where the right side of an equation begins
abbrev pub place_of : Option ℕ → ℕ
place_of None = 0
place_of (Some p) = p

abbrev pub second_of : List Cell → ℕ
second_of cells = place_of (two_terms cells)

-- the cells of an equation, the left side's and then the right side's: two terms over the variables 0 to 31, in at most 32 cells
abbrev pub Sound : List Cell → Type 0
Sound cells = (length cells ≤ 32) × (two_terms cells ≡ Some (second_of cells)) × (all_low cells ≡ true)

-- the cells of all equations
abbrev pub joined : List (List Cell) → List Cell
joined es = flat_map (λ (cells : List Cell). cells) es

-- the places of both sides of each equation, where the cells of all stand one after another from a place on
abbrev pub places_from : ℕ → List (List Cell) → List Equation
places_from at [] = []
places_from at (cells ∷ es) = record { left = at; right = at + second_of cells } ∷ places_from (at + length cells) es

-- where the next equation begins, or the cells end
abbrev pub next_place : List Equation → ℕ → ℕ
next_place [] end = end
next_place (p ∷ ps) end = p.left

-- the cells of each equation: those from its place up to the next
abbrev pub cut_at : List Equation → List Cell → List (List Cell)
cut_at [] cells = []
cut_at (p ∷ ps) cells = drop p.left (take (next_place ps (length cells)) cells) ∷ cut_at ps cells

-- the cells are those of sound equations, and the places are theirs
abbrev pub Laid : List Cell → List Equation → Type 0
Laid cells places = All Sound (cut_at places cells) × (cells ≡ joined (cut_at places cells)) × (places ≡ places_from 0 (cut_at places cells))
