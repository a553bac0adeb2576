-- Clauses as lists of cells, and what writing one does.
use Rattle.std.specs.Prelude.{◌≡◌, ℕ, suc, ◌+◌, ◌<◌, ◌≤◌, cond, ◌&&◌, List, [], ◌∷◌, ◌++◌, map, length, take, drop, Some, Ok, Err, All, Result, ◌==◌, nat_le, slice_index_or}
use Rattle.terms.specs.declared.Cell.{Cell}
use Rattle.terms.specs.Shape.{goals}
use Rattle.clauses.specs.declared.Refusal.{Refusal}
use Rattle.clauses.specs.declared.Refusal.TheVariants.{OutputShort, ClauseNumber}

-- a cell with its variable's number raised by the base; any other cell is as it was
abbrev pub raised : ℕ → Cell → Cell
raised b c = cond (c.tag == 0) (record { tag = c.tag; form = c.form; arity = c.arity; value = c.value + b }) c

unfoldable pub renamed : ℕ → List Cell → List Cell
renamed b cs = map (raised b) cs

-- the list with the elements from a place on replaced by others
unfoldable pub spliced : {A : Type 0} → List A → ℕ → List A → List A
spliced xs at ys = take at xs ++ (ys ++ drop (at + length ys) xs)

-- a variable's number is below 32
abbrev pub Low : Cell → Type 0
Low c = c.tag ≡ 0 → c.value ≤ 31

-- a symbol has at most 8 arguments
abbrev pub Slim : Cell → Type 0
Slim c = c.arity ≤ 8

-- how many variables there are with one cell more: a variable with a number not met yet is new
abbrev pub vars_after : ℕ → Cell → ℕ
vars_after n c = cond (c.tag == 0 && nat_le n c.value) (n + 1) n

-- variables are numbered by first appearance, n having come before
abbrev pub InOrder : ℕ → List Cell → Type 0
InOrder n [] = Unit {0}
InOrder n (c ∷ cs) = (c.tag ≡ 0 → c.value ≤ n) × InOrder (vars_after n c) cs

-- the head of a clause is its first cell
abbrev pub head_of : List Cell → Cell
head_of cs = slice_index_or cs 0 (record { tag = 0; form = 0; arity = 0; value = 0 })

-- a clause has 1 to 32 cells, of at most 8 arguments each, and variables below 32
pub record Formed (cs : List Cell) : Type 0 where
  pub some : 0 < length cs
  pub few : length cs ≤ 32
  pub low : All Low cs
  pub slim : All Slim cs

-- a clause of a predicate: a head goal of that symbol and arity and 0 to 8 body goals, its variables numbered by first appearance
pub record OfPredicate (symbol arity : ℕ) (cs : List Cell) : Type 0 where
  pub formed : Formed cs
  pub body : ℕ
  pub goal_list : goals 0 0 cs ≡ Some (suc body)
  pub eight : body ≤ 8
  pub head : ((head_of cs).value ≡ symbol) × ((head_of cs).arity ≡ arity)
  pub in_order : InOrder 0 cs

-- in each list of a source stand clauses of its predicate
abbrev pub OfPredicates : (ℕ → ℕ → List (List Cell)) → Type 0
OfPredicates lists = (p n k : ℕ) → k < length (lists p n) → OfPredicate p n (slice_index_or (lists p n) k [])

-- what writing one clause answers, and what it leaves in the slice
abbrev pub WroteClause : List Cell → (base at : ℕ) → (before after : List Cell) → Result ℕ Refusal → Type 0
WroteClause cs base at before after (Ok n) = (base ≤ 1056) × (n ≡ length cs) × (at + n ≤ length before) × (after ≡ spliced before at (renamed base cs))
WroteClause cs base at before after (Err ClauseNumber) = (1056 < base) × (after ≡ before)
WroteClause cs base at before after (Err OutputShort) = (base ≤ 1056) × (length before < at + length cs) × (after ≡ before)

-- what the call that writes a clause answers, and what it leaves in the slice
abbrev pub Wrote : List (List Cell) → (number base at : ℕ) → (before after : List Cell) → Result ℕ Refusal → Type 0
Wrote list number base at before after (Ok n) =
    (number < length list) × (base ≤ 1056) × (n ≡ length (slice_index_or list number [])) × (at + n ≤ length before)
    × (after ≡ spliced before at (renamed base (slice_index_or list number [])))
Wrote list number base at before after (Err ClauseNumber) = (number < length list → base ≤ 1056 → ⊥) × (after ≡ before)
Wrote list number base at before after (Err OutputShort) =
    (number < length list) × (base ≤ 1056) × (length before < at + length (slice_index_or list number [])) × (after ≡ before)
