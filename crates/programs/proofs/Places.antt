-- A goal at a place in the cells.
use Rattle.std.proofs.Common.{◌≡◌, ℕ, ◌+◌, ◌<◌, List, ◌∷◌, ◌++◌, length, get_or, drop, sym, refl, ap, ◌∙◌, arith}
use Rattle.std.proofs.lemmas.List.{get_or-drop, length-drop}
use Rattle.terms.specs.declared.Cell.{Cell}
use Rattle.typing.specs.Terms.{Terms, fun, none, more, arity}
use Rattle.trees.specs.Tree.{Goal}
use Rattle.graphs.specs.Cells.{blank, after}
use Rattle.graphs.specs.Flat.{count, Stands}
use Rattle.graphs.proofs.Flats.{after_flat}
use Rattle.programs.specs.Spelling.{spell_goal, spell_goals}

-- the cells' count of arguments is the terms' arity
pub count_arity : (ts : Terms) → count ts ≡ arity ts
count_arity none = refl
count_arity (more t ts) = let h = count_arity ts in omega arith

-- the first goal stands at the place, and the others after it
pub place_goals : (cs : List Cell) (p : ℕ) (g : Goal) (gs : List Goal) → drop p cs ≡ spell_goals (g ∷ gs)
    → Stands cs p (fun g.symbol g.arguments) × (drop (after cs p) cs ≡ spell_goals gs)
place_goals cs p g gs e = ((spell_goals gs, e), after_flat cs p (fun g.symbol g.arguments) (spell_goals gs) e)

-- a goal's first cell has its symbol and its arity
pub goal_cell : (cs : List Cell) (p : ℕ) (g : Goal) → Stands cs p (fun g.symbol g.arguments)
    → (p < length cs) × ((get_or cs p blank).value ≡ g.symbol) × ((get_or cs p blank).arity ≡ arity g.arguments)
goal_cell cs p g s =
    let e : drop p cs ≡ spell_goal g ++ s.0 = s.1 in
    let l = length-drop p cs in let m = ap length e in
    let z : p + 0 ≡ p = omega arith in
    let first : get_or cs p blank ≡ record { tag = 2; form = 0; arity = count g.arguments; value = g.symbol } =
    ap (λ q. get_or cs q blank) (sym z) ∙ (sym (get_or-drop p cs 0 blank) ∙ ap (λ xs. get_or xs 0 blank) e) in
    (omega arith, ap (λ c. c.value) first, ap (λ c. c.arity) first ∙ count_arity g.arguments)
