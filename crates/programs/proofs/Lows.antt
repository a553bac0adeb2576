-- Cells of low variables spell goals with their variables below 32.
use Rattle.std.proofs.Common.{◌≡◌, ℕ, ◌≤◌, Bool, true, false, cond, not, eqb, ltb, ◌⊎◌, List, [], ◌∷◌, ◌++◌, All, sym, refl, ◌∙◌, subst, inl, inr, arith}
use Rattle.std.proofs.lemmas.List.Elements.{All-nil, All-cons, All-head, All-tail}
use Rattle.std.proofs.lemmas.List.{append_assoc, append-nil}
use Rattle.std.proofs.lemmas.Bool.{or_cases, not-true, eq-eqb, ltb-true}
use Rattle.terms.specs.declared.Cell.{Cell}
use Rattle.terms.specs.Shape.{low_cell, all_low}
use Rattle.clauses.specs.Clauses.{Low}
use Rattle.typing.specs.Terms.{Term, Terms, Equation, var, con, fun, none, more}
use Rattle.trees.specs.Terms.{Below, Belows}
use Rattle.trees.specs.Tree.{Goal, Clause, GoalBelow, GoalsBelow}
use Rattle.graphs.specs.Flat.{flat, flats}
use Rattle.programs.specs.Spelling.{spell_goals, spell_clause, spell_equation}

low_cell_lem : (c : Cell) → low_cell c ≡ true → Low c
low_cell_lem c e t = go (or_cases (not (eqb c.tag 0)) (ltb c.value 32) e)
  where
    go : (not (eqb c.tag 0) ≡ true) ⊎ (ltb c.value 32 ≡ true) → c.value ≤ 31
    go (inl h) = let a = not-true (eqb c.tag 0) h in let b = eq-eqb c.tag 0 t in let z : true ≡ false = sym b ∙ a in absurd (let y : ◌≡◌ {A = ℕ} 0 1 = cc in omega arith)
    go (inr h) = let l = ltb-true c.value 32 h in omega arith

pub low_cells : (cs : List Cell) → all_low cs ≡ true → All Low cs
low_cells [] e = All-nil Low
low_cells (c ∷ cs) e = let p = both (low_cell c) (all_low cs) e in All-cons Low c cs (low_cell_lem c p.0) (low_cells cs p.1)
  where
    both : (a b : Bool) → cond a b false ≡ true → (a ≡ true) × (b ≡ true)
    both true b h = (refl, h)
    both false b h = absurd (let y : ◌≡◌ {A = ℕ} 0 1 = cc in omega arith)

mutual
  below_flat : (t : Term) (post : List Cell) → All Low (flat t ++ post) → Below 32 t × All Low post
  below_flat (var x) post h = (let l = All-head Low _ post h refl in omega arith, All-tail Low _ post h)
  below_flat (con f v) post h = (tt, All-tail Low _ post h)
  below_flat (fun s ts) post h = below_flats ts post (All-tail Low _ _ h)

  below_flats : (ts : Terms) (post : List Cell) → All Low (flats ts ++ post) → Belows 32 ts × All Low post
  below_flats none post h = (tt, h)
  below_flats (more t ts) post h =
      let p = below_flat t (flats ts ++ post) (rw append_assoc at h) in
      let q = below_flats ts post p.1 in
      ((p.0, q.0), q.1)

pub goals_low : (gs : List Goal) → All Low (spell_goals gs) → GoalsBelow 32 gs
goals_low [] h = tt
goals_low (g ∷ gs) h = let p = below_flat (fun g.symbol g.arguments) (spell_goals gs) h in (p.0, goals_low gs p.1)

pub goals_below : (gs : List Goal) → all_low (spell_goals gs) ≡ true → GoalsBelow 32 gs
goals_below gs e = goals_low gs (low_cells (spell_goals gs) e)

pub clause_below : (c : Clause) → All Low (spell_clause c) → GoalBelow 32 c.head × GoalsBelow 32 c.body
clause_below c h = goals_low (c.head ∷ c.body) h

pub equation_below : (e : Equation) → all_low (spell_equation e) ≡ true → Below 32 e.left × Below 32 e.right
equation_below e h =
    let p = below_flat e.left (flat e.right) (low_cells (spell_equation e) h) in
    let q = below_flat e.right [] (subst (All Low) (sym (append-nil (flat e.right))) p.1) in
    (p.0, q.0)
