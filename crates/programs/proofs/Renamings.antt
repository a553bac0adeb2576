-- Cells with their variables raised spell terms, goals and clauses with theirs raised.
use Rattle.std.proofs.Common.{◌≡◌, ℕ, suc, List, [], ◌∷◌, ◌++◌, map, sym, refl, ap, ◌∙◌, ap₂, add_comm}
use Rattle.std.proofs.lemmas.List.{map-append}
use Rattle.terms.specs.declared.Cell.{Cell}
use Rattle.clauses.specs.Clauses.{renamed, raised as raised_cell}
use Rattle.typing.specs.Terms.{Term, Terms, var, con, fun, none, more, Subst, apply, applies}
use Rattle.trees.specs.Tree.{Goal, Clause, instance_of, instances, raised, fresh, new_head, new_body}
use Rattle.graphs.specs.Flat.{count, flat, flats}
use Rattle.programs.specs.Spelling.{spell_goal, spell_goals, spell_clause}

pub count_applies : (θ : Subst) (ts : Terms) → count (applies θ ts) ≡ count ts
count_applies θ none = refl
count_applies θ (more t ts) = ap suc (count_applies θ ts)

mutual
  raised_flat : (b : ℕ) (t : Term) → map (raised_cell b) (flat t) ≡ flat (apply (raised b) t)
  raised_flat b (var x) = ap (λ n. flat (var n)) (add_comm x b)
  raised_flat b (con f v) = refl
  raised_flat b (fun s ts) =
      ap₂ (λ (n : ℕ) (xs : List Cell). record { tag = 2; form = 0; arity = n; value = s } ∷ xs) (sym (count_applies (raised b) ts)) (raised_flats b ts)

  raised_flats : (b : ℕ) (ts : Terms) → map (raised_cell b) (flats ts) ≡ flats (applies (raised b) ts)
  raised_flats b none = refl
  raised_flats b (more t ts) = map-append (raised_cell b) (flat t) (flats ts) ∙ ap₂ ◌++◌ (raised_flat b t) (raised_flats b ts)

pub renamed_term : (b : ℕ) (t : Term) → renamed b (flat t) ≡ flat (apply (raised b) t)
unfolding renamed
renamed_term b t = raised_flat b t

pub renamed_append : (b : ℕ) (xs ys : List Cell) → renamed b (xs ++ ys) ≡ renamed b xs ++ renamed b ys
unfolding renamed
renamed_append b xs ys = map-append (raised_cell b) xs ys

pub renamed_goal : (b : ℕ) (g : Goal) → renamed b (spell_goal g) ≡ spell_goal (instance_of (raised b) g)
renamed_goal b g = renamed_term b (fun g.symbol g.arguments)

pub renamed_goals : (b : ℕ) (gs : List Goal) → renamed b (spell_goals gs) ≡ spell_goals (instances (raised b) gs)
unfolding renamed
renamed_goals b [] = refl
renamed_goals b (g ∷ gs) = renamed_append b (spell_goal g) (spell_goals gs) ∙ ap₂ ◌++◌ (renamed_goal b g) (renamed_goals b gs)

pub renamed_clause : (k : ℕ) (c : Clause) → renamed (fresh k) (spell_clause c) ≡ spell_goal (new_head k c) ++ spell_goals (new_body k c)
renamed_clause k c = renamed_append (fresh k) (spell_goal c.head) (spell_goals c.body) ∙ ap₂ ◌++◌ (renamed_goal (fresh k) c.head) (renamed_goals (fresh k) c.body)
