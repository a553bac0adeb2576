-- Cells that are a goal list spell goals.
use Rattle.std.proofs.Common.{◌≡◌, ℕ, zero, suc, ◌+◌, Bool, true, false, cond, ◌&&◌, ◌||◌, eqb, ltb, ◌⊎◌, List, [], ◌∷◌, ◌++◌, length, Some, None, Option, sym, refl, ap, ◌∙◌, ap₂, inl, inr, arith}
use Rattle.std.proofs.lemmas.List.{append_assoc}
use Rattle.std.proofs.lemmas.Bool.{and_parts, eqb-true}
use Rattle.terms.specs.declared.Cell.{Cell}
use Rattle.terms.specs.Shape.{term_cell, goal_cell, skip, goals}
use Rattle.typing.specs.Terms.{Term, Terms, var, con, fun, none, more}
use Rattle.trees.specs.Tree.{Goal, Clause}
use Rattle.graphs.specs.Flat.{count, flat, flats}
use Rattle.programs.specs.Spelling.{spell_goal, spell_goals, spell_clause}

none_not_some : {A : Type 0} (x : A) → None ≡ Some x → ⊥
none_not_some x e = let z : ◌≡◌ {A = ℕ} 0 1 = cc in omega arith

-- a test that was passed on the way to an answer
passed : {A : Type 0} (b : Bool) (x : Option A) (a : A) → cond b x None ≡ Some a → (b ≡ true) × (x ≡ Some a)
passed true x a e = (refl, e)
passed false x a e = absurd (none_not_some a e)

-- terms, the first so many of them and the others
parted : (n m : ℕ) (ts : Terms) → count ts ≡ n + m → (us : Terms) × (vs : Terms) × (count us ≡ n) × (count vs ≡ m) × (flats ts ≡ flats us ++ flats vs)
parted zero m ts e = (none, ts, refl, omega arith, refl)
parted (suc n) m none e = absurd (omega arith)
parted (suc n) m (more t ts) e =
    let p = parted n m ts (omega arith) in
    (more t p.0, p.1, ap suc p.2, p.3, ap (λ xs. flat t ++ xs) p.4 ∙ sym (append_assoc (flat t) (flats p.0) (flats p.1)))

-- a cell is its four fields
same_cell : (c : Cell) (t f n v : ℕ) → c.tag ≡ t → c.form ≡ f → c.arity ≡ n → c.value ≡ v → record { tag = t; form = f; arity = n; value = v } ≡ c
same_cell c t f n v a b d e =
    sym (ap (λ x. record { tag = x; form = c.form; arity = c.arity; value = c.value }) a
    ∙ (ap (λ x. record { tag = t; form = x; arity = c.arity; value = c.value }) b
    ∙ (ap (λ x. record { tag = t; form = f; arity = x; value = c.value }) d
    ∙ ap (λ x. record { tag = t; form = f; arity = n; value = x }) e)))

-- which way a test that came out true was answered
way : (b x y : Bool) → cond b x y ≡ true → ((b ≡ true) × (x ≡ true)) ⊎ (y ≡ true)
way true x y e = inl (refl, e)
way false x y e = inr e

bare : (ts : Terms) → count ts ≡ 0 → [] ≡ flats ts
bare none e = refl
bare (more t ts) e = absurd (omega arith)

-- the three tests of a term's cell, by its tag
abbrev variable_test : Cell → Bool
variable_test c = eqb c.form 0 && eqb c.arity 0

abbrev constant_test : Cell → Bool
constant_test c = eqb c.arity 0 && (ltb c.form 2 || (ltb c.form 4 && ltb c.value 65536))

abbrev function_test : Cell → Bool
function_test c = eqb c.form 0 && (ltb 0 c.arity && (ltb c.arity 9 && ltb c.value 65536))

-- a cell with the arguments that it asks for is a term
term_of : (c : Cell) (ts : Terms) → term_cell c ≡ true → count ts ≡ c.arity → (t : Term) × (flat t ≡ c ∷ flats ts)
term_of c ts fit n = first (way (eqb c.tag 0) _ _ fit)
  where
    third : ((eqb c.tag 2 ≡ true) × (function_test c ≡ true)) ⊎ (false ≡ true) → (t : Term) × (flat t ≡ c ∷ flats ts)
    third (inl h) =
        let f = and_parts (eqb c.form 0) _ h.1 in
        (fun c.value ts, ap (λ x. x ∷ flats ts) (same_cell c 2 0 (count ts) c.value (eqb-true c.tag 2 h.0) (eqb-true c.form 0 f.0) (sym n) refl))
    third (inr h) = absurd (let z : ◌≡◌ {A = ℕ} 0 1 = cc in omega arith)

    second : ((eqb c.tag 1 ≡ true) × (constant_test c ≡ true)) ⊎ (cond (eqb c.tag 2) (function_test c) false ≡ true) → (t : Term) × (flat t ≡ c ∷ flats ts)
    second (inl h) =
        let e = eqb-true c.arity 0 (and_parts (eqb c.arity 0) _ h.1).0 in
        (con c.form c.value, ap₂ ◌∷◌ (same_cell c 1 c.form 0 c.value (eqb-true c.tag 1 h.0) refl e refl) (bare ts (n ∙ e)))
    second (inr h) = third (way (eqb c.tag 2) _ _ h)

    first : ((eqb c.tag 0 ≡ true) × (variable_test c ≡ true)) ⊎ (cond (eqb c.tag 1) (constant_test c) (cond (eqb c.tag 2) (function_test c) false) ≡ true)
        → (t : Term) × (flat t ≡ c ∷ flats ts)
    first (inl h) =
        let p = and_parts (eqb c.form 0) (eqb c.arity 0) h.1 in
        let e = eqb-true c.arity 0 p.1 in
        (var c.value, ap₂ ◌∷◌ (same_cell c 0 0 0 c.value (eqb-true c.tag 0 h.0) (eqb-true c.form 0 p.0) e refl) (bare ts (n ∙ e)))
    first (inr h) = second (way (eqb c.tag 1) _ _ h)

-- a predicate's cell with the arguments that it asks for is a goal
goal_of : (c : Cell) (ts : Terms) → goal_cell c ≡ true → count ts ≡ c.arity → spell_goal (record { symbol = c.value; arguments = ts }) ≡ c ∷ flats ts
goal_of c ts fit n =
    let p = and_parts (eqb c.tag 2) _ fit in
    let q = and_parts (eqb c.form 0) _ p.1 in
    ap (λ x. x ∷ flats ts) (same_cell c 2 0 (count ts) c.value (eqb-true c.tag 2 p.0) (eqb-true c.form 0 q.0) (sym n) refl)

-- the terms that are due, and then goals
pub parse : (k m n : ℕ) (cs : List Cell) → goals k m cs ≡ Some n → (ts : Terms) × (gs : List Goal) × (count ts ≡ m) × (cs ≡ flats ts ++ spell_goals gs) × (k + length gs ≡ n)
parse k zero n [] e = (none, [], refl, refl, let z : k ≡ n = cc in omega arith)
parse k zero n (c ∷ cs) e =
    let p = passed (goal_cell c) (goals (k + 1) c.arity cs) n e in
    let r = parse (k + 1) c.arity n cs p.1 in
    let g : Goal = record { symbol = c.value; arguments = r.0 } in (
      none,
      g ∷ r.1,
      refl,
      ap (λ xs. c ∷ xs) r.3 ∙ ap (λ xs. xs ++ spell_goals r.1) (sym (goal_of c r.0 p.0 r.2)),
      let z = r.4 in omega arith,
    )
parse k (suc m) n [] e = absurd (none_not_some n e)
parse k (suc m) n (c ∷ cs) e =
    let p = passed (term_cell c) (goals k (c.arity + m) cs) n e in
    let r = parse k (c.arity + m) n cs p.1 in
    let q = parted c.arity m r.0 r.2 in
    let t = term_of c q.0 p.0 q.2 in
    let gs = spell_goals r.1 in (
      more t.0 q.1,
      r.1,
      ap suc q.3,
      ap (λ xs. c ∷ xs) (r.3 ∙ ap (λ xs. xs ++ gs) q.4) ∙ ap (λ xs. xs ++ flats q.1 ++ gs) (sym t.1),
      r.4,
    )

-- so many terms, and what is left
pub parse_terms : (m : ℕ) (cs left : List Cell) → skip m cs ≡ Some left → (ts : Terms) × (count ts ≡ m) × (cs ≡ flats ts ++ left)
parse_terms zero cs left e = (none, refl, let z : cs ≡ left = cc in z)
parse_terms (suc m) [] left e = absurd (none_not_some left e)
parse_terms (suc m) (c ∷ cs) left e =
    let p = passed (term_cell c) (skip (c.arity + m) cs) left e in
    let r = parse_terms (c.arity + m) cs left p.1 in
    let q = parted c.arity m r.0 r.1 in
    let t = term_of c q.0 p.0 q.2 in (
      more t.0 q.1,
      ap suc q.3,
      ap (λ xs. c ∷ xs) (r.2 ∙ ap (λ xs. xs ++ left) q.4) ∙ ap (λ xs. xs ++ flats q.1 ++ left) (sym t.1),
    )

pub parse_goals : (k n : ℕ) (cs : List Cell) → goals k 0 cs ≡ Some n → (gs : List Goal) × (cs ≡ spell_goals gs) × (k + length gs ≡ n)
parse_goals k n cs e = at (parse k 0 n cs e)
  where
    at : (ts : Terms) × (gs : List Goal) × (count ts ≡ 0) × (cs ≡ flats ts ++ spell_goals gs) × (k + length gs ≡ n) → (gs : List Goal) × (cs ≡ spell_goals gs) × (k + length gs ≡ n)
    at p = (p.1, p.3 ∙ ap (λ xs. xs ++ spell_goals p.1) (sym (bare p.0 p.2)), p.4)

pub parse_clause : (n : ℕ) (cs : List Cell) → goals 0 0 cs ≡ Some (suc n) → (c : Clause) × (cs ≡ spell_clause c) × (length c.body ≡ n)
parse_clause n cs e = let p = parse_goals 0 (suc n) cs e in at p.0 p.1 p.2
  where
    at : (gs : List Goal) → cs ≡ spell_goals gs → 0 + length gs ≡ suc n → (c : Clause) × (cs ≡ spell_clause c) × (length c.body ≡ n)
    at [] s l = absurd (omega arith)
    at (g ∷ gs) s l = (record { head = g; body = gs }, s, omega arith)
