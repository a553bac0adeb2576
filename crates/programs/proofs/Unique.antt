-- Cells spell one term, one goal list, one clause at most.
use Rattle.std.proofs.Common.{◌≡◌, ℕ, List, [], ◌∷◌, ◌++◌, map, length, get_or, drop, sym, refl, ap, ◌∙◌, ap₂, arith}
use Rattle.std.proofs.lemmas.List.{append_assoc}
use Rattle.terms.specs.declared.Cell.{Cell}
use Rattle.typing.specs.Terms.{Term, Terms, var, con, fun, none, more}
use Rattle.trees.specs.Tree.{Goal, Clause, Program}
use Rattle.graphs.specs.Cells.{blank}
use Rattle.graphs.specs.Flat.{count, flat, flats}
use Rattle.programs.specs.Spelling.{spell_goal, spell_goals, spell_clause, Spells}

-- the first cells of two equal lists
first : (xs ys : List Cell) → xs ≡ ys → get_or xs 0 blank ≡ get_or ys 0 blank
first xs ys e = ap (λ zs. get_or zs 0 blank) e

tags : (xs ys : List Cell) → xs ≡ ys → (get_or xs 0 blank).tag ≡ (get_or ys 0 blank).tag
tags xs ys e = ap (λ c. c.tag) (first xs ys e)

mutual
  pub flat_prefix : (t u : Term) (xs ys : List Cell) → flat t ++ xs ≡ flat u ++ ys → (t ≡ u) × (xs ≡ ys)
  flat_prefix (var x) (var y) xs ys e = (ap var (ap (λ c. c.value) (first _ _ e)), ap (drop 1) e)
  flat_prefix (var x) (con g w) xs ys e = let z = tags _ _ e in absurd (omega arith)
  flat_prefix (var x) (fun r us) xs ys e = let z = tags _ _ e in absurd (omega arith)
  flat_prefix (con f v) (var y) xs ys e = let z = tags _ _ e in absurd (omega arith)
  flat_prefix (con f v) (con g w) xs ys e = let c = first _ _ e in (ap₂ con (ap (λ c. c.form) c) (ap (λ c. c.value) c), ap (drop 1) e)
  flat_prefix (con f v) (fun r us) xs ys e = let z = tags _ _ e in absurd (omega arith)
  flat_prefix (fun s ts) (var y) xs ys e = let z = tags _ _ e in absurd (omega arith)
  flat_prefix (fun s ts) (con g w) xs ys e = let z = tags _ _ e in absurd (omega arith)
  flat_prefix (fun s ts) (fun r us) xs ys e =
      let c = first _ _ e in
      let p = flats_prefix ts us xs ys (ap (λ c. c.arity) c) (ap (drop 1) e) in
      (ap₂ fun (ap (λ c. c.value) c) p.0, p.1)

  pub flats_prefix : (ts us : Terms) (xs ys : List Cell) → count ts ≡ count us → flats ts ++ xs ≡ flats us ++ ys → (ts ≡ us) × (xs ≡ ys)
  flats_prefix none none xs ys n e = (refl, e)
  flats_prefix none (more u us) xs ys n e = absurd (omega arith)
  flats_prefix (more t ts) none xs ys n e = absurd (omega arith)
  flats_prefix (more t ts) (more u us) xs ys n e =
      let f : flat t ++ (flats ts ++ xs) ≡ flat u ++ (flats us ++ ys) = sym (append_assoc (flat t) (flats ts) xs) ∙ (e ∙ append_assoc (flat u) (flats us) ys) in
      let p = flat_prefix t u (flats ts ++ xs) (flats us ++ ys) f in
      let q = flats_prefix ts us xs ys (omega arith) p.1 in
      (ap₂ more p.0 q.0, q.1)

pub goal_prefix : (g h : Goal) (xs ys : List Cell) → spell_goal g ++ xs ≡ spell_goal h ++ ys → (g ≡ h) × (xs ≡ ys)
goal_prefix g h xs ys e =
    let p = flat_prefix (fun g.symbol g.arguments) (fun h.symbol h.arguments) xs ys e in
    (parts g.symbol h.symbol g.arguments h.arguments p.0, p.1)
  where
    parts : (s r : ℕ) (ts us : Terms) → fun s ts ≡ fun r us → ◌≡◌ {A = Goal} (record { symbol = s; arguments = ts }) (record { symbol = r; arguments = us })
    parts s r ts us e = let a : s ≡ r = cc in let b : ts ≡ us = cc in ap₂ (λ (n : ℕ) (vs : Terms). record { symbol = n; arguments = vs }) a b

pub spell_goals_injective : (gs hs : List Goal) → spell_goals gs ≡ spell_goals hs → gs ≡ hs
spell_goals_injective [] [] e = refl
spell_goals_injective [] (h ∷ hs) e = let z = ap length e in absurd (omega arith)
spell_goals_injective (g ∷ gs) [] e = let z = ap length e in absurd (omega arith)
spell_goals_injective (g ∷ gs) (h ∷ hs) e =
    let p = goal_prefix g h (spell_goals gs) (spell_goals hs) e in
    ap₂ ◌∷◌ p.0 (spell_goals_injective gs hs p.1)

pub spell_clause_injective : (c d : Clause) → spell_clause c ≡ spell_clause d → c ≡ d
spell_clause_injective c d e =
    let p = goal_prefix c.head d.head (spell_goals c.body) (spell_goals d.body) e in
    ap₂ (λ (g : Goal) (gs : List Goal). record { head = g; body = gs }) p.0 (spell_goals_injective c.body d.body p.1)

clauses_injective : (cs ds : List Clause) → map spell_clause cs ≡ map spell_clause ds → cs ≡ ds
clauses_injective [] [] e = refl
clauses_injective [] (d ∷ ds) e = let z = ap length e in absurd (omega arith)
clauses_injective (c ∷ cs) [] e = let z = ap length e in absurd (omega arith)
clauses_injective (c ∷ cs) (d ∷ ds) e =
    ap₂ ◌∷◌ (spell_clause_injective c d (ap (λ xs. get_or xs 0 []) e)) (clauses_injective cs ds (ap (drop 1) e))

-- a source spells one program
pub program_unique : (P Q : Program) (lists : ℕ → ℕ → List (List Cell)) → Spells P lists → Spells Q lists → (s a : ℕ) → P s a ≡ Q s a
program_unique P Q lists p q s a = clauses_injective (P s a) (Q s a) (p s a ∙ sym (q s a))
