-- How cells go on being a goal list: a goal at the end, or one argument more of a cell whose arguments reach the end.
use Rattle.std.proofs.Common.{◌≡◌, ℕ, zero, suc, ◌+◌, ◌<◌, Bool, true, false, cond, List, [], ◌∷◌, ◌++◌, length, drop, set, Some, None, Option, sym, refl, ap, ◌∙◌, le_of_suc-le-suc, not-suc-le-zero, add-zero, arith}
use Rattle.std.proofs.lemmas.Bool.{cond-true}
use Rattle.terms.specs.declared.Cell.{Cell}
use Rattle.terms.specs.Shape.{skip, goals, term_cell, goal_cell}
use Rattle.terms.proofs.Laws.{skip_more, goals_more, goals_read}
use Rattle.draft.specs.Drafts.{symbol_cell}

none_some : {A : Type 0} (x : A) → None ≡ Some x → ⊥
none_some x e = let z : ◌≡◌ {A = ℕ} 0 1 = cc in omega arith

-- what a test that was passed is followed by
on_pass : {A B : Type 0} (b : Bool) (x : Option A) (y z : Option B) (m : A) → (x ≡ Some m → y ≡ z) → cond b x None ≡ Some m → cond b y None ≡ z
on_pass true x y z m f e = f e
on_pass false x y z m f e = absurd (none_some m e)

passed : {A : Type 0} (b : Bool) (x : Option A) (m : A) → cond b x None ≡ Some m → x ≡ Some m
passed true x m e = e
passed false x m e = absurd (none_some m e)

skip_append : (n : ℕ) (cs ys left : List Cell) → skip n cs ≡ Some left → skip n (cs ++ ys) ≡ Some (left ++ ys)
skip_append zero cs ys left e = let s : cs ≡ left = cc in ap (λ xs. Some (xs ++ ys)) s
skip_append (suc n) [] ys left e = absurd (none_some left e)
skip_append (suc n) (c ∷ cs) ys left e =
    on_pass (term_cell c) (skip (c.arity + n) cs) (skip (c.arity + n) (cs ++ ys)) (Some (left ++ ys)) left (skip_append (c.arity + n) cs ys left) e

-- one term more, of one cell
pub skip_push : (n : ℕ) (cs : List Cell) (c : Cell) → skip n cs ≡ Some [] → term_cell c ≡ true → c.arity ≡ 0 → skip (n + 1) (cs ++ c ∷ []) ≡ Some []
skip_push n cs c e t z =
    skip_more n 1 (cs ++ c ∷ []) (c ∷ []) (skip_append n cs (c ∷ []) [] e)
    ∙ (cond-true (term_cell c) _ _ t ∙ ap (λ m. skip (m + 0) []) z)

nothing_left : (n : ℕ) → skip n [] ≡ Some [] → n ≡ 0
nothing_left zero e = refl
nothing_left (suc n) e = absurd (none_some [] e)

-- terms with another cell in a place from where its arguments reach the end
skip_swap : (n p : ℕ) (cs ys : List Cell) (x o : Cell) → p < length cs → skip n (set cs p x) ≡ Some [] → skip x.arity (drop (suc p) cs) ≡ Some []
    → term_cell o ≡ true → skip o.arity (drop (suc p) cs ++ ys) ≡ Some [] → skip n (set cs p o ++ ys) ≡ Some []
skip_swap n p [] ys x o h e a t b = absurd (not-suc-le-zero h)
skip_swap zero zero (c ∷ cs) ys x o h e a t b = let z : ◌≡◌ {A = ℕ} 0 1 = cc in absurd (omega arith)
skip_swap zero (suc p) (c ∷ cs) ys x o h e a t b = let z : ◌≡◌ {A = ℕ} 0 1 = cc in absurd (omega arith)
skip_swap (suc n) zero (c ∷ cs) ys x o h e a t b =
    let z : n ≡ 0 = nothing_left n (sym (skip_more x.arity n cs [] a) ∙ passed (term_cell x) (skip (x.arity + n) cs) [] e) in
    cond-true (term_cell o) _ _ t ∙ (ap (λ m. skip m (cs ++ ys)) (ap (λ m. o.arity + m) z ∙ add-zero o.arity) ∙ b)
skip_swap (suc n) (suc p) (c ∷ cs) ys x o h e a t b =
    on_pass (term_cell c) (skip (c.arity + n) (set cs p x)) (skip (c.arity + n) (set cs p o ++ ys)) (Some []) []
    (λ f. skip_swap (c.arity + n) p cs ys x o (le_of_suc-le-suc h) f a t b) e

-- the same of the terms after an earlier place
pub skip_swap_after : (q n p : ℕ) (cs ys : List Cell) (x o : Cell) → q < p → p < length cs → skip n (drop (suc q) (set cs p x)) ≡ Some [] → skip x.arity (drop (suc p) cs) ≡ Some []
    → term_cell o ≡ true → skip o.arity (drop (suc p) cs ++ ys) ≡ Some [] → skip n (drop (suc q) (set cs p o ++ ys)) ≡ Some []
skip_swap_after q n p [] ys x o l h e a t b = absurd (not-suc-le-zero h)
skip_swap_after q n zero (c ∷ cs) ys x o l h e a t b = absurd (not-suc-le-zero l)
skip_swap_after zero n (suc p) (c ∷ cs) ys x o l h e a t b = skip_swap n p cs ys x o (le_of_suc-le-suc h) e a t b
skip_swap_after (suc q) n (suc p) (c ∷ cs) ys x o l h e a t b = skip_swap_after q n p cs ys x o (le_of_suc-le-suc l) (le_of_suc-le-suc h) e a t b

last_goals : (k n g : ℕ) → goals k n [] ≡ Some g → (n ≡ 0) × (k ≡ g)
last_goals k zero g e = (refl, cc)
last_goals k (suc n) g e = absurd (none_some g e)

-- the same of the goals
pub goals_swap : (k due g p : ℕ) (cs ys : List Cell) (x o : Cell) → p < length cs → goals k due (set cs p x) ≡ Some g → skip x.arity (drop (suc p) cs) ≡ Some []
    → term_cell o ≡ true → goal_cell o ≡ true → skip o.arity (drop (suc p) cs ++ ys) ≡ Some [] → goals k due (set cs p o ++ ys) ≡ Some g
goals_swap k due g p [] ys x o h e a t u b = absurd (not-suc-le-zero h)
goals_swap k zero g zero (c ∷ cs) ys x o h e a t u b =
    let s = sym (goals_read (k + 1) x.arity cs [] a) ∙ passed (goal_cell x) (goals (k + 1) x.arity cs) g e in
    cond-true (goal_cell o) _ _ u ∙ (goals_read (k + 1) o.arity (cs ++ ys) [] b ∙ s)
goals_swap k (suc n) g zero (c ∷ cs) ys x o h e a t u b =
    let s = last_goals k n g (sym (goals_more k x.arity n cs [] a) ∙ passed (term_cell x) (goals k (x.arity + n) cs) g e) in
    cond-true (term_cell o) _ _ t
    ∙ (ap (λ m. goals k m (cs ++ ys)) (ap (λ m. o.arity + m) s.0 ∙ add-zero o.arity) ∙ (goals_read k o.arity (cs ++ ys) [] b ∙ ap Some s.1))
goals_swap k zero g (suc p) (c ∷ cs) ys x o h e a t u b =
    on_pass (goal_cell c) (goals (k + 1) c.arity (set cs p x)) (goals (k + 1) c.arity (set cs p o ++ ys)) (Some g) g
    (λ f. goals_swap (k + 1) c.arity g p cs ys x o (le_of_suc-le-suc h) f a t u b) e
goals_swap k (suc n) g (suc p) (c ∷ cs) ys x o h e a t u b =
    on_pass (term_cell c) (goals k (c.arity + n) (set cs p x)) (goals k (c.arity + n) (set cs p o ++ ys)) (Some g) g
    (λ f. goals_swap k (c.arity + n) g p cs ys x o (le_of_suc-le-suc h) f a t u b) e

-- a goal of no arguments more
pub goals_push : (k due g : ℕ) (cs : List Cell) → goals k due cs ≡ Some g → goals k due (cs ++ symbol_cell 0 ∷ []) ≡ Some (g + 1)
goals_push k zero g [] e = let s : k ≡ g = cc in ap (λ m. Some (m + 1)) s
goals_push k (suc n) g [] e = absurd (none_some g e)
goals_push k zero g (c ∷ cs) e = on_pass (goal_cell c) (goals (k + 1) c.arity cs) (goals (k + 1) c.arity (cs ++ symbol_cell 0 ∷ [])) (Some (g + 1)) g (goals_push (k + 1) c.arity g cs) e
goals_push k (suc n) g (c ∷ cs) e = on_pass (term_cell c) (goals k (c.arity + n) cs) (goals k (c.arity + n) (cs ++ symbol_cell 0 ∷ [])) (Some (g + 1)) g (goals_push k (c.arity + n) g cs) e
