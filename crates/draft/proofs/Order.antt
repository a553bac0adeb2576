-- Variables in order of first appearance, with one cell more or another symbol in a symbol's place.
use Rattle.std.proofs.Common.{◌≡◌, ℕ, zero, suc, ◌+◌, ◌≤◌, ◌&&◌, eqb, leb, List, [], ◌∷◌, ◌++◌, length, get_or, set, All, sym, refl, ap, ◌∙◌, subst, arith}
use Rattle.std.proofs.lemmas.List.Elements.{All-nil, All-cons, All-head, All-tail}
use Rattle.std.proofs.lemmas.Bool.{cond-false, cond_both, and_left, and_parts, eqb-true, ne_eqb}
use Rattle.terms.specs.declared.Cell.{Cell}
use Rattle.lexis.specs.declared.token.Span.{Span}
use Rattle.clauses.specs.Clauses.{vars_after, InOrder, Low}
use Rattle.draft.specs.Under.{Under}
use Rattle.draft.specs.Sketch.{same_variable, is_variable}
use Rattle.draft.proofs.Counts.{vars_up, vars_most, vars_cell}

-- how many variables there are after the cells
abbrev pub vars_in : ℕ → List Cell → ℕ
vars_in n [] = n
vars_in n (c ∷ cs) = vars_in (vars_after n c) cs

pub vars_push : (n : ℕ) (cs : List Cell) (c : Cell) → vars_in n (cs ++ c ∷ []) ≡ vars_after (vars_in n cs) c
vars_push n [] c = refl
vars_push n (x ∷ cs) c = vars_push (vars_after n x) cs c

pub order_push : (n : ℕ) (cs : List Cell) (c : Cell) → InOrder n cs → (c.tag ≡ 0 → c.value ≤ vars_in n cs) → InOrder n (cs ++ c ∷ [])
order_push n [] c o h = (h, tt)
order_push n (x ∷ cs) c o h = (o.0, order_push (vars_after n x) cs c o.1 h)

-- no variable is no new one
pub vars_none : (n : ℕ) (c : Cell) → (c.tag ≡ 0 → ⊥) → vars_after n c ≡ n
vars_none n c h = cond-false (eqb c.tag 0 && leb n c.value) _ _ (and_left (eqb c.tag 0) _ (ne_eqb c.tag 0 h))

pub vars_set : (n p : ℕ) (cs : List Cell) (o d : Cell) → ((get_or cs p d).tag ≡ 0 → ⊥) → (o.tag ≡ 0 → ⊥) → vars_in n (set cs p o) ≡ vars_in n cs
vars_set n p [] o d h k = refl
vars_set n zero (c ∷ cs) o d h k = ap (λ m. vars_in m cs) (vars_none n o k ∙ sym (vars_none n c h))
vars_set n (suc p) (c ∷ cs) o d h k = vars_set (vars_after n c) p cs o d h k

pub order_set : (n p : ℕ) (cs : List Cell) (o d : Cell) → ((get_or cs p d).tag ≡ 0 → ⊥) → (o.tag ≡ 0 → ⊥) → InOrder n cs → InOrder n (set cs p o)
order_set n p [] o d h k w = w
order_set n zero (c ∷ cs) o d h k w = (λ e. absurd (k e), subst (λ m. InOrder m cs) (vars_none n c h ∙ sym (vars_none n o k)) w.1)
order_set n (suc p) (c ∷ cs) o d h k w = (w.0, order_set (vars_after n c) p cs o d h k w.1)

pub vars_in_up : (n : ℕ) (cs : List Cell) → n ≤ vars_in n cs
vars_in_up n [] = omega arith
vars_in_up n (c ∷ cs) = let a = vars_up n c in let b = vars_in_up (vars_after n c) cs in omega arith

pub vars_in_most : (n : ℕ) (cs : List Cell) → vars_in n cs ≤ n + length cs
vars_in_most n [] = omega arith
vars_in_most n (c ∷ cs) = let a = vars_most n c in let b = vars_in_most (vars_after n c) cs in omega arith

-- each variable is one of so many
pub under_order : (n : ℕ) (cs : List Cell) → InOrder n cs → All (Under (vars_in n cs)) cs
under_order n [] o = All-nil (Under (vars_in n []))
under_order n (c ∷ cs) o =
    All-cons (Under (vars_in n (c ∷ cs))) c cs (λ t. let a = vars_cell n c t (o.0 t) in let b = vars_in_up (vars_after n c) cs in omega arith) (under_order (vars_after n c) cs o.1)

low_under : (n : ℕ) (cs : List Cell) → n ≤ 32 → All (Under n) cs → All Low cs
low_under n [] h w = All-nil Low
low_under n (c ∷ cs) h w = All-cons Low c cs (λ t. let a = All-head (Under n) c cs w t in omega arith) (low_under n cs h (All-tail (Under n) c cs w))

-- at most 32 cells have variables below 32
pub low_order : (cs : List Cell) → length cs ≤ 32 → InOrder 0 cs → All Low cs
low_order cs h o = low_under (vars_in 0 cs) cs (let m = vars_in_most 0 cs in omega arith) (under_order 0 cs o)

-- a variable met before has a number below
pub same_under : (text w : List ℕ) (cs : List Cell) (ss : List Span) (n : ℕ) → All (Under n) cs → same_variable text w cs ss n ≤ n
unfolding same_variable
same_under text w [] ss n a = omega arith
same_under text w (c ∷ cs) [] n a = omega arith
same_under text w (c ∷ cs) (s ∷ ss) n a =
    cond_both (is_variable text w c s) c.value (same_variable text w cs ss n) (λ x. x ≤ n)
    (λ e. let b = All-head (Under n) c cs a (eqb-true c.tag 0 (and_parts (eqb c.tag 0) _ e).0) in omega arith)
    (λ e. same_under text w cs ss n (All-tail (Under n) c cs a))
