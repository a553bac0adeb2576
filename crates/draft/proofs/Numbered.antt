-- Numbering the names keeps what the cells spell.
use Rattle.std.proofs.Common.{◌≡◌, ℕ, zero, suc, ◌+◌, ◌<◌, ◌≤◌, Bool, true, false, cond, ◌&&◌, ◌||◌, eqb, ltb, List, [], ◌∷◌, ◌++◌, length, Some, None, Option, sym, refl, ap, ◌∙◌, subst, inl, inr, arith}
use Rattle.std.proofs.lemmas.List.{length_push}
use Rattle.std.proofs.lemmas.Bool.{cond-true, cond_both, eqb-true, or_cases, and_parts, lt-ltb}
use Rattle.terms.specs.declared.Cell.{Cell}
use Rattle.terms.specs.Shape.{goals, term_cell, goal_cell}
use Rattle.clauses.specs.Clauses.{vars_after, InOrder}
use Rattle.lexis.specs.declared.token.Span.{Span}
use Rattle.names.specs.Places.{place_of, with_word}
use Rattle.names.specs.Spans.{word_at}
use Rattle.draft.specs.Numbering.{is_named, numbered, noted, numbered_all}
use Rattle.draft.specs.Spelled.{Spelled}
use Rattle.names.proofs.Finding.{place_within}
use Rattle.draft.proofs.Order.{vars_none, low_order}

-- a cell with another number
abbrev valued : ℕ → Cell → Cell
valued n c = record { tag = c.tag; form = c.form; arity = c.arity; value = n }

and_mono : (p x y : Bool) → (x ≡ true → y ≡ true) → (p && x) ≡ true → (p && y) ≡ true
and_mono true x y f e = f e
and_mono false x y f e = e

or_mono : (p x y : Bool) → (x ≡ true → y ≡ true) → (p || x) ≡ true → (p || y) ≡ true
or_mono true x y f e = e
or_mono false x y f e = f e

cond_mono : (p x y x' y' : Bool) → (x ≡ true → x' ≡ true) → (y ≡ true → y' ≡ true) → cond p x y ≡ true → cond p x' y' ≡ true
cond_mono true x y x' y' f g e = f e
cond_mono false x y x' y' f g e = g e

term_valued : (n : ℕ) (c : Cell) → n < 65536 → term_cell c ≡ true → term_cell (valued n c) ≡ true
term_valued n c h =
    let v : ltb c.value 65536 ≡ true → ltb n 65536 ≡ true = λ e. lt-ltb n 65536 h in
    cond_mono (eqb c.tag 0) _ _ _ _ (λ e. e)
    (cond_mono (eqb c.tag 1) _ _ _ _ (and_mono (eqb c.arity 0) _ _ (or_mono (ltb c.form 2) _ _ (and_mono (ltb c.form 4) _ _ v)))
    (cond_mono (eqb c.tag 2) _ _ _ _ (and_mono (eqb c.form 0) _ _ (and_mono (ltb 0 c.arity) _ _ (and_mono (ltb c.arity 9) _ _ v))) (λ e. e)))

goal_valued : (n : ℕ) (c : Cell) → n < 65536 → goal_cell c ≡ true → goal_cell (valued n c) ≡ true
goal_valued n c h = and_mono (eqb c.tag 2) _ _ (and_mono (eqb c.form 0) _ _ (and_mono (ltb c.arity 9) _ _ (λ e. lt-ltb n 65536 h)))

noted_most : (w : List ℕ) (ws : List (List ℕ)) (c : Cell) → length (noted w ws c) ≤ length ws + 1
noted_most w ws c =
    cond_both (is_named c) (with_word w ws) ws (λ us. length us ≤ length ws + 1)
    (λ e. cond_both (ltb (place_of w ws) (length ws)) ws (ws ++ w ∷ []) (λ us. length us ≤ length ws + 1) (λ f. omega arith) (λ f. let l = length_push ws w in omega arith))
    (λ e. omega arith)

-- the cell with its number fits where it fitted
term_numbered : (w : List ℕ) (ws : List (List ℕ)) (c : Cell) → length ws < 65536 → term_cell c ≡ true → term_cell (numbered w ws c) ≡ true
term_numbered w ws c h t =
    cond_both (is_named c) (valued (place_of w ws) c) c (λ x. term_cell x ≡ true) (λ e. term_valued (place_of w ws) c (let p = place_within w ws in omega arith) t) (λ e. t)

goal_numbered : (w : List ℕ) (ws : List (List ℕ)) (c : Cell) → length ws < 65536 → goal_cell c ≡ true → goal_cell (numbered w ws c) ≡ true
goal_numbered w ws c h t =
    cond_both (is_named c) (valued (place_of w ws) c) c (λ x. goal_cell x ≡ true) (λ e. goal_valued (place_of w ws) c (let p = place_within w ws in omega arith) t) (λ e. t)

numbered_arity : (w : List ℕ) (ws : List (List ℕ)) (c : Cell) → (numbered w ws c).arity ≡ c.arity
numbered_arity w ws c = cond_both (is_named c) (valued (place_of w ws) c) c (λ x. x.arity ≡ c.arity) (λ e. refl) (λ e. refl)

some_none : (g : ℕ) → None ≡ Some g → ⊥
some_none g e = let z : ◌≡◌ {A = ℕ} 0 1 = cc in omega arith

on_pass : (p q : Bool) (x y : Option ℕ) (g : ℕ) → (p ≡ true → q ≡ true) → (x ≡ Some g → y ≡ Some g) → cond p x None ≡ Some g → cond q y None ≡ Some g
on_pass true q x y g f h e = cond-true q y None (f refl) ∙ h e
on_pass false q x y g f h e = absurd (some_none g e)

pub numbered_length : (text : List ℕ) (ws : List (List ℕ)) (cs : List Cell) (ss : List Span) → length (numbered_all text ws cs ss) ≡ length cs
unfolding numbered_all
numbered_length text ws [] ss = refl
numbered_length text ws (c ∷ cs) [] = refl
numbered_length text ws (c ∷ cs) (s ∷ ss) = ap suc (numbered_length text (noted (word_at text s) ws c) cs ss)

goals_numbered : (k due g : ℕ) (text : List ℕ) (ws : List (List ℕ)) (cs : List Cell) (ss : List Span) → length ws + length cs ≤ 65536 → goals k due cs ≡ Some g
    → goals k due (numbered_all text ws cs ss) ≡ Some g
unfolding numbered_all
goals_numbered k due g text ws [] ss h e = e
goals_numbered k due g text ws (c ∷ cs) [] h e = e
goals_numbered k zero g text ws (c ∷ cs) (s ∷ ss) h e =
    let w = word_at text s in
    let us = noted w ws c in
    on_pass (goal_cell c) (goal_cell (numbered w ws c)) (goals (k + 1) c.arity cs) (goals (k + 1) (numbered w ws c).arity (numbered_all text us cs ss)) g (goal_numbered w ws c (omega arith))
    (λ f. ap (λ n. goals (k + 1) n (numbered_all text us cs ss)) (numbered_arity w ws c) ∙ goals_numbered (k + 1) c.arity g text us cs ss (let l = noted_most w ws c in omega arith) f) e
goals_numbered k (suc n) g text ws (c ∷ cs) (s ∷ ss) h e =
    let w = word_at text s in
    let us = noted w ws c in
    on_pass (term_cell c) (term_cell (numbered w ws c)) (goals k (c.arity + n) cs) (goals k ((numbered w ws c).arity + n) (numbered_all text us cs ss)) g (term_numbered w ws c (omega arith))
    (λ f. ap (λ m. goals k (m + n) (numbered_all text us cs ss)) (numbered_arity w ws c) ∙ goals_numbered k (c.arity + n) g text us cs ss (let l = noted_most w ws c in omega arith) f) e

-- a variable has no name
named_no_variable : (c : Cell) → is_named c ≡ true → c.tag ≡ 0 → ⊥
named_no_variable c e t =
    elim (or_cases (eqb c.tag 2) _ e) [
      | inl a ↦ let x = eqb-true c.tag 2 a in omega arith
      | inr a ↦ let x = eqb-true c.tag 1 (and_parts (eqb c.tag 1) _ a).0 in omega arith
    ]

-- the cell's variable, and how many there are with it
order_numbered_cell : (n : ℕ) (w : List ℕ) (ws : List (List ℕ)) (c : Cell) → (c.tag ≡ 0 → c.value ≤ n)
    → (((numbered w ws c).tag ≡ 0 → (numbered w ws c).value ≤ n)) × (vars_after n (numbered w ws c) ≡ vars_after n c)
order_numbered_cell n w ws c h =
    cond_both (is_named c) (valued (place_of w ws) c) c (λ x. ((x.tag ≡ 0 → x.value ≤ n)) × (vars_after n x ≡ vars_after n c))
    (λ e. let f = named_no_variable c e in (λ t. absurd (f t), vars_none n (valued (place_of w ws) c) f ∙ sym (vars_none n c f)))
    (λ e. (h, refl))

order_numbered : (n : ℕ) (text : List ℕ) (ws : List (List ℕ)) (cs : List Cell) (ss : List Span) → InOrder n cs → InOrder n (numbered_all text ws cs ss)
unfolding numbered_all
order_numbered n text ws [] ss o = tt
order_numbered n text ws (c ∷ cs) [] o = o
order_numbered n text ws (c ∷ cs) (s ∷ ss) o =
    let w = word_at text s in
    let x = order_numbered_cell n w ws c o.0 in
    (x.0, subst (λ m. InOrder m (numbered_all text (noted w ws c) cs ss)) (sym x.1) (order_numbered (vars_after n c) text (noted w ws c) cs ss o.1))

pub spelled_numbered : (h : ℕ) (text : List ℕ) (ws : List (List ℕ)) (cs : List Cell) (ss : List Span) → length ws ≤ 65000 → Spelled h cs → Spelled h (numbered_all text ws cs ss)
spelled_numbered h text ws cs ss l p =
    let f = p.few in
    let m = numbered_length text ws cs ss in
    let o = order_numbered 0 text ws cs ss p.in_order in
    let few : length (numbered_all text ws cs ss) ≤ 32 = omega arith in
    record {
      count = p.count;
      goal_list = goals_numbered 0 0 (h + p.count) text ws cs ss (omega arith) p.goal_list;
      eight = p.eight;
      few = few;
      in_order = o;
      low = low_order (numbered_all text ws cs ss) few o;
    }
