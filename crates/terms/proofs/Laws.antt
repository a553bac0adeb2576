use Rattle.std.specs.Cmp.Derive.{one_truth}
use Rattle.std.proofs.lemmas.List.Elements.{All-nil, All-cons, All-head, All-tail}
use Rattle.std.proofs.Common.{subst, ◌≡◌, ◌↔◌, All, IsTrue, ℕ, zero, suc, ◌+◌, ◌-◌, ◌<◌, ◌≤◌, Bool, true, false, cond, List, [], ◌∷◌, length, get_or, drop, Some, None, Option, sym, refl, ap, ◌∙◌, le_of_suc-le-suc, not-suc-le-zero, add-zero, add_assoc, suc-add, zero-add, arith}
use Rattle.std.proofs.lemmas.List.{at_drop_more, at_drop_all, length-drop}
use Rattle.std.proofs.lemmas.Bool.{cond-true, cond-false}
use Rattle.terms.specs.declared.Cell.{Cell}
use Rattle.terms.specs.Shape.{skip, term_cell, goal_cell, goals, low_cell, all_low}

some_not_none : {A : Type 0} (x : A) → Some x ≡ None → ⊥
some_not_none x e = let z : ◌≡◌ {A = ℕ} 0 1 = cc in omega arith

on_some : (b : Bool) (x y z : Option (List Cell)) (m : List Cell) → (x ≡ Some m → y ≡ z) → cond b x None ≡ Some m → cond b y None ≡ z
on_some true x y z m f e = f e
on_some false x y z m f e = absurd (some_not_none m (sym e))

on_none : (b : Bool) (x y : Option (List Cell)) → (x ≡ None → y ≡ None) → cond b x None ≡ None → cond b y None ≡ None
on_none true x y f e = f e
on_none false x y f e = refl

-- some terms and then others
pub skip_more : (m n : ℕ) (cs mid : List Cell) → skip m cs ≡ Some mid → skip (m + n) cs ≡ skip n mid
skip_more zero n cs mid e = ap (λ k. skip k cs) (zero-add n) ∙ ap (skip n) (cc)
skip_more (suc m) n [] mid e = absurd (some_not_none mid (sym e))
skip_more (suc m) n (c ∷ cs) mid e =
    ap (λ k. skip k (c ∷ cs)) (suc-add m n)
    ∙ on_some (term_cell c) (skip (c.arity + m) cs) (skip (c.arity + (m + n)) cs) (skip n mid) mid
    (λ h. ap (λ k. skip k cs) (sym (add_assoc c.arity m n)) ∙ skip_more (c.arity + m) n cs mid h) e

pub skip_none : (m n : ℕ) (cs : List Cell) → skip m cs ≡ None → skip (m + n) cs ≡ None
skip_none zero n cs e = absurd (some_not_none cs e)
skip_none (suc m) n [] e = ap (λ k. skip k []) (suc-add m n)
skip_none (suc m) n (c ∷ cs) e =
    ap (λ k. skip k (c ∷ cs)) (suc-add m n)
    ∙ on_none (term_cell c) (skip (c.arity + m) cs) (skip (c.arity + (m + n)) cs)
    (λ h. ap (λ k. skip k cs) (sym (add_assoc c.arity m n)) ∙ skip_none (c.arity + m) n cs h) e

-- the first cell begins a term, or does not
pub skip_first : (c : Cell) (cs : List Cell) → term_cell c ≡ true → skip 1 (c ∷ cs) ≡ skip c.arity cs
skip_first c cs f = cond-true (term_cell c) _ _ f ∙ ap (λ k. skip k cs) (add-zero c.arity)

-- each term takes a cell at least
pub skip_shorter : (n : ℕ) (cs left : List Cell) → skip n cs ≡ Some left → length left + n ≤ length cs
skip_shorter zero cs left e = let s : cs ≡ left = cc in subst (λ xs. length left + 0 ≤ length xs) (sym s) (omega arith)
skip_shorter (suc n) [] left e = absurd (some_not_none left (sym e))
skip_shorter (suc n) (c ∷ cs) left e = step (term_cell c) e (skip_shorter (c.arity + n) cs left)
  where
    step : (b : Bool) → cond b (skip (c.arity + n) cs) None ≡ Some left → (skip (c.arity + n) cs ≡ Some left → length left + (c.arity + n) ≤ length cs)
        → length left + suc n ≤ length (c ∷ cs)
    step true f h = let l = h f in omega arith
    step false f h = absurd (some_not_none left (sym f))

-- n terms, of which the first is none
pub args_none : (n : ℕ) (cs : List Cell) → (n ≡ 0 → ⊥) → skip 1 cs ≡ None → skip n cs ≡ None
args_none n cs z e = let k : n ≡ 1 + (n - 1) = omega arith in ap (λ m. skip m cs) k ∙ skip_none 1 (n - 1) cs e

pub args_some : (n : ℕ) (cs mid : List Cell) → (n ≡ 0 → ⊥) → skip 1 cs ≡ Some mid → skip n cs ≡ skip (n - 1) mid
args_some n cs mid z e = let k : n ≡ 1 + (n - 1) = omega arith in ap (λ m. skip m cs) k ∙ skip_more 1 (n - 1) cs mid e

-- each term has at least one cell
pub skip_short : (n : ℕ) (cs : List Cell) → length cs < n → skip n cs ≡ None
skip_short zero cs h = absurd (not-suc-le-zero h)
skip_short (suc n) [] h = refl
skip_short (suc n) (c ∷ cs) h = step (term_cell c) (skip_short (c.arity + n) cs (omega (arith, le_of_suc-le-suc h)))
  where
    step : (b : Bool) → skip (c.arity + n) cs ≡ None → cond b (skip (c.arity + n) cs) None ≡ None
    step true e = e
    step false e = refl

-- Terms that are due, cell by cell.

pub skip_no_term : (due at : ℕ) (cs : List Cell) (d : Cell) → 0 < due → at < length cs → term_cell (get_or cs at d) ≡ false → skip due (drop at cs) ≡ None
skip_no_term due at cs d p h f =
    let e : due ≡ suc (due - 1) = omega arith in
    ap (λ m. skip m (drop at cs)) e ∙ (at_drop_more (skip (suc (due - 1))) cs at d h ∙ cond-false (term_cell (get_or cs at d)) _ _ f)

pub skip_due : (due at : ℕ) (cs : List Cell) → length cs - at < due → skip due (drop at cs) ≡ None
skip_due due at cs h = skip_short due (drop at cs) (simp length-drop (omega arith))

-- Two terms.

-- The number of goals.

-- some terms are read first
pub goals_more : (k m n : ℕ) (cs mid : List Cell) → skip m cs ≡ Some mid → goals k (m + n) cs ≡ goals k n mid
goals_more k zero n cs mid e = let s : cs ≡ mid = cc in ap (λ j. goals k j cs) (zero-add n) ∙ ap (goals k n) s
goals_more k (suc m) n [] mid e = absurd (some_not_none mid (sym e))
goals_more k (suc m) n (c ∷ cs) mid e =
    ap (λ j. goals k j (c ∷ cs)) (suc-add m n)
    ∙ on-count (term_cell c) (skip (c.arity + m) cs) (goals k (c.arity + (m + n)) cs) (goals k n mid) mid
    (λ h. ap (λ j. goals k j cs) (sym (add_assoc c.arity m n)) ∙ goals_more k (c.arity + m) n cs mid h) e
  where
    on-count : (b : Bool) (x : Option (List Cell)) (y z : Option ℕ) (m : List Cell) → (x ≡ Some m → y ≡ z) → cond b x None ≡ Some m → cond b y None ≡ z
    on-count true x y z m f e = f e
    on-count false x y z m f e = absurd (some_not_none m (sym e))

pub goals_none : (k m n : ℕ) (cs : List Cell) → skip m cs ≡ None → goals k (m + n) cs ≡ None
goals_none k zero n cs e = absurd (some_not_none cs e)
goals_none k (suc m) n [] e = ap (λ j. goals k j []) (suc-add m n)
goals_none k (suc m) n (c ∷ cs) e =
    ap (λ j. goals k j (c ∷ cs)) (suc-add m n)
    ∙ on-none-count (term_cell c) (skip (c.arity + m) cs) (goals k (c.arity + (m + n)) cs)
    (λ h. ap (λ j. goals k j cs) (sym (add_assoc c.arity m n)) ∙ goals_none k (c.arity + m) n cs h) e
  where
    on-none-count : (b : Bool) (x : Option (List Cell)) (y : Option ℕ) → (x ≡ None → y ≡ None) → cond b x None ≡ None → cond b y None ≡ None
    on-none-count true x y f e = f e
    on-none-count false x y f e = refl

-- each term that is due has at least one cell
pub goals_short : (k n : ℕ) (cs : List Cell) → length cs < n → goals k n cs ≡ None
goals_short k zero cs h = absurd (not-suc-le-zero h)
goals_short k (suc n) [] h = refl
goals_short k (suc n) (c ∷ cs) h = step (term_cell c) (goals_short k (c.arity + n) cs (omega (arith, le_of_suc-le-suc h)))
  where
    step : (b : Bool) → goals k (c.arity + n) cs ≡ None → cond b (goals k (c.arity + n) cs) None ≡ None
    step true e = e
    step false e = refl

-- at the end of the cells
pub goals_end : (k n at : ℕ) (cs : List Cell) → length cs ≤ at → n ≡ 0 → goals k n (drop at cs) ≡ Some k
goals_end k n at cs h e = ap (λ j. goals k j (drop at cs)) e ∙ at_drop_all (goals k 0) cs at h

-- the first cell begins a goal
pub goals_first : (k : ℕ) (c : Cell) (cs : List Cell) → goal_cell c ≡ true → goals k 0 (c ∷ cs) ≡ goals (k + 1) c.arity cs
goals_first k c cs f = cond-true (goal_cell c) _ _ f

-- the next cell begins a goal, or does not
pub goals_goal : (k at : ℕ) (cs : List Cell) (d : Cell) → at < length cs → goal_cell (get_or cs at d) ≡ true → goals k 0 (drop at cs) ≡ goals (k + 1) (get_or cs at d).arity (drop (at + 1) cs)
goals_goal k at cs d h f = at_drop_more (goals k 0) cs at d h ∙ cond-true (goal_cell (get_or cs at d)) _ _ f

pub goals_no_goal : (k at : ℕ) (cs : List Cell) (d : Cell) → at < length cs → goal_cell (get_or cs at d) ≡ false → goals k 0 (drop at cs) ≡ None
goals_no_goal k at cs d h f = at_drop_more (goals k 0) cs at d h ∙ cond-false (goal_cell (get_or cs at d)) _ _ f

-- the next cell is one of a term that is due, or is not
pub goals_term : (k due at : ℕ) (cs : List Cell) (d : Cell) → 0 < due → at < length cs → term_cell (get_or cs at d) ≡ true
    → goals k due (drop at cs) ≡ goals k (due - 1 + (get_or cs at d).arity) (drop (at + 1) cs)
goals_term k due at cs d p h f =
    let e : due ≡ suc (due - 1) = omega arith in
    let s : (get_or cs at d).arity + (due - 1) ≡ due - 1 + (get_or cs at d).arity = omega arith in
    ap (λ m. goals k m (drop at cs)) e
    ∙ (at_drop_more (goals k (suc (due - 1))) cs at d h
    ∙ (cond-true (term_cell (get_or cs at d)) _ _ f ∙ ap (λ m. goals k m (drop (at + 1) cs)) s))

pub goals_no_term : (k due at : ℕ) (cs : List Cell) (d : Cell) → 0 < due → at < length cs → term_cell (get_or cs at d) ≡ false → goals k due (drop at cs) ≡ None
goals_no_term k due at cs d p h f =
    let e : due ≡ suc (due - 1) = omega arith in
    ap (λ m. goals k m (drop at cs)) e ∙ (at_drop_more (goals k (suc (due - 1))) cs at d h ∙ cond-false (term_cell (get_or cs at d)) _ _ f)

pub goals_due : (k due at : ℕ) (cs : List Cell) → length cs - at < due → goals k due (drop at cs) ≡ None
goals_due k due at cs h = goals_short k due (drop at cs) (simp length-drop (omega arith))

-- a goal's arguments are read, or are none
pub goals_read : (k n : ℕ) (cs mid : List Cell) → skip n cs ≡ Some mid → goals k n cs ≡ goals k 0 mid
goals_read k n cs mid e = ap (λ j. goals k j cs) (sym (add-zero n)) ∙ goals_more k n 0 cs mid e

pub goals_unread : (k n : ℕ) (cs : List Cell) → skip n cs ≡ None → goals k n cs ≡ None
goals_unread k n cs e = ap (λ j. goals k j cs) (sym (add-zero n)) ∙ goals_none k n 0 cs e

-- a variable's number is at most 31
abbrev pub IsLow : Cell → Type 0
IsLow c = IsTrue (low_cell c)

low_each : (cs : List Cell) → all_low cs ≡ true → All IsLow cs
low_each [] e = All-nil IsLow
low_each (c ∷ cs) e =
    elim (low_cell c) as (λ b. low_cell c ≡ b → cond b (all_low cs) false ≡ true → All IsLow (c ∷ cs)) [
      | true ↦ λ l f. All-cons IsLow c cs l (low_each cs f)
      | false ↦ λ l f. cc
    ] refl e

each_low : (cs : List Cell) → All IsLow cs → all_low cs ≡ true
each_low [] a = refl
each_low (c ∷ cs) a = cond-true (low_cell c) _ _ (All-head IsLow c cs a) ∙ each_low cs (All-tail IsLow c cs a)

pub all_low_of : (b : Bool) (cs : List Cell) → (IsTrue b ↔ All IsLow cs) → b ≡ all_low cs
all_low_of b cs e = one_truth b (all_low cs) (λ t. each_low cs (e.0 t)) (λ t. e.1 (low_each cs t))
