-- A token that makes a cell keeps the cells a goal list.
use Rattle.std.proofs.Common.{◌≡◌, ℕ, suc, ◌+◌, ◌-◌, ◌<◌, ◌≤◌, min, true, false, cond, eqb, ltb, leb, ◌≢◌, List, [], ◌∷◌, ◌++◌, length, get_or, drop, set, Some, sym, refl, ap, ◌∙◌, subst, inl, inr, arith}
use Rattle.std.proofs.lemmas.List.{length-set, length_push, get_or_append_left, get_or_at, get_or_push, get_or-set_same, get_or-set_other, set_at, drop-append-le, drop-set-lt}
use Rattle.std.proofs.lemmas.Bool.{cases_Bool, cond-true, cond-false, leb-false, lt-ltb, ne_eqb, and_from, true≢false}
use Rattle.terms.specs.declared.Cell.{Cell}
use Rattle.terms.specs.Shape.{skip, goals, term_cell, goal_cell}
use Rattle.draft.specs.declared.grammar.Due.TheVariants.{Head, Argument, NameEnd, TermEnd}
use Rattle.draft.specs.declared.Bracket.{Bracket}
use Rattle.lexis.specs.declared.token.Span.{Span}
use Rattle.draft.specs.Drafts.{const_cell, symbol_cell}
use Rattle.draft.specs.Sketch.{Sketch, no_cell, no_bracket, innermost, one_more, with_arity, recelled, rebracketed, with_cell, full, celled, argued, argued_by, goaled}
use Rattle.draft.proofs.Spelling.{skip_push, skip_swap_after, goals_swap, goals_push}
use Rattle.draft.proofs.States.{function, unstacked, Nested, Ended, Waiting, State, Ordered, Sound, ended_weak, ordered_push, ordered_set}

term_function : (n : ℕ) → 0 < n → n < 9 → term_cell (function n) ≡ true
term_function n h k = and_from (ltb 0 n) _ (lt-ltb 0 n h) (and_from (ltb n 9) _ (lt-ltb n 9 k) refl)

goal_function : (n : ℕ) → n < 9 → goal_cell (function n) ≡ true
goal_function n k = and_from (ltb n 9) _ (lt-ltb n 9 k) refl

-- the outer brackets, with one argument more of the innermost
nested_swap : (cs ys : List Cell) (p k : ℕ) (x o : Cell) (bs : List Bracket) → k ≤ p → p < length cs → skip x.arity (drop (suc p) cs) ≡ Some []
    → term_cell o ≡ true → skip o.arity (drop (suc p) cs ++ ys) ≡ Some [] → Nested (set cs p x) k bs → Nested (set cs p o ++ ys) k bs
nested_swap cs ys p k x o [] h l a t b n = tt
nested_swap cs ys p k x o (d ∷ ds) h l a t b n =
    let e = n.0 in
    let u : d.cell ≢ p = λ z. omega arith in
    let m = length-set cs p o in (
      e,
      get_or_append_left (set cs p o) ys no_cell d.cell (omega arith) ∙ (get_or-set_other cs p d.cell o no_cell u ∙ (sym (get_or-set_other cs p d.cell x no_cell u) ∙ n.1)),
      skip_swap_after d.cell d.args p cs ys x o (omega arith) l n.2 a t b,
      nested_swap cs ys p d.cell x o ds (omega arith) l a t b n.3,
    )

-- the sketch with the last cell c after those that s had
pub record Pushed (h : ℕ) (c : Cell) (s s' : Sketch) : Type 0 where
  pub ordered : Ordered s'
  pub ended : Ended h (length s.cells) s'
  pub long : length s'.cells ≡ length s.cells + 1
  pub cell : get_or s'.cells (length s.cells) no_cell ≡ c

pub pushed_term : (h : ℕ) (c : Cell) (s s' : Sketch) → Pushed h c s s' → Ordered s' × State h TermEnd s'
pushed_term h c s s' p = (p.ordered, ended_weak h _ _ s' (let l = p.long in omega arith) p.ended)

pub pushed_atom : (h : ℕ) (s s' : Sketch) → Pushed h (const_cell 2 0) s s' → Ordered s' × State h NameEnd s'
pushed_atom h s s' p = (p.ordered, record { place = length s.cells; long = p.long; ended = p.ended; name = inl p.cell })

pub pushed_symbol : (h : ℕ) (s s' : Sketch) → Pushed h (symbol_cell 0) s s' → Ordered s' × State h NameEnd s'
pushed_symbol h s s' p = (p.ordered, record { place = length s.cells; long = p.long; ended = p.ended; name = inr p.cell })

-- where no limit is passed the cell is kept
pub celled_is : (c : Cell) (w : Span) (s s' : Sketch) → celled c w s ≡ s' → s'.over ≡ false → (length s.cells < 32) × (s.over ≡ false) × (with_cell c w s ≡ s')
celled_is c w s s' e o =
    elim (cases_Bool (leb 32 (length s.cells))) [
      | inl b ↦ absurd (true≢false (ap (λ (y : Sketch). y.over) (sym (cond-true (leb 32 (length s.cells)) (full s) (with_cell c w s) b) ∙ e) ∙ o))
      | inr b ↦
          let x : with_cell c w s ≡ s' = sym (cond-false (leb 32 (length s.cells)) (full s) (with_cell c w s) b) ∙ e in
          (leb-false 32 (length s.cells) b, ap (λ (y : Sketch). y.over) x ∙ o, x)
    ]

-- the head
pub head_more : (h : ℕ) (s s' : Sketch) (w : Span) → Sound h Head s → celled (symbol_cell 0) w s ≡ s' → s'.over ≡ false → Pushed h (symbol_cell 0) s s'
head_more h s s' w i e o =
    let x = celled_is (symbol_cell 0) w s s' e o in
    let y = i x.1 in
    let z = y.1 in
    let g : h + s.goals ≡ 1 = omega (arith, z.0, z.3) in
    subst (Pushed h (symbol_cell 0) s) x.2
    (record {
      ordered = ordered_push (symbol_cell 0) w s y.0 x.0 (λ t. omega arith);
      ended = record { stack = []; brackets = z.2; spelled = ap (λ cs. goals 0 0 (cs ++ symbol_cell 0 ∷ [])) z.1 ∙ ap Some (sym g); nested = tt };
      long = length_push s.cells (symbol_cell 0);
      cell = get_or_push s.cells (symbol_cell 0) no_cell (length s.cells) refl;
    })

-- a body goal
pub goal_more : (h : ℕ) (s s' : Sketch) (w : Span) → (s.over ≡ false → Ordered s × ((s.brackets ≡ []) × (goals 0 0 s.cells ≡ Some (h + s.goals))))
    → celled (symbol_cell 0) w (goaled s) ≡ s' → s'.over ≡ false → Pushed h (symbol_cell 0) s s'
goal_more h s s' w i e o =
    let x = celled_is (symbol_cell 0) w (goaled s) s' e o in
    elim (cases_Bool (leb 8 s.goals)) [
      | inl b ↦ absurd (true≢false (sym (cond-true (leb 8 s.goals) true s.over b) ∙ x.1))
      | inr b ↦
          let y = i (sym (cond-false (leb 8 s.goals) true s.over b) ∙ x.1) in
          let g : (goaled s).goals ≡ s.goals + 1 = cond-false (leb 8 s.goals) s.goals (s.goals + 1) b in
          let l = leb-false 8 s.goals b in
          let m : (goaled s).goals ≤ 8 = omega arith in
          let a : Ordered (goaled s) = record { in_order = y.0.in_order; vars = y.0.vars; few = y.0.few; eight = m } in
          let q : h + s.goals + 1 ≡ h + (goaled s).goals = omega arith in
          subst (Pushed h (symbol_cell 0) s) x.2
          (record {
            ordered = ordered_push (symbol_cell 0) w (goaled s) a x.0 (λ t. omega arith);
            ended = record { stack = []; brackets = y.1.0; spelled = goals_push 0 0 (h + s.goals) s.cells y.1.1 ∙ ap Some q; nested = tt };
            long = length_push s.cells (symbol_cell 0);
            cell = get_or_push s.cells (symbol_cell 0) no_cell (length s.cells) refl;
          })
    ]

-- one argument more of the innermost bracket and of its function
abbrev bumped : Bracket → List Bracket → Sketch → Sketch
bumped b bs s = recelled (set s.cells b.cell (function (b.args + 1))) (rebracketed (bs ++ (record { cell = b.cell; args = b.args + 1 }) ∷ []) s)

innermost_is : (bs : List Bracket) (b : Bracket) → innermost (bs ++ b ∷ []) ≡ b
innermost_is bs b = get_or_at bs b [] no_bracket (length (bs ++ b ∷ []) - 1) (let l = length_push bs b in omega arith)

argued_is : (s : Sketch) (bs : List Bracket) (b : Bracket) → s.brackets ≡ bs ++ b ∷ [] → get_or s.cells b.cell no_cell ≡ function b.args → b.args < 8 → argued s ≡ bumped b bs s
argued_is s bs b e f l =
    let n = ap length e ∙ length_push bs b in
    let m : min b.args 7 + 1 ≡ b.args + 1 = omega arith in
    let i : innermost s.brackets ≡ b = ap innermost e ∙ innermost_is bs b in
    let q : length bs ≡ length s.brackets - 1 = omega arith in
    cond-false (eqb (length s.brackets) 0) s (argued_by (one_more (innermost s.brackets)) s) (ne_eqb (length s.brackets) 0 (λ z. omega arith))
    ∙ (ap (λ x. argued_by (one_more x) s) i
    ∙ (ap (λ k. argued_by (record { cell = b.cell; args = k }) s) m
    ∙ (ap (λ x. recelled (set s.cells b.cell (with_arity (b.args + 1) x)) (rebracketed (set s.brackets (length s.brackets - 1) (record { cell = b.cell; args = b.args + 1 })) s)) f
    ∙ ap (λ x. recelled (set s.cells b.cell (function (b.args + 1))) (rebracketed x s))
    (ap (λ x. set x (length s.brackets - 1) (record { cell = b.cell; args = b.args + 1 })) e ∙ set_at bs b [] (record { cell = b.cell; args = b.args + 1 }) (length s.brackets - 1) q))))

pub argued_over : (s : Sketch) → (argued s).over ≡ s.over
argued_over s =
    elim (eqb (length s.brackets) 0) as (λ b. (cond b s (argued_by (one_more (innermost s.brackets)) s)).over ≡ s.over) [ true ↦ refl | false ↦ refl ]

not_variable : (c : Cell) (n : ℕ) → c ≡ function n → c.tag ≡ 0 → ⊥
not_variable c n e t = let z = ap (λ (x : Cell). x.tag) e in omega arith

-- one cell after the innermost bracket's arguments
ended_argument : (h : ℕ) (c : Cell) (w : Span) (s : Sketch) (a : Waiting h s) → a.bracket.args < 8 → term_cell c ≡ true → c.arity ≡ 0
    → Ended h (length s.cells) (with_cell c w (bumped a.bracket (unstacked a.outer) s))
ended_argument h c w s a l t z =
    let b = a.bracket in
    let p = b.cell in
    let f = function (b.args + 1) in
    let ys = c ∷ [] in
    let in-x : skip a.other.arity (drop (suc p) s.cells) ≡ Some [] = ap (λ n. skip n (drop (suc p) s.cells)) a.arity ∙ a.terms in
    let more : skip (b.args + 1) (drop (suc p) s.cells ++ ys) ≡ Some [] = skip_push b.args (drop (suc p) s.cells) c a.terms t z in
    let term : term_cell f ≡ true = term_function (b.args + 1) (omega arith) (omega arith) in
    let goal : goal_cell f ≡ true = goal_function (b.args + 1) (omega arith) in
    let m = length-set s.cells p f in
    let inside = a.inside in
    let dropped : drop (suc p) (set s.cells p f ++ ys) ≡ drop (suc p) s.cells ++ ys =
    drop-append-le (suc p) (set s.cells p f) ys (omega arith) ∙ ap (λ xs. xs ++ ys) (drop-set-lt (suc p) s.cells p f (omega arith)) in
    record {
      stack = (record { cell = p; args = b.args + 1 }) ∷ a.outer;
      brackets = refl;
      spelled = goals_swap 0 0 (h + s.goals) p s.cells ys a.other f inside a.spelled in-x term goal more;
      nested = (
        inside,
        get_or_append_left (set s.cells p f) ys no_cell p (omega arith) ∙ get_or-set_same s.cells p f no_cell inside,
        ap (skip (b.args + 1)) dropped ∙ more,
        nested_swap s.cells ys p p a.other f a.outer (omega arith) inside in-x term more a.nested,
      );
    }

-- an argument
pub argument_more : (h : ℕ) (c : Cell) (s s' : Sketch) (w : Span) → Sound h Argument s → (innermost s.brackets).args < 8 → term_cell c ≡ true → c.arity ≡ 0
    → (Ordered (argued s) → c.tag ≡ 0 → c.value ≤ (argued s).vars) → celled c w (argued s) ≡ s' → s'.over ≡ false → Pushed h c s s'
argument_more h c s s' w i l t z v e o =
    let x = celled_is c w (argued s) s' e o in
    let y = i (sym (argued_over s) ∙ x.1) in
    let a = y.1 in
    let b = a.bracket in
    let k : b.args < 8 = let q = ap (λ (y : Bracket). y.args) (ap innermost a.brackets ∙ innermost_is (unstacked a.outer) b) in omega arith in
    let g : argued s ≡ bumped b (unstacked a.outer) s = argued_is s (unstacked a.outer) b a.brackets a.cell k in
    let u : Ordered (bumped b (unstacked a.outer) s) = ordered_set s b.cell (function (b.args + 1)) _ y.0 (not_variable _ b.args a.cell) (λ n. omega arith) in
    let m = length-set s.cells b.cell (function (b.args + 1)) in
    let few = ap (λ (y : Sketch). length y.cells) g in
    let same = ap (λ (y : Sketch). y.vars) g in
    let low = v (subst Ordered (sym g) u) in
    subst (Pushed h c s) (sym (ap (with_cell c w) g) ∙ x.2)
    (record {
      ordered = ordered_push c w (bumped b (unstacked a.outer) s) u (let r = x.0 in omega arith) (λ n. let r = low n in omega arith);
      ended = ended_argument h c w s a k t z;
      long = length_push (set s.cells b.cell (function (b.args + 1))) c ∙ ap (λ n. n + 1) m;
      cell = get_or_push (set s.cells b.cell (function (b.args + 1))) c no_cell (length s.cells) m;
    })
