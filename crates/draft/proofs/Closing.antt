-- Brackets, commas and the neck keep the cells a goal list.
use Rattle.std.proofs.Common.{◌≡◌, ℕ, suc, ◌+◌, ◌-◌, true, false, ltb, leb, ◌⊎◌, List, [], ◌∷◌, ◌++◌, length, get_or, take, set, Some, Ok, Err, Result, sym, ap, ◌∙◌, subst, inl, inr, arith}
use Rattle.std.proofs.lemmas.List.{length-set, length_push, get_or-set_same, set-set, set-get_or, drop_all, take-append-le, take_all}
use Rattle.std.proofs.lemmas.Bool.{cases_Bool, cond-true, cond-false, ltb-true, ltb-false}
use Rattle.terms.specs.declared.Cell.{Cell}
use Rattle.terms.specs.Shape.{goals}
use Rattle.lexis.specs.declared.fault.Fault.{Fault}
use Rattle.lexis.specs.declared.fault.Cause.TheVariants.{Question as TooLarge}
use Rattle.draft.specs.declared.grammar.Due.TheVariants.{Goal, Argument, NameEnd, TermEnd, Nothing}
use Rattle.draft.specs.declared.Bracket.{Bracket}
use Rattle.draft.specs.Drafts.{const_cell, symbol_cell}
use Rattle.draft.specs.Sketch.{Sketch, no_cell, with_arguments, opened, opened_at, opened_in, closed, necked}
use Rattle.draft.proofs.States.{function, unstacked, Nested, Ended, Named, Waiting, Ordered, Sound, nested_weak, ended_weak, ordered_set}
use Rattle.draft.proofs.Refusals.{never}

-- a name is a term
pub name_term : (h : ℕ) (s : Sketch) → Sound h NameEnd s → Sound h TermEnd s
name_term h s i o = let y = i o in let n = y.1 in (y.0, ended_weak h n.place (length s.cells) s (let l = n.long in omega arith) n.ended)

name_arity : (c : Cell) → (c ≡ const_cell 2 0) ⊎ (c ≡ symbol_cell 0) → (c.arity ≡ 0) × (with_arguments c ≡ function 0) × ((c.tag ≡ 0 → ⊥))
name_arity c (inl e) = (ap (λ (x : Cell). x.arity) e, ap with_arguments e, λ t. let z = ap (λ (x : Cell). x.tag) e in omega arith)
name_arity c (inr e) = (ap (λ (x : Cell). x.arity) e, ap with_arguments e, λ t. let z = ap (λ (x : Cell). x.tag) e in omega arith)

waiting_opened : (h : ℕ) (s : Sketch) (n : Named h s) → Waiting h (opened_at n.place s)
waiting_opened h s n =
    let p = n.place in
    let c = get_or s.cells p no_cell in
    let x = name_arity c n.name in
    let f = with_arguments c in
    let l = n.long in
    let m = length-set s.cells p f in
    let back : set (set s.cells p f) p c ≡ s.cells = set-set s.cells p f c ∙ set-get_or s.cells p no_cell in
    record {
      bracket = record { cell = p; args = 0 };
      outer = n.ended.stack;
      brackets = ap (λ bs. bs ++ (record { cell = p; args = 0 }) ∷ []) n.ended.brackets;
      inside = omega arith;
      cell = get_or-set_same s.cells p f no_cell (omega arith) ∙ x.1;
      terms = ap Some (drop_all (suc p) (set s.cells p f) (omega arith));
      other = c;
      arity = x.0;
      spelled = ap (goals 0 0) back ∙ n.ended.spelled;
      nested = subst (λ cs. Nested cs p n.ended.stack) (sym back) n.ended.nested;
    }

-- a bracket behind a name
pub open_more : (h : ℕ) (s s' : Sketch) → Sound h NameEnd s → opened_in s ≡ Ok s' → Sound h Argument s'
open_more h s s' i e o =
    elim (cases_Bool (leb 8192 (length s.brackets))) [
      | inl b ↦ absurd (never _ s' (sym (cond-true (leb 8192 (length s.brackets)) (Err (record { cause = TooLarge; at = s.start })) (Ok (opened s)) b) ∙ e))
      | inr b ↦
          let q : ◌≡◌ {A = Result Sketch Fault} (Ok (opened s)) (Ok s') = sym (cond-false (leb 8192 (length s.brackets)) (Err (record { cause = TooLarge; at = s.start })) (Ok (opened s)) b) ∙ e in
          let x : opened s ≡ s' = cc in
          let y = i (ap (λ (u : Sketch). u.over) x ∙ o) in
          let n = y.1 in
          let p : n.place ≡ length s.cells - 1 = let l = n.long in omega arith in
          let a = name_arity (get_or s.cells n.place no_cell) n.name in
          let v : opened_at n.place s ≡ s' = ap (λ k. opened_at k s) p ∙ x in (
            subst Ordered v (ordered_set s n.place (with_arguments (get_or s.cells n.place no_cell)) _ y.0 a.2 (λ t. omega arith)),
            subst (Waiting h) v (waiting_opened h s n),
          )
    ]

-- an open bracket, or none
none_open : (s : Sketch) (stack : List Bracket) → s.brackets ≡ unstacked stack → ltb 0 (length s.brackets) ≡ false → s.brackets ≡ []
none_open s [] e l = e
none_open s (b ∷ bs) e l = let n = ap length e ∙ length_push (unstacked bs) b in let m = ltb-false 0 (length s.brackets) l in absurd (omega arith)

-- inside a bracket another argument can follow
waiting_comma : (h : ℕ) (s : Sketch) (stack : List Bracket) → s.brackets ≡ unstacked stack → goals 0 0 s.cells ≡ Some (h + s.goals) → Nested s.cells (length s.cells) stack
    → ltb 0 (length s.brackets) ≡ true → Waiting h s
waiting_comma h s [] e g n l = let z = ap (λ (bs : List Bracket). length bs) e in let m = ltb-true 0 (length s.brackets) l in absurd (omega arith)
waiting_comma h s (b ∷ bs) e g n l =
    let c = get_or s.cells b.cell no_cell in
    let same : set s.cells b.cell c ≡ s.cells = set-get_or s.cells b.cell no_cell in
    record {
      bracket = b;
      outer = bs;
      brackets = e;
      inside = n.0;
      cell = n.1;
      terms = n.2;
      other = c;
      arity = ap (λ (x : Cell). x.arity) n.1;
      spelled = ap (goals 0 0) same ∙ g;
      nested = subst (λ cs. Nested cs b.cell bs) (sym same) n.3;
    }

pub comma_more : (h : ℕ) (s : Sketch) → Sound h TermEnd s → ltb 0 (length s.brackets) ≡ true → Sound h Argument s
comma_more h s i l o = let y = i o in let n = y.1 in (y.0, waiting_comma h s n.stack n.brackets n.spelled n.nested l)

ended_closed : (h : ℕ) (s : Sketch) (stack : List Bracket) → s.brackets ≡ unstacked stack → goals 0 0 s.cells ≡ Some (h + s.goals) → Nested s.cells (length s.cells) stack
    → ltb 0 (length s.brackets) ≡ true → Ended h (length s.cells) (closed s)
ended_closed h s [] e g n l = let z = ap (λ (bs : List Bracket). length bs) e in let m = ltb-true 0 (length s.brackets) l in absurd (omega arith)
ended_closed h s (b ∷ bs) e g n l =
    let m = ap length e ∙ length_push (unstacked bs) b in
    let k : length s.brackets - 1 ≡ length (unstacked bs) = omega arith in
    let a = n.0 in
    record {
      stack = bs;
      brackets =
          ap (λ j. take j s.brackets) k
          ∙ (ap (take (length (unstacked bs))) e ∙ (take-append-le (length (unstacked bs)) (unstacked bs) (b ∷ []) (omega arith) ∙ take_all (length (unstacked bs)) (unstacked bs) (omega arith)));
      spelled = g;
      nested = nested_weak s.cells b.cell (length s.cells) bs (omega arith) n.3;
    }

-- the innermost bracket closes
pub close_more : (h : ℕ) (s : Sketch) → Sound h TermEnd s → ltb 0 (length s.brackets) ≡ true → Sound h TermEnd (closed s)
close_more h s i l o =
    let y = i o in
    let n = y.1 in
    (record { in_order = y.0.in_order; vars = y.0.vars; few = y.0.few; eight = y.0.eight }, ended_closed h s n.stack n.brackets n.spelled n.nested l)

-- outside brackets a goal is whole
pub goal_ends : (h : ℕ) (s : Sketch) → Sound h TermEnd s → ltb 0 (length s.brackets) ≡ false → Sound h Goal s
goal_ends h s i l o = let y = i o in let n = y.1 in (y.0, (none_open s n.stack n.brackets l, n.spelled))

pub neck_more : (h : ℕ) (s : Sketch) → Sound h Goal s → Sound h Goal (necked s)
neck_more h s i o = let y = i o in (record { in_order = y.0.in_order; vars = y.0.vars; few = y.0.few; eight = y.0.eight }, y.1)

pub all_ends : (h : ℕ) (s : Sketch) → Sound h Goal s → Sound h Nothing s
all_ends h s i o = let y = i o in (y.0, y.1.1)
