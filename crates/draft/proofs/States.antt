-- What holds of a clause or question as far as it is read: its cells are a goal list, each open bracket counted as it stands.
use Rattle.std.proofs.Common.{◌≡◌, ℕ, suc, ◌+◌, ◌<◌, ◌≤◌, false, ◌⊎◌, List, [], ◌∷◌, ◌++◌, length, get_or, drop, set, Some, sym, ap, ◌∙◌, arith}
use Rattle.std.proofs.lemmas.List.{length-set, length_push}
use Rattle.terms.specs.declared.Cell.{Cell}
use Rattle.terms.specs.Shape.{skip, goals}
use Rattle.clauses.specs.Clauses.{vars_after, InOrder}
use Rattle.draft.specs.declared.grammar.Due.{Due}
use Rattle.draft.specs.declared.grammar.Due.TheVariants.{Head, Goal, GoalOrDot, Argument, NameEnd, TermEnd, Nothing}
use Rattle.draft.specs.declared.Bracket.{Bracket}
use Rattle.lexis.specs.declared.token.Span.{Span}
use Rattle.draft.specs.Drafts.{const_cell, symbol_cell}
use Rattle.draft.specs.Sketch.{Sketch, no_cell, recelled, rebracketed, with_cell}
use Rattle.draft.proofs.Order.{vars_in, vars_push, order_push, vars_set, order_set}

-- a function or predicate that is not numbered yet
abbrev pub function : ℕ → Cell
function n = record { tag = 2; form = 0; arity = n; value = 0 }

-- brackets with the innermost last, from a list with the innermost first
abbrev pub unstacked : List Bracket → List Bracket
unstacked [] = []
unstacked (b ∷ bs) = unstacked bs ++ b ∷ []

-- each bracket stands after its function, before the place k, and its arguments so far are whole terms that reach the end; the outer brackets come before it
abbrev pub Nested : List Cell → ℕ → List Bracket → Type 0
Nested cs k [] = Unit {0}
Nested cs k (b ∷ bs) =
    (b.cell < k) × (get_or cs b.cell no_cell ≡ function b.args) × (skip b.args (drop (suc b.cell) cs) ≡ Some []) × Nested cs b.cell bs

-- a term has ended; h is 1 where a head is read too, which is no body goal
pub record Ended (h k : ℕ) (s : Sketch) : Type 0 where
  pub stack : List Bracket
  pub brackets : s.brackets ≡ unstacked stack
  pub spelled : goals 0 0 s.cells ≡ Some (h + s.goals)
  pub nested : Nested s.cells k stack

-- a name has ended, which may become a function
pub record Named (h : ℕ) (s : Sketch) : Type 0 where
  pub place : ℕ
  pub long : length s.cells ≡ place + 1
  pub ended : Ended h place s
  pub name : (get_or s.cells place no_cell ≡ const_cell 2 0) ⊎ (get_or s.cells place no_cell ≡ symbol_cell 0)

-- an argument of the innermost bracket is due: the cells are a goal list with another cell in the place of its function, which has none before its first argument
pub record Waiting (h : ℕ) (s : Sketch) : Type 0 where
  pub bracket : Bracket
  pub outer : List Bracket
  pub brackets : s.brackets ≡ unstacked outer ++ bracket ∷ []
  pub inside : bracket.cell < length s.cells
  pub cell : get_or s.cells bracket.cell no_cell ≡ function bracket.args
  pub terms : skip bracket.args (drop (suc bracket.cell) s.cells) ≡ Some []
  pub other : Cell
  pub arity : other.arity ≡ bracket.args
  pub spelled : goals 0 0 (set s.cells bracket.cell other) ≡ Some (h + s.goals)
  pub nested : Nested (set s.cells bracket.cell other) bracket.cell outer

abbrev pub State : ℕ → Due → Sketch → Type 0
State h Head s = (h ≡ 1) × (s.cells ≡ []) × (s.brackets ≡ []) × (s.goals ≡ 0)
State h Goal s = (s.brackets ≡ []) × (goals 0 0 s.cells ≡ Some (h + s.goals))
State h GoalOrDot s = (h ≡ 0) × (s.brackets ≡ []) × (goals 0 0 s.cells ≡ Some (h + s.goals))
State h Argument s = Waiting h s
State h NameEnd s = Named h s
State h TermEnd s = Ended h (length s.cells) s
State h Nothing s = goals 0 0 s.cells ≡ Some (h + s.goals)

-- the variables are in order, and no limit is passed
pub record Ordered (s : Sketch) : Type 0 where
  pub in_order : InOrder 0 s.cells
  pub vars : s.vars ≡ vars_in 0 s.cells
  pub few : length s.cells ≤ 32
  pub eight : s.goals ≤ 8

-- what is over a limit is refused later, whatever its cells
abbrev pub Sound : ℕ → Due → Sketch → Type 0
Sound h due s = s.over ≡ false → Ordered s × State h due s

pub nested_weak : (cs : List Cell) (k m : ℕ) (bs : List Bracket) → k ≤ m → Nested cs k bs → Nested cs m bs
nested_weak cs k m [] h n = tt
nested_weak cs k m (b ∷ bs) h n = let l = n.0 in (omega arith, n.1, n.2, n.3)

pub ended_weak : (h k m : ℕ) (s : Sketch) → k ≤ m → Ended h k s → Ended h m s
ended_weak h k m s l e = record { stack = e.stack; brackets = e.brackets; spelled = e.spelled; nested = nested_weak s.cells k m e.stack l e.nested }

-- one cell more
pub ordered_push : (c : Cell) (w : Span) (s : Sketch) → Ordered s → length s.cells < 32 → (c.tag ≡ 0 → c.value ≤ s.vars) → Ordered (with_cell c w s)
ordered_push c w s o l h =
    record {
      in_order = order_push 0 s.cells c o.in_order (λ t. let a = h t in let b = o.vars in omega arith);
      vars = ap (λ n. vars_after n c) o.vars ∙ sym (vars_push 0 s.cells c);
      few = simp length_push (omega arith);
      eight = o.eight;
    }

-- another symbol in the place of a name
pub ordered_set : (s : Sketch) (p : ℕ) (c : Cell) (bs : List Bracket) → Ordered s → ((get_or s.cells p no_cell).tag ≡ 0 → ⊥) → (c.tag ≡ 0 → ⊥) → Ordered (recelled (set s.cells p c) (rebracketed bs s))
ordered_set s p c bs o h k =
    record {
      in_order = order_set 0 p s.cells c no_cell h k o.in_order;
      vars = o.vars ∙ sym (vars_set 0 p s.cells c no_cell h k);
      few = let l = length-set s.cells p c in let f = o.few in omega arith;
      eight = o.eight;
    }
