-- A clause, read token by token, is a clause of the grammar.
use Rattle.std.proofs.Common.{◌≡◌, ℕ, zero, suc, ◌+◌, ◌<◌, ◌≤◌, min, Bool, true, false, cond, leb, List, [], ◌∷◌, ◌++◌, length, Ok, sym, refl, ap, ◌∙◌, subst, zero-add, arith}
use Rattle.std.proofs.lemmas.List.{append_assoc, append-nil, length-append}
use Rattle.std.proofs.lemmas.Bool.{or_parts, leb-false}
use Rattle.terms.specs.declared.Cell.{Cell}
use Rattle.typing.specs.Terms.{none}
use Rattle.trees.specs.Tree.{Goal as TreeGoal}
use Rattle.graphs.specs.Flat.{flats, count}
use Rattle.programs.specs.Spelling.{spell_goal, spell_goals}
use Rattle.lexis.specs.Tokens.{token_at, start_at}
use Rattle.lexis.specs.declared.token.Token.{Token}
use Rattle.lexis.specs.declared.token.Kind.{Kind}
use Rattle.lexis.specs.declared.token.Kind.TheVariants.{Name, Variable, Integer, Float, Text, Open, Close, Comma, Dot, Neck, Query, End}
use Rattle.lexis.specs.declared.token.Span.{Span}
use Rattle.names.specs.Places.{place_of}
use Rattle.draft.specs.declared.grammar.Due.{Due}
use Rattle.draft.specs.declared.grammar.Due.TheVariants.{Head, Goal, NameEnd, TermEnd, Nothing}
use Rattle.draft.specs.Drafts.{symbol_cell, cell_of, span_of}
use Rattle.draft.specs.Sketch.{Sketch, with_arity, with_arguments, valued, celled, same_variable, ReadsClause}
use Rattle.grammar.specs.Grammar.{Tokens, word_for, IsGoal, AreGoals, named}
use Rattle.grammar.specs.Grammar.Tokens.{stop, next}
use Rattle.grammar.specs.Grammar.IsGoal.{plain, applied}
use Rattle.grammar.specs.Grammar.AreGoals.{one_goal, more_goals}
use Rattle.grammar.specs.Grammar.IsClause.{fact, rule}
use Rattle.grammar.specs.Laws.{Written}
use Rattle.grammar.proofs.Variables.{Known, known_other}
use Rattle.grammar.proofs.Named.{named_append, tokens_append}
use Rattle.grammar.proofs.Phrases.{name_tail, name_zero, both_plain, phrases, term_open}
use Rattle.grammar.proofs.Phrases.NameTail.{bare, bracketed}
use Rattle.grammar.proofs.States.{state, ok_same, Step, step_of, Run, run_of, stepped, run_state, celled_is, none_some, some_same, finished}

-- a goal was read: its tokens, its cells behind those before, and the rest of the run
pub record GoalRead (text : List ℕ) (number : List ℕ → ℕ) (end : ℕ) (u : Sketch) (st : ℕ) (cs : List Cell) (ss : List Span) (b : Bool) (ws : List (List ℕ)) (at n : ℕ) : Type 0 where
  pub ts : List Token
  pub goal : TreeGoal
  pub vs : List (List ℕ)
  pub left : ℕ
  pub place : ℕ
  pub ds : List Cell
  pub sp : List Span
  pub goals : ℕ
  pub over : Bool
  pub less : left < n
  pub stand : Tokens text at ts place
  pub is : IsGoal text number ws ts goal vs
  pub even : length sp ≡ length ds
  pub spelt : spell_goal goal ≡ named number text ds sp
  pub zeros : ds ≡ named (λ _. 0) text ds sp
  pub known : Known text (cs ++ ds) (ss ++ sp) vs
  pub rest : Run text end u left TermEnd (state st (cs ++ ds) (ss ++ sp) [] (length vs) goals b over) place

-- the name of a goal was read; perhaps its arguments follow
goal_tail : (text : List ℕ) (number : List ℕ → ℕ) (end : ℕ) (u : Sketch) (st : ℕ) (cs : List Cell) (ss : List Span) (g : ℕ) (b o : Bool) (ws : List (List ℕ)) (at n left v : ℕ) (t : Token)
    → t.kind ≡ Name → v ≡ 0 → token_at text at ≡ Ok t → n ≡ suc left → Known text cs ss ws
    → Run text end u left NameEnd (state st (cs ++ symbol_cell v ∷ []) (ss ++ span_of t ∷ []) [] (length ws) g b o) t.end
    → GoalRead text number end u st cs ss b ws at n
goal_tail text number end u st cs ss g b o ws at n left v t tk zv tok c known run =
    let more-known = known_other text cs ss ws (symbol_cell v) (span_of t) refl known in
    elim (name_tail text number end u (left + left) (phrases text number end u (left + left)).1 st cs (symbol_cell v) (ss ++ span_of t ∷ []) [] g b o ws t.end left (omega arith) refl more-known run) [
      | bare r ↦
          record {
            ts = t ∷ [];
            goal = record { symbol = number (word_for text t); arguments = none };
            vs = ws;
            left = left;
            place = t.end;
            ds = symbol_cell v ∷ [];
            sp = span_of t ∷ [];
            goals = g;
            over = o;
            less = omega arith;
            stand = next t tok stop;
            is = plain t tk;
            even = refl;
            spelt = refl;
            zeros = ap (λ x. symbol_cell x ∷ []) zv;
            known = more-known;
            rest = r;
          }
      | bracketed m t2 tk2 tok2 lt a ↦
          let fc = with_arity (0 + count a.args) (with_arguments (symbol_cell v)) in
          let cells : (cs ++ fc ∷ []) ++ a.cs ≡ cs ++ fc ∷ a.cs = append_assoc cs (fc ∷ []) a.cs in
          let spans : (ss ++ span_of t ∷ []) ++ a.sp ≡ ss ++ span_of t ∷ a.sp = append_assoc ss (span_of t ∷ []) a.sp in
          record {
            ts = t ∷ t2 ∷ a.ts ++ a.close ∷ [];
            goal = record { symbol = number (word_for text t); arguments = a.args };
            vs = a.vs;
            left = a.left;
            place = a.place;
            ds = fc ∷ a.cs;
            sp = span_of t ∷ a.sp;
            goals = g;
            over = o;
            less = omega (arith, a.less);
            stand = next t tok (next t2 tok2 a.stand);
            is = applied t t2 a.close tk tk2 a.is a.closes;
            even = ap suc a.even;
            spelt =
                ap (λ x. record { tag = 2; form = 0; arity = x; value = number (word_for text t) } ∷ flats a.args) (sym (zero-add (count a.args)))
                ∙ ap (λ xs. record { tag = 2; form = 0; arity = 0 + count a.args; value = number (word_for text t) } ∷ xs) a.spelt;
            zeros =
                ap (λ x. record { tag = 2; form = 0; arity = 0 + count a.args; value = x } ∷ a.cs) zv
                ∙ ap (λ xs. record { tag = 2; form = 0; arity = 0 + count a.args; value = 0 } ∷ xs) a.plain;
            known = subst (λ x. Known text (cs ++ fc ∷ a.cs) x a.vs) spans (subst (λ x. Known text x ((ss ++ span_of t ∷ []) ++ a.sp) a.vs) cells a.known);
            rest =
                subst (λ x. Run text end u a.left TermEnd (state st (cs ++ fc ∷ a.cs) x [] (length a.vs) g b o) a.place) spans
                (subst (λ x. Run text end u a.left TermEnd (state st x ((ss ++ span_of t ∷ []) ++ a.sp) [] (length a.vs) g b o) a.place) cells a.rest);
          }
    ]

head_kind : (text : List ℕ) (number : List ℕ → ℕ) (end : ℕ) (u : Sketch) (st : ℕ) (cs : List Cell) (ss : List Span) (g : ℕ) (b o : Bool) (ws : List (List ℕ)) (at n left : ℕ) (t : Token) (kind : Kind) (due : Due) (s' : Sketch)
    → t.kind ≡ kind → token_at text at ≡ Ok t → n ≡ suc left → Known text cs ss ws
    → Step text Head (state st cs ss [] (length ws) g b o) t kind due s' → Run text end u left due s' t.end
    → GoalRead text number end u st cs ss b ws at n
head_kind text number end u st cs ss g b o ws at n left t Name due s' tk tok c known w run =
    let S = state st cs ss [] (length ws) g b o in
    let e = ap (λ y. celled (cell_of y Head (valued y text (span_of t) w.value S)) (span_of t) S) tk ∙ celled_is st cs ss [] (length ws) g b o (symbol_cell w.value) (span_of t) (leb-false 32 (length cs) w.room) in
    goal_tail text number end u st cs ss g b o ws at n left w.value t tk (name_zero text t w.value tk w.sized) tok c known
    (run_state text end u left due NameEnd s' _ t.end (sym (some_same w.fits)) (sym (ok_same w.enters) ∙ e) run)
head_kind text number end u st cs ss g b o ws at n left t Variable due s' tk tok c known w run = absurd (none_some w.fits)
head_kind text number end u st cs ss g b o ws at n left t Integer due s' tk tok c known w run = absurd (none_some w.fits)
head_kind text number end u st cs ss g b o ws at n left t Float due s' tk tok c known w run = absurd (none_some w.fits)
head_kind text number end u st cs ss g b o ws at n left t Text due s' tk tok c known w run = absurd (none_some w.fits)
head_kind text number end u st cs ss g b o ws at n left t Open due s' tk tok c known w run = absurd (none_some w.fits)
head_kind text number end u st cs ss g b o ws at n left t Close due s' tk tok c known w run = absurd (none_some w.fits)
head_kind text number end u st cs ss g b o ws at n left t Comma due s' tk tok c known w run = absurd (none_some w.fits)
head_kind text number end u st cs ss g b o ws at n left t Dot due s' tk tok c known w run = absurd (none_some w.fits)
head_kind text number end u st cs ss g b o ws at n left t Neck due s' tk tok c known w run = absurd (none_some w.fits)
head_kind text number end u st cs ss g b o ws at n left t Query due s' tk tok c known w run = absurd (none_some w.fits)
head_kind text number end u st cs ss g b o ws at n left t End due s' tk tok c known w run = absurd (none_some w.fits)

goal_kind : (text : List ℕ) (number : List ℕ → ℕ) (end : ℕ) (u : Sketch) (st : ℕ) (cs : List Cell) (ss : List Span) (g : ℕ) (b o : Bool) (ws : List (List ℕ)) (at n left : ℕ) (t : Token) (kind : Kind) (due : Due) (s' : Sketch)
    → t.kind ≡ kind → token_at text at ≡ Ok t → n ≡ suc left → Known text cs ss ws
    → Step text Goal (state st cs ss [] (length ws) g b o) t kind due s' → Run text end u left due s' t.end
    → GoalRead text number end u st cs ss b ws at n
goal_kind text number end u st cs ss g b o ws at n left t Name due s' tk tok c known w run =
    let g2 = cond (leb 8 g) g (g + 1) in
    let o2 = cond (leb 8 g) true o in
    let S = state st cs ss [] (length ws) g2 b o2 in
    let room = or_parts (leb 32 (length cs)) (leb 8 g) w.room in
    let e = ap (λ y. celled (cell_of y Goal (valued y text (span_of t) w.value S)) (span_of t) S) tk ∙ celled_is st cs ss [] (length ws) g2 b o2 (symbol_cell w.value) (span_of t) (leb-false 32 (length cs) room.0) in
    goal_tail text number end u st cs ss g2 b o2 ws at n left w.value t tk (name_zero text t w.value tk w.sized) tok c known
    (run_state text end u left due NameEnd s' _ t.end (sym (some_same w.fits)) (sym (ok_same w.enters) ∙ e) run)
goal_kind text number end u st cs ss g b o ws at n left t Variable due s' tk tok c known w run = absurd (none_some w.fits)
goal_kind text number end u st cs ss g b o ws at n left t Integer due s' tk tok c known w run = absurd (none_some w.fits)
goal_kind text number end u st cs ss g b o ws at n left t Float due s' tk tok c known w run = absurd (none_some w.fits)
goal_kind text number end u st cs ss g b o ws at n left t Text due s' tk tok c known w run = absurd (none_some w.fits)
goal_kind text number end u st cs ss g b o ws at n left t Open due s' tk tok c known w run = absurd (none_some w.fits)
goal_kind text number end u st cs ss g b o ws at n left t Close due s' tk tok c known w run = absurd (none_some w.fits)
goal_kind text number end u st cs ss g b o ws at n left t Comma due s' tk tok c known w run = absurd (none_some w.fits)
goal_kind text number end u st cs ss g b o ws at n left t Dot due s' tk tok c known w run = absurd (none_some w.fits)
goal_kind text number end u st cs ss g b o ws at n left t Neck due s' tk tok c known w run = absurd (none_some w.fits)
goal_kind text number end u st cs ss g b o ws at n left t Query due s' tk tok c known w run = absurd (none_some w.fits)
goal_kind text number end u st cs ss g b o ws at n left t End due s' tk tok c known w run = absurd (none_some w.fits)

head_open : Head ≡ Nothing → ⊥
head_open h = let z : ◌≡◌ {A = ℕ} 0 1 = cc in omega arith

goal_open : Goal ≡ Nothing → ⊥
goal_open h = let z : ◌≡◌ {A = ℕ} 0 1 = cc in omega arith

head_read : (text : List ℕ) (number : List ℕ → ℕ) (end : ℕ) (u : Sketch) (st : ℕ) (cs : List Cell) (ss : List Span) (g : ℕ) (b o : Bool) (ws : List (List ℕ)) (at n : ℕ) → Known text cs ss ws
    → Run text end u n Head (state st cs ss [] (length ws) g b o) at → GoalRead text number end u st cs ss b ws at n
head_read text number end u st cs ss g b o ws at n known run =
    let S = state st cs ss [] (length ws) g b o in
    let x = stepped text end u n Head S at head_open run in
    head_kind text number end u st cs ss g b o ws at n x.left x.token x.token.kind x.next x.after_it refl x.stands x.count known
    (step_of text Head x.token x.next S x.after_it x.took) x.rest

goal_read : (text : List ℕ) (number : List ℕ → ℕ) (end : ℕ) (u : Sketch) (st : ℕ) (cs : List Cell) (ss : List Span) (g : ℕ) (b o : Bool) (ws : List (List ℕ)) (at n : ℕ) → Known text cs ss ws
    → Run text end u n Goal (state st cs ss [] (length ws) g b o) at → GoalRead text number end u st cs ss b ws at n
goal_read text number end u st cs ss g b o ws at n known run =
    let S = state st cs ss [] (length ws) g b o in
    let x = stepped text end u n Goal S at goal_open run in
    goal_kind text number end u st cs ss g b o ws at n x.left x.token x.token.kind x.next x.after_it refl x.stands x.count known
    (step_of text Goal x.token x.next S x.after_it x.took) x.rest

-- goals and the dot were read, and nothing follows
pub record GoalsRead (text : List ℕ) (number : List ℕ → ℕ) (end : ℕ) (u : Sketch) (cs : List Cell) (ss : List Span) (ws : List (List ℕ)) (at : ℕ) : Type 0 where
  pub ts : List Token
  pub dot : Token
  pub goals : List TreeGoal
  pub vs : List (List ℕ)
  pub ds : List Cell
  pub sp : List Span
  pub stand : Tokens text at (ts ++ dot ∷ []) end
  pub is : AreGoals text number ws ts goals vs
  pub ends : dot.kind ≡ Dot
  pub even : length sp ≡ length ds
  pub spelt : spell_goals goals ≡ named number text ds sp
  pub zeros : ds ≡ named (λ _. 0) text ds sp
  pub cells : u.cells ≡ cs ++ ds
  pub spans : u.spans ≡ ss ++ sp

abbrev GoalsAll : (text : List ℕ) (number : List ℕ → ℕ) (end : ℕ) (u : Sketch) (fuel : ℕ) → Type 0
GoalsAll text number end u fuel =
    (st : ℕ) (cs : List Cell) (ss : List Span) (g : ℕ) (o : Bool) (ws : List (List ℕ)) (at n : ℕ) → Known text cs ss ws → n ≤ fuel
    → Run text end u n Goal (state st cs ss [] (length ws) g true o) at → GoalsRead text number end u cs ss ws at

goals_kind : (text : List ℕ) (number : List ℕ → ℕ) (end : ℕ) (u : Sketch) (fuel : ℕ) → GoalsAll text number end u fuel
    → (st : ℕ) (cs : List Cell) (ss : List Span) (ws : List (List ℕ)) (at n : ℕ) → n ≤ suc fuel → (r : GoalRead text number end u st cs ss true ws at n)
    → (left : ℕ) (t : Token) (kind : Kind) (due : Due) (s' : Sketch) → t.kind ≡ kind → token_at text r.place ≡ Ok t → r.left ≡ suc left
    → Step text TermEnd (state st (cs ++ r.ds) (ss ++ r.sp) [] (length r.vs) r.goals true r.over) t kind due s' → Run text end u left due s' t.end
    → GoalsRead text number end u cs ss ws at
goals_kind text number end u fuel rec st cs ss ws at n small r left t Dot due s' tk tok c w run =
    let f = finished text end u left due s' t.end (sym (some_same w.fits)) run in
    let same : state st (cs ++ r.ds) (ss ++ r.sp) [] (length r.vs) r.goals true r.over ≡ u = ok_same w.enters ∙ f.0 in
    record {
      ts = r.ts;
      dot = t;
      goals = r.goal ∷ [];
      vs = r.vs;
      ds = r.ds;
      sp = r.sp;
      stand = tokens_append text at r.place end r.ts (t ∷ []) r.stand (next t tok (subst (λ x. Tokens text t.end [] x) f.1 stop));
      is = one_goal r.is;
      ends = tk;
      even = r.even;
      spelt = append-nil (spell_goal r.goal) ∙ r.spelt;
      zeros = r.zeros;
      cells = ap (λ (x : Sketch). x.cells) (sym same);
      spans = ap (λ (x : Sketch). x.spans) (sym same);
    }
goals_kind text number end u fuel rec st cs ss ws at n small r left t Comma due s' tk tok c w run =
    let a =
    rec st (cs ++ r.ds) (ss ++ r.sp) r.goals r.over r.vs t.end left r.known (omega (arith, r.less))
    (run_state text end u left due Goal s' _ t.end (sym (some_same w.fits)) (sym (ok_same w.enters)) run) in
    record {
      ts = r.ts ++ t ∷ a.ts;
      dot = a.dot;
      goals = r.goal ∷ a.goals;
      vs = a.vs;
      ds = r.ds ++ a.ds;
      sp = r.sp ++ a.sp;
      stand =
          subst (λ x. Tokens text at x end) (sym (append_assoc r.ts (t ∷ a.ts) (a.dot ∷ [])))
          (tokens_append text at r.place end r.ts (t ∷ a.ts ++ a.dot ∷ []) r.stand (next t tok a.stand));
      is = more_goals t r.is tk a.is;
      ends = a.ends;
      even = omega (arith, length-append r.sp a.sp, length-append r.ds a.ds, r.even, a.even);
      spelt =
          ap (λ x. x ++ spell_goals a.goals) r.spelt ∙ (ap (λ x. named number text r.ds r.sp ++ x) a.spelt ∙ sym (named_append number text r.ds a.ds r.sp a.sp r.even));
      zeros = both_plain text r.ds a.ds r.sp a.sp r.even r.zeros a.zeros;
      cells = a.cells ∙ append_assoc cs r.ds a.ds;
      spans = a.spans ∙ append_assoc ss r.sp a.sp;
    }
goals_kind text number end u fuel rec st cs ss ws at n small r left t Name due s' tk tok c w run = absurd (none_some w.fits)
goals_kind text number end u fuel rec st cs ss ws at n small r left t Variable due s' tk tok c w run = absurd (none_some w.fits)
goals_kind text number end u fuel rec st cs ss ws at n small r left t Integer due s' tk tok c w run = absurd (none_some w.fits)
goals_kind text number end u fuel rec st cs ss ws at n small r left t Float due s' tk tok c w run = absurd (none_some w.fits)
goals_kind text number end u fuel rec st cs ss ws at n small r left t Text due s' tk tok c w run = absurd (none_some w.fits)
goals_kind text number end u fuel rec st cs ss ws at n small r left t Open due s' tk tok c w run = absurd (none_some w.fits)
goals_kind text number end u fuel rec st cs ss ws at n small r left t Close due s' tk tok c w run = absurd (none_some w.fits)
goals_kind text number end u fuel rec st cs ss ws at n small r left t Neck due s' tk tok c w run = absurd (none_some w.fits)
goals_kind text number end u fuel rec st cs ss ws at n small r left t Query due s' tk tok c w run = absurd (none_some w.fits)
goals_kind text number end u fuel rec st cs ss ws at n small r left t End due s' tk tok c w run = absurd (none_some w.fits)

goals_step : (text : List ℕ) (number : List ℕ → ℕ) (end : ℕ) (u : Sketch) (fuel : ℕ) → GoalsAll text number end u fuel → GoalsAll text number end u (suc fuel)
goals_step text number end u fuel rec st cs ss g o ws at n known small run =
    let r = goal_read text number end u st cs ss g true o ws at n known run in
    let S = state st (cs ++ r.ds) (ss ++ r.sp) [] (length r.vs) r.goals true r.over in
    let x = stepped text end u r.left TermEnd S r.place term_open r.rest in
    goals_kind text number end u fuel rec st cs ss ws at n small r x.left x.token x.token.kind x.next x.after_it refl x.stands x.count
    (step_of text TermEnd x.token x.next S x.after_it x.took) x.rest

goals_read : (text : List ℕ) (number : List ℕ → ℕ) (end : ℕ) (u : Sketch) (fuel : ℕ) → GoalsAll text number end u fuel
goals_read text number end u zero st cs ss g o ws at n known small run = absurd (let x = stepped text end u n Goal _ at goal_open run in omega (arith, x.count))
goals_read text number end u (suc fuel) st cs ss g o ws at n known small run = goals_step text number end u fuel (goals_read text number end u fuel) st cs ss g o ws at n known small run

clause_kind : (text : List ℕ) (number : List ℕ → ℕ) (at end : ℕ) (u : Sketch) (st n : ℕ) → (r : GoalRead text number end u st [] [] false [] (min at (length text)) n)
    → (left : ℕ) (t : Token) (kind : Kind) (due : Due) (s' : Sketch) → t.kind ≡ kind → token_at text r.place ≡ Ok t
    → Step text TermEnd (state st r.ds r.sp [] (length r.vs) r.goals false r.over) t kind due s' → Run text end u left due s' t.end
    → Written text number at end u
clause_kind text number at end u st n r left t Dot due s' tk tok w run =
    let f = finished text end u left due s' t.end (sym (some_same w.fits)) run in
    let same : state st r.ds r.sp [] (length r.vs) r.goals false r.over ≡ u = ok_same w.enters ∙ f.0 in
    record {
      tokens = r.ts ++ t ∷ [];
      clause = record { head = r.goal; body = [] };
      stand = tokens_append text (min at (length text)) r.place end r.ts (t ∷ []) r.stand (next t tok (subst (λ x. Tokens text t.end [] x) f.1 stop));
      grammatical = fact t r.is tk;
      spelt = append-nil (spell_goal r.goal) ∙ (r.spelt ∙ ap (λ (x : Sketch). named number text x.cells x.spans) same);
      zeros = ap (λ (x : Sketch). x.cells) (sym same) ∙ (r.zeros ∙ ap (λ (x : Sketch). named (λ _. 0) text x.cells x.spans) same);
    }
clause_kind text number at end u st n r left t Neck due s' tk tok w run =
    let a =
    goals_read text number end u left st r.ds r.sp r.goals r.over r.vs t.end left r.known (omega arith)
    (run_state text end u left due Goal s' _ t.end (sym (some_same w.fits)) (sym (ok_same w.enters)) run) in
    let same : named number text (r.ds ++ a.ds) (r.sp ++ a.sp) ≡ named number text u.cells u.spans =
    ap (λ x. named number text x (r.sp ++ a.sp)) (sym a.cells) ∙ ap (λ x. named number text u.cells x) (sym a.spans) in
    let same-zeros : named (λ _. 0) text (r.ds ++ a.ds) (r.sp ++ a.sp) ≡ named (λ _. 0) text u.cells u.spans =
    ap (λ x. named (λ _. 0) text x (r.sp ++ a.sp)) (sym a.cells) ∙ ap (λ x. named (λ _. 0) text u.cells x) (sym a.spans) in
    record {
      tokens = r.ts ++ t ∷ a.ts ++ a.dot ∷ [];
      clause = record { head = r.goal; body = a.goals };
      stand =
          subst (λ x. Tokens text (min at (length text)) x end) (sym (append_assoc r.ts (t ∷ a.ts) (a.dot ∷ [])))
          (tokens_append text (min at (length text)) r.place end r.ts (t ∷ a.ts ++ a.dot ∷ []) r.stand (next t tok a.stand));
      grammatical = rule t a.dot r.is tk a.is a.ends;
      spelt =
          ap (λ x. x ++ spell_goals a.goals) r.spelt
          ∙ (ap (λ x. named number text r.ds r.sp ++ x) a.spelt ∙ (sym (named_append number text r.ds a.ds r.sp a.sp r.even) ∙ same));
      zeros = a.cells ∙ (both_plain text r.ds a.ds r.sp a.sp r.even r.zeros a.zeros ∙ same-zeros);
    }
clause_kind text number at end u st n r left t Name due s' tk tok w run = absurd (none_some w.fits)
clause_kind text number at end u st n r left t Variable due s' tk tok w run = absurd (none_some w.fits)
clause_kind text number at end u st n r left t Integer due s' tk tok w run = absurd (none_some w.fits)
clause_kind text number at end u st n r left t Float due s' tk tok w run = absurd (none_some w.fits)
clause_kind text number at end u st n r left t Text due s' tk tok w run = absurd (none_some w.fits)
clause_kind text number at end u st n r left t Open due s' tk tok w run = absurd (none_some w.fits)
clause_kind text number at end u st n r left t Close due s' tk tok w run = absurd (none_some w.fits)
clause_kind text number at end u st n r left t Comma due s' tk tok w run = absurd (none_some w.fits)
clause_kind text number at end u st n r left t Query due s' tk tok w run = absurd (none_some w.fits)
clause_kind text number at end u st n r left t End due s' tk tok w run = absurd (none_some w.fits)

nothing_known : (text : List ℕ) → Known text [] [] []
unfolding same_variable place_of
nothing_known text = record { level = refl; finds = λ w n h. refl }

pub clause_written : (text : List ℕ) (number : List ℕ → ℕ) (at end : ℕ) (s : Sketch) → ReadsClause text at (Ok (end, s)) → Written text number at end s
clause_written text number at end u d =
    let st = start_at text at in
    let x = run_of text Head (state st [] [] [] 0 0 false false) (min at (length text)) end u (Ok (end, u)) refl d in
    let r = head_read text number end u st [] [] 0 false false [] (min at (length text)) x.0 (nothing_known text) x.1 in
    let S = state st r.ds r.sp [] (length r.vs) r.goals false r.over in
    let y = stepped text end u r.left TermEnd S r.place term_open r.rest in
    clause_kind text number at end u st x.0 r y.left y.token y.token.kind y.next y.after_it refl y.stands
    (step_of text TermEnd y.token y.next S y.after_it y.took) y.rest
