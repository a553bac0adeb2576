-- One token, whichever it is, keeps what holds of a clause or question as far as it is read.
use Rattle.std.proofs.Common.{◌≡◌, ℕ, ◌<◌, ◌≤◌, Bool, true, false, cond, ◌&&◌, ltb, leb, List, length, Some, None, Ok, Err, All, Option, Result, sym, refl, ap, ◌∙◌, subst, inl, inr, arith}
use Rattle.std.proofs.lemmas.Bool.{cases_Bool, cond-true, cond-false, cond_both, leb-false, or_parts}
use Rattle.std.specs.Str.{bytes_eq}
use Rattle.lexis.specs.Worth.{worth_of, sized}
use Rattle.lexis.specs.declared.fault.Fault.{Fault}
use Rattle.lexis.specs.declared.token.Token.{Token}
use Rattle.lexis.specs.declared.token.Kind.{Kind}
use Rattle.lexis.specs.declared.token.Kind.TheVariants.{Name, Variable, Integer, Float, Text, Open, Close, Comma, Dot, Neck, Query, End}
use Rattle.draft.specs.declared.grammar.Due.{Due}
use Rattle.draft.specs.declared.grammar.Due.TheVariants.{Head, Goal, GoalOrDot, Argument, NameEnd, TermEnd, Nothing}
use Rattle.draft.specs.declared.reader.Form.{Form}
use Rattle.draft.specs.declared.reader.Form.TheVariants.{Clause, Question}
use Rattle.names.specs.Spans.{word_at}
use Rattle.lexis.specs.declared.token.Span.{Span}
use Rattle.draft.specs.Drafts.{makes_cell, span_of, var_cell, const_cell, symbol_cell}
use Rattle.draft.specs.Grammar.{after, goal_begins, term_begins, goal_or_dot, inside_ends, body_ends, head_ends, term_ends, name_ends}
use Rattle.draft.specs.Sketch.{Sketch, innermost, argued, goaled, celled, variable_number, same_variable, entered, entered_as, too_many, failed, goes_on, sized_in, fitting, taken}
use Rattle.draft.proofs.Order.{under_order, same_under}
use Rattle.draft.proofs.States.{Ordered, Sound}
use Rattle.draft.proofs.Pushing.{pushed_term, pushed_atom, pushed_symbol, head_more, goal_more, argument_more}
use Rattle.draft.proofs.Closing.{name_term, open_more, comma_more, close_more, goal_ends, neck_more, all_ends}
use Rattle.draft.specs.Under.{Under}
use Rattle.draft.proofs.Refusals.{never}

-- a token that was taken: what is due next, what it is worth, that it is not too many, and what it added
pub record Took (text : List ℕ) (form : Form) (due : Due) (s : Sketch) (t : Token) (d : Due) (s' : Sketch) : Type 0 where
  pub fits : after due (ltb 0 (length s.brackets)) s.body t.kind ≡ Some d
  pub value : ℕ
  pub worth : worth_of text t ≡ Ok value
  pub small : (makes_cell t.kind && too_many s form due) ≡ false
  pub adds : entered_as t.kind text t due value s ≡ Ok s'

went_on : (next d : Due) (s' : Sketch) (r : Result Sketch Fault) → goes_on next r ≡ Ok (d, s') → (next ≡ d) × (r ≡ Ok s')
went_on next d s' (Ok a) e =
    let p : ◌≡◌ {A = Due × Sketch} (next, a) (d, s') = cc in
    (ap (λ (q : Due × Sketch). q.0) p, ap (λ (q : Due × Sketch). Ok q.1) p)
went_on next d s' (Err f) e = absurd (never f (d, s') e)

sized_took : (text : List ℕ) (form : Form) (due : Due) (t : Token) (next d : Due) (s s' : Sketch) (r : Result ℕ Fault)
    → after due (ltb 0 (length s.brackets)) s.body t.kind ≡ Some next → worth_of text t ≡ r → sized_in text form due t next s r ≡ Ok (d, s') → Took text form due s t d s'
unfolding entered
sized_took text form due t next d s s' (Err f) a w e = absurd (never f (d, s') e)
sized_took text form due t next d s s' (Ok v) a w e =
    elim (cases_Bool (makes_cell t.kind && too_many s form due)) [
      | inl b ↦ absurd (never _ (d, s') (sym (cond-true (makes_cell t.kind && too_many s form due) (failed t) (goes_on next (entered text t due v s)) b) ∙ e))
      | inr b ↦
          let g = went_on next d s' (entered text t due v s) (sym (cond-false (makes_cell t.kind && too_many s form due) (failed t) (goes_on next (entered text t due v s)) b) ∙ e) in
          record { fits = a ∙ ap Some g.0; value = v; worth = w; small = b; adds = g.1 }
    ]

fitting_took : (text : List ℕ) (form : Form) (due : Due) (t : Token) (d : Due) (s s' : Sketch) (o : Option Due)
    → after due (ltb 0 (length s.brackets)) s.body t.kind ≡ o → fitting text form due t s o ≡ Ok (d, s') → Took text form due s t d s'
fitting_took text form due t d s s' None a e = absurd (never _ (d, s') e)
fitting_took text form due t d s s' (Some next) a e = sized_took text form due t next d s s' (worth_of text t) a refl e

pub took : (text : List ℕ) (form : Form) (due : Due) (t : Token) (d : Due) (s s' : Sketch) → taken text form due s t ≡ Ok (d, s') → Took text form due s t d s'
unfolding taken
took text form due t d s s' e = fitting_took text form due t d s s' (after due (ltb 0 (length s.brackets)) s.body t.kind) refl e

none_some : (d : Due) → None ≡ Some d → ⊥
none_some d e = let z : ◌≡◌ {A = ℕ} 0 1 = cc in omega arith

due_is : {a b : Due} → ◌≡◌ {A = Option Due} (Some a) (Some b) → a ≡ b
due_is e = cc

sketch_is : {a b : Sketch} → ◌≡◌ {A = Result Sketch Fault} (Ok a) (Ok b) → a ≡ b
sketch_is e = cc

-- a name and a string have no number yet
word_worth : (b : Bool) (start v : ℕ) → sized start (cond b (Some 0) None) ≡ Ok v → v ≡ 0
word_worth true start v e = let z : 0 ≡ v = cc in sym z
word_worth false start v e = absurd (never _ v e)

abbrev token : Kind → ℕ → ℕ → Token
token k a z = record { kind = k; start = a; end = z }

abbrev span : Kind → ℕ → ℕ → Span
span k a z = span_of (token k a z)

variable_low : (text w : List ℕ) (s : Sketch) → Ordered s → variable_number text w s ≤ s.vars
variable_low text w s o =
    cond_both (bytes_eq w _) s.vars (same_variable text w s.cells s.spans s.vars) (λ x. x ≤ s.vars)
    (λ e. omega arith)
    (λ e. same_under text w s.cells s.spans s.vars (subst (λ n. All (Under n) s.cells) (sym o.vars) (under_order 0 s.cells o.in_order)))

-- eight arguments at most
argument_room : (form : Form) (s : Sketch) → too_many s form Argument ≡ false → (innermost s.brackets).args < 8
argument_room Clause s e = leb-false 8 (innermost s.brackets).args (or_parts (leb 32 (length s.cells)) _ e).1
argument_room Question s e = leb-false 8 (innermost s.brackets).args e

-- the head's name
head_step : (text : List ℕ) (form : Form) (h : ℕ) (k : Kind) (a z v : ℕ) (s s' : Sketch) (d : Due) → goal_begins k ≡ Some d → worth_of text (token k a z) ≡ Ok v → (makes_cell k && too_many s form Head) ≡ false
    → entered_as k text (token k a z) Head v s ≡ Ok s' → Sound h Head s → Sound h d s'
head_step text form h Name a z v s s' d e f m g i =
    subst (λ n. Sound h n s') (due_is e) (λ o. pushed_symbol h s s' (head_more h s s' (span Name a z) i (ap (λ n. celled (symbol_cell n) (span Name a z) s) (sym (word_worth _ a v f)) ∙ sketch_is g) o))
head_step text form h Variable a z v s s' d e f m g i = absurd (none_some d e)
head_step text form h Integer a z v s s' d e f m g i = absurd (none_some d e)
head_step text form h Float a z v s s' d e f m g i = absurd (none_some d e)
head_step text form h Text a z v s s' d e f m g i = absurd (none_some d e)
head_step text form h Open a z v s s' d e f m g i = absurd (none_some d e)
head_step text form h Close a z v s s' d e f m g i = absurd (none_some d e)
head_step text form h Comma a z v s s' d e f m g i = absurd (none_some d e)
head_step text form h Dot a z v s s' d e f m g i = absurd (none_some d e)
head_step text form h Neck a z v s s' d e f m g i = absurd (none_some d e)
head_step text form h Query a z v s s' d e f m g i = absurd (none_some d e)
head_step text form h End a z v s s' d e f m g i = absurd (none_some d e)

-- a body goal's name
goal_step : (text : List ℕ) (form : Form) (h : ℕ) (k : Kind) (a z v : ℕ) (s s' : Sketch) (d : Due) → goal_begins k ≡ Some d → worth_of text (token k a z) ≡ Ok v → (makes_cell k && too_many s form Goal) ≡ false
    → entered_as k text (token k a z) Goal v s ≡ Ok s' → Sound h Goal s → Sound h d s'
goal_step text form h Name a z v s s' d e f m g i =
    subst (λ n. Sound h n s') (due_is e) (λ o. pushed_symbol h s s' (goal_more h s s' (span Name a z) i (ap (λ n. celled (symbol_cell n) (span Name a z) (goaled s)) (sym (word_worth _ a v f)) ∙ sketch_is g) o))
goal_step text form h Variable a z v s s' d e f m g i = absurd (none_some d e)
goal_step text form h Integer a z v s s' d e f m g i = absurd (none_some d e)
goal_step text form h Float a z v s s' d e f m g i = absurd (none_some d e)
goal_step text form h Text a z v s s' d e f m g i = absurd (none_some d e)
goal_step text form h Open a z v s s' d e f m g i = absurd (none_some d e)
goal_step text form h Close a z v s s' d e f m g i = absurd (none_some d e)
goal_step text form h Comma a z v s s' d e f m g i = absurd (none_some d e)
goal_step text form h Dot a z v s s' d e f m g i = absurd (none_some d e)
goal_step text form h Neck a z v s s' d e f m g i = absurd (none_some d e)
goal_step text form h Query a z v s s' d e f m g i = absurd (none_some d e)
goal_step text form h End a z v s s' d e f m g i = absurd (none_some d e)

-- the first goal of a question, or its end
first_step : (text : List ℕ) (form : Form) (h : ℕ) (k : Kind) (a z v : ℕ) (s s' : Sketch) (d : Due) → goal_or_dot k ≡ Some d → worth_of text (token k a z) ≡ Ok v → (makes_cell k && too_many s form GoalOrDot) ≡ false
    → entered_as k text (token k a z) GoalOrDot v s ≡ Ok s' → Sound h GoalOrDot s → Sound h d s'
first_step text form h Name a z v s s' d e f m g i =
    subst (λ n. Sound h n s') (due_is e) (λ o. pushed_symbol h s s' (goal_more h s s' (span Name a z) (λ p. let y = i p in (y.0, (y.1.1, y.1.2))) (ap (λ n. celled (symbol_cell n) (span Name a z) (goaled s)) (sym (word_worth _ a v f)) ∙ sketch_is g) o))
first_step text form h Variable a z v s s' d e f m g i = absurd (none_some d e)
first_step text form h Integer a z v s s' d e f m g i = absurd (none_some d e)
first_step text form h Float a z v s s' d e f m g i = absurd (none_some d e)
first_step text form h Text a z v s s' d e f m g i = absurd (none_some d e)
first_step text form h Open a z v s s' d e f m g i = absurd (none_some d e)
first_step text form h Close a z v s s' d e f m g i = absurd (none_some d e)
first_step text form h Comma a z v s s' d e f m g i = absurd (none_some d e)
first_step text form h Dot a z v s s' d e f m g i =
    subst (λ n. Sound h n s') (due_is e) (subst (Sound h Nothing) (sketch_is g) (λ o. let y = i o in (y.0, y.1.2)))
first_step text form h Neck a z v s s' d e f m g i = absurd (none_some d e)
first_step text form h Query a z v s s' d e f m g i = absurd (none_some d e)
first_step text form h End a z v s s' d e f m g i = absurd (none_some d e)

-- an argument's first token
argument_step : (text : List ℕ) (form : Form) (h : ℕ) (k : Kind) (a z v : ℕ) (s s' : Sketch) (d : Due) → term_begins k ≡ Some d → worth_of text (token k a z) ≡ Ok v → (makes_cell k && too_many s form Argument) ≡ false
    → entered_as k text (token k a z) Argument v s ≡ Ok s' → Sound h Argument s → Sound h d s'
argument_step text form h Name a z v s s' d e f m g i =
    subst (λ n. Sound h n s') (due_is e) (λ o. pushed_atom h s s' (argument_more h (const_cell 2 0) s s' (span Name a z) i (argument_room form s m) refl refl (λ q t. omega arith) (ap (λ n. celled (const_cell 2 n) (span Name a z) (argued s)) (sym (word_worth _ a v f)) ∙ sketch_is g) o))
argument_step text form h Variable a z v s s' d e f m g i =
    subst (λ n. Sound h n s') (due_is e) (λ o. pushed_term h _ s s' (argument_more h (var_cell (variable_number text (word_at text (span Variable a z)) (argued s))) s s' (span Variable a z) i (argument_room form s m) refl refl (λ q t. variable_low text (word_at text (span Variable a z)) (argued s) q) (sketch_is g) o))
argument_step text form h Integer a z v s s' d e f m g i =
    subst (λ n. Sound h n s') (due_is e) (λ o. pushed_term h _ s s' (argument_more h (const_cell 0 v) s s' (span Integer a z) i (argument_room form s m) refl refl (λ q t. omega arith) (sketch_is g) o))
argument_step text form h Float a z v s s' d e f m g i =
    subst (λ n. Sound h n s') (due_is e) (λ o. pushed_term h _ s s' (argument_more h (const_cell 1 v) s s' (span Float a z) i (argument_room form s m) refl refl (λ q t. omega arith) (sketch_is g) o))
argument_step text form h Text a z v s s' d e f m g i =
    subst (λ n. Sound h n s') (due_is e) (λ o. pushed_term h _ s s' (argument_more h (const_cell 3 0) s s' (span Text a z) i (argument_room form s m) refl refl (λ q t. omega arith) (ap (λ n. celled (const_cell 3 n) (span Text a z) (argued s)) (sym (word_worth _ a v f)) ∙ sketch_is g) o))
argument_step text form h Open a z v s s' d e f m g i = absurd (none_some d e)
argument_step text form h Close a z v s s' d e f m g i = absurd (none_some d e)
argument_step text form h Comma a z v s s' d e f m g i = absurd (none_some d e)
argument_step text form h Dot a z v s s' d e f m g i = absurd (none_some d e)
argument_step text form h Neck a z v s s' d e f m g i = absurd (none_some d e)
argument_step text form h Query a z v s s' d e f m g i = absurd (none_some d e)
argument_step text form h End a z v s s' d e f m g i = absurd (none_some d e)

-- a comma or the closing bracket
inside_step : (text : List ℕ) (h : ℕ) (due : Due) (k : Kind) (a z v : ℕ) (s s' : Sketch) (d : Due) → inside_ends k ≡ Some d → ltb 0 (length s.brackets) ≡ true → entered_as k text (token k a z) due v s ≡ Ok s' → Sound h TermEnd s → Sound h d s'
inside_step text h due Name a z v s s' d e l g i = absurd (none_some d e)
inside_step text h due Variable a z v s s' d e l g i = absurd (none_some d e)
inside_step text h due Integer a z v s s' d e l g i = absurd (none_some d e)
inside_step text h due Float a z v s s' d e l g i = absurd (none_some d e)
inside_step text h due Text a z v s s' d e l g i = absurd (none_some d e)
inside_step text h due Open a z v s s' d e l g i = absurd (none_some d e)
inside_step text h due Close a z v s s' d e l g i =
    subst (λ n. Sound h n s') (due_is e) (subst (Sound h TermEnd) (sketch_is g) (close_more h s i l))
inside_step text h due Comma a z v s s' d e l g i =
    subst (λ n. Sound h n s') (due_is e) (subst (Sound h Argument) (sketch_is g) (comma_more h s i l))
inside_step text h due Dot a z v s s' d e l g i = absurd (none_some d e)
inside_step text h due Neck a z v s s' d e l g i = absurd (none_some d e)
inside_step text h due Query a z v s s' d e l g i = absurd (none_some d e)
inside_step text h due End a z v s s' d e l g i = absurd (none_some d e)

-- a comma or the dot after a body goal
body_step : (text : List ℕ) (h : ℕ) (due : Due) (k : Kind) (a z v : ℕ) (s s' : Sketch) (d : Due) → body_ends k ≡ Some d → ltb 0 (length s.brackets) ≡ false → entered_as k text (token k a z) due v s ≡ Ok s' → Sound h TermEnd s → Sound h d s'
body_step text h due Name a z v s s' d e l g i = absurd (none_some d e)
body_step text h due Variable a z v s s' d e l g i = absurd (none_some d e)
body_step text h due Integer a z v s s' d e l g i = absurd (none_some d e)
body_step text h due Float a z v s s' d e l g i = absurd (none_some d e)
body_step text h due Text a z v s s' d e l g i = absurd (none_some d e)
body_step text h due Open a z v s s' d e l g i = absurd (none_some d e)
body_step text h due Close a z v s s' d e l g i = absurd (none_some d e)
body_step text h due Comma a z v s s' d e l g i =
    subst (λ n. Sound h n s') (due_is e) (subst (Sound h Goal) (sketch_is g) (goal_ends h s i l))
body_step text h due Dot a z v s s' d e l g i =
    subst (λ n. Sound h n s') (due_is e) (subst (Sound h Nothing) (sketch_is g) (all_ends h s (goal_ends h s i l)))
body_step text h due Neck a z v s s' d e l g i = absurd (none_some d e)
body_step text h due Query a z v s s' d e l g i = absurd (none_some d e)
body_step text h due End a z v s s' d e l g i = absurd (none_some d e)

-- the neck or the dot after the head
neck_step : (text : List ℕ) (h : ℕ) (due : Due) (k : Kind) (a z v : ℕ) (s s' : Sketch) (d : Due) → head_ends k ≡ Some d → ltb 0 (length s.brackets) ≡ false → entered_as k text (token k a z) due v s ≡ Ok s' → Sound h TermEnd s → Sound h d s'
neck_step text h due Name a z v s s' d e l g i = absurd (none_some d e)
neck_step text h due Variable a z v s s' d e l g i = absurd (none_some d e)
neck_step text h due Integer a z v s s' d e l g i = absurd (none_some d e)
neck_step text h due Float a z v s s' d e l g i = absurd (none_some d e)
neck_step text h due Text a z v s s' d e l g i = absurd (none_some d e)
neck_step text h due Open a z v s s' d e l g i = absurd (none_some d e)
neck_step text h due Close a z v s s' d e l g i = absurd (none_some d e)
neck_step text h due Comma a z v s s' d e l g i = absurd (none_some d e)
neck_step text h due Dot a z v s s' d e l g i =
    subst (λ n. Sound h n s') (due_is e) (subst (Sound h Nothing) (sketch_is g) (all_ends h s (goal_ends h s i l)))
neck_step text h due Neck a z v s s' d e l g i =
    subst (λ n. Sound h n s') (due_is e) (subst (Sound h Goal) (sketch_is g) (neck_more h s (goal_ends h s i l)))
neck_step text h due Query a z v s s' d e l g i = absurd (none_some d e)
neck_step text h due End a z v s s' d e l g i = absurd (none_some d e)

-- what follows a term
term_step : (text : List ℕ) (h : ℕ) (due : Due) (k : Kind) (a z v : ℕ) (s s' : Sketch) (d : Due) (nested body : Bool) → term_ends nested body k ≡ Some d → ltb 0 (length s.brackets) ≡ nested
    → entered_as k text (token k a z) due v s ≡ Ok s' → Sound h TermEnd s → Sound h d s'
term_step text h due k a z v s s' d true body e l g i = inside_step text h due k a z v s s' d e l g i
term_step text h due k a z v s s' d false true e l g i = body_step text h due k a z v s s' d e l g i
term_step text h due k a z v s s' d false false e l g i = neck_step text h due k a z v s s' d e l g i

-- what follows a name
name_step : (text : List ℕ) (h : ℕ) (k : Kind) (a z v : ℕ) (s s' : Sketch) (d : Due) (nested body : Bool) → name_ends nested body k ≡ Some d → ltb 0 (length s.brackets) ≡ nested
    → entered_as k text (token k a z) NameEnd v s ≡ Ok s' → Sound h NameEnd s → Sound h d s'
name_step text h Name a z v s s' d n b e l g i = absurd (none_some d e)
name_step text h Variable a z v s s' d n b e l g i = absurd (none_some d e)
name_step text h Integer a z v s s' d n b e l g i = absurd (none_some d e)
name_step text h Float a z v s s' d n b e l g i = absurd (none_some d e)
name_step text h Text a z v s s' d n b e l g i = absurd (none_some d e)
name_step text h Open a z v s s' d n b e l g i =
    subst (λ n. Sound h n s') (due_is e) (open_more h s s' i g)
name_step text h Close a z v s s' d n b e l g i = term_step text h NameEnd Close a z v s s' d n b e l g (name_term h s i)
name_step text h Comma a z v s s' d n b e l g i = term_step text h NameEnd Comma a z v s s' d n b e l g (name_term h s i)
name_step text h Dot a z v s s' d n b e l g i = term_step text h NameEnd Dot a z v s s' d n b e l g (name_term h s i)
name_step text h Neck a z v s s' d n b e l g i = term_step text h NameEnd Neck a z v s s' d n b e l g (name_term h s i)
name_step text h Query a z v s s' d n b e l g i = absurd (none_some d e)
name_step text h End a z v s s' d n b e l g i = absurd (none_some d e)

step : (text : List ℕ) (form : Form) (h : ℕ) (due : Due) (k : Kind) (a z v : ℕ) (s s' : Sketch) (d : Due) → after due (ltb 0 (length s.brackets)) s.body k ≡ Some d
    → worth_of text (token k a z) ≡ Ok v → (makes_cell k && too_many s form due) ≡ false → entered_as k text (token k a z) due v s ≡ Ok s' → Sound h due s → Sound h d s'
step text form h Head k a z v s s' d e f m g i = head_step text form h k a z v s s' d e f m g i
step text form h Goal k a z v s s' d e f m g i = goal_step text form h k a z v s s' d e f m g i
step text form h GoalOrDot k a z v s s' d e f m g i = first_step text form h k a z v s s' d e f m g i
step text form h Argument k a z v s s' d e f m g i = argument_step text form h k a z v s s' d e f m g i
step text form h NameEnd k a z v s s' d e f m g i = name_step text h k a z v s s' d _ s.body e refl g i
step text form h TermEnd k a z v s s' d e f m g i = term_step text h TermEnd k a z v s s' d _ s.body e refl g i
step text form h Nothing k a z v s s' d e f m g i = absurd (none_some d e)

pub took_sound : (text : List ℕ) (form : Form) (h : ℕ) (due : Due) (t : Token) (d : Due) (s s' : Sketch) → Took text form due s t d s' → Sound h due s → Sound h d s'
took_sound text form h due t d s s' w i = step text form h due t.kind t.start t.end w.value s s' d w.fits w.worth w.small w.adds i
