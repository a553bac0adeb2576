-- A clause or question as far as it is read, and what each token adds to it.
use Rattle.std.specs.Prelude.{◌≡◌, ℕ, ◌+◌, ◌-◌, min, Bool, true, false, cond, ◌&&◌, ◌||◌, List, [], ◌∷◌, ◌++◌, length, take, Some, None, Ok, Err, vec_items, Option, Result, ◌==◌, ◌≢◌, nat_le, nat_lt, slice_index_or, slice_set}
use Rattle.std.specs.Str.{bytes_eq}
use Rattle.terms.specs.declared.Cell.{Cell}
use Rattle.lexis.specs.Tokens.{token_at, start_at}
use Rattle.lexis.specs.Worth.{worth_of}
use Rattle.lexis.specs.declared.fault.Fault.{Fault}
use Rattle.lexis.specs.declared.fault.Cause.TheVariants.{Grammar, Size, Question as TooLarge}
use Rattle.lexis.specs.declared.token.Token.{Token}
use Rattle.lexis.specs.declared.token.Kind.{Kind}
use Rattle.lexis.specs.declared.token.Kind.TheVariants.{Name, Variable, Integer, Float, Text, Open, Close, Comma, Dot, Neck, Query, End}
use Rattle.draft.specs.declared.grammar.Due.{Due}
use Rattle.draft.specs.declared.grammar.Due.TheVariants.{Head, Goal, GoalOrDot, Argument, NameEnd, TermEnd, Nothing}
use Rattle.draft.specs.declared.Draft.{Draft}
use Rattle.draft.specs.declared.Bracket.{Bracket}
use Rattle.lexis.specs.declared.token.Span.{Span}
use Rattle.draft.specs.declared.reader.Form.{Form}
use Rattle.draft.specs.declared.reader.Form.TheVariants.{Clause, Question}
use Rattle.draft.specs.Grammar.{after}
use Rattle.names.specs.Spans.{word_at}
use Rattle.clauses.specs.Clauses.{vars_after}
use Rattle.draft.specs.Drafts.{cell_of, span_of, makes_cell}

-- where it begins; its cells with their words; the open brackets, the innermost last; how many variables and goals there are; whether the head is past; whether it is over a limit that is judged at its end
pub record Sketch : Type 0 where
  pub start : ℕ
  pub cells : List Cell
  pub spans : List Span
  pub brackets : List Bracket
  pub vars : ℕ
  pub goals : ℕ
  pub body : Bool
  pub over : Bool

abbrev pub sketch_of : Draft → Sketch
sketch_of d =
    record {
      start = d.start;
      cells = vec_items d.cells;
      spans = vec_items d.spans;
      brackets = vec_items d.brackets;
      vars = d.vars;
      goals = d.goals;
      body = d.body;
      over = d.over;
    }

-- nothing is read yet
abbrev pub blank : ℕ → Bool → Sketch
blank start body = record { start = start; cells = []; spans = []; brackets = []; vars = 0; goals = 0; body = body; over = false }

abbrev pub no_cell : Cell
no_cell = record { tag = 0; form = 0; arity = 0; value = 0 }

abbrev pub no_bracket : Bracket
no_bracket = record { cell = 0; args = 0 }

abbrev pub innermost : List Bracket → Bracket
innermost bs = slice_index_or bs (length bs - 1) no_bracket

abbrev pub with_arity : ℕ → Cell → Cell
with_arity n c = record { tag = c.tag; form = c.form; arity = n; value = c.value }

-- a name with brackets behind it is a function or a predicate
abbrev pub with_arguments : Cell → Cell
with_arguments c = record { tag = 2; form = 0; arity = c.arity; value = c.value }

abbrev pub recelled : List Cell → Sketch → Sketch
recelled cs s =
    record {
      start = s.start;
      cells = cs;
      spans = s.spans;
      brackets = s.brackets;
      vars = s.vars;
      goals = s.goals;
      body = s.body;
      over = s.over;
    }

abbrev pub rebracketed : List Bracket → Sketch → Sketch
rebracketed bs s =
    record {
      start = s.start;
      cells = s.cells;
      spans = s.spans;
      brackets = bs;
      vars = s.vars;
      goals = s.goals;
      body = s.body;
      over = s.over;
    }

-- a bracket with one argument more
abbrev pub one_more : Bracket → Bracket
one_more b = record { cell = b.cell; args = min b.args 7 + 1 }

abbrev pub argued_by : Bracket → Sketch → Sketch
argued_by b s =
    recelled (slice_set s.cells b.cell (with_arity b.args (slice_index_or s.cells b.cell no_cell)))
    (rebracketed (slice_set s.brackets (length s.brackets - 1) b) s)

-- the innermost bracket has one argument more, and so has the cell before it
abbrev pub argued : Sketch → Sketch
argued s = cond (length s.brackets == 0) s (argued_by (one_more (innermost s.brackets)) s)

-- one body goal more; past the eighth it is over
abbrev pub goaled : Sketch → Sketch
goaled s =
    record {
      start = s.start;
      cells = s.cells;
      spans = s.spans;
      brackets = s.brackets;
      vars = s.vars;
      goals = cond (nat_le 8 s.goals) s.goals (s.goals + 1);
      body = s.body;
      over = cond (nat_le 8 s.goals) true s.over;
    }

-- over a limit that is judged at the end
abbrev pub full : Sketch → Sketch
full s =
    record {
      start = s.start;
      cells = s.cells;
      spans = s.spans;
      brackets = s.brackets;
      vars = s.vars;
      goals = s.goals;
      body = s.body;
      over = true;
    }

abbrev pub with_cell : Cell → Span → Sketch → Sketch
with_cell c w s =
    record {
      start = s.start;
      cells = s.cells ++ c ∷ [];
      spans = s.spans ++ w ∷ [];
      brackets = s.brackets;
      vars = vars_after s.vars c;
      goals = s.goals;
      body = s.body;
      over = s.over;
    }

-- one cell more with its word; past the 32nd it is over, and the cell is not kept
abbrev pub celled : Cell → Span → Sketch → Sketch
celled c w s = cond (nat_le 32 (length s.cells)) (full s) (with_cell c w s)

-- a bracket opens behind the last cell
abbrev pub opened_at : ℕ → Sketch → Sketch
opened_at i s =
    recelled (slice_set s.cells i (with_arguments (slice_index_or s.cells i no_cell)))
    (rebracketed (s.brackets ++ (record { cell = i; args = 0 }) ∷ []) s)

abbrev pub opened : Sketch → Sketch
opened s = opened_at (length s.cells - 1) s

-- so many brackets can be open; only a question can have more, which is far over its limits
abbrev pub opened_in : Sketch → Result Sketch Fault
opened_in s = cond (nat_le 8192 (length s.brackets)) (Err (record { cause = TooLarge; at = s.start })) (Ok (opened s))

-- the innermost bracket closes
abbrev pub closed : Sketch → Sketch
closed s = rebracketed (take (length s.brackets - 1) s.brackets) s

-- the head is past
abbrev pub necked : Sketch → Sketch
necked s =
    record {
      start = s.start;
      cells = s.cells;
      spans = s.spans;
      brackets = s.brackets;
      vars = s.vars;
      goals = s.goals;
      body = true;
      over = s.over;
    }

abbrev pub is_variable : List ℕ → List ℕ → Cell → Span → Bool
is_variable text w c s = c.tag == 0 && bytes_eq (word_at text s) w

-- the number of the first variable with the same word, or else the next number
unfoldable pub same_variable : List ℕ → List ℕ → List Cell → List Span → ℕ → ℕ
same_variable text w [] ws next = next
same_variable text w (c ∷ cs) [] next = next
same_variable text w (c ∷ cs) (s ∷ ws) next = cond (is_variable text w c s) c.value (same_variable text w cs ws next)

-- a lone `_` is new each time
abbrev pub variable_number : List ℕ → List ℕ → Sketch → ℕ
variable_number text w s = cond (bytes_eq w (95 ∷ [])) s.vars (same_variable text w s.cells s.spans s.vars)

-- what a cell counts as: an argument, a body goal, or the head
abbrev pub counted_as : Due → Sketch → Sketch
counted_as Argument s = argued s
counted_as Goal s = goaled s
counted_as GoalOrDot s = goaled s
counted_as Head s = s
counted_as NameEnd s = s
counted_as TermEnd s = s
counted_as Nothing s = s

abbrev pub valued : Kind → List ℕ → Span → ℕ → Sketch → ℕ
valued Variable text w v s = variable_number text (word_at text w) s
valued Name text w v s = v
valued Integer text w v s = v
valued Float text w v s = v
valued Text text w v s = v
valued Open text w v s = v
valued Close text w v s = v
valued Comma text w v s = v
valued Dot text w v s = v
valued Neck text w v s = v
valued Query text w v s = v
valued End text w v s = v

abbrev pub cell_added : List ℕ → Token → Due → ℕ → Sketch → Sketch
cell_added text t due v s = celled (cell_of t.kind due (valued t.kind text (span_of t) v s)) (span_of t) s

abbrev pub added : List ℕ → Token → Due → ℕ → Sketch → Sketch
added text t due v s = cell_added text t due v (counted_as due s)

abbrev pub entered_as : Kind → List ℕ → Token → Due → ℕ → Sketch → Result Sketch Fault
entered_as Open text t due v s = opened_in s
entered_as Close text t due v s = Ok (closed s)
entered_as Neck text t due v s = Ok (necked s)
entered_as Comma text t due v s = Ok s
entered_as Dot text t due v s = Ok s
entered_as Query text t due v s = Ok s
entered_as End text t due v s = Ok s
entered_as Name text t due v s = Ok (added text t due v s)
entered_as Variable text t due v s = Ok (added text t due v s)
entered_as Integer text t due v s = Ok (added text t due v s)
entered_as Float text t due v s = Ok (added text t due v s)
entered_as Text text t due v s = Ok (added text t due v s)

-- what a token that fits and is not too large adds
unfoldable pub entered : List ℕ → Token → Due → ℕ → Sketch → Result Sketch Fault
entered text t due v s = entered_as t.kind text t due v s

-- a clause has at most 32 cells and 8 body goals, and a symbol at most 8 arguments
abbrev pub too_many : Sketch → Form → Due → Bool
too_many s Clause Argument = nat_le 32 (length s.cells) || nat_le 8 (innermost s.brackets).args
too_many s Clause Goal = nat_le 32 (length s.cells) || nat_le 8 s.goals
too_many s Clause Head = nat_le 32 (length s.cells)
too_many s Clause GoalOrDot = nat_le 32 (length s.cells)
too_many s Clause NameEnd = nat_le 32 (length s.cells)
too_many s Clause TermEnd = nat_le 32 (length s.cells)
too_many s Clause Nothing = nat_le 32 (length s.cells)
too_many s Question Argument = nat_le 8 (innermost s.brackets).args
too_many s Question Goal = false
too_many s Question Head = false
too_many s Question GoalOrDot = false
too_many s Question NameEnd = false
too_many s Question TermEnd = false
too_many s Question Nothing = false

abbrev pub failed : {A : Type 0} → Token → Result A Fault
failed t = Err (record { cause = Size; at = t.start })

abbrev pub goes_on : {A B : Type 0} → B → Result A Fault → Result (B × A) Fault
goes_on b (Ok a) = Ok (b, a)
goes_on b (Err e) = Err e

-- the token's own size, then the clause's
abbrev pub sized_in : List ℕ → Form → Due → Token → Due → Sketch → Result ℕ Fault → Result (Due × Sketch) Fault
sized_in text form due t next s (Err e) = Err e
sized_in text form due t next s (Ok v) = cond (makes_cell t.kind && too_many s form due) (failed t) (goes_on next (entered text t due v s))

abbrev pub fitting : List ℕ → Form → Due → Token → Sketch → Option Due → Result (Due × Sketch) Fault
fitting text form due t s None = Err (record { cause = Grammar; at = t.start })
fitting text form due t s (Some next) = sized_in text form due t next s (worth_of text t)

-- a token is judged for its place in the grammar, and then for its size
unfoldable pub taken : List ℕ → Form → Due → Sketch → Token → Result (Due × Sketch) Fault
taken text form due s t = fitting text form due t s (after due (nat_lt 0 (length s.brackets)) s.body t.kind)

-- reading from a place on, token by token, until nothing is due: the place after the dot and what was read, or the first fault
pub data Reads (text : List ℕ) (form : Form) : Due → Sketch → ℕ → Result (ℕ × Sketch) Fault → Type 0 where
  no_token : {due : Due} {s : Sketch} {at : ℕ} {e : Fault} → token_at text at ≡ Err e → Reads text form due s at (Err e)
  misfit : {due : Due} {s : Sketch} {at : ℕ} {e : Fault} (t : Token) → token_at text at ≡ Ok t → taken text form due s t ≡ Err e → Reads text form due s at (Err e)
  last : {due : Due} {s s' : Sketch} {at end : ℕ} (t : Token) → token_at text at ≡ Ok t → taken text form due s t ≡ Ok (Nothing, s') → t.end ≡ end → Reads text form due s at (Ok (end, s'))
  more : {due next : Due} {s s' : Sketch} {at : ℕ} {r : Result (ℕ × Sketch) Fault} (t : Token) → token_at text at ≡ Ok t → taken text form due s t ≡ Ok (next, s') → (next ≢ Nothing)
      → Reads text form next s' t.end r → Reads text form due s at r

-- what reading told, with what the draft then holds where it told a place
abbrev pub Outcome : (Result (ℕ × Sketch) Fault → Type 0) → Sketch → Result ℕ Fault → Type 0
Outcome P s (Ok end) = P (Ok (end, s))
Outcome P s (Err e) = P (Err e)

-- reading one clause from a place on
abbrev pub ReadsClause : List ℕ → ℕ → Result (ℕ × Sketch) Fault → Type 0
ReadsClause text at r = Reads text Clause Head (blank (start_at text at) false) (min at (length text)) r

abbrev pub ReadsGoals : List ℕ → Token → Result (ℕ × Sketch) Fault → Type 0
ReadsGoals text query r = Reads text Question GoalOrDot (blank query.start true) (min query.end (length text)) r

-- the goals after the `?-` are read to the dot, only blanks follow it, and no limit is passed
pub record GoalsRead (text : List ℕ) (query : Token) (s : Sketch) : Type 0 where
  pub end : ℕ
  pub goals : ReadsGoals text query (Ok (end, s))
  pub rest : Token
  pub only : token_at text end ≡ Ok rest
  pub blanks : rest.kind ≡ End
  pub within : s.over ≡ false

-- the goals are not the grammar or have a part over its limit; the text goes on after the dot; or there are too many cells or goals, told at the `?-`
pub data GoalsRefused (text : List ℕ) (query : Token) : Fault → Type 0 where
  unread : {e : Fault} → ReadsGoals text query (Err e) → GoalsRefused text query e
  no_rest : {e : Fault} (end : ℕ) (s : Sketch) → ReadsGoals text query (Ok (end, s)) → token_at text end ≡ Err e → GoalsRefused text query e
  more_text : (end : ℕ) (s : Sketch) (rest : Token) → ReadsGoals text query (Ok (end, s)) → token_at text end ≡ Ok rest → (rest.kind ≢ End) → GoalsRefused text query (record { cause = Grammar; at = rest.start })
  too_large : (end : ℕ) (s : Sketch) (rest : Token) → ReadsGoals text query (Ok (end, s)) → token_at text end ≡ Ok rest → rest.kind ≡ End → s.over ≡ true
      → GoalsRefused text query (record { cause = TooLarge; at = query.start })

-- a question begins with `?-`
pub record QuestionRead (text : List ℕ) (at : ℕ) (s : Sketch) : Type 0 where
  pub query : Token
  pub first : token_at text at ≡ Ok query
  pub mark : query.kind ≡ Query
  pub goals : GoalsRead text query s

pub data QuestionRefused (text : List ℕ) (at : ℕ) : Fault → Type 0 where
  no_token : {e : Fault} → token_at text at ≡ Err e → QuestionRefused text at e
  no_query : (t : Token) → token_at text at ≡ Ok t → (t.kind ≢ Query) → QuestionRefused text at (record { cause = Grammar; at = t.start })
  refused : {e : Fault} (query : Token) → token_at text at ≡ Ok query → query.kind ≡ Query → GoalsRefused text query e → QuestionRefused text at e
