-- The grammar of clauses: which tokens are a clause, and which clause they are.
use Rattle.std.specs.Prelude.{◌≡◌, ℕ, cond, List, [], ◌∷◌, ◌++◌, length, Ok}
use Rattle.std.specs.Str.{bytes_eq}
use Rattle.terms.specs.declared.Cell.{Cell}
use Rattle.typing.specs.Terms.{Term, Terms, var, con, fun, none, more}
use Rattle.trees.specs.Tree.{Goal, Clause}
use Rattle.lexis.specs.Tokens.{token_at}
use Rattle.lexis.specs.Worth.{worth_of}
use Rattle.lexis.specs.declared.token.Token.{Token}
use Rattle.lexis.specs.declared.token.Kind.TheVariants.{Name, Variable, Integer, Float, Text, Open, Close, Comma, Dot, Neck}
use Rattle.lexis.specs.declared.token.Span.{Span}
use Rattle.names.specs.Places.{place_of, with_word}
use Rattle.names.specs.Spans.{word_at}
use Rattle.draft.specs.Drafts.{span_of}
use Rattle.draft.specs.Numbering.{is_named}

-- the tokens from one place to another, one after another
pub data Tokens (text : List ℕ) : ℕ → List Token → ℕ → Type 0 where
  stop : {at : ℕ} → Tokens text at [] at
  next : {at end : ℕ} {ts : List Token} (t : Token) → token_at text at ≡ Ok t → Tokens text t.end ts end → Tokens text at (t ∷ ts) end

-- a token's bytes; a string's without its quotes
abbrev pub word_for : List ℕ → Token → List ℕ
word_for text t = word_at text (span_of t)

-- Variables are numbered by first appearance: the words that have numbers stand in a list, each at its number. A lone `_` is new each time.
abbrev pub variable_in : List (List ℕ) → List ℕ → ℕ
variable_in ws w = cond (bytes_eq w (95 ∷ [])) (length ws) (place_of w ws)

abbrev pub with_variable : List (List ℕ) → List ℕ → List (List ℕ)
with_variable ws w = cond (bytes_eq w (95 ∷ [])) (ws ++ w ∷ []) (with_word w ws)

-- Each relation below is between the variables' words before, tokens, what they are, and the variables' words after. Symbols have the numbers that `number` gives to their words.
mutual
  -- a term is a variable, an integer, a float, a string, a name, or a name with terms in brackets
  pub data IsTerm (text : List ℕ) (number : List ℕ → ℕ) : List (List ℕ) → List Token → Term → List (List ℕ) → Type 0 where
    variable : {ws : List (List ℕ)} (t : Token) → t.kind ≡ Variable → IsTerm text number ws (t ∷ []) (var (variable_in ws (word_for text t))) (with_variable ws (word_for text t))
    integer : {ws : List (List ℕ)} (t : Token) (v : ℕ) → t.kind ≡ Integer → worth_of text t ≡ Ok v → IsTerm text number ws (t ∷ []) (con 0 v) ws
    float : {ws : List (List ℕ)} (t : Token) (v : ℕ) → t.kind ≡ Float → worth_of text t ≡ Ok v → IsTerm text number ws (t ∷ []) (con 1 v) ws
    atom : {ws : List (List ℕ)} (t : Token) → t.kind ≡ Name → IsTerm text number ws (t ∷ []) (con 2 (number (word_for text t))) ws
    string : {ws : List (List ℕ)} (t : Token) → t.kind ≡ Text → IsTerm text number ws (t ∷ []) (con 3 (number (word_for text t))) ws
    compound : {ws vs : List (List ℕ)} {ts : List Token} {args : Terms} (f o c : Token) → f.kind ≡ Name → o.kind ≡ Open → AreTerms text number ws ts args vs → c.kind ≡ Close
        → IsTerm text number ws (f ∷ o ∷ ts ++ c ∷ []) (fun (number (word_for text f)) args) vs

  -- one or more terms, joined by commas
  pub data AreTerms (text : List ℕ) (number : List ℕ → ℕ) : List (List ℕ) → List Token → Terms → List (List ℕ) → Type 0 where
    one_term : {ws vs : List (List ℕ)} {ts : List Token} {t : Term} → IsTerm text number ws ts t vs → AreTerms text number ws ts (more t none) vs
    more_terms : {ws vs xs : List (List ℕ)} {ts us : List Token} {t : Term} {args : Terms} (c : Token) → IsTerm text number ws ts t vs → c.kind ≡ Comma → AreTerms text number vs us args xs
        → AreTerms text number ws (ts ++ c ∷ us) (more t args) xs

-- a goal is a name, or a name with terms in brackets
pub data IsGoal (text : List ℕ) (number : List ℕ → ℕ) : List (List ℕ) → List Token → Goal → List (List ℕ) → Type 0 where
  plain : {ws : List (List ℕ)} (f : Token) → f.kind ≡ Name → IsGoal text number ws (f ∷ []) (record { symbol = number (word_for text f); arguments = none }) ws
  applied : {ws vs : List (List ℕ)} {ts : List Token} {args : Terms} (f o c : Token) → f.kind ≡ Name → o.kind ≡ Open → AreTerms text number ws ts args vs → c.kind ≡ Close
      → IsGoal text number ws (f ∷ o ∷ ts ++ c ∷ []) (record { symbol = number (word_for text f); arguments = args }) vs

-- one or more goals, joined by commas
pub data AreGoals (text : List ℕ) (number : List ℕ → ℕ) : List (List ℕ) → List Token → List Goal → List (List ℕ) → Type 0 where
  one_goal : {ws vs : List (List ℕ)} {ts : List Token} {g : Goal} → IsGoal text number ws ts g vs → AreGoals text number ws ts (g ∷ []) vs
  more_goals : {ws vs xs : List (List ℕ)} {ts us : List Token} {g : Goal} {gs : List Goal} (c : Token) → IsGoal text number ws ts g vs → c.kind ≡ Comma → AreGoals text number vs us gs xs
      → AreGoals text number ws (ts ++ c ∷ us) (g ∷ gs) xs

-- a clause is a goal, or a goal, `:-` and goals, and then a dot
pub data IsClause (text : List ℕ) (number : List ℕ → ℕ) : List Token → Clause → Type 0 where
  fact : {ws : List (List ℕ)} {ts : List Token} {g : Goal} (d : Token) → IsGoal text number [] ts g ws → d.kind ≡ Dot → IsClause text number (ts ++ d ∷ []) (record { head = g; body = [] })
  rule : {ws vs : List (List ℕ)} {ts us : List Token} {g : Goal} {gs : List Goal} (n d : Token) → IsGoal text number [] ts g ws → n.kind ≡ Neck → AreGoals text number ws us gs vs → d.kind ≡ Dot
      → IsClause text number (ts ++ n ∷ us ++ d ∷ []) (record { head = g; body = gs })

-- a cell with its word's number, where it has a name or a string
abbrev pub name_as : (List ℕ → ℕ) → List ℕ → Cell → Cell
name_as number w c = cond (is_named c) (record { tag = c.tag; form = c.form; arity = c.arity; value = number w }) c

abbrev pub named : (List ℕ → ℕ) → List ℕ → List Cell → List Span → List Cell
named number text [] ss = []
named number text (c ∷ cs) [] = c ∷ cs
named number text (c ∷ cs) (s ∷ ss) = name_as number (word_at text s) c ∷ named number text cs ss
