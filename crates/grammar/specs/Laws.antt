-- What reading a clause comes to.
use Rattle.std.specs.Prelude.{◌≡◌, ℕ, ◌-◌, ◌≤◌, min, List, [], ◌∷◌, length, take, Ok, slice_index_or}
use Rattle.typing.specs.Terms.{Term, Terms, var, con, fun, none, more}
use Rattle.trees.specs.Tree.{Goal, Clause}
use Rattle.graphs.specs.Flat.{count}
use Rattle.lexis.specs.Tokens.{token_at}
use Rattle.lexis.specs.Worth.{worth_of}
use Rattle.lexis.specs.declared.token.Token.{Token}
use Rattle.lexis.specs.declared.token.Kind.TheVariants.{Dot}
use Rattle.programs.specs.Spelling.{spell_clause}
use Rattle.names.specs.Places.{place_of}
use Rattle.draft.specs.Numbering.{numbered_all, words_after}
use Rattle.draft.specs.Sketch.{Sketch, ReadsClause}
use Rattle.grammar.specs.Grammar.{Tokens, IsClause, named}

-- the tokens from the place asked to the place told are a clause of the grammar; the cells that were read spell it, with the symbols' numbers still 0, and with their words' numbers for any numbering of words
pub record Written (text : List ℕ) (number : List ℕ → ℕ) (at end : ℕ) (s : Sketch) : Type 0 where
  pub tokens : List Token
  pub clause : Clause
  pub stand : Tokens text (min at (length text)) tokens end
  pub grammatical : IsClause text number tokens clause
  pub spelt : spell_clause clause ≡ named number text s.cells s.spans
  pub zeros : s.cells ≡ named (λ _. 0) text s.cells s.spans

abbrev pub ClauseWritten : Type 0
ClauseWritten = (text : List ℕ) (number : List ℕ → ℕ) (at end : ℕ) (s : Sketch) → ReadsClause text at (Ok (end, s)) → Written text number at end s

-- the same after numbering: with words that have numbers already, the cells spell the clause whose symbols have their words' places among the words after all, old and new
pub record Numbered (text : List ℕ) (ws : List (List ℕ)) (at end : ℕ) (s : Sketch) : Type 0 where
  pub tokens : List Token
  pub clause : Clause
  pub stand : Tokens text (min at (length text)) tokens end
  pub grammatical : IsClause text (λ w. place_of w (words_after text ws s.cells s.spans)) tokens clause
  pub spelt : spell_clause clause ≡ numbered_all text ws s.cells s.spans

abbrev pub ClauseNumbered : Type 0
ClauseNumbered = (text : List ℕ) (ws : List (List ℕ)) (at end : ℕ) (s : Sketch) → ReadsClause text at (Ok (end, s)) → Numbered text ws at end s

-- the token that ends at a place is a dot, of one byte
pub record Dotted (text : List ℕ) (end : ℕ) : Type 0 where
  pub point : Token
  pub from : ℕ
  pub stands : token_at text from ≡ Ok point
  pub mark : point.kind ≡ Dot
  pub ends : point.end ≡ end
  pub within : end ≤ length text
  pub byte : slice_index_or text (end - 1) 0 ≡ 46

-- the place told is after the dot
abbrev pub ClauseDotted : Type 0
ClauseDotted = (text : List ℕ) (at end : ℕ) (s : Sketch) → ReadsClause text at (Ok (end, s)) → Dotted text end

-- what follows the dot does not matter: a text with the same bytes up to the place told is read alike
abbrev pub ClauseLocal : Type 0
ClauseLocal = (text other : List ℕ) (at end : ℕ) (s : Sketch) → take end text ≡ take end other → ReadsClause text at (Ok (end, s)) → ReadsClause other at (Ok (end, s))

-- every token is within the limit of its kind
abbrev pub Sized : List ℕ → List Token → Type 0
Sized text [] = Unit {0}
Sized text (t ∷ ts) = ((v : ℕ) × (worth_of text t ≡ Ok v)) × Sized text ts

-- no symbol has more than eight arguments
abbrev mutual
  pub Slim : Term → Type 0
  Slim (var x) = Unit {0}
  Slim (con f v) = Unit {0}
  Slim (fun s ts) = (count ts ≤ 8) × Slims ts

  pub Slims : Terms → Type 0
  Slims none = Unit {0}
  Slims (more t ts) = Slim t × Slims ts

abbrev pub SlimGoals : List Goal → Type 0
SlimGoals [] = Unit {0}
SlimGoals (g ∷ gs) = Slim (fun g.symbol g.arguments) × SlimGoals gs

-- tokens and the clause that they are, within the limits of a clause
pub record Fitting (text : List ℕ) (ts : List Token) (c : Clause) : Type 0 where
  pub sized : Sized text ts
  pub cells : length (spell_clause c) ≤ 32
  pub goals : length c.body ≤ 8
  pub slim : SlimGoals (c.head ∷ c.body)

-- tokens that are a clause of the grammar within the limits are read, as cells that spell it
abbrev pub ClauseAccepted : Type 0
ClauseAccepted = (text : List ℕ) (number : List ℕ → ℕ) (at end : ℕ) (ts : List Token) (c : Clause) → Tokens text (min at (length text)) ts end → IsClause text number ts c → Fitting text ts c
    → (s : Sketch) × ReadsClause text at (Ok (end, s)) × (spell_clause c ≡ named number text s.cells s.spans)

abbrev pub GrammarLaw : Type 0
GrammarLaw = ClauseWritten × ClauseNumbered × ClauseAccepted × ClauseDotted × ClauseLocal
