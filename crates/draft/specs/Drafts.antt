-- What a draft holds while a clause or question is read.
use Rattle.std.specs.Prelude.{ℕ, ◌+◌, ◌-◌, min, Bool, true, false}
use Rattle.terms.specs.declared.Cell.{Cell}
use Rattle.lexis.specs.declared.token.Token.{Token}
use Rattle.lexis.specs.declared.token.Kind.{Kind}
use Rattle.lexis.specs.declared.token.Kind.TheVariants.{Name, Variable, Integer, Float, Text, Open, Close, Comma, Dot, Neck, Query, End}
use Rattle.draft.specs.declared.grammar.Due.{Due}
use Rattle.draft.specs.declared.grammar.Due.TheVariants.{Head, Goal, GoalOrDot, Argument, NameEnd, TermEnd, Nothing}
use Rattle.lexis.specs.declared.token.Span.{Span}

abbrev pub var_cell : ℕ → Cell
var_cell v = record { tag = 0; form = 0; arity = 0; value = v }

abbrev pub const_cell : ℕ → ℕ → Cell
const_cell f v = record { tag = 1; form = f; arity = 0; value = v }

abbrev pub symbol_cell : ℕ → Cell
symbol_cell v = record { tag = 2; form = 0; arity = 0; value = v }

-- a name is an atom where an argument is due, and a predicate elsewhere
abbrev pub name_cell : Due → ℕ → Cell
name_cell Argument v = const_cell 2 v
name_cell Head v = symbol_cell v
name_cell Goal v = symbol_cell v
name_cell GoalOrDot v = symbol_cell v
name_cell NameEnd v = symbol_cell v
name_cell TermEnd v = symbol_cell v
name_cell Nothing v = symbol_cell v

-- the cell that a token makes
abbrev pub cell_of : Kind → Due → ℕ → Cell
cell_of Variable due v = var_cell v
cell_of Integer due v = const_cell 0 v
cell_of Float due v = const_cell 1 v
cell_of Text due v = const_cell 3 v
cell_of Name due v = name_cell due v
cell_of Open due v = name_cell due v
cell_of Close due v = name_cell due v
cell_of Comma due v = name_cell due v
cell_of Dot due v = name_cell due v
cell_of Neck due v = name_cell due v
cell_of Query due v = name_cell due v
cell_of End due v = name_cell due v

abbrev pub makes_cell : Kind → Bool
makes_cell Name = true
makes_cell Variable = true
makes_cell Integer = true
makes_cell Float = true
makes_cell Text = true
makes_cell Open = false
makes_cell Close = false
makes_cell Comma = false
makes_cell Dot = false
makes_cell Neck = false
makes_cell Query = false
makes_cell End = false

abbrev pub whole : ℕ → ℕ → Span
whole s e = record { start = s; end = e }

-- the bytes of a token's word: those of a string stand between its quotes
abbrev pub word_span : Kind → ℕ → ℕ → Span
word_span Text s e = whole (min (s + 1) 18446744073709551615) (e - 1)
word_span Name s e = whole s e
word_span Variable s e = whole s e
word_span Integer s e = whole s e
word_span Float s e = whole s e
word_span Open s e = whole s e
word_span Close s e = whole s e
word_span Comma s e = whole s e
word_span Dot s e = whole s e
word_span Neck s e = whole s e
word_span Query s e = whole s e
word_span End s e = whole s e

abbrev pub span_of : Token → Span
span_of t = word_span t.kind t.start t.end
