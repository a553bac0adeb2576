-- Cells with their words' numbers, and tokens, put behind others.
use Rattle.std.proofs.Common.{◌≡◌, ℕ, List, [], ◌∷◌, ◌++◌, length, refl, ap, arith}
use Rattle.terms.specs.declared.Cell.{Cell}
use Rattle.lexis.specs.declared.token.Token.{Token}
use Rattle.lexis.specs.declared.token.Span.{Span}
use Rattle.names.specs.Spans.{word_at}
use Rattle.grammar.specs.Grammar.{Tokens, name_as, named}
use Rattle.grammar.specs.Grammar.Tokens.{stop, next}

pub named_append : (number : List ℕ → ℕ) (text : List ℕ) (cs ds : List Cell) (ss rs : List Span) → length ss ≡ length cs
    → named number text (cs ++ ds) (ss ++ rs) ≡ named number text cs ss ++ named number text ds rs
named_append number text [] ds [] rs h = refl
named_append number text [] ds (s ∷ ss) rs h = absurd (omega arith)
named_append number text (c ∷ cs) ds [] rs h = absurd (omega arith)
named_append number text (c ∷ cs) ds (s ∷ ss) rs h = ap (λ xs. name_as number (word_at text s) c ∷ xs) (named_append number text cs ds ss rs (omega arith))

pub tokens_append : (text : List ℕ) (a m b : ℕ) (ts us : List Token) → Tokens text a ts m → Tokens text m us b → Tokens text a (ts ++ us) b
tokens_append text a m b ts us stop x = x
tokens_append text a m b ts us (next {ts = rs} t e r) x = next t e (tokens_append text t.end m b rs us r x)
