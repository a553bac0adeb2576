-- The question's beginning.
use Rattle.std.specs.Prelude.{ℕ, Some, None, Ok, Err, Option, Result}
use Rattle.lexis.specs.declared.fault.Fault.{Fault}
use Rattle.lexis.specs.declared.token.Token.{Token}
use Rattle.lexis.specs.declared.token.Kind.{Kind}
use Rattle.lexis.specs.declared.token.Kind.TheVariants.{Name, Variable, Integer, Float, Text, Open, Close, Comma, Dot, Neck, Query, End}

abbrev pub query_of : Kind → ℕ → Option ℕ
query_of Query s = Some s
query_of Name s = None
query_of Variable s = None
query_of Integer s = None
query_of Float s = None
query_of Text s = None
query_of Open s = None
query_of Close s = None
query_of Comma s = None
query_of Dot s = None
query_of Neck s = None
query_of End s = None

-- the place of the `?-`, where that is the token; where there is no token, its fault passes unchanged
abbrev pub query_at : Result Token Fault → Result (Option ℕ) Fault
query_at (Ok t) = Ok (query_of t.kind t.start)
query_at (Err e) = Err e
