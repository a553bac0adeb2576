-- The clauses of a source of records.
use Rattle.std.specs.Prelude.{◌≡◌, ℕ, cond, List, [], map, vec_items, filter, ◌==◌}
use Rattle.terms.specs.declared.Cell.{Cell}
use Rattle.records.specs.declared.fact.Fact.{Fact}
use Rattle.records.specs.declared.gather.Listing.{Listing}
use Rattle.records.specs.declared.Records.{Records}
use Rattle.records.specs.declared.fact.Symbols.{Symbols}
use Rattle.records.specs.Facts.{cells_of, cut, is_for, facts_of}

-- the kept facts of a predicate
abbrev pub list_of : Records → ℕ → ℕ → List Fact
list_of r p n =
    cond (n == 2)
    (cond (p == r.lots.symbol) (vec_items r.lots.facts)
    (cond (p == r.stages.symbol) (vec_items r.stages.facts)
    (cond (p == r.cycles.symbol) (vec_items r.cycles.facts) []))) []

unfoldable pub record_clauses : Records → ℕ → ℕ → List (List Cell)
record_clauses r p n = map cells_of (list_of r p n)

-- the list has the facts of the byte string under the symbol
pub record Gathers (s : Symbols) (bytes : List ℕ) (symbol : ℕ) (l : Listing) : Type 0 where
  pub under : l.symbol ≡ symbol
  pub facts : vec_items l.facts ≡ cut (filter (is_for symbol) (facts_of s bytes))

-- each list has the facts of the byte string under its symbol
pub record Keeps (s : Symbols) (bytes : List ℕ) (r : Records) : Type 0 where
  pub lots : Gathers s bytes s.lot r.lots
  pub stages : Gathers s bytes s.stage r.stages
  pub cycles : Gathers s bytes s.cycles r.cycles
