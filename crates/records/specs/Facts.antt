-- The facts of records.
use Rattle.std.specs.Prelude.{ℕ, Bool, cond, List, [], ◌∷◌, ◌++◌, take, Some, None, filter, Option, ◌==◌}
use Rattle.std.specs.List.{flat_map}
use Rattle.std.specs.Option.{option_map}
use Rattle.terms.specs.declared.Cell.{Cell}
use Rattle.records.specs.declared.fact.Symbols.{Symbols}
use Rattle.records.specs.declared.fact.Fact.{Fact}
use Rattle.records.specs.declared.fact.Value.{Value}
use Rattle.records.specs.declared.fact.Value.TheVariants.{Atom, Integer}
use Rattle.records.specs.declared.format.Record.{Record}
use Rattle.records.specs.Faults.{records_of}

-- what is said of a card under a symbol, if anything is
abbrev pub fact_of : ℕ → ℕ → Option Value → Option Fact
fact_of symbol card None = None
fact_of symbol card (Some v) = Some (record { symbol = symbol; card = card; value = v })

abbrev pub listed : Option Fact → List Fact
listed None = []
listed (Some f) = f ∷ []

-- a record's facts, in the order of the bits
abbrev pub record_facts : Symbols → Record → List Fact
record_facts s r =
    listed (fact_of s.lot r.card (option_map Atom r.lot)) ++ (listed (fact_of s.stage r.card (option_map Atom r.stage)) ++ listed (fact_of s.cycles r.card (option_map Integer r.cycles)))

-- the facts of the records before the first bad one, in order
abbrev pub facts_of : Symbols → List ℕ → List Fact
facts_of s bytes = flat_map (record_facts s) (records_of bytes)

abbrev pub is_for : ℕ → Fact → Bool
is_for p f = f.symbol == p

-- those under a predicate, which has two arguments
abbrev pub facts_under : Symbols → List ℕ → ℕ → ℕ → List Fact
facts_under s bytes p n = cond (n == 2) (filter (is_for p) (facts_of s bytes)) []

-- a list is cut after 65,535 facts
unfoldable pub cut : List Fact → List Fact
cut fs = take 65535 fs

-- the list of a symbol with one fact more, if there is one and it is under the symbol
unfoldable pub with_fact : ℕ → Option Fact → List Fact → List Fact
with_fact p o fs = cut (fs ++ filter (is_for p) (listed o))

-- a constant: an atom or an integer
abbrev pub value_cell : Value → Cell
value_cell (Atom n) = record { tag = 1; form = 2; arity = 0; value = n }
value_cell (Integer n) = record { tag = 1; form = 0; arity = 0; value = n }

-- a fact in cells: the predicate symbol, the card, the value
abbrev pub cells_of : Fact → List Cell
cells_of f = record { tag = 2; form = 0; arity = 2; value = f.symbol } ∷ record { tag = 1; form = 2; arity = 0; value = f.card } ∷ value_cell f.value ∷ []
