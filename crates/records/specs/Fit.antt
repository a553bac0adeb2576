-- What holds of every fact that a source of records keeps.
use Rattle.std.specs.Prelude.{◌≡◌, ℕ, Bool, true, ◌&&◌, List, All, ◌==◌, nat_lt}
use Rattle.records.specs.declared.fact.Fact.{Fact}
use Rattle.records.specs.declared.fact.Value.{Value}
use Rattle.records.specs.declared.fact.Value.TheVariants.{Atom, Integer}

-- an atom's number has 16 bits
abbrev pub value_fits : Value → Bool
value_fits (Atom n) = nat_lt n 65536
value_fits (Integer n) = true

-- a fact under that symbol, whose symbol and atoms have 16 bits
abbrev pub fits : ℕ → Fact → Bool
fits symbol f = f.symbol == symbol && (nat_lt f.symbol 65536 && (nat_lt f.card 65536 && value_fits f.value))

abbrev pub AllFit : ℕ → List Fact → Type 0
AllFit symbol fs = All (λ f. fits symbol f ≡ true) fs
