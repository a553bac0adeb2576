use Rattle.std.specs.Prelude.{ℕ, ◌+◌, ◌-◌, ◌*◌, Bool, cond, ◌&&◌, ◌||◌, List, [], ◌∷◌, Some, None, codes, Option, ◌==◌, nat_le, slice_index}
use Rattle.records.specs.declared.fault.BenchFault.{BenchFault}
use Rattle.records.specs.Numbers.{fault_text as shown}

-- the value of a hexadecimal digit; 0 for any other byte
abbrev pub hex_of : ℕ → ℕ
hex_of b = cond (nat_le 48 b && nat_le b 57) (b - 48) (cond (nat_le 97 b && nat_le b 102) (b - 97 + 10) 0)

-- a blank or a star
abbrev pub is_blank : ℕ → Bool
is_blank b = b == 32 || b == 42

-- the bytes that a text spells, two digits each; a blank or a star between them is passed over
abbrev pub spelled : List ℕ → List ℕ
spelled [] = []
spelled (a ∷ []) = []
spelled (a ∷ b ∷ bs) = cond (is_blank a) (spelled (b ∷ bs)) ((hex_of a * 16 + hex_of b) ∷ spelled bs)

-- the symbol at a place, its higher byte first
abbrev pub symbol_at : List ℕ → ℕ → ℕ
symbol_at bytes at = slice_index bytes at * 256 + slice_index bytes (at + 1)

-- what is told of the first fault, if there is one
abbrev pub fault_text : Option BenchFault → List ℕ
fault_text None = codes "good"
fault_text (Some f) = shown f
