-- What a number's bytes are worth, by the place of each digit.
use Rattle.std.specs.Prelude.{◌≡◌, ℕ, ◌+◌, ◌-◌, ◌*◌, ◌^◌, cond, List, [], ◌∷◌, map, length, Some, Result, nat_le}
use Rattle.lexis.specs.declared.fault.Fault.{Fault}
use Rattle.lexis.specs.declared.token.Kind.{Kind}
use Rattle.lexis.specs.declared.token.Kind.TheVariants.{Name, Variable, Integer, Float, Text, Open, Close, Comma, Dot, Neck, Query, End}
use Rattle.lexis.specs.Runs.{is_digit, is_hex}
use Rattle.lexis.specs.Spelt.{All}
use Rattle.lexis.specs.Worth.{positive, negated, sized}

-- a digit counts as many times as the base to the power of how many digits follow it
abbrev pub positional : ℕ → List ℕ → ℕ
positional base [] = 0
positional base (d ∷ ds) = d * base ^ length ds + positional base ds

abbrev pub digit_of : ℕ → ℕ
digit_of b = b - 48

-- `a` to `f` are ten to fifteen
abbrev pub hex_digit_of : ℕ → ℕ
hex_digit_of b = cond (nat_le b 57) (b - 48) (b - 87)

-- an integer is worth what its digits write in base 10, negated after a `-`, where that is in the signed range; a float the bits that its digits write in base 16
abbrev pub Numeral : Kind → List ℕ → ℕ → Result ℕ Fault → Type 0
Numeral Integer w start r =
    (All is_digit w → r ≡ sized start (positive (positional 10 (map digit_of w)))) × ((ds : List ℕ) → w ≡ 45 ∷ ds → r ≡ sized start (negated (positional 10 (map digit_of ds))))
Numeral Float w start r = (ds : List ℕ) → w ≡ 48 ∷ 102 ∷ ds → length ds ≡ 8 → All is_hex ds → r ≡ sized start (Some (positional 16 (map hex_digit_of ds)))
Numeral Name w start r = Unit {0}
Numeral Variable w start r = Unit {0}
Numeral Text w start r = Unit {0}
Numeral Open w start r = Unit {0}
Numeral Close w start r = Unit {0}
Numeral Comma w start r = Unit {0}
Numeral Dot w start r = Unit {0}
Numeral Neck w start r = Unit {0}
Numeral Query w start r = Unit {0}
Numeral End w start r = Unit {0}
