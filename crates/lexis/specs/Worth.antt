-- What a token is worth: a number's bits; and which tokens are too large.
use Rattle.std.specs.Prelude.{ℕ, ◌+◌, ◌-◌, ◌*◌, ◌%◌, min, cond, List, length, drop, Some, None, Ok, Err, fold, Option, Result, ◌==◌, nat_le, slice_index, slice_range}
use Rattle.lexis.specs.declared.fault.Fault.{Fault}
use Rattle.lexis.specs.declared.fault.Cause.TheVariants.{Size}
use Rattle.lexis.specs.declared.token.Span.{Span}
use Rattle.lexis.specs.declared.token.Token.{Token}
use Rattle.lexis.specs.declared.token.Kind.{Kind}
use Rattle.lexis.specs.declared.token.Kind.TheVariants.{Name, Variable, Integer, Float, Text, Open, Close, Comma, Dot, Neck, Query, End}

-- the bytes from a place to before another, so far as the text has them
unfoldable pub word_of : List ℕ → ℕ → ℕ → List ℕ
word_of text start end = slice_range text start end

abbrev pub word_at : List ℕ → Span → List ℕ
word_at text s = word_of text s.start s.end

-- the number that digits write in base 10
unfoldable pub decimal : List ℕ → ℕ
decimal digits = fold (λ n b. n * 10 + (b - 48)) 0 digits

-- a number's 32 bits in two's complement, where it is in the signed range
abbrev pub positive : ℕ → Option ℕ
positive n = cond (nat_le n 2147483647) (Some n) None

abbrev pub negated : ℕ → Option ℕ
negated n = cond (nat_le n 2147483648) (Some ((4294967296 - n) % 4294967296)) None

abbrev pub integer_of : List ℕ → Option ℕ
integer_of w = cond (slice_index w 0 == 45) (negated (decimal (drop 1 w))) (positive (decimal w))

-- a digit of base 16
abbrev pub hex_of : ℕ → ℕ
hex_of b = min 15 (cond (nat_le b 57) (b - 48) (b - 87))

abbrev pub hex_at : List ℕ → ℕ → ℕ
hex_at w i = hex_of (slice_index w i) * 4096 + hex_of (slice_index w (i + 1)) * 256 + hex_of (slice_index w (i + 2)) * 16 + hex_of (slice_index w (i + 3))

-- the bits of a float are the eight digits after `0f`
abbrev pub float_of : List ℕ → ℕ
float_of w = hex_at w 2 * 65536 + hex_at w 6

abbrev pub sized : ℕ → Option ℕ → Result ℕ Fault
sized start (Some v) = Ok v
sized start None = Err (record { cause = Size; at = start })

-- a name has at most 31 bytes, and a string as many between its quotes
abbrev pub value_of : Kind → List ℕ → Option ℕ
value_of Name w = cond (nat_le (length w) 31) (Some 0) None
value_of Text w = cond (nat_le (length w) 33) (Some 0) None
value_of Integer w = integer_of w
value_of Float w = Some (float_of w)
value_of Variable w = Some 0
value_of Open w = Some 0
value_of Close w = Some 0
value_of Comma w = Some 0
value_of Dot w = Some 0
value_of Neck w = Some 0
value_of Query w = Some 0
value_of End w = Some 0

abbrev pub worth_of : List ℕ → Token → Result ℕ Fault
worth_of text t = sized t.start (value_of t.kind (word_of text t.start t.end))
