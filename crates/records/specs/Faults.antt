-- What is wrong with a record, and where the good records of a byte string end.
use Rattle.std.specs.Prelude.{ℕ, zero, suc, Bool, true, false, cond, not, List, [], ◌∷◌, length, drop, Some, None, Option, ◌==◌, nat_le, slice_index}
use Rattle.records.specs.declared.fault.Cause.{Cause}
use Rattle.records.specs.declared.fault.Cause.TheVariants.{Short, Map, Cycles}
use Rattle.records.specs.declared.fault.BenchFault.{BenchFault}
use Rattle.records.specs.declared.format.Record.{Record}
use Rattle.records.specs.Format.{map_fits, sizes, fields_of, record_in}

-- cycles of 2^31 or more are too many
abbrev pub too_many : Option ℕ → Bool
too_many None = false
too_many (Some n) = nat_le 2147483648 n

-- what is wrong with the record that the bytes begin with, if they begin with one
abbrev pub fault_in : List ℕ → Option Cause
fault_in bs =
    cond (length bs == 0) None
    (cond (not (map_fits (slice_index bs 0))) (Some Map)
    (cond (nat_le (length bs) (sizes (fields_of (slice_index bs 0)))) (Some Short)
    (cond (too_many (record_in bs).cycles) (Some Cycles) None)))

abbrev pub is_good : Option Cause → Bool
is_good None = true
is_good (Some c) = false

-- how many bytes there are before the first bad record, n bytes of the record before it being still to pass
unfoldable pub end_from : ℕ → List ℕ → ℕ
end_from n [] = 0
end_from (suc n) (b ∷ bs) = suc (end_from n bs)
end_from zero (b ∷ bs) = cond (is_good (fault_in (b ∷ bs))) (suc (end_from (sizes (fields_of b)) bs)) 0

-- the records before the first bad one, n bytes of the record before them being still to pass
unfoldable pub records_from : ℕ → List ℕ → List Record
records_from n [] = []
records_from (suc n) (b ∷ bs) = records_from n bs
records_from zero (b ∷ bs) = cond (is_good (fault_in (b ∷ bs))) (record_in (b ∷ bs) ∷ records_from (sizes (fields_of b)) bs) []

abbrev pub end_of : List ℕ → ℕ
end_of bs = end_from 0 bs

abbrev pub records_of : List ℕ → List Record
records_of bs = records_from 0 bs

abbrev pub told_at : ℕ → Option Cause → Option BenchFault
told_at at None = None
told_at at (Some c) = Some (record { cause = c; at = at })

-- the first fault: that of the record where the good ones end
abbrev pub fault_of : List ℕ → Option BenchFault
fault_of bs = told_at (end_of bs) (fault_in (drop (end_of bs) bs))
