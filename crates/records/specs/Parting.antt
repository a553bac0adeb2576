-- A byte string as good records one after the other, and the bytes that are left.
use Rattle.std.specs.Prelude.{◌≡◌, ℕ, ◌+◌, ◌-◌, ◌⊎◌, List, [], ◌∷◌, ◌++◌, map, length, Some, None, slice_index}
use Rattle.records.specs.declared.fault.Cause.{Cause}
use Rattle.records.specs.Format.{sizes, fields_of, record_in}
use Rattle.records.specs.Faults.{fault_in, end_of, records_of, fault_of, told_at}

-- the bytes are one good record, no more and no less
pub record Whole (r : List ℕ) : Type 0 where
  pub size : length r ≡ 1 + sizes (fields_of (slice_index r 0))
  pub good : fault_in r ≡ None

-- good records one after the other, and then none: nothing is left, or it begins with a bad record
pub data Parted : List ℕ → List (List ℕ) → List ℕ → Type 0 where
  ended : {rest : List ℕ} → (rest ≡ []) ⊎ ((c : Cause) × (fault_in rest ≡ Some c)) → Parted rest [] rest
  more : {r : List ℕ} {rs : List (List ℕ)} {bs rest : List ℕ} → Whole r → Parted bs rs rest → Parted (r ++ bs) (r ∷ rs) rest

-- every byte string is so parted, and its records, its end and its first fault are those of the parts
abbrev pub PartingLaw : Type 0
PartingLaw =
    ((bytes : List ℕ) → (rs : List (List ℕ)) × (rest : List ℕ) × Parted bytes rs rest)
    × ((bytes : List ℕ) (rs : List (List ℕ)) (rest : List ℕ) → Parted bytes rs rest
    → (records_of bytes ≡ map record_in rs) × (end_of bytes + length rest ≡ length bytes) × (fault_of bytes ≡ told_at (length bytes - length rest) (fault_in rest)))
