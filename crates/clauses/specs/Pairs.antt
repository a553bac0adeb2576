-- Two lists as one, and where its elements stand.
use Rattle.std.specs.Prelude.{◌≡◌, ℕ, ◌-◌, ◌<◌, ◌≤◌, cond, List, [], ◌++◌, length, take, Some, None, Option, nat_le, nat_lt, slice_index_or}
use Rattle.terms.specs.declared.Cell.{Cell}
use Rattle.clauses.specs.declared.pair.Place.{Place}
use Rattle.clauses.specs.declared.pair.Place.TheVariants.{First, Second}

-- one list after the other, cut after 65,535 elements
unfoldable pub joint : {A : Type 0} → List A → List A → List A
joint xs ys = take 65535 (xs ++ ys)

-- where the element with a number stands, the first list having n elements
abbrev pub place_of : ℕ → ℕ → Option Place
place_of n number = cond (nat_le 65535 number) None (cond (nat_lt number n) (Some (First number)) (Some (Second (number - n))))

-- what a place tells of the two lists as one
abbrev pub Placed : List (List Cell) → List (List Cell) → ℕ → Option Place → Type 0
Placed xs ys number (Some (First k)) = (slice_index_or (joint xs ys) number [] ≡ slice_index_or xs k []) × (k < length xs) × (number < length (joint xs ys))
Placed xs ys number (Some (Second k)) = (slice_index_or (joint xs ys) number [] ≡ slice_index_or ys k []) × (k < length ys → number < length (joint xs ys)) × (number < length (joint xs ys) → k < length ys)
Placed xs ys number None = length (joint xs ys) ≤ number
