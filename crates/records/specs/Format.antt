-- Which fields a record has, and what they say.
use Rattle.std.specs.Prelude.{ℕ, ◌+◌, ◌*◌, Bool, cond, not, ◌&&◌, List, [], ◌∷◌, take, drop, Some, None, filter, Option, ◌==◌, bit_and, slice_index}
use Rattle.records.specs.declared.format.Field.{Field}
use Rattle.records.specs.declared.format.Field.TheVariants.{Card, Lot, Stage, Cycles}
use Rattle.records.specs.declared.format.Record.{Record}

abbrev pub bit_of : Field → ℕ
bit_of Card = 1
bit_of Lot = 2
bit_of Stage = 4
bit_of Cycles = 8

-- how many bytes a field takes
abbrev pub size_of : Field → ℕ
size_of Card = 2
size_of Lot = 2
size_of Stage = 2
size_of Cycles = 4

-- the field's bit stands in the map
abbrev pub stands : ℕ → Field → Bool
stands map f = not (bit_and map (bit_of f) == 0)

-- the fields whose bits stand, the lowest bit's first
abbrev pub fields_of : ℕ → List Field
fields_of map = filter (stands map) (Card ∷ Lot ∷ Stage ∷ Cycles ∷ [])

abbrev pub sizes : List Field → ℕ
sizes [] = 0
sizes (f ∷ fs) = size_of f + sizes fs

-- a record has a card, and none of the bits 4 to 7 stands
abbrev pub map_fits : ℕ → Bool
map_fits map = stands map Card && bit_and map 240 == 0

abbrev pub width_of : ℕ → Field → ℕ
width_of map f = cond (stands map f) (size_of f) 0

-- a number written with its lowest byte first
abbrev pub little : List ℕ → ℕ
little [] = 0
little (b ∷ bs) = b + 256 * little bs

-- one field and its value
pub record Entry : Type 0 where
  pub field : Field
  pub value : ℕ

-- the fields with their values, which stand one after the other in the bytes
abbrev pub entries : List Field → List ℕ → List Entry
entries [] bs = []
entries (f ∷ fs) bs = record { field = f; value = little (take (size_of f) bs) } ∷ entries fs (drop (size_of f) bs)

abbrev pub value_of : Field → List Entry → Option ℕ
value_of f [] = None
value_of f (e ∷ es) = cond (bit_of f == bit_of e.field) (Some e.value) (value_of f es)

abbrev pub or_zero : Option ℕ → ℕ
or_zero (Some n) = n
or_zero None = 0

abbrev pub record_of : List Entry → Record
record_of es = record { card = or_zero (value_of Card es); lot = value_of Lot es; stage = value_of Stage es; cycles = value_of Cycles es }

-- the record that the bytes begin with
unfoldable pub record_in : List ℕ → Record
record_in bs = record_of (entries (fields_of (slice_index bs 0)) (drop 1 bs))

-- the value of one field at a place, if its bit stands
abbrev pub field_in : List ℕ → ℕ → Field → Option ℕ
field_in bs at f = cond (stands (slice_index bs 0) f) (Some (little (take (size_of f) (drop at bs)))) None

-- the fields of a record with a card by their places: each stands after those whose bits stand before its own
abbrev pub fields_by_place : List ℕ → Record
fields_by_place bs =
    record {
      card = little (take 2 (drop 1 bs));
      lot = field_in bs 3 Lot;
      stage = field_in bs (3 + width_of (slice_index bs 0) Lot) Stage;
      cycles = field_in bs (3 + width_of (slice_index bs 0) Lot + width_of (slice_index bs 0) Stage) Cycles;
    }
