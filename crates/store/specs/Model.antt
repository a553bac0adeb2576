-- A store's model: the standing equations, each by its cells, and the open marks, each a count of equations.
use Rattle.std.specs.Prelude.{ℕ, ◌-◌, List, [], ◌∷◌, ◌++◌, length, take, vec_items, slice_index}
use Rattle.terms.specs.declared.Cell.{Cell}
use Rattle.store.specs.declared.table.Table.{Table}
use Rattle.store.specs.Entries.{cut_at}

pub record Model : Type 0 where
  pub entries : List (List Cell)
  pub marks : List ℕ

abbrev pub entries_of : Table → List (List Cell)
entries_of t = cut_at (vec_items t.places) (vec_items t.cells)

abbrev pub marks_of : Table → List ℕ
marks_of t = vec_items t.marks

abbrev pub model_of : Table → Model
model_of t = record { entries = entries_of t; marks = marks_of t }

-- what a store is when it is opened
abbrev pub opened : Model
opened = record { entries = []; marks = [] }

abbrev pub but_last : List ℕ → List ℕ
but_last ms = take (length ms - 1) ms

abbrev pub newest : List ℕ → ℕ
newest ms = slice_index ms (length ms - 1)

-- what each accepted call makes of the model
abbrev pub with_entry : Model → List Cell → Model
with_entry m cells = record { entries = m.entries ++ (cells ∷ []); marks = m.marks }

abbrev pub with_mark : Model → Model
with_mark m = record { entries = m.entries; marks = m.marks ++ (length m.entries ∷ []) }

abbrev pub without_mark : Model → Model
without_mark m = record { entries = m.entries; marks = but_last m.marks }

abbrev pub cut_back : Model → Model
cut_back m = record { entries = take (newest m.marks) m.entries; marks = but_last m.marks }
