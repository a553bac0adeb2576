-- What holds of the cells of a draft.
use Rattle.std.specs.Prelude.{◌≡◌, ℕ, ◌<◌}
use Rattle.terms.specs.declared.Cell.{Cell}

-- a variable's number is one of the first n
abbrev pub Under : ℕ → Cell → Type 0
Under n c = c.tag ≡ 0 → c.value < n
