use Rattle.std.specs.Prelude.{ℕ, ◌+◌, cond, List, [], ◌∷◌, Some, None, Option, ◌==◌}

-- the place of the first backslash before a mark, where the text's first byte is at a place; an escape of two bytes is passed over whole
abbrev pub mark_in : ℕ → ℕ → List ℕ → Option ℕ
mark_in mark at [] = None
mark_in mark at (b ∷ []) = None
mark_in mark at (b ∷ c ∷ cs) = cond (b == 92) (cond (c == mark) (Some at) (mark_in mark (at + 2) cs)) (mark_in mark (at + 1) (c ∷ cs))
