use Rattle.std.specs.Prelude.{ℕ, zero, suc, ◌+◌, ◌-◌, ◌*◌, Bool, cond, ◌&&◌, List, [], ◌∷◌, ◌++◌, length, decimal, ◌==◌, nat_le, slice_index}

-- the value of a hexadecimal digit; 0 for any other byte
abbrev pub hex_of : ℕ → ℕ
hex_of b = cond (nat_le 48 b && nat_le b 57) (b - 48) (cond (nat_le 97 b && nat_le b 102) (b - 97 + 10) 0)

-- whether an escape is `\xHH`, with both digits
abbrev pub is_byte : List ℕ → Bool
is_byte text = slice_index text 1 == 120 && nat_le 4 (length text)

-- the byte or bytes that the escape at a text's start stands for
unfoldable pub escaped : ℕ → List ℕ → List ℕ
escaped round text =
    cond (slice_index text 1 == 110) (10 ∷ [])
    (cond (slice_index text 1 == 116) (9 ∷ [])
    (cond (slice_index text 1 == 114) (13 ∷ [])
    (cond (slice_index text 1 == 92) (92 ∷ [])
    (cond (is_byte text) ((hex_of (slice_index text 2) * 16 + hex_of (slice_index text 3)) ∷ [])
    (cond (slice_index text 1 == 35) (decimal round) [])))))

-- how long that escape is
unfoldable pub escape_length : List ℕ → ℕ
escape_length text = cond (is_byte text) 4 2

-- what a text without repeats stands for, after its first bytes, which belong to an escape before
abbrev pub unescaped_after : ℕ → ℕ → List ℕ → List ℕ
unescaped_after round k [] = []
unescaped_after round (suc k) (b ∷ bs) = unescaped_after round k bs
unescaped_after round zero (b ∷ bs) =
    cond (b == 92) (escaped round (b ∷ bs) ++ unescaped_after round (escape_length (b ∷ bs) - 1) bs) (b ∷ unescaped_after round 0 bs)

unfoldable pub unescaped : ℕ → List ℕ → List ℕ
unescaped round text = unescaped_after round 0 text
