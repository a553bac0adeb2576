use Rattle.std.specs.Prelude.{ℕ, zero, suc, ◌+◌, ◌-◌, ◌*◌, ◌^◌, min, cond, List, [], ◌∷◌, ◌++◌, length, take, drop, Some, None, Option, ◌==◌, bit_and}
use Rattle.cases.specs.Escapes.{unescaped}
use Rattle.cases.specs.Marks.{mark_in}

-- the number before the colon, at most the largest of 64 bits; n is that of the digits before
abbrev pub times_of : ℕ → List ℕ → ℕ
times_of n [] = n
times_of n (b ∷ bs) = cond (b == 58) n (times_of (min (n * 10 + bit_and b 15) (2 ^ 64 - 1)) bs)

-- what stands after the colon
abbrev pub body_of : List ℕ → List ℕ
body_of [] = []
body_of (b ∷ bs) = cond (b == 58) bs (body_of bs)

-- a text so many times, with the running number
abbrev pub rounds : List ℕ → ℕ → List ℕ
rounds text zero = []
rounds text (suc n) = rounds text n ++ unescaped n text

-- what `N:TEXT` stands for
unfoldable pub repeated : List ℕ → List ℕ
repeated text = rounds (body_of text) (times_of 0 text)

-- one list where there is no place, and another with the place where there is one
abbrev pub at_mark : Option ℕ → List ℕ → (ℕ → List ℕ) → List ℕ
at_mark None none some = none
at_mark (Some p) none some = some p

-- what a case stands for: repeats lie between `\{` and `\}`, and a repeat that is not closed ends the text; there are fewer than k
abbrev pub decoded_in : ℕ → List ℕ → List ℕ
decoded_in zero text = []
decoded_in (suc k) text =
    at_mark (mark_in 123 0 text) (unescaped 0 text)
    (λ start. unescaped 0 (take start text)
    ++ at_mark (mark_in 125 0 (drop (start + 2) text)) []
    (λ end. repeated (take end (drop (start + 2) text)) ++ decoded_in k (drop (end + 2) (drop (start + 2) text))))

-- the text of a case
unfoldable pub decoded : List ℕ → List ℕ
decoded text = decoded_in (suc (length text)) text
