-- What is told of records, of a pair of two such sources, and of a pair of pairs.
use Rattle.std.specs.Prelude.{ℕ, zero, suc, ◌-◌, cond, ◌&&◌, List, [], ◌∷◌, ◌++◌, map, length, codes, decimal, ◌==◌, nat_le, nat_lt, slice_index_or}
use Rattle.terms.specs.declared.Cell.{Cell}
use Rattle.clauses.specs.Clauses.{renamed, spliced}
use Rattle.clauses.specs.Pairs.{joint}
use Rattle.records.specs.declared.fact.Symbols.{Symbols}
use Rattle.records.specs.Facts.{cells_of, facts_under, cut}
use Rattle.records.specs.Faults.{fault_of}
use Rattle.record_cases.specs.Sizes.{sizes}
use Rattle.record_cases.specs.Spelling.{fault_text}

abbrev pub blank : Cell
blank = record { tag = 0; form = 0; arity = 0; value = 0 }

-- a card, a for an atom or i for an integer, and the value
abbrev pub said : Cell → Cell → List ℕ
said card value = codes " " ++ (decimal card.value ++ (codes ":" ++ (cond (value.form == 2) (codes "a") (codes "i") ++ decimal value.value)))

-- three cells with a clause at their start
abbrev pub three : List Cell → List Cell
three clause = spliced (blank ∷ blank ∷ blank ∷ []) 0 (renamed 0 clause)

-- how a list's clause of a number is shown: by its second and third cell; where there is none, or it has more than three, it is refused
unfoldable pub fact_shown : List (List Cell) → ℕ → List ℕ
fact_shown list i =
    cond (nat_lt i (length list) && nat_le (length (slice_index_or list i [])) 3)
    (said (slice_index_or (three (slice_index_or list i [])) 1 blank) (slice_index_or (three (slice_index_or list i [])) 2 blank)) (codes " refused")

-- the first k clauses of a list
abbrev pub first_shown : List (List Cell) → ℕ → List ℕ
first_shown list zero = []
first_shown list (suc k) = first_shown list k ++ fact_shown list k

-- how many there are, and each; of more than 16 the last, and the refusal of one more
unfoldable pub facts_shown : List (List Cell) → List ℕ
facts_shown list =
    codes " | "
    ++ (decimal (length list)
    ++ cond (nat_lt 16 (length list)) (fact_shown list (length list - 1) ++ fact_shown list (length list)) (first_shown list (length list)))

-- the clauses that the records of the bytes give under a predicate
unfoldable pub bench : Symbols → List ℕ → ℕ → ℕ → List (List Cell)
bench symbols bytes p n = map cells_of (cut (facts_under symbols bytes p n))

-- of a pair of two sources the facts under the stage's symbol; and the cells under the lot's of the first, of the pair, and of the pair with a pair of the second with itself
unfoldable pub pairs_shown : Symbols → (own other : ℕ → ℕ → List (List Cell)) → List ℕ
pairs_shown symbols own other =
    facts_shown (joint (own symbols.stage 2) (other symbols.stage 2))
    ++ (codes " | "
    ++ (decimal (sizes (own symbols.lot 2))
    ++ (codes " "
    ++ (decimal (sizes (joint (own symbols.lot 2) (other symbols.lot 2)))
    ++ (codes " " ++ decimal (sizes (joint (joint (own symbols.lot 2) (other symbols.lot 2)) (joint (other symbols.lot 2) (other symbols.lot 2)))))))))

-- the fault, the facts under each of the three symbols, and the pairs
unfoldable pub told : Symbols → List ℕ → List ℕ
told symbols bytes =
    fault_text (fault_of bytes)
    ++ (facts_shown (bench symbols bytes symbols.lot 2)
    ++ (facts_shown (bench symbols bytes symbols.stage 2)
    ++ (facts_shown (bench symbols bytes symbols.cycles 2) ++ pairs_shown symbols (bench symbols bytes) (bench symbols bytes))))
