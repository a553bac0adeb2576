use Rattle.std.proofs.Common.{◌≡◌, ℕ, ◌+◌, ◌-◌, ◌*◌, ◌≤◌, min, List, [], length, take, drop, sym, refl, ap, ◌∙◌, inl, inr, arith}
use Rattle.std.proofs.lemmas.List.{take_all, drop_all, length-drop}
use Rattle.std.proofs.lemmas.Bool.{cases_lt}
use Rattle.std.specs.List.{fold}
use Rattle.std.proofs.lemmas.List.Folds.{fold_along}
use Rattle.lexis.specs.Worth.{word_of, decimal}

take_zero : (n : ℕ) (xs : List ℕ) → n ≡ 0 → take n xs ≡ []
take_zero n xs e = ap (λ m. take m xs) e

take_past : (n s : ℕ) (xs : List ℕ) → length xs ≤ s → take n (drop s xs) ≡ []
take_past n s xs h = ap (take n) (drop_all s xs h) ∙ take_all n [] (omega arith)

-- the ends of a word, brought into the text
pub word_within : (text : List ℕ) (start end s e : ℕ) → e ≡ min end (length text) → s ≡ min start e → take (e - s) (drop s text) ≡ word_of text start end
unfolding word_of
word_within text start end s e he hs =
    elim (cases_lt end start) [
      | inl a ↦ take_zero (e - s) (drop s text) (omega arith) ∙ sym (take_zero (end - start) (drop start text) (omega arith))
      | inr a ↦ elim (cases_lt start (length text)) [
        | inl b ↦
            let es : s ≡ start = omega arith in
            ap (λ i. take (e - i) (drop i text)) es
            ∙ elim (cases_lt (length text) end) [
              | inl d ↦
                  let l : length (drop start text) ≡ length text - start = length-drop start text in
                  take_all (e - start) (drop start text) (omega arith) ∙ sym (take_all (end - start) (drop start text) (omega arith))
              | inr d ↦ ap (λ i. take (i - start) (drop start text)) (omega arith)
            ]
        | inr b ↦ take_zero (e - s) (drop s text) (omega arith) ∙ sym (take_past (end - start) start text b)
      ]
    ]

-- held below 2^32 at each digit, a number is as if it were held there at the end
pub decimal_held : (ds : List ℕ) → fold (λ n b. min (min (n * 10) 4294967295 + (b - 48)) 4294967295) 0 ds ≡ min (decimal ds) 4294967295
unfolding decimal
decimal_held ds =
    fold_along (λ n b. min (min (n * 10) 4294967295 + (b - 48)) 4294967295) (λ n b. n * 10 + (b - 48)) (λ n m. n ≡ min m 4294967295)
    (λ n m b h. omega arith) 0 0 ds refl
