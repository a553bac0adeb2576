-- Where bytes that pass a test end.
use Rattle.std.proofs.Common.{◌≡◌, ℕ, ◌+◌, ◌≤◌, Bool, true, false, cond, ltb, not, List, [], ◌∷◌, length, drop, Some, None, Option, refl, ap, ◌∙◌, arith}
use Rattle.std.specs.List.{prefix_len, position_or_len}
use Rattle.std.specs.Option.{unwrap_or}
use Rattle.std.proofs.lemmas.List.Sums.{prefix_len-le-length}
use Rattle.std.proofs.lemmas.Bool.{cond_both, ltb-false}
use Rattle.lexis.specs.Runs.{end_of}

twice : (b : Bool) → not (not b) ≡ b
twice true = refl
twice false = refl

pass_or_stop : (test : ℕ → Bool) (xs : List ℕ) → position_or_len (λ b. not (test b)) xs ≡ prefix_len test xs
pass_or_stop test [] = refl
pass_or_stop test (x ∷ xs) = ap (λ b. cond b (1 + position_or_len (λ b. not (test b)) xs) 0) (twice (test x)) ∙ ap (λ n. cond (test x) (1 + n) 0) (pass_or_stop test xs)

place_or : (n l : ℕ) → n ≤ l → unwrap_or (cond (ltb n l) (Some n) None) l ≡ n
place_or n l h = cond_both (ltb n l) (Some n) None (λ o. unwrap_or o l ≡ n) (λ _. refl) (λ t. omega (arith, ltb-false n l t))

-- the first byte that fails is where they end, and where none fails they end with the text
pub end_found : (test : ℕ → Bool) (text : List ℕ) (at : ℕ) (r : Option ℕ)
    → r ≡ cond (ltb (position_or_len (λ b. not (test b)) (drop at text)) (length (drop at text))) (Some (position_or_len (λ b. not (test b)) (drop at text))) None
    → at + unwrap_or r (length (drop at text)) ≡ end_of test text at
unfolding end_of
end_found test text at r e =
    let p = position_or_len (λ b. not (test b)) (drop at text) in
    let same : p ≡ prefix_len test (drop at text) = pass_or_stop test (drop at text) in
    ap (λ o. at + unwrap_or o (length (drop at text))) e
    ∙ ap (λ n. at + n) (place_or p (length (drop at text)) (omega (arith, same, prefix_len-le-length test (drop at text))) ∙ same)
