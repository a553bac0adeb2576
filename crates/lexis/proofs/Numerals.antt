-- Digit by digit a number comes to what its digits write by their places.
use Rattle.std.proofs.Common.{◌≡◌, ℕ, suc, ◌+◌, ◌-◌, ◌*◌, ◌^◌, min, Bool, true, false, eqb, leb, List, [], ◌∷◌, map, length, get_or, drop, Some, fold, Result, sym, refl, ap, ◌∙◌, subst, inl, inr, mul_assoc, add-mul, arith}
use native.Mathlib.Nat.{pow-succ'}
use Rattle.std.proofs.lemmas.List.{length-map}
use Rattle.std.proofs.lemmas.Bool.{cond-true, cond-false, cond_both, ne_eqb, leb-true, or_cases, and_parts}
use Rattle.lexis.specs.declared.fault.Fault.{Fault}
use Rattle.lexis.specs.declared.token.Token.{Token}
use Rattle.lexis.specs.declared.token.Kind.{Kind}
use Rattle.lexis.specs.declared.token.Kind.TheVariants.{Name, Variable, Integer, Float, Text, Open, Close, Comma, Dot, Neck, Query, End}
use Rattle.lexis.specs.Classes.{class_of, within}
use Rattle.lexis.specs.Runs.{is_digit, is_hex}
use Rattle.lexis.specs.Spelt.{All}
use Rattle.lexis.specs.Spelt.All.{none, more}
use Rattle.lexis.specs.Numbers.{positional, digit_of, hex_digit_of, Numeral}
use Rattle.lexis.specs.Worth.{word_of, decimal, positive, negated, integer_of, hex_of, float_of, sized, value_of, worth_of}

fold_places : (n : ℕ) (ds : List ℕ) → fold (λ m b. m * 10 + (b - 48)) n ds ≡ n * 10 ^ length ds + positional 10 (map digit_of ds)
fold_places n [] = omega arith
fold_places n (d ∷ ds) =
    let p = 10 ^ length ds in
    let q : 10 ^ suc (length ds) ≡ 10 * p = pow-succ' 10 (length ds) in
    let a : n * 10 ^ suc (length ds) ≡ n * (10 * p) = ap (λ x. n * x) q in
    let b : 10 ^ length (map digit_of ds) ≡ p = ap (λ k. 10 ^ k) (length-map ds digit_of) in
    let c : (d - 48) * 10 ^ length (map digit_of ds) ≡ (d - 48) * p = ap (λ x. (d - 48) * x) b in
    omega (arith, fold_places (n * 10 + (d - 48)) ds, add-mul (n * 10) (d - 48) p, mul_assoc n 10 p)

pub decimal_places : (ds : List ℕ) → decimal ds ≡ positional 10 (map digit_of ds)
unfolding decimal
decimal_places ds = omega (arith, fold_places 0 ds)

-- digits do not begin with a `-`
no_minus : (w : List ℕ) → All is_digit w → eqb (get_or w 0 0) 45 ≡ false
unfolding class_of
no_minus w none = refl
no_minus w (more {b = b} e a) =
    ne_eqb b 45 (λ h. let z : false ≡ true = sym (ap is_digit h) ∙ e in let k : ◌≡◌ {A = ℕ} 0 1 = cc z in omega arith)

hex_digit : (b : ℕ) → is_hex b ≡ true → hex_of b ≡ hex_digit_of b
hex_digit b h =
    elim (or_cases (within 48 57 b) (within 97 102 b) h) [
      | inl t ↦
          let p = and_parts (leb 48 b) (leb b 57) t in
          let l = leb-true b 57 p.1 in
          let e : hex_digit_of b ≡ b - 48 = cond-true (leb b 57) (b - 48) (b - 87) p.1 in
          omega arith
      | inr t ↦
          let p = and_parts (leb 97 b) (leb b 102) t in
          let l = leb-true b 102 p.1 in
          cond_both (leb b 57) (b - 48) (b - 87) (λ x. min 15 x ≡ x) (λ f. omega (arith, leb-true b 57 f)) (λ f. omega arith)
    ]

all_head : (p : ℕ → Bool) (b : ℕ) (bs : List ℕ) → All p (b ∷ bs) → p b ≡ true
all_head p b bs (more e a) = e

all_tail : (p : ℕ → Bool) (b : ℕ) (bs : List ℕ) → All p (b ∷ bs) → All p bs
all_tail p b bs (more e a) = a

eight_places : (a b c d e f g h : ℕ) → (a * 4096 + b * 256 + c * 16 + d) * 65536 + (e * 4096 + f * 256 + g * 16 + h) ≡ positional 16 (a ∷ b ∷ c ∷ d ∷ e ∷ f ∷ g ∷ h ∷ [])
eight_places a b c d e f g h = omega arith

-- eight digits after two bytes
float_places : (ds : List ℕ) → length ds ≡ 8 → All is_hex ds → float_of (48 ∷ 102 ∷ ds) ≡ positional 16 (map hex_digit_of ds)
float_places [] n a = absurd (omega arith)
float_places (b0 ∷ []) n a = absurd (omega arith)
float_places (b0 ∷ b1 ∷ []) n a = absurd (omega arith)
float_places (b0 ∷ b1 ∷ b2 ∷ []) n a = absurd (omega arith)
float_places (b0 ∷ b1 ∷ b2 ∷ b3 ∷ []) n a = absurd (omega arith)
float_places (b0 ∷ b1 ∷ b2 ∷ b3 ∷ b4 ∷ []) n a = absurd (omega arith)
float_places (b0 ∷ b1 ∷ b2 ∷ b3 ∷ b4 ∷ b5 ∷ []) n a = absurd (omega arith)
float_places (b0 ∷ b1 ∷ b2 ∷ b3 ∷ b4 ∷ b5 ∷ b6 ∷ []) n a = absurd (omega arith)
float_places (b0 ∷ b1 ∷ b2 ∷ b3 ∷ b4 ∷ b5 ∷ b6 ∷ b7 ∷ []) n a =
    let a0 = a in
    let a1 = all_tail is_hex b0 (b1 ∷ b2 ∷ b3 ∷ b4 ∷ b5 ∷ b6 ∷ b7 ∷ []) a0 in
    let a2 = all_tail is_hex b1 (b2 ∷ b3 ∷ b4 ∷ b5 ∷ b6 ∷ b7 ∷ []) a1 in
    let a3 = all_tail is_hex b2 (b3 ∷ b4 ∷ b5 ∷ b6 ∷ b7 ∷ []) a2 in
    let a4 = all_tail is_hex b3 (b4 ∷ b5 ∷ b6 ∷ b7 ∷ []) a3 in
    let a5 = all_tail is_hex b4 (b5 ∷ b6 ∷ b7 ∷ []) a4 in
    let a6 = all_tail is_hex b5 (b6 ∷ b7 ∷ []) a5 in
    let a7 = all_tail is_hex b6 (b7 ∷ []) a6 in
    eight_places (hex_of b0) (hex_of b1) (hex_of b2) (hex_of b3) (hex_of b4) (hex_of b5) (hex_of b6) (hex_of b7)
    ∙ (ap (λ x. positional 16 (x ∷ hex_of b1 ∷ hex_of b2 ∷ hex_of b3 ∷ hex_of b4 ∷ hex_of b5 ∷ hex_of b6 ∷ hex_of b7 ∷ [])) (hex_digit b0 (all_head is_hex b0 (b1 ∷ b2 ∷ b3 ∷ b4 ∷ b5 ∷ b6 ∷ b7 ∷ []) a0))
    ∙ (ap (λ x. positional 16 (hex_digit_of b0 ∷ x ∷ hex_of b2 ∷ hex_of b3 ∷ hex_of b4 ∷ hex_of b5 ∷ hex_of b6 ∷ hex_of b7 ∷ [])) (hex_digit b1 (all_head is_hex b1 (b2 ∷ b3 ∷ b4 ∷ b5 ∷ b6 ∷ b7 ∷ []) a1))
    ∙ (ap (λ x. positional 16 (hex_digit_of b0 ∷ hex_digit_of b1 ∷ x ∷ hex_of b3 ∷ hex_of b4 ∷ hex_of b5 ∷ hex_of b6 ∷ hex_of b7 ∷ [])) (hex_digit b2 (all_head is_hex b2 (b3 ∷ b4 ∷ b5 ∷ b6 ∷ b7 ∷ []) a2))
    ∙ (ap (λ x. positional 16 (hex_digit_of b0 ∷ hex_digit_of b1 ∷ hex_digit_of b2 ∷ x ∷ hex_of b4 ∷ hex_of b5 ∷ hex_of b6 ∷ hex_of b7 ∷ [])) (hex_digit b3 (all_head is_hex b3 (b4 ∷ b5 ∷ b6 ∷ b7 ∷ []) a3))
    ∙ (ap (λ x. positional 16 (hex_digit_of b0 ∷ hex_digit_of b1 ∷ hex_digit_of b2 ∷ hex_digit_of b3 ∷ x ∷ hex_of b5 ∷ hex_of b6 ∷ hex_of b7 ∷ [])) (hex_digit b4 (all_head is_hex b4 (b5 ∷ b6 ∷ b7 ∷ []) a4))
    ∙ (ap (λ x. positional 16 (hex_digit_of b0 ∷ hex_digit_of b1 ∷ hex_digit_of b2 ∷ hex_digit_of b3 ∷ hex_digit_of b4 ∷ x ∷ hex_of b6 ∷ hex_of b7 ∷ [])) (hex_digit b5 (all_head is_hex b5 (b6 ∷ b7 ∷ []) a5))
    ∙ (ap (λ x. positional 16 (hex_digit_of b0 ∷ hex_digit_of b1 ∷ hex_digit_of b2 ∷ hex_digit_of b3 ∷ hex_digit_of b4 ∷ hex_digit_of b5 ∷ x ∷ hex_of b7 ∷ [])) (hex_digit b6 (all_head is_hex b6 (b7 ∷ []) a6))
    ∙ ap (λ x. positional 16 (hex_digit_of b0 ∷ hex_digit_of b1 ∷ hex_digit_of b2 ∷ hex_digit_of b3 ∷ hex_digit_of b4 ∷ hex_digit_of b5 ∷ hex_digit_of b6 ∷ x ∷ [])) (hex_digit b7 (all_head is_hex b7 ([]) a7)))))))))
float_places (b0 ∷ b1 ∷ b2 ∷ b3 ∷ b4 ∷ b5 ∷ b6 ∷ b7 ∷ b8 ∷ bs) n a = absurd (omega arith)

integer_digits : (w : List ℕ) → All is_digit w → integer_of w ≡ positive (positional 10 (map digit_of w))
integer_digits w a = cond-false (eqb (get_or w 0 0) 45) (negated (decimal (drop 1 w))) (positive (decimal w)) (no_minus w a) ∙ ap positive (decimal_places w)

integer_minus : (w ds : List ℕ) → w ≡ 45 ∷ ds → integer_of w ≡ negated (positional 10 (map digit_of ds))
integer_minus w ds e = ap integer_of e ∙ ap negated (decimal_places ds)

by_kind : (k : Kind) (w : List ℕ) (start : ℕ) → Numeral k w start (sized start (value_of k w))
by_kind Integer w start = (λ a. ap (sized start) (integer_digits w a), λ ds e. ap (sized start) (integer_minus w ds e))
by_kind Float w start = λ ds e n a. ap (λ v. sized start (Some v)) (ap float_of e ∙ float_places ds n a)
by_kind Name w start = tt
by_kind Variable w start = tt
by_kind Text w start = tt
by_kind Open w start = tt
by_kind Close w start = tt
by_kind Comma w start = tt
by_kind Dot w start = tt
by_kind Neck w start = tt
by_kind Query w start = tt
by_kind End w start = tt

pub numeral : (text : List ℕ) (t : Token) (r : Result ℕ Fault) → r ≡ worth_of text t → Numeral t.kind (word_of text t.start t.end) t.start r
numeral text t r e = subst (Numeral t.kind (word_of text t.start t.end) t.start) (sym e) (by_kind t.kind (word_of text t.start t.end) t.start)
