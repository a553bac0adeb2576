use Rattle.std.proofs.Common.{◌≡◌, ℕ, ◌+◌, ◌-◌, ◌<◌, ◌≤◌, eqb, List, [], ◌∷◌, ◌++◌, length, get_or, take, drop, set, sym, refl, ap, ◌∙◌, append_assoc, arith}
use Rattle.std.proofs.lemmas.List.{map-append, length-map, length-take-le, take_more, drop_more, set_at, take_all, drop-drop, take_rest, drop_all, length-drop, append-nil}
use borrow.Rule.Slice.PartMut.{put_mid}
use Rattle.std.proofs.lemmas.Bool.{cond-true, cond-false, eq-eqb, ne_eqb}
use Rattle.terms.specs.declared.Cell.{Cell}
use Rattle.clauses.specs.Clauses.{raised, renamed, spliced}

pub raised_var : (b : ℕ) (c : Cell) → c.tag ≡ 0 → raised b c ≡ record { tag = c.tag; form = c.form; arity = c.arity; value = c.value + b }
raised_var b c e = cond-true (eqb c.tag 0) _ _ (eq-eqb c.tag 0 e)

pub raised_other : (b : ℕ) (c : Cell) → (c.tag ≡ 0 → ⊥) → raised b c ≡ c
raised_other b c e = cond-false (eqb c.tag 0) _ _ (ne_eqb c.tag 0 e)

pub length_renamed : (b : ℕ) (cs : List Cell) → length (renamed b cs) ≡ length cs
unfolding renamed
length_renamed b cs = length-map cs (raised b)

-- one more cell of the clause in the slice
pub renamed_more : (b i : ℕ) (cs out : List Cell) (d : Cell) → i < length cs → length cs ≤ length out
    → set (renamed b (take i cs) ++ drop i out) i (raised b (get_or cs i d)) ≡ renamed b (take (i + 1) cs) ++ drop (i + 1) out
unfolding renamed
renamed_more b i cs out d h l =
    let k : i < length out = omega arith in
    let n : length (renamed b (take i cs)) ≡ i = length_renamed b (take i cs) ∙ length-take-le i cs (omega arith) in
    let v = raised b (get_or cs i d) in
    let a : set (renamed b (take i cs) ++ drop i out) i v ≡ renamed b (take i cs) ++ v ∷ drop (i + 1) out =
    ap (λ ys. set (renamed b (take i cs) ++ ys) i v) (drop_more out i d k) ∙ set_at (renamed b (take i cs)) (get_or out i d) (drop (i + 1) out) v i n in
    let m : renamed b (take (i + 1) cs) ≡ renamed b (take i cs) ++ v ∷ [] =
    ap (renamed b) (take_more cs i d h) ∙ map-append (raised b) (take i cs) (get_or cs i d ∷ []) in
    a ∙ sym (ap (λ ys. ys ++ drop (i + 1) out) m ∙ append_assoc (renamed b (take i cs)) (v ∷ []) (drop (i + 1) out))

pub renamed_none : (b : ℕ) (cs out : List Cell) → out ≡ renamed b (take 0 cs) ++ drop 0 out
unfolding renamed
renamed_none b cs out = refl

pub renamed_all : (b i : ℕ) (cs out : List Cell) → i ≡ length cs → renamed b (take i cs) ++ drop i out ≡ renamed b cs ++ drop (length cs) out
renamed_all b i cs out e = ap (λ n. renamed b (take n cs) ++ drop n out) e ∙ ap (λ xs. renamed b xs ++ drop (length cs) out) (take_all (length cs) cs (omega arith))

-- the lent tail, written and given back
pub tail_spliced : (at n : ℕ) (xs ys zs : List Cell) → at ≤ length xs → length ys ≡ n
    → zs ≡ ys ++ drop n (take (length xs - at) (drop at xs)) → put_mid at (length xs - at) xs zs ≡ spliced xs at ys
unfolding spliced
tail_spliced at n xs ys zs h l e =
    let none : drop (length xs - at) (drop at xs) ≡ [] = drop_all (length xs - at) (drop at xs) (simp length-drop (omega arith)) in
    let rest : drop n (take (length xs - at) (drop at xs)) ≡ drop (at + length ys) xs =
    ap (drop n) (take_rest xs at) ∙ (drop-drop n at xs ∙ ap (λ k. drop (at + k) xs) (sym l)) in
    ap (λ t. take at xs ++ t)
    (ap (λ t. zs ++ t) none ∙ (append-nil zs ∙ (e ∙ ap (λ t. ys ++ t) rest)))
