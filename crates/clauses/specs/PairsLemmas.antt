-- Two lists as one.
use Rattle.std.specs.Prelude.{◌≡◌, ℕ, ◌+◌, ◌-◌, ◌<◌, ◌≤◌, min, Bool, true, false, cond, List, [], ◌++◌, length, get_or, Some, None, Option, nat_le, nat_lt, slice_index_or, refl}
use Rattle.std.proofs.Common.{ap, ◌∙◌, sym, subst, inl, inr, arith}
use Rattle.std.proofs.lemmas.List.{length-take, length-append, get_or-take, get_or_append_left, get_or-append_right}
use Rattle.std.proofs.lemmas.Bool.{cases_lt, leb-true, leb-false, ltb-true, ltb-false}
use Rattle.terms.specs.declared.Cell.{Cell}
use Rattle.clauses.specs.declared.pair.Place.{Place}
use Rattle.clauses.specs.declared.pair.Place.TheVariants.{First, Second}
use Rattle.clauses.specs.Pairs.{joint, place_of, Placed}

pub length_joint : {A : Type 0} (xs ys : List A) → length (joint xs ys) ≡ min 65535 (length xs + length ys)
unfolding joint
length_joint xs ys = length-take 65535 (xs ++ ys) ∙ ap (λ n. min 65535 n) (length-append xs ys)

pub joint_short : {A : Type 0} (xs ys : List A) → length (joint xs ys) ≤ 65535
joint_short xs ys = let l = length_joint xs ys in omega arith

pub joint_left : {A : Type 0} (xs ys : List A) (k : ℕ) (d : A) → k < 65535 → k < length xs → slice_index_or (joint xs ys) k d ≡ slice_index_or xs k d
unfolding joint
joint_left xs ys k d h l = get_or-take 65535 (xs ++ ys) k d h ∙ get_or_append_left xs ys d k l

pub joint_right : {A : Type 0} (xs ys : List A) (k : ℕ) (d : A) → k < 65535 → length xs ≤ k → slice_index_or (joint xs ys) k d ≡ slice_index_or ys (k - length xs) d
unfolding joint
joint_right xs ys k d h l = get_or-take 65535 (xs ++ ys) k d h ∙ get_or-append_right xs ys (length xs) k d refl l

pub joint_each : (P : List Cell → Type 0) (xs ys : List (List Cell)) → ((k : ℕ) → k < length xs → P (slice_index_or xs k [])) → ((k : ℕ) → k < length ys → P (slice_index_or ys k []))
    → (k : ℕ) → k < length (joint xs ys) → P (slice_index_or (joint xs ys) k [])
joint_each P xs ys p q k h =
    let n = length_joint xs ys in
    elim (cases_lt k (length xs)) [
      | inl l ↦ subst P (sym (joint_left xs ys k [] (omega arith) l)) (p k l)
      | inr g ↦ subst P (sym (joint_right xs ys k [] (omega arith) g)) (q (k - length xs) (omega arith))
    ]

pub placed_of : (xs ys : List (List Cell)) (n number : ℕ) (r : Option Place) → n ≡ length xs → r ≡ place_of n number → Placed xs ys number r
placed_of xs ys n number r h e = subst (Placed xs ys number) (sym e) (step (nat_le 65535 number) refl (nat_lt number n) refl)
  where
    step : (a : Bool) → nat_le 65535 number ≡ a → (b : Bool) → nat_lt number n ≡ b → Placed xs ys number (cond a None (cond b (Some (First number)) (Some (Second (number - n)))))
    step true p b q = let l = length_joint xs ys in let g = leb-true 65535 number p in omega arith
    step false p true q =
        let l = length_joint xs ys in
        let g = leb-false 65535 number p in
        let k = ltb-true number n q in
        (joint_left xs ys number [] (omega arith) (omega arith), omega arith, omega arith)
    step false p false q =
        let l = length_joint xs ys in
        let g = leb-false 65535 number p in
        let k = ltb-false number n q in
        (joint_right xs ys number [] (omega arith) (omega arith) ∙ ap (λ m. get_or ys (number - m) []) (sym h), (λ w. omega arith), (λ w. omega arith))
