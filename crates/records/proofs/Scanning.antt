-- From one record to the next.
use Rattle.std.proofs.Common.{◌≡◌, ℕ, zero, suc, ◌+◌, ◌-◌, ◌<◌, ◌≤◌, Bool, true, false, cond, not, eqb, leb, List, [], ◌∷◌, length, get_or, drop, Some, None, Option, is_some, sym, refl, ap, ◌∙◌, arith}
use Rattle.std.proofs.lemmas.List.{drop-drop, drop_all, length-drop, get_or-drop}
use Rattle.std.proofs.lemmas.Bool.{cond-true, cond-false, ne_eqb, leb-false}
use Rattle.records.specs.declared.fault.Cause.{Cause}
use Rattle.records.specs.declared.fault.Cause.TheVariants.{Short, Map, Cycles}
use Rattle.records.specs.Format.{map_fits, sizes, fields_of, record_in}
use Rattle.records.specs.Faults.{fault_in, is_good, end_from, records_from, end_of, records_of, too_many}

end_pass : (n : ℕ) (bs : List ℕ) → n ≤ length bs → end_from n bs ≡ n + end_from 0 (drop n bs)
unfolding end_from
end_pass zero bs h = omega arith
end_pass (suc n) [] h = omega arith
end_pass (suc n) (b ∷ bs) h = let e = end_pass n bs (omega arith) in omega arith

records_pass : (n : ℕ) (bs : List ℕ) → records_from n bs ≡ records_from 0 (drop n bs)
unfolding records_from
records_pass zero bs = refl
records_pass (suc n) [] = refl
records_pass (suc n) (b ∷ bs) = records_pass n bs

passed : (e m l t : Bool) → e ≡ false → cond e None (cond (not m) (Some Map) (cond l (Some Short) (cond t (Some Cycles) None))) ≡ None → (m ≡ true) × (l ≡ false)
passed true m l t h p = (cc, cc)
passed false true true t h p = (refl, cc)
passed false true false t h p = (refl, refl)
passed false false l t h p = (cc, cc)

-- a good record has a map that fits, and all its bytes
pub good_map : (bs : List ℕ) → 0 < length bs → fault_in bs ≡ None → map_fits (get_or bs 0 0) ≡ true
good_map bs h e = (passed (eqb (length bs) 0) (map_fits (get_or bs 0 0)) (leb (length bs) (sizes (fields_of (get_or bs 0 0)))) (too_many (record_in bs).cycles) (ne_eqb (length bs) 0 (λ p. omega arith)) e).0

pub good_whole : (bs : List ℕ) → 0 < length bs → fault_in bs ≡ None → sizes (fields_of (get_or bs 0 0)) < length bs
good_whole bs h e =
    leb-false (length bs) (sizes (fields_of (get_or bs 0 0)))
    (passed (eqb (length bs) 0) (map_fits (get_or bs 0 0)) (leb (length bs) (sizes (fields_of (get_or bs 0 0)))) (too_many (record_in bs).cycles) (ne_eqb (length bs) 0 (λ p. omega arith)) e).1

pub end_good : (bs : List ℕ) (n : ℕ) → n ≡ sizes (fields_of (get_or bs 0 0)) → 0 < length bs → fault_in bs ≡ None → end_from 0 bs ≡ 1 + n + end_from 0 (drop (1 + n) bs)
unfolding end_from
end_good [] n k h e = absurd (omega arith)
end_good (b ∷ bs) n k h e =
    let w = good_whole (b ∷ bs) h e in
    let p : end_from n bs ≡ n + end_from 0 (drop n bs) = end_pass n bs (omega arith) in
    let d : end_from 0 (drop n bs) ≡ end_from 0 (drop (1 + n) (b ∷ bs)) = ap (end_from 0) (drop-drop n 1 (b ∷ bs)) in
    let f : end_from 0 (b ∷ bs) ≡ suc (end_from n bs) = cond-true (is_good (fault_in (b ∷ bs))) _ _ (ap is_good e) ∙ ap (λ m. suc (end_from m bs)) (sym k) in
    plain (end_from 0 (b ∷ bs)) (end_from n bs) (end_from 0 (drop n bs)) (end_from 0 (drop (1 + n) (b ∷ bs))) n f p d
  where
    plain : (a b c d n : ℕ) → a ≡ suc b → b ≡ n + c → c ≡ d → a ≡ 1 + n + d
    plain a b c d n p q r = omega arith

pub records_good : (bs : List ℕ) (n : ℕ) → n ≡ sizes (fields_of (get_or bs 0 0)) → 0 < length bs → fault_in bs ≡ None → records_from 0 bs ≡ record_in bs ∷ records_from 0 (drop (1 + n) bs)
unfolding records_from
records_good [] n k h e = absurd (omega arith)
records_good (b ∷ bs) n k h e =
    cond-true (is_good (fault_in (b ∷ bs))) _ _ (ap is_good e)
    ∙ ap (λ rs. record_in (b ∷ bs) ∷ rs) (ap (λ m. records_from m bs) (sym k) ∙ (records_pass n bs ∙ ap (records_from 0) (drop-drop n 1 (b ∷ bs))))

pub end_bad : (bs : List ℕ) (c : Cause) → fault_in bs ≡ Some c → end_from 0 bs ≡ 0
unfolding end_from
end_bad [] c e = refl
end_bad (b ∷ bs) c e = cond-false (is_good (fault_in (b ∷ bs))) _ _ (ap is_good e)

pub records_bad : (bs : List ℕ) (c : Cause) → fault_in bs ≡ Some c → records_from 0 bs ≡ []
unfolding records_from
records_bad [] c e = refl
records_bad (b ∷ bs) c e = cond-false (is_good (fault_in (b ∷ bs))) _ _ (ap is_good e)

pub end_none : (bs : List ℕ) (at : ℕ) → length bs ≤ at → end_of (drop at bs) ≡ 0
unfolding end_from
end_none bs at h = ap (end_from 0) (drop_all at bs h)

pub records_none : (bs : List ℕ) (at : ℕ) → length bs ≤ at → records_of (drop at bs) ≡ []
unfolding records_from
records_none bs at h = ap (records_from 0) (drop_all at bs h)

-- the good record at a place: where it ends
pub end_more : (bs : List ℕ) (at n : ℕ) → n ≡ sizes (fields_of (get_or bs at 0)) → at < length bs → fault_in (drop at bs) ≡ None
    → (at + end_of (drop at bs) ≡ at + (1 + n) + end_of (drop (at + (1 + n)) bs)) × (at + (1 + n) ≤ length bs)
end_more bs at n k h e =
    let l = length-drop at bs in
    let g : get_or (drop at bs) 0 0 ≡ get_or bs at 0 = get_or-drop at bs 0 0 ∙ ap (λ i. get_or bs i 0) (omega arith) in
    let k₂ : n ≡ sizes (fields_of (get_or (drop at bs) 0 0)) = k ∙ ap (λ b. sizes (fields_of b)) (sym g) in
    let p : end_of (drop at bs) ≡ 1 + n + end_of (drop (1 + n) (drop at bs)) = end_good (drop at bs) n k₂ (omega arith) e in
    let d : end_of (drop (1 + n) (drop at bs)) ≡ end_of (drop (at + (1 + n)) bs) = ap end_of (drop-drop (1 + n) at bs) in
    let w : sizes (fields_of (get_or (drop at bs) 0 0)) < length (drop at bs) = good_whole (drop at bs) (omega arith) e in
    plain at n _ _ _ _ (length (drop at bs)) (length bs) p d k₂ w l h
  where
    plain : (at n a b c s m k : ℕ) → a ≡ 1 + n + b → b ≡ c → n ≡ s → s < m → m ≡ k - at → at < k → (at + a ≡ at + (1 + n) + c) × (at + (1 + n) ≤ k)
    plain at n a b c s m k p q r w l h = (omega arith, omega arith)

-- the bad record at a place: there the good ones end
end_told : (bs : List ℕ) (o : Option Cause) → fault_in bs ≡ o → is_some o ≡ true → end_of bs ≡ 0
end_told bs (Some c) e h = end_bad bs c e
end_told bs None e h = cc

pub end_here : (bs : List ℕ) (at : ℕ) (o : Option Cause) → o ≡ fault_in (drop at bs) → is_some o ≡ true → end_of (drop at bs) ≡ 0
end_here bs at o e h = end_told (drop at bs) o (sym e) h

pub none_told : (o : Option Cause) → is_some o ≡ false → o ≡ None
none_told None h = refl
none_told (Some c) h = cc

-- before the end of the good records there is a good one
good_first : (b : ℕ) (bs : List ℕ) (o : Option Cause) → 0 < cond (is_good o) (suc (end_from (sizes (fields_of b)) bs)) 0 → o ≡ None
good_first b bs None h = refl
good_first b bs (Some c) h = absurd (omega arith)

pub end_some : (bs : List ℕ) → 0 < end_of bs → (0 < length bs) × (fault_in bs ≡ None)
unfolding end_from
end_some [] h = absurd (omega arith)
end_some (b ∷ bs) h = (omega arith, good_first b bs (fault_in (b ∷ bs)) h)

none_first : (b : ℕ) (bs : List ℕ) (o : Option Cause) → cond (is_good o) (suc (end_from (sizes (fields_of b)) bs)) 0 ≡ 0
    → cond (is_good o) (record_in (b ∷ bs) ∷ records_from (sizes (fields_of b)) bs) [] ≡ []
none_first b bs None h = absurd (omega arith)
none_first b bs (Some c) h = refl

pub records_end : (bs : List ℕ) → end_of bs ≡ 0 → records_of bs ≡ []
unfolding end_from records_from
records_end [] h = refl
records_end (b ∷ bs) h = none_first b bs (fault_in (b ∷ bs)) h

pub records_more : (bs : List ℕ) (at n : ℕ) → n ≡ sizes (fields_of (get_or bs at 0)) → at < length bs → fault_in (drop at bs) ≡ None
    → records_of (drop at bs) ≡ record_in (drop at bs) ∷ records_of (drop (at + (1 + n)) bs)
records_more bs at n k h e =
    let l = length-drop at bs in
    let g : get_or (drop at bs) 0 0 ≡ get_or bs at 0 = get_or-drop at bs 0 0 ∙ ap (λ i. get_or bs i 0) (omega arith) in
    let k₂ : n ≡ sizes (fields_of (get_or (drop at bs) 0 0)) = k ∙ ap (λ b. sizes (fields_of b)) (sym g) in
    records_good (drop at bs) n k₂ (omega arith) e ∙ ap (λ t. record_in (drop at bs) ∷ records_of t) (drop-drop (1 + n) at bs)
