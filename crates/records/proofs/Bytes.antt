-- Numbers in bytes, and a record's fields by their places.
use Rattle.std.proofs.Common.{◌≡◌, ℕ, ◌+◌, Bool, true, false, cond, List, [], ◌∷◌, get_or, take, drop, Some, None, Option, is_some, IfSome, sym, refl, ap, ◌∙◌}
use Rattle.std.proofs.lemmas.List.{drop-drop}
use Rattle.records.specs.declared.format.Field.{Field}
use Rattle.records.specs.declared.format.Field.TheVariants.{Card, Lot, Stage, Cycles}
use Rattle.records.specs.declared.format.Record.{Record}
use Rattle.records.specs.Format.{little, entries, record_of, record_in, fields_by_place, stands, fields_of}

-- what a test and then a value tell
pub told_then : (o : Option ℕ) (s : Bool) (v : ℕ) → is_some o ≡ s → IfSome o (λ r. r ≡ v) → o ≡ cond s (Some v) None
told_then None true v e h = cc
told_then None false v e h = refl
told_then (Some n) true v e h = ap Some h
told_then (Some n) false v e h = cc

-- the fields of a record with a card, as the other three bits stand
abbrev with_card : Bool → Bool → Bool → List Field
with_card l s c =
    let cs = cond c (Cycles ∷ []) [] in
    let ss = cond s (Stage ∷ cs) cs in
    Card ∷ cond l (Lot ∷ ss) ss

abbrev worth : Bool → ℕ → List ℕ → Option ℕ
worth b n bs = cond b (Some (little (take n bs))) None

abbrev size : Bool → ℕ → ℕ
size b n = cond b n 0

same_record : {a b : ℕ} {l m s t y z : Option ℕ} → a ≡ b → l ≡ m → s ≡ t → y ≡ z → ◌≡◌ {A = Record} (record { card = a; lot = l; stage = s; cycles = y }) (record { card = b; lot = m; stage = t; cycles = z })
same_record p q r u = cc

two : (bs : List ℕ) → drop 2 (drop 1 bs) ≡ drop 3 bs
two bs = drop-drop 2 1 bs

four : (bs : List ℕ) → drop 2 (drop 2 (drop 1 bs)) ≡ drop 5 bs
four bs = ap (drop 2) (two bs) ∙ drop-drop 2 3 bs

six : (bs : List ℕ) → drop 2 (drop 2 (drop 2 (drop 1 bs))) ≡ drop 7 bs
six bs = ap (drop 2) (four bs) ∙ drop-drop 2 5 bs

by_place : (l s c : Bool) (bs : List ℕ) → record_of (entries (with_card l s c) (drop 1 bs)) ≡ record {
  card = little (take 2 (drop 1 bs));
  lot = worth l 2 (drop 3 bs);
  stage = worth s 2 (drop (3 + size l 2) bs);
  cycles = worth c 4 (drop (3 + size l 2 + size s 2) bs);
}
by_place true true true bs = same_record refl (ap (λ t. Some (little (take 2 t))) (two bs)) (ap (λ t. Some (little (take 2 t))) (four bs)) (ap (λ t. Some (little (take 4 t))) (six bs))
by_place true true false bs = same_record refl (ap (λ t. Some (little (take 2 t))) (two bs)) (ap (λ t. Some (little (take 2 t))) (four bs)) (refl)
by_place true false true bs = same_record refl (ap (λ t. Some (little (take 2 t))) (two bs)) (refl) (ap (λ t. Some (little (take 4 t))) (four bs))
by_place true false false bs = same_record refl (ap (λ t. Some (little (take 2 t))) (two bs)) (refl) (refl)
by_place false true true bs = same_record refl (refl) (ap (λ t. Some (little (take 2 t))) (two bs)) (ap (λ t. Some (little (take 4 t))) (four bs))
by_place false true false bs = same_record refl (refl) (ap (λ t. Some (little (take 2 t))) (two bs)) (refl)
by_place false false true bs = same_record refl (refl) (refl) (ap (λ t. Some (little (take 4 t))) (two bs))
by_place false false false bs = refl

-- a record's fields stand after the map, each after those whose bits stand before its own
pub record_by_place : (bs : List ℕ) → stands (get_or bs 0 0) Card ≡ true → fields_by_place bs ≡ record_in bs
unfolding record_in
record_by_place bs h =
    let m = get_or bs 0 0 in
    let l = stands m Lot in
    let s = stands m Stage in
    let c = stands m Cycles in
    let others : List Field = cond l (Lot ∷ cond s (Stage ∷ cond c (Cycles ∷ []) []) (cond c (Cycles ∷ []) [])) (cond s (Stage ∷ cond c (Cycles ∷ []) []) (cond c (Cycles ∷ []) [])) in
    let ef : fields_of m ≡ with_card l s c = ap (λ b. cond b (Card ∷ others) others) h in
    sym (by_place l s c bs) ∙ ap (λ fs. record_of (entries fs (drop 1 bs))) (sym ef)
