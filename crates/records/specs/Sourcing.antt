-- Kept facts as clauses.
use Rattle.std.specs.Prelude.{◌≡◌, ℕ, ◌<◌, ◌≤◌, Bool, true, false, cond, List, [], ◌∷◌, ◌++◌, map, length, take, Some, None, vec_items, All, filter, Option, ◌==◌, nat_lt, slice_get, slice_index_or, MatchOption, refl}
use Rattle.std.proofs.Common.{ap, ◌∙◌, sym, subst, inl, inr, arith}
use Rattle.std.proofs.lemmas.Option.{slice_get_cases}
use Rattle.std.specs.List.{flat_map}
use Rattle.std.specs.Option.{option_map}
use Rattle.std.proofs.lemmas.List.{length-map, get_or-map}
use Rattle.std.proofs.lemmas.List.Elements.{filter-append, All-nil, All-cons, All-get_or}
use Rattle.std.proofs.lemmas.Bool.{and_parts, eqb-true, eqb-false, ne_eqb, cond-true, cond-false}
use Rattle.terms.specs.declared.Cell.{Cell}
use Rattle.terms.specs.Shape.{goals}
use Rattle.clauses.specs.Clauses.{OfPredicate, Low, Slim}
use Rattle.records.specs.declared.gather.Listing.{Listing}
use Rattle.records.specs.declared.Records.{Records}
use Rattle.records.specs.declared.format.Record.{Record}
use Rattle.records.specs.declared.fact.Fact.{Fact}
use Rattle.records.specs.declared.fact.Symbols.{Symbols}
use Rattle.records.specs.declared.fact.Value.{Value}
use Rattle.records.specs.declared.fact.Value.TheVariants.{Atom, Integer}
use Rattle.records.specs.Faults.{records_of}
use Rattle.records.specs.Facts.{cut, is_for, listed, record_facts, facts_of, facts_under, fact_of, cells_of, value_cell}
use Rattle.records.specs.Fit.{fits, AllFit, value_fits}
use Rattle.records.specs.Meaning.{list_of, record_clauses, Keeps}

fact₀ : Fact
fact₀ = record { symbol = 0; card = 0; value = Atom 0 }

pub clauses_count : (r : Records) (p n : ℕ) → length (record_clauses r p n) ≡ length (list_of r p n)
unfolding record_clauses
clauses_count r p n = length-map (list_of r p n) cells_of

pub clause_is : (r : Records) (p n k : ℕ) (d : Fact) → k < length (list_of r p n) → slice_index_or (record_clauses r p n) k [] ≡ cells_of (slice_index_or (list_of r p n) k d)
unfolding record_clauses
clause_is r p n k d h = get_or-map cells_of (list_of r p n) k d [] h

-- the fact with a number among those of a predicate, if there is one
pub fact_found : (r : Records) (p n k : ℕ) (o : Option Fact) → o ≡ slice_get (list_of r p n) k
    → MatchOption o (length (record_clauses r p n) ≤ k) (λ f. (k < length (record_clauses r p n)) × (slice_index_or (record_clauses r p n) k [] ≡ cells_of f))
fact_found r p n k o e =
    let c = clauses_count r p n in
    elim ((slice_get_cases (list_of r p n) k).1) [
      | inl (f, l, s, g) ↦
          subst (λ (q : Option Fact). MatchOption q (length (record_clauses r p n) ≤ k) (λ f. (k < length (record_clauses r p n)) × (slice_index_or (record_clauses r p n) k [] ≡ cells_of f)))
          (sym (e ∙ s)) (omega arith, clause_is r p n k f l ∙ ap cells_of g)
      | inr (l, s) ↦
          subst (λ (q : Option Fact). MatchOption q (length (record_clauses r p n) ≤ k) (λ f. (k < length (record_clauses r p n)) × (slice_index_or (record_clauses r p n) k [] ≡ cells_of f)))
          (sym (e ∙ s)) (omega arith)
    ]

-- a predicate that is none of the three has no fact
no_fact : (p y c : ℕ) (o : Option Value) → (p == y) ≡ false → filter (is_for p) (listed (fact_of y c o)) ≡ []
no_fact p y c None e = refl
no_fact p y c (Some v) e = cond-false (y == p) _ _ (ne_eqb y p (λ k. eqb-false p y e (sym k)))

none_said : (s : Symbols) (p : ℕ) (r : Record) → (p == s.lot) ≡ false → (p == s.stage) ≡ false → (p == s.cycles) ≡ false → filter (is_for p) (record_facts s r) ≡ []
none_said s p r e₁ e₂ e₃ =
    let a = listed (fact_of s.lot r.card (option_map Atom r.lot)) in
    let b = listed (fact_of s.stage r.card (option_map Atom r.stage)) in
    let c = listed (fact_of s.cycles r.card (option_map Integer r.cycles)) in
    let ka = no_fact p s.lot r.card (option_map Atom r.lot) e₁ in
    let kb = no_fact p s.stage r.card (option_map Atom r.stage) e₂ in
    let kc = no_fact p s.cycles r.card (option_map Integer r.cycles) e₃ in
    filter-append (is_for p) a (b ++ c)
    ∙ (ap (λ t. t ++ filter (is_for p) (b ++ c)) ka ∙ (filter-append (is_for p) b c ∙ (ap (λ t. t ++ filter (is_for p) c) kb ∙ kc)))

none_under : (s : Symbols) (p : ℕ) (rs : List Record) → (p == s.lot) ≡ false → (p == s.stage) ≡ false → (p == s.cycles) ≡ false → filter (is_for p) (flat_map (record_facts s) rs) ≡ []
none_under s p [] e₁ e₂ e₃ = refl
none_under s p (r ∷ rs) e₁ e₂ e₃ =
    filter-append (is_for p) (record_facts s r) (flat_map (record_facts s) rs)
    ∙ (ap (λ t. t ++ filter (is_for p) (flat_map (record_facts s) rs)) (none_said s p r e₁ e₂ e₃) ∙ none_under s p rs e₁ e₂ e₃)

-- the three lists hold every predicate's facts
lists_are : (s : Symbols) (bytes : List ℕ) (a b c : List Fact) → a ≡ cut (filter (is_for s.lot) (facts_of s bytes)) → b ≡ cut (filter (is_for s.stage) (facts_of s bytes))
    → c ≡ cut (filter (is_for s.cycles) (facts_of s bytes)) → (p n : ℕ)
    → cond (n == 2) (cond (p == s.lot) a (cond (p == s.stage) b (cond (p == s.cycles) c []))) [] ≡ cut (facts_under s bytes p n)
unfolding cut
lists_are s bytes a b c ea eb ec p n = two (n == 2)
  where
    same : (y : ℕ) (xs : List Fact) → (p == y) ≡ true → xs ≡ take 65535 (filter (is_for y) (facts_of s bytes)) → xs ≡ take 65535 (filter (is_for p) (facts_of s bytes))
    same y xs e k = k ∙ ap (λ (q : ℕ). take 65535 (filter (is_for q) (facts_of s bytes))) (sym (eqb-true p y e))

    third : (t : Bool) → (p == s.cycles) ≡ t → (p == s.lot) ≡ false → (p == s.stage) ≡ false → cond t c [] ≡ take 65535 (filter (is_for p) (facts_of s bytes))
    third true e f g = same s.cycles c e ec
    third false e f g = ap (take 65535) (sym (none_under s p (records_of bytes) f g e))

    second : (t : Bool) → (p == s.stage) ≡ t → (p == s.lot) ≡ false → cond t b (cond (p == s.cycles) c []) ≡ take 65535 (filter (is_for p) (facts_of s bytes))
    second true e f = same s.stage b e eb
    second false e f = third (p == s.cycles) refl f e

    first : (t : Bool) → (p == s.lot) ≡ t → cond t a (cond (p == s.stage) b (cond (p == s.cycles) c [])) ≡ take 65535 (filter (is_for p) (facts_of s bytes))
    first true e = same s.lot a e ea
    first false e = second (p == s.stage) refl e

    two : (t : Bool) → cond t (cond (p == s.lot) a (cond (p == s.stage) b (cond (p == s.cycles) c []))) [] ≡ take 65535 (cond t (filter (is_for p) (facts_of s bytes)) [])
    two true = first (p == s.lot) refl
    two false = refl

pub clauses_are : (s : Symbols) (bytes : List ℕ) (r : Records) → Keeps s bytes r → (p n : ℕ) → record_clauses r p n ≡ map cells_of (cut (facts_under s bytes p n))
unfolding record_clauses
clauses_are s bytes r h p n =
    let a = vec_items r.lots.facts in
    let b = vec_items r.stages.facts in
    let c = vec_items r.cycles.facts in
    let e : list_of r p n ≡ cond (n == 2) (cond (p == s.lot) a (cond (p == s.stage) b (cond (p == s.cycles) c []))) [] =
    ap (λ (y : ℕ). cond (n == 2) (cond (p == y) a (cond (p == r.stages.symbol) b (cond (p == r.cycles.symbol) c []))) []) h.lots.under
    ∙ (ap (λ (y : ℕ). cond (n == 2) (cond (p == s.lot) a (cond (p == y) b (cond (p == r.cycles.symbol) c []))) []) h.stages.under
    ∙ ap (λ (y : ℕ). cond (n == 2) (cond (p == s.lot) a (cond (p == s.stage) b (cond (p == y) c []))) []) h.cycles.under) in
    ap (map cells_of) (e ∙ lists_are s bytes a b c h.lots.facts h.stages.facts h.cycles.facts p n)

-- what is kept of a predicate
abbrev Kept : ℕ → List Fact → Type 0
Kept p fs = (length fs ≤ 65535) × AllFit p fs

-- the facts of a list, if it is the predicate's, or else the others
kept_or : (p : ℕ) (l : Listing) (fs : List Fact) → AllFit l.symbol (vec_items l.facts) → Kept p fs → Kept p (cond (p == l.symbol) (vec_items l.facts) fs)
kept_or p l fs h k = step (p == l.symbol) refl
  where
    step : (t : Bool) → (p == l.symbol) ≡ t → Kept p (cond t (vec_items l.facts) fs)
    step true e = let n = l.facts.ok.0 in let f = l.few in (omega arith, subst (λ (q : ℕ). AllFit q (vec_items l.facts)) (sym (eqb-true p l.symbol e)) h)
    step false e = k

kept_list : (r : Records) (p n : ℕ) → Kept p (list_of r p n) × (0 < length (list_of r p n) → n ≡ 2)
kept_list r p n = two (n == 2) _ refl (kept_or p r.lots _ r.fit.0 (kept_or p r.stages _ r.fit.1 (kept_or p r.cycles [] r.fit.2 (omega arith, All-nil (λ f. fits p f ≡ true)))))
  where
    two : (t : Bool) (fs : List Fact) → (n == 2) ≡ t → Kept p fs → Kept p (cond t fs []) × (0 < length (cond t fs []) → n ≡ 2)
    two true fs e k = (k, λ h. eqb-true n 2 e)
    two false fs e k = ((omega arith, All-nil (λ f. fits p f ≡ true)), λ h. omega arith)

pub records_short : (r : Records) (p n : ℕ) → length (record_clauses r p n) ≤ 65535
records_short r p n = let c = clauses_count r p n in let k = (kept_list r p n).0.0 in omega arith

abbrev head_cell : ℕ → Cell
head_cell n = record { tag = 2; form = 0; arity = 2; value = n }

abbrev card_cell : ℕ → Cell
card_cell n = record { tag = 1; form = 2; arity = 0; value = n }

spelled : (s c : ℕ) (v : Value) → nat_lt s 65536 ≡ true → nat_lt c 65536 ≡ true → value_fits v ≡ true → goals 0 0 (head_cell s ∷ card_cell c ∷ value_cell v ∷ []) ≡ Some 1
spelled s c (Atom n) hs hc hv = cond-true (nat_lt s 65536) _ _ hs ∙ (cond-true (nat_lt c 65536) _ _ hc ∙ cond-true (nat_lt n 65536) _ _ hv)
spelled s c (Integer n) hs hc hv = cond-true (nat_lt s 65536) _ _ hs ∙ cond-true (nat_lt c 65536) _ _ hc

three : (P : Cell → Type 0) (x y z : Cell) → P x → P y → P z → All P (x ∷ y ∷ z ∷ [])
three P x y z a b c = All-cons P x (y ∷ z ∷ []) a (All-cons P y (z ∷ []) b (All-cons P z [] c (All-nil P)))

-- a fact that fits is a clause of its predicate with no body
formed_cells : (p : ℕ) (s c : ℕ) (v : Value) → s ≡ p → nat_lt s 65536 ≡ true → nat_lt c 65536 ≡ true → value_fits v ≡ true → OfPredicate p 2 (head_cell s ∷ card_cell c ∷ value_cell v ∷ [])
formed_cells p s c (Atom n) e hs hc hv =
    record {
      formed = record {
        some = omega arith;
        few = omega arith;
        low = three Low (head_cell s) (card_cell c) (value_cell (Atom n)) (λ k. omega arith) (λ k. omega arith) (λ k. omega arith);
        slim = three Slim (head_cell s) (card_cell c) (value_cell (Atom n)) (omega arith) (omega arith) (omega arith);
      };
      body = 0;
      goal_list = spelled s c (Atom n) hs hc hv;
      eight = omega arith;
      head = (e, refl);
      in_order = ((λ k. omega arith), ((λ k. omega arith), ((λ k. omega arith), tt)));
    }
formed_cells p s c (Integer n) e hs hc hv =
    record {
      formed = record {
        some = omega arith;
        few = omega arith;
        low = three Low (head_cell s) (card_cell c) (value_cell (Integer n)) (λ k. omega arith) (λ k. omega arith) (λ k. omega arith);
        slim = three Slim (head_cell s) (card_cell c) (value_cell (Integer n)) (omega arith) (omega arith) (omega arith);
      };
      body = 0;
      goal_list = spelled s c (Integer n) hs hc hv;
      eight = omega arith;
      head = (e, refl);
      in_order = ((λ k. omega arith), ((λ k. omega arith), ((λ k. omega arith), tt)));
    }

formed_fact : (p : ℕ) (f : Fact) → fits p f ≡ true → OfPredicate p 2 (cells_of f)
formed_fact p f h =
    let a = and_parts (f.symbol == p) _ h in
    let b = and_parts (nat_lt f.symbol 65536) _ a.1 in
    let c = and_parts (nat_lt f.card 65536) _ b.1 in
    formed_cells p f.symbol f.card f.value (eqb-true f.symbol p a.0) b.0 c.0 c.1

pub records_formed : (r : Records) (p n k : ℕ) → k < length (record_clauses r p n) → OfPredicate p n (slice_index_or (record_clauses r p n) k [])
records_formed r p n k h =
    let c = clauses_count r p n in
    let l : k < length (list_of r p n) = omega arith in
    let w = kept_list r p n in
    subst (λ (m : ℕ). OfPredicate p m (slice_index_or (record_clauses r p n) k [])) (sym (w.1 (omega arith)))
    (subst (OfPredicate p 2) (sym (clause_is r p n k fact₀ l)) (formed_fact p (slice_index_or (list_of r p n) k fact₀) (All-get_or (λ f. fits p f ≡ true) (list_of r p n) k fact₀ l w.0.1)))
