-- Lists of facts, one more at a time.
use Rattle.std.proofs.Common.{◌≡◌, ℕ, ◌+◌, ◌<◌, ◌≤◌, ◌≢◌, Bool, List, [], ◌∷◌, ◌++◌, length, get_or, take, drop, vec_items, Some, None, filter, Option, sym, refl, ap, ◌∙◌, inl, inr, append_assoc, arith}
use Rattle.std.specs.List.{flat_map}
use Rattle.std.specs.Option.{option_map}
use Rattle.std.proofs.lemmas.List.{take_all, take-append-le, take-take, take_at, length-take, append-nil, length_push}
use Rattle.std.proofs.lemmas.List.Elements.{filter-append}
use Rattle.std.proofs.lemmas.Bool.{cond-true, cond-false, cases_lt, eq-eqb, ne_eqb}
use Rattle.records.specs.declared.fact.Fact.{Fact}
use Rattle.records.specs.declared.fact.Symbols.{Symbols}
use Rattle.records.specs.declared.fact.Value.TheVariants.{Atom, Integer}
use Rattle.records.specs.declared.format.Record.{Record}
use Rattle.records.specs.declared.gather.Listing.{Listing}
use Rattle.records.specs.Format.{sizes, fields_of, record_in}
use Rattle.records.specs.Faults.{fault_in, end_of, records_of}
use Rattle.records.specs.Meaning.{Gathers}
use Rattle.records.proofs.Scanning.{records_more, records_end}
use Rattle.records.specs.Facts.{cut, facts_of, is_for, listed, record_facts, fact_of, with_fact}

pub cut_few : (fs : List Fact) → length fs ≤ 65535 → cut fs ≡ fs
unfolding cut
cut_few fs h = take_all 65535 fs h

pub length_cut : (fs : List Fact) → length (cut fs) ≤ 65535
unfolding cut
length_cut fs = let e = length-take 65535 fs in omega arith

pub cut_cut : (xs ys : List Fact) → cut (cut xs ++ ys) ≡ cut (xs ++ ys)
unfolding cut
cut_cut xs ys =
    elim (cases_lt (length xs) 65535) [
      | inl l ↦ ap (λ (t : List Fact). take 65535 (t ++ ys)) (take_all 65535 xs (omega arith))
      | inr g ↦
          let e = length-take 65535 xs in
          take-append-le 65535 (take 65535 xs) ys (omega arith) ∙ (take-take 65535 65535 xs (omega arith) ∙ sym (take-append-le 65535 xs ys g))
    ]

-- a list with one fact more: there is none, it is under another symbol, the list is full, or it goes in
pub add_none : (v : List Fact) (s : ℕ) (o : Option Fact) → length v ≤ 65535 → o ≡ None → v ≡ with_fact s o v
unfolding with_fact
add_none v s o h e = rw e (sym (ap cut (append-nil v) ∙ cut_few v h))

pub add_other : (v : List Fact) (s : ℕ) (f : Fact) → length v ≤ 65535 → f.symbol ≢ s → v ≡ with_fact s (Some f) v
unfolding with_fact
add_other v s f h k = sym (ap (λ (t : List Fact). cut (v ++ t)) (cond-false (is_for s f) (f ∷ []) [] (ne_eqb f.symbol s k)) ∙ (ap cut (append-nil v) ∙ cut_few v h))

pub add_full : (v : List Fact) (s : ℕ) (o : Option Fact) → length v ≤ 65535 → 65535 ≤ length v → v ≡ with_fact s o v
unfolding with_fact cut
add_full v s o h k = sym (take_at v (filter (is_for s) (listed o)) 65535 (omega arith))

pub add_in : (v w : List Fact) (s : ℕ) (f : Fact) → f.symbol ≡ s → length v < 65535 → w ≡ v ++ f ∷ [] → w ≡ with_fact s (Some f) v
unfolding with_fact
add_in v w s f e k p =
    let n = length_push v f in
    let c : filter (is_for s) (f ∷ []) ≡ f ∷ [] = cond-true (is_for s f) (f ∷ []) [] (eq-eqb f.symbol s e) in
    p ∙ (sym (cut_few (v ++ f ∷ []) (omega arith)) ∙ ap (λ (t : List Fact). cut (v ++ t)) (sym c))

-- three times
add_three : (v w x y a b c : List Fact) (p : Fact → Bool) → w ≡ cut (v ++ filter p a) → x ≡ cut (w ++ filter p b) → y ≡ cut (x ++ filter p c) → y ≡ cut (v ++ filter p (a ++ (b ++ c)))
add_three v w x y a b c p ew ex ey =
    let k : filter p (a ++ (b ++ c)) ≡ filter p a ++ (filter p b ++ filter p c) = filter-append p a (b ++ c) ∙ ap (λ t. filter p a ++ t) (filter-append p b c) in
    let fx : x ≡ cut ((v ++ filter p a) ++ filter p b) = ex ∙ (ap (λ t. cut (t ++ filter p b)) ew ∙ cut_cut (v ++ filter p a) (filter p b)) in
    ey ∙ (ap (λ t. cut (t ++ filter p c)) fx ∙ (cut_cut ((v ++ filter p a) ++ filter p b) (filter p c)
    ∙ ap cut (append_assoc (v ++ filter p a) (filter p b) (filter p c) ∙ (append_assoc v (filter p a) (filter p b ++ filter p c) ∙ ap (λ t. v ++ t) (sym k)))))

-- one record's facts, and then those of the records that are left
pub gather_more : (s : Symbols) (p : Fact → Bool) (v w : List Fact) (r : Record) (rs all : List Record) (whole : List Fact) → all ≡ r ∷ rs → w ≡ cut (v ++ filter p (record_facts s r))
    → cut (v ++ filter p (flat_map (record_facts s) all)) ≡ whole → cut (w ++ filter p (flat_map (record_facts s) rs)) ≡ whole
gather_more s p v w r rs all whole e k h =
    let rest = filter p (flat_map (record_facts s) rs) in
    ap (λ t. cut (t ++ rest)) k
    ∙ (cut_cut (v ++ filter p (record_facts s r)) rest
    ∙ (ap cut (append_assoc v (filter p (record_facts s r)) rest ∙ ap (λ t. v ++ t) (sym (filter-append p (record_facts s r) (flat_map (record_facts s) rs))))
    ∙ (ap (λ rs. cut (v ++ filter p (flat_map (record_facts s) rs))) (sym e) ∙ h)))

pub gather_all : (s : Symbols) (p : Fact → Bool) (v whole : List Fact) (rs : List Record) → length v ≤ 65535 → rs ≡ [] → cut (v ++ filter p (flat_map (record_facts s) rs)) ≡ whole → v ≡ whole
gather_all s p v whole rs l e h = sym (ap cut (append-nil v) ∙ cut_few v l) ∙ (ap (λ rs. cut (v ++ filter p (flat_map (record_facts s) rs))) (sym e) ∙ h)

-- a record's facts one after the other
pub each_said : (s : Symbols) (r : Record) (x : ℕ) (v : List Fact)
    → with_fact x (fact_of s.cycles r.card (option_map Integer r.cycles)) (with_fact x (fact_of s.stage r.card (option_map Atom r.stage)) (with_fact x (fact_of s.lot r.card (option_map Atom r.lot)) v)) ≡ cut (v ++ filter (is_for x) (record_facts s r))
unfolding with_fact
each_said s r x v =
    add_three v _ _ _ (listed (fact_of s.lot r.card (option_map Atom r.lot))) (listed (fact_of s.stage r.card (option_map Atom r.stage))) (listed (fact_of s.cycles r.card (option_map Integer r.cycles))) (is_for x) refl refl refl

-- a list has the facts under the symbol of the records before a place
pub record GatheredTo (s : Symbols) (bytes : List ℕ) (at symbol : ℕ) (l : Listing) : Type 0 where
  pub under : l.symbol ≡ symbol
  pub facts : cut (vec_items l.facts ++ filter (is_for symbol) (facts_of s (drop at bytes))) ≡ cut (filter (is_for symbol) (facts_of s bytes))

pub gathered_none : (s : Symbols) (bytes : List ℕ) (symbol : ℕ) (l : Listing) → l.symbol ≡ symbol → vec_items l.facts ≡ [] → GatheredTo s bytes 0 symbol l
gathered_none s bytes symbol l e k = record { under = e; facts = ap (λ (t : List Fact). cut (t ++ filter (is_for symbol) (facts_of s bytes))) k }

pub gathered_more : (s : Symbols) (bytes : List ℕ) (at n symbol : ℕ) (l m : Listing) (r : Record) → GatheredTo s bytes at symbol l → n ≡ sizes (fields_of (get_or bytes at 0)) → at < length bytes
    → fault_in (drop at bytes) ≡ None → r ≡ record_in (drop at bytes) → vec_items m.facts ≡ cut (vec_items l.facts ++ filter (is_for l.symbol) (record_facts s r)) → m.symbol ≡ l.symbol
    → GatheredTo s bytes (at + (1 + n)) symbol m
gathered_more s bytes at n symbol l m r g k h good e added same =
    let x : vec_items m.facts ≡ cut (vec_items l.facts ++ filter (is_for symbol) (record_facts s (record_in (drop at bytes)))) =
    added ∙ (ap (λ (y : ℕ). cut (vec_items l.facts ++ filter (is_for y) (record_facts s r))) g.under ∙ ap (λ (t : Record). cut (vec_items l.facts ++ filter (is_for symbol) (record_facts s t))) e) in
    record {
      under = same ∙ g.under;
      facts =
          gather_more s (is_for symbol) (vec_items l.facts) (vec_items m.facts) (record_in (drop at bytes)) (records_of (drop (at + (1 + n)) bytes)) (records_of (drop at bytes)) _
          (records_more bytes at n k h good) x g.facts;
    }

pub gathered_all : (s : Symbols) (bytes : List ℕ) (at symbol : ℕ) (l : Listing) → GatheredTo s bytes at symbol l → end_of (drop at bytes) ≡ 0 → Gathers s bytes symbol l
gathered_all s bytes at symbol l g h =
    let k = l.facts.ok.0 in
    let f = l.few in
    record {
      under = g.under;
      facts = gather_all s (is_for symbol) (vec_items l.facts) _ (records_of (drop at bytes)) (omega arith) (records_end (drop at bytes) h) g.facts;
    }
