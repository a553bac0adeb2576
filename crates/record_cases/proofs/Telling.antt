use Rattle.std.proofs.Common.{◌≡◌, ℕ, List, ◌++◌, map, refl, ap, ◌∙◌, append_assoc, codes, decimal}
use Rattle.terms.specs.declared.Cell.{Cell}
use Rattle.clauses.specs.Pairs.{joint}
use Rattle.records.specs.declared.fact.Symbols.{Symbols}
use Rattle.records.specs.declared.Records.{Records}
use Rattle.records.specs.Facts.{cells_of, facts_under, cut}
use Rattle.records.specs.Faults.{fault_of}
use Rattle.records.specs.Meaning.{record_clauses}
use Rattle.record_cases.specs.Sizes.{sizes}
use Rattle.record_cases.specs.Spelling.{fault_text}
use Rattle.record_cases.specs.Shown.{facts_shown, pairs_shown, bench, told}

pub bench_of : (s : Symbols) (bytes : List ℕ) (r : Records) → ((p n : ℕ) → record_clauses r p n ≡ map cells_of (cut (facts_under s bytes p n))) → (p n : ℕ)
    → record_clauses r p n ≡ bench s bytes p n
unfolding bench
bench_of s bytes r h p n = h p n

pub pairs_of : (s : Symbols) (own other : ℕ → ℕ → List (List Cell)) (v w x : List ℕ) (one two four : ℕ) → w ≡ v ++ facts_shown (joint (own s.stage 2) (other s.stage 2))
    → one ≡ sizes (own s.lot 2) → two ≡ sizes (joint (own s.lot 2) (other s.lot 2))
    → four ≡ sizes (joint (joint (own s.lot 2) (other s.lot 2)) (joint (other s.lot 2) (other s.lot 2)))
    → x ≡ w ++ (codes " | " ++ (decimal one ++ (codes " " ++ (decimal two ++ (codes " " ++ decimal four))))) → x ≡ v ++ pairs_shown s own other
unfolding pairs_shown
pairs_of s own other v w x one two four a b c d e =
    e ∙ (rw (a, b, c, d) (append_assoc v (facts_shown (joint (own s.stage 2) (other s.stage 2))) _))

pairs_same : (s : Symbols) (own own' other : ℕ → ℕ → List (List Cell)) → ((p n : ℕ) → own p n ≡ own' p n) → pairs_shown s own other ≡ pairs_shown s own' other
unfolding pairs_shown
pairs_same s own own' other h = rw (h s.stage 2, h s.lot 2) refl

pub told_of : (s : Symbols) (bytes : List ℕ) (own : ℕ → ℕ → List (List Cell)) (h : (p n : ℕ) → own p n ≡ bench s bytes p n) (t0 t1 t2 t3 t4 : List ℕ) → t0 ≡ fault_text (fault_of bytes)
    → t1 ≡ t0 ++ facts_shown (own s.lot 2) → t2 ≡ t1 ++ facts_shown (own s.stage 2) → t3 ≡ t2 ++ facts_shown (own s.cycles 2)
    → t4 ≡ t3 ++ pairs_shown s own (bench s bytes) → t4 ≡ told s bytes
unfolding told
told_of s bytes own h t0 t1 t2 t3 t4 a b c d e =
    let f = fault_text (fault_of bytes) in
    let l = facts_shown (bench s bytes s.lot 2) in
    let g = facts_shown (bench s bytes s.stage 2) in
    let y = facts_shown (bench s bytes s.cycles 2) in
    let p = pairs_shown s (bench s bytes) (bench s bytes) in
    let b' : t1 ≡ f ++ l = b ∙ (ap (λ x. x ++ facts_shown (own s.lot 2)) a ∙ ap (λ x. f ++ facts_shown x) (h s.lot 2)) in
    let c' : t2 ≡ f ++ l ++ g = c ∙ (ap (λ x. x ++ facts_shown (own s.stage 2)) b' ∙ ap (λ x. f ++ l ++ facts_shown x) (h s.stage 2)) in
    let d' : t3 ≡ f ++ l ++ g ++ y = d ∙ (ap (λ x. x ++ facts_shown (own s.cycles 2)) c' ∙ ap (λ x. f ++ l ++ g ++ facts_shown x) (h s.cycles 2)) in
    let e' : t4 ≡ f ++ l ++ g ++ y ++ p = e ∙ (ap (λ x. x ++ pairs_shown s own (bench s bytes)) d' ∙ ap (λ x. f ++ l ++ g ++ y ++ x) (pairs_same s own (bench s bytes) (bench s bytes) h)) in
    e' ∙ (append_assoc (f ++ l ++ g) y p ∙ (append_assoc (f ++ l) g (y ++ p) ∙ append_assoc f l (g ++ (y ++ p))))
