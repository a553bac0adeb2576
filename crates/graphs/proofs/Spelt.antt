use Rattle.std.proofs.Common.{◌≡◌, ℕ, zero, suc, ◌+◌, List, [], ◌++◌, get_or, drop, sym, ap, ◌∙◌, add-zero, arith}
use Rattle.std.proofs.lemmas.List.{append_assoc, append-nil}
use Rattle.terms.specs.declared.Cell.{Cell}
use Rattle.graphs.specs.Terms.{Term, Terms, var, con, fun, none, more}
use Rattle.graphs.specs.Cells.{blank}
use Rattle.graphs.specs.Flat.{count, flat, flats}
use Rattle.graphs.specs.Whole.{left, Whole}
use Rattle.graphs.proofs.Wholes.{whole_append}

-- so many terms are read to their end
mutual
  left_flat : (t : Term) (post : List Cell) (need : ℕ) → left (flat t ++ post) (suc need) ≡ left post need
  left_flat (var x) post need = ap (left post) (add-zero need)
  left_flat (con f v) post need = ap (left post) (add-zero need)
  left_flat (fun s ts) post need = left_flats ts post need

  left_flats : (ts : Terms) (post : List Cell) (need : ℕ) → left (flats ts ++ post) (need + count ts) ≡ left post need
  left_flats none post need = ap (left post) (add-zero need)
  left_flats (more t ts) post need =
      let z : need + suc (count ts) ≡ suc (need + count ts) = omega arith in
      ap (λ xs. left xs (need + suc (count ts))) (append_assoc (flat t) (flats ts) post)
      ∙ (ap (left (flat t ++ (flats ts ++ post))) z ∙ (left_flat t (flats ts ++ post) (need + count ts) ∙ left_flats ts post need))

-- terms that are spelt are whole
mutual
  whole_term : (t : Term) → Whole (flat t)
  whole_term (var x) zero h t = absurd (omega arith)
  whole_term (var x) (suc p) h t = absurd (omega arith)
  whole_term (con f v) zero h t = absurd (omega arith)
  whole_term (con f v) (suc p) h t = absurd (omega arith)
  whole_term (fun s ts) zero h t =
      let z : 0 + count ts ≡ count ts = omega arith in
      ap (λ xs. left xs (count ts)) (sym (append-nil (flats ts))) ∙ (ap (left (flats ts ++ [])) (sym z) ∙ left_flats ts [] 0)
  whole_term (fun s ts) (suc p) h t =
      let z : suc p + 1 ≡ suc (p + 1) = omega arith in
      let w = whole_terms ts p (omega arith) t in
      ap (λ n. left (drop n (flat (fun s ts))) (get_or (flats ts) p blank).arity) z ∙ w

  pub whole_terms : (ts : Terms) → Whole (flats ts)
  whole_terms none p h t = absurd (omega arith)
  whole_terms (more u ts) p h t = whole_append (flat u) (flats ts) (whole_term u) (whole_terms ts) p h t
