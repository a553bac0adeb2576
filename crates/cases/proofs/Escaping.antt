use Rattle.std.proofs.Common.{◌≡◌, ℕ, zero, suc, ◌+◌, ◌-◌, ◌*◌, ◌<◌, ◌≤◌, min, inl, inr, false, eqb, leb, List, [], ◌∷◌, ◌++◌, length, get_or, drop, decimal, sym, refl, ap, ◌∙◌, append_assoc, append-nil, arith}
use Rattle.std.proofs.lemmas.List.{drop_all, get_or_past}
use Rattle.std.proofs.lemmas.Bool.{ne_eqb, eq-eqb, cases_lt, le-leb, lt-leb, and_right}
use Rattle.cases.specs.Escapes.{hex_of, is_byte, escaped, escape_length, unescaped_after, unescaped}

pub escaped_n : (r : ℕ) (t : List ℕ) → get_or t 1 0 ≡ 110 → escaped r t ≡ 10 ∷ []
unfolding escaped
escaped_n r t e = rw e

pub escaped_t : (r : ℕ) (t : List ℕ) → get_or t 1 0 ≡ 116 → escaped r t ≡ 9 ∷ []
unfolding escaped
escaped_t r t e = rw e

pub escaped_r : (r : ℕ) (t : List ℕ) → get_or t 1 0 ≡ 114 → escaped r t ≡ 13 ∷ []
unfolding escaped
escaped_r r t e = rw e

pub escaped_backslash : (r : ℕ) (t : List ℕ) → get_or t 1 0 ≡ 92 → escaped r t ≡ 92 ∷ []
unfolding escaped
escaped_backslash r t e = rw e

pub escaped_number : (r : ℕ) (t : List ℕ) → get_or t 1 0 ≡ 35 → escaped r t ≡ decimal r
unfolding escaped
escaped_number r t e = rw e

pub escaped_byte : (r : ℕ) (t : List ℕ) → get_or t 1 0 ≡ 120 → 4 ≤ length t → escaped r t ≡ (hex_of (get_or t 2 0) * 16 + hex_of (get_or t 3 0)) ∷ []
unfolding escaped
escaped_byte r t e h = let l = le-leb 4 (length t) h in rw (e, l)

pub escaped_none : (r : ℕ) (t : List ℕ) → (get_or t 1 0 ≡ 110 → ⊥) → (get_or t 1 0 ≡ 116 → ⊥) → (get_or t 1 0 ≡ 114 → ⊥) → (get_or t 1 0 ≡ 92 → ⊥) → (get_or t 1 0 ≡ 35 → ⊥) → is_byte t ≡ false → escaped r t ≡ []
unfolding escaped
escaped_none r t a b c d f g =
    rw (ne_eqb (get_or t 1 0) 110 a, ne_eqb (get_or t 1 0) 116 b, ne_eqb (get_or t 1 0) 114 c, ne_eqb (get_or t 1 0) 92 d, ne_eqb (get_or t 1 0) 35 f, g)

pub length_byte : (t : List ℕ) → get_or t 1 0 ≡ 120 → 4 ≤ length t → escape_length t ≡ 4
unfolding escape_length
length_byte t e h = let l = le-leb 4 (length t) h in rw (e, l)

pub length_other : (t : List ℕ) → is_byte t ≡ false → escape_length t ≡ 2
unfolding escape_length
length_other t e = rw e

pub letter_other : (t : List ℕ) → (get_or t 1 0 ≡ 120 → ⊥) → is_byte t ≡ false
letter_other t e = rw (ne_eqb (get_or t 1 0) 120 e)

pub short_other : (t : List ℕ) → length t < 4 → is_byte t ≡ false
short_other t h = let l = lt-leb 4 (length t) h in and_right (eqb (get_or t 1 0) 120) (leb 4 (length t)) l

pub letter_past : (t : List ℕ) → length t < 2 → get_or t 1 0 ≡ 0
letter_past t h = get_or_past t 1 0 (omega arith)

pub added_none : (v e : List ℕ) → e ≡ [] → v ≡ v ++ e
added_none v e h = rw (h, append-nil)

-- the bytes that belong to the escape before are passed over
after_drop : (r k : ℕ) (t : List ℕ) → unescaped_after r k t ≡ unescaped_after r 0 (drop k t)
after_drop r zero t = refl
after_drop r (suc k) [] = refl
after_drop r (suc k) (b ∷ bs) = after_drop r k bs

pub plain_cons : (r b : ℕ) (bs : List ℕ) → (b ≡ 92 → ⊥) → unescaped r (b ∷ bs) ≡ b ∷ unescaped r bs
unfolding unescaped
plain_cons r b bs h = rw (ne_eqb b 92 h)

escape_cons : (r b : ℕ) (bs : List ℕ) → b ≡ 92 → unescaped r (b ∷ bs) ≡ escaped r (b ∷ bs) ++ unescaped r (drop (escape_length (b ∷ bs) - 1) bs)
unfolding unescaped
escape_cons r b bs h = rw (eq-eqb b 92 h) (ap (λ u. escaped r (b ∷ bs) ++ u) (after_drop r (escape_length (b ∷ bs) - 1) bs))

pub escape_step : (r b n : ℕ) (bs : List ℕ) → b ≡ 92 → 2 ≤ n → n ≡ escape_length (b ∷ bs) → unescaped r (b ∷ bs) ≡ escaped r (b ∷ bs) ++ unescaped r (drop n (b ∷ bs))
escape_step r b n bs e two l =
    let k : n ≡ suc (n - 1) = omega arith in
    escape_cons r b bs e
    ∙ (ap (λ x. escaped r (b ∷ bs) ++ unescaped r (drop (x - 1) bs)) (sym l)
    ∙ ap (λ x. escaped r (b ∷ bs) ++ unescaped r (drop x (b ∷ bs))) (sym k))

-- one step of a loop that adds to a list
pub carried : (v w e u rest all : List ℕ) → w ≡ v ++ e → u ≡ e ++ rest → v ++ u ≡ all → w ++ rest ≡ all
carried v w e u rest all a b h = ap (λ x. x ++ rest) a ∙ (append_assoc v e rest ∙ (ap (λ x. v ++ x) (sym b) ∙ h))

-- no more than all is dropped
pub drop_min : (n : ℕ) (t : List ℕ) → drop (min n (length t)) t ≡ drop n t
drop_min n t =
    elim (cases_lt n (length t)) [
      | inl l ↦ ap (λ k. drop k t) (omega arith)
      | inr g ↦ drop_all (min n (length t)) t (omega arith) ∙ sym (drop_all n t (omega arith))
    ]

pub no_first : (t : List ℕ) → length t ≡ 0 → t ≡ []
no_first [] e = refl
no_first (b ∷ bs) e = absurd (omega arith)
